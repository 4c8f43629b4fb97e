-- Threads and their schedules (docs/guide/walks-and-threads.md), and audits of an image (docs/guide/audit.md).
use Rattle.std.specs.Prelude.{◌≡◌}
use Rattle.mem_guards.specs.declared.guards.TheConstants as mem_guards-guards
use Rattle.thread_schedule.specs.declared.tags.TheConstants as thread_schedule-tags
use Rattle.frame_audit.specs.declared.code.TheConstants as frame_audit-code

-- the size of a home, and how many threads a tag can tell apart; the constants of schedules and of gate 32 are in `thread_schedule` and
-- `eh_threads`
pub record ThreadNumbers : Type 0 where
  pub home_size : mem_guards-guards.HOME_SIZE ≡ 0x4000
  pub tags : thread_schedule-tags.TAGS ≡ 10

-- the number that the definitions of frame_audit cite
pub record AuditNumbers : Type 0 where
  pub halfword : frame_audit-code.HALFWORD ≡ 2
