use Rattle.thread_schedule.proofs.Tagging.{Tags}
use Rattle.thread_schedule.proofs.tags.tag_lines.Given as goal

abbrev pub invariant-loop-byte : goal.invariant-loop-byte
invariant-loop-byte l = Tags l.tags l.text l.lines.items l.starts l.byte-index l.next
