-- An event leaves these parts of other threads: the guarded words beyond the running stack, and the slots that are out of use
-- (docs/guide/walks-and-threads.md, "What is proved").
use Rattle.std.specs.Prelude.{◌≡◌, ◌↔◌, ℕ, ◌<◌, List}
use Rattle.run_events.specs.Runs.{Event, Goes, Ends}
use Rattle.eh_bus.specs.Lists.{Has}
use Rattle.eh_bus.specs.Memory.{load_number}
use Rattle.eh_cxa.specs.Lists.{OutOfUse, entry}
use Rattle.eh_cxa.specs.Words.{word}
use Rattle.eh_cxa.specs.declared.layout.TheConstants.{SLOTS, CLOSED_WORDS}
use Rattle.frame_check.specs.Accepts.{Accepted}
use Rattle.thumb_core.specs.declared.ends.End.{End}
use Rattle.sim_machines.specs.Activations.{Recorded, memory_of, lists_of}
use Rattle.sim_machines.specs.ActivationMachine.{recorded_event}
use Rattle.sim_machines.specs.Checked.{program_of}
use Rattle.sim_relation.specs.Stands.{Keeps}

pub record LeavesOthers (s t : Recorded) : Type 0 where
  -- the guarded words beyond the running stack are unchanged
  pub words : (g : ℕ) → Has s.beyond g → load_number 4 t.segments g ≡ load_number 4 s.segments g
  -- the same slots are out of use
  pub unused : (n : ℕ) → (entry (lists_of s) n ≡ OutOfUse) ↔ (entry (lists_of t) n ≡ OutOfUse)
  -- and their headers and control blocks are unchanged
  pub closed :
      (n k : ℕ) → n < SLOTS → k < CLOSED_WORDS → entry (lists_of s) n ≡ OutOfUse
      → word (memory_of t) n k ≡ word (memory_of s) n k

-- whether the event goes on or ends the run
abbrev pub Leaves : Recorded → Event Recorded End → Type 0
Leaves s (Goes t text left) = LeavesOthers s t
Leaves s (Ends end t) = LeavesOthers s t

abbrev pub EventsLeaveOthers : Type 0
EventsLeaveOthers = (x : Accepted) (s : Recorded) (input : List ℕ) → Keeps x s → Leaves s (recorded_event (program_of x) s input)
