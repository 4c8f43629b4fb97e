-- The run of GNU code over bytes is the run with recorded activations (docs/rules/gnu-tables.md, "Laws").
use Rattle.std.specs.List.{All}
use Rattle.std.specs.Prelude.{◌≡◌, ◌⊎◌, ℕ, ◌<◌, ◌≤◌, ◌^◌, List, Some}
use Rattle.run_events.specs.Laws.{SameRan}
use Rattle.run_events.specs.Runs.{Event, Goes, Ends, Ran, machine_run}
use Rattle.eh_cxa.specs.Lists.{entry, state_in}
use Rattle.eh_cxa.specs.Words.{block}
use Rattle.eh_cxa.specs.declared.layout.TheConstants.{SLOTS}
use Rattle.eh_cxa.specs.declared.state.State.TheVariants.{Landed}
use Rattle.eh_gates.specs.State.{State}
use Rattle.frame_check.specs.Accepts.{Accepted}
use Rattle.thumb_core.specs.Laws.{AreWords}
use Rattle.thumb_core.specs.declared.ends.End.{End}
use Rattle.thumb_core.specs.declared.regs.Regs.{Regs}
use Rattle.thumb_core.specs.Registers.{reg}
use Rattle.sim_machines.specs.ActivationLaws.{Matches}
use Rattle.sim_machines.specs.ActivationMachine.{recorded_event}
use Rattle.sim_machines.specs.Activations.{Recorded, reg_in, bytes_of, lists_of, recorded_start}
use Rattle.sim_machines.specs.Checked.{program_of}
use Rattle.sim_machines.specs.Start.{start_of}
use Rattle.sim_relation.specs.Stands.{Keeps, IsProgram, OnEvent, StandsFor}
use Rattle.eh_machine.specs.sim_runs.Turned.{AreBytes}
use Rattle.gnu_machine.specs.GnuMachine.{gnu_event, gnu_machine_of, recorded_gnu_event, recorded_gnu_machine}

-- ---- the landing pads that events of the machine with recorded activations enter

pub record Goings (x : Accepted) (s t : Recorded) (input text left : List ℕ) : Type 0 where
  pub program : IsProgram x
  pub keeps : Keeps x s
  pub bytes : AreBytes input
  pub goes : recorded_event (program_of x) s input ≡ Goes t text left

-- at a catch, r0 is the control block of an exception that has landed
pub record HasLanded (t : Recorded) : Type 0 where
  pub slot : ℕ
  pub small : slot < SLOTS
  pub control : reg_in t 0 ≡ block slot
  pub landed : state_in (entry (lists_of t) slot) ≡ Some Landed

abbrev pub CatchesHaveLanded : Type 0
CatchesHaveLanded =
    (x : Accepted) (s t : Recorded) (input text left : List ℕ) → Goings x s t input text left → s.events.catches < t.events.catches → HasLanded t

-- registers that differ in r0 to r3 alone
pub record DiffersLow (old new : Regs) : Type 0 where
  pub pc : new.pc ≡ old.pc
  pub words : AreWords 15 new.r
  pub same : (j : ℕ) → 4 ≤ j → reg new j ≡ reg old j

-- At a landing pad no fact says anything of r0 to r3, so they may change.
abbrev pub PadsAreFree : Type 0
PadsAreFree =
    (x : Accepted) (s t : Recorded) (input text left : List ℕ) → Goings x s t input text left
    → (s.events.catches < t.events.catches) ⊎ (s.events.cleanups < t.events.cleanups) → (new : Regs) → DiffersLow t.regs new → Keeps x (record t { regs = new })

-- ---- one event, and runs

-- filters that are words
abbrev pub AreFilters : List (ℕ × ℕ) → Type 0
AreFilters filters = All (λ (f : ℕ × ℕ). f.1 < 2 ^ 32) filters

-- what an event leaves of an input of bytes are bytes
abbrev pub LeavesBytes : Event Recorded End → Type 0
LeavesBytes (Goes t text left) = AreBytes left
LeavesBytes (Ends end t) = Unit {0}

-- an event is the same in both machines, and the invariants hold after it
pub record GnuTurns (x : Accepted) (filters : List (ℕ × ℕ)) (s : Recorded) (input : List ℕ) : Type 0 where
  pub same : Matches (gnu_event (program_of x) filters (bytes_of s) input) (recorded_gnu_event (program_of x) filters s input)
  pub keeps : OnEvent x (recorded_gnu_event (program_of x) filters s input)
  pub bytes : LeavesBytes (recorded_gnu_event (program_of x) filters s input)

abbrev pub GnuTurnsSame : List (ℕ × ℕ) → Type 0
GnuTurnsSame filters = (x : Accepted) (s : Recorded) (input : List ℕ) → IsProgram x → Keeps x s → AreBytes input → GnuTurns x filters s input

-- runs of any length from states that stand for each other
abbrev pub GoesOnSame : List (ℕ × ℕ) → Type 0
GoesOnSame filters =
    (x : Accepted) (n : ℕ) (b : State) (s : Recorded) (input : List ℕ) → IsProgram x → StandsFor x b s → AreBytes input
    → SameRan (StandsFor x) (machine_run (gnu_machine_of (program_of x) filters) n b input) (machine_run (recorded_gnu_machine (program_of x) filters) n s input)

-- so from the start
abbrev pub gnu_run_of : Accepted → List (ℕ × ℕ) → ℕ → List ℕ → Ran State End
gnu_run_of x filters n input = machine_run (gnu_machine_of (program_of x) filters) n (start_of (program_of x)) input

abbrev pub recorded_gnu_run_of : Accepted → List (ℕ × ℕ) → ℕ → List ℕ → Ran Recorded End
recorded_gnu_run_of x filters n input = machine_run (recorded_gnu_machine (program_of x) filters) n (recorded_start (program_of x)) input

abbrev pub GnuRunsSame : List (ℕ × ℕ) → Type 0
GnuRunsSame filters =
    (x : Accepted) (n : ℕ) (input : List ℕ) → IsProgram x → AreBytes input
    → SameRan (StandsFor x) (gnu_run_of x filters n input) (recorded_gnu_run_of x filters n input)
