-- What a call of the machine for GNU code guarantees (docs/rules/gnu-tables.md).
use Rattle.std.specs.Prelude.{ℕ, List, Option}
use Rattle.run_events.specs.Runs.{GoesOn, EndsBy, Runs}
use Rattle.run_gates.specs.Ends.{is_fault}
use Rattle.thumb_core.specs.declared.ends.End.{End}
use Rattle.eh_gates.specs.declared.state.Turned.{Turned}
use Rattle.eh_gates.specs.declared.state.Turned.TheVariants.{Went, Ended}
use Rattle.eh_gates.specs.State.{State}
use Rattle.frame_check.specs.Accepts.{Accepted}
use Rattle.sim_machines.specs.Activations.{Recorded}
use Rattle.sim_machines.specs.Checked.{program_of}
use Rattle.sim_machines.specs.Machine.{may_fail}
use Rattle.sim_machines.specs.Program.{Program}
use Rattle.sim_relation.specs.Stands.{StandsFor}
use Rattle.eh_machine.specs.sim_runs.Turned.{AreBytes}
use Rattle.eh_machine.specs.Follows.{Follows}
use Rattle.gnu_machine.specs.GnuMachine.{gnu_event, recorded_gnu_machine}

-- one event was done: the run goes on, or the event ended it, or a fault of the outside stopped it where one may come
abbrev pub TurnedGnu : Program → List (ℕ × ℕ) → State → List ℕ → Turned → State → Option (List ℕ) → Option (List ℕ) → Option (List ℕ) → Type 0
TurnedGnu p filters old input Went new left before now = GoesOn (gnu_event p filters old input) new left before now
TurnedGnu p filters old input (Ended end) new left before now = EndsBy is_fault (may_fail p old) (gnu_event p filters old input) end old new input left before now

-- A run of at most n events with recorded activations was done, wholly or up to a fault. The state that the call left stands for the state
-- that this run left.
pub record RanGnuAlike (x : Accepted) (filters : List (ℕ × ℕ)) (n : ℕ) (s : Recorded) (input : List ℕ)
    (end : End) (new : State) (unspent : ℕ) (left before now : Option (List ℕ)) : Type 0 where
  pub state : Recorded
  pub runs : Runs (recorded_gnu_machine (program_of x) filters) n s input end state unspent left before now
  pub stands : StandsFor x new state

-- for an input of bytes, and each state with recorded activations that this state stands for
abbrev pub FollowsGnuRun : Accepted → List (ℕ × ℕ) → ℕ → State → List ℕ → End → State → ℕ → Option (List ℕ) → Option (List ℕ) → Option (List ℕ) → Type 0
FollowsGnuRun x filters n old input end new unspent left before now =
    AreBytes input → Follows x old (λ s. RanGnuAlike x filters n s input end new unspent left before now)
