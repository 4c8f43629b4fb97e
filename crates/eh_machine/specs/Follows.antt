-- What a call on an accepted image guarantees, told by the machine with recorded activations
-- (docs/rules/machine.md, "With recorded activations").
use Rattle.std.specs.Prelude.{◌≡◌, ℕ, List, Option, Some}
use Rattle.run_events.specs.Runs.{GoesOn, EndsBy, Runs}
use Rattle.run_gates.specs.Ends.{is_fault}
use Rattle.thumb_core.specs.declared.ends.End.{End}
use Rattle.eh_cxa.specs.Words.{block_slot}
use Rattle.eh_phase.specs.declared.phase1.Barrier.{Barrier}
use Rattle.eh_gates.specs.declared.state.Turned.{Turned}
use Rattle.eh_gates.specs.declared.state.Turned.TheVariants.{Went, Ended}
use Rattle.eh_gates.specs.State.{State}
use Rattle.frame_check.specs.Accepts.{Accepted}
use Rattle.sim_machines.specs.Program.{program_tables}
use Rattle.sim_machines.specs.Checked.{program_of}
use Rattle.sim_machines.specs.Activations.{Recorded, recorded_start}
use Rattle.sim_machines.specs.ActivationMachine.{Outcome, recorded_event, recorded_may_fail, recorded_machine, throw_to}
use Rattle.sim_runs.specs.sim_relation.Stands.{StandsFor}
use Rattle.sim_runs.specs.Turned.{AreBytes}
use Rattle.sim_runs.specs.sim_resumes.Flying.{CanFly}

-- for each state with recorded activations that this state stands for
abbrev pub Follows : Accepted → State → (Recorded → Type 0) → Type 0
Follows x old Done = (s : Recorded) → StandsFor x old s → Done s

-- ---- one event

-- the machine with recorded activations goes on too, and the new state stands for its new state
pub record WentAlike (x : Accepted) (s : Recorded) (input : List ℕ) (new : State) (left before now : Option (List ℕ)) : Type 0 where
  pub state : Recorded
  pub goes : GoesOn (recorded_event (program_of x) s input) state left before now
  pub stands : StandsFor x new state

-- it ends there too, or a fault of the outside may end it there; and the new state stands for its state
pub record EndedAlike (x : Accepted) (s : Recorded) (input : List ℕ) (end : End) (new : State) (left before now : Option (List ℕ)) : Type 0 where
  pub state : Recorded
  pub ends : EndsBy is_fault (recorded_may_fail (program_of x) s) (recorded_event (program_of x) s input) end s state input left before now
  pub stands : StandsFor x new state

abbrev pub TurnedAlike : Accepted → Recorded → List ℕ → Turned → State → Option (List ℕ) → Option (List ℕ) → Option (List ℕ) → Type 0
TurnedAlike x s input Went new left before now = WentAlike x s input new left before now
TurnedAlike x s input (Ended end) new left before now = EndedAlike x s input end new left before now

-- the same for an input of bytes
abbrev pub FollowsOnce : Accepted → State → List ℕ → Turned → State → Option (List ℕ) → Option (List ℕ) → Option (List ℕ) → Type 0
FollowsOnce x old input result new left before now = AreBytes input → Follows x old (λ s. TurnedAlike x s input result new left before now)

-- ---- a run

-- A run of at most n events with recorded activations was done, wholly or up to a fault. The state that the call left stands for the state
-- that this run left.
pub record RanAlike (x : Accepted) (n : ℕ) (s : Recorded) (input : List ℕ)
    (end : End) (new : State) (unspent : ℕ) (left before now : Option (List ℕ)) : Type 0 where
  pub state : Recorded
  pub runs : Runs (recorded_machine (program_of x)) n s input end state unspent left before now
  pub stands : StandsFor x new state

abbrev pub FollowsRun : Accepted → ℕ → State → List ℕ → End → State → ℕ → Option (List ℕ) → Option (List ℕ) → Option (List ℕ) → Type 0
FollowsRun x n old input end new unspent left before now = AreBytes input → Follows x old (λ s. RanAlike x n s input end new unspent left before now)

-- ---- the start

-- the state stands for the start with recorded activations
abbrev pub StartsAlike : Accepted → State → Type 0
StartsAlike x new = StandsFor x new (recorded_start (program_of x))

-- ---- a flight to a barrier

-- The machine with recorded activations throws from the same site, and the state that the call left stands for the state after that throw.
pub record FlownAlike (x : Accepted) (s : Recorded) (site control : ℕ) (b : Barrier) (result : Turned) (new : State) : Type 0 where
  pub state : Recorded
  pub is : ◌≡◌ {A = Outcome} (result, state) (throw_to (program_tables (program_of x)) site control b s)
  pub stands : StandsFor x new state

abbrev pub FollowsFlight : Accepted → State → ℕ → ℕ → Barrier → Turned → State → Type 0
FollowsFlight x old site control b result new =
    Follows x old (λ s. (slot : ℕ) → block_slot control ≡ Some slot → CanFly x s site slot b → FlownAlike x s site control b result new)
