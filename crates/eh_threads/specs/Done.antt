-- What calls on threads guarantee, for a source and a sink whose bytes are known.
use Rattle.std.specs.Prelude.{◌≡◌, ◌⊎◌, ℕ, ◌<◌, true, List, [], Option, Some, None}
use Rattle.std.specs.Io.KnownBytes.{Appends}
use Rattle.run_events.specs.Runs.{Ends, GoesOn, Ran, reach_state}
use Rattle.run_gates.specs.Ends.{is_fault}
use Rattle.thumb_core.specs.declared.ends.End.{End}
use Rattle.eh_gates.specs.declared.state.Core.{Core}
use Rattle.eh_gates.specs.declared.state.Turned.{Turned}
use Rattle.eh_gates.specs.declared.state.Turned.TheVariants.{Went, Ended}
use Rattle.sim_machines.specs.Program.{Program}
use Rattle.sim_machines.specs.Machine.{may_fail}
use Rattle.eh_threads.specs.Threads.{running, exit_number_of_all, put_thread}
use Rattle.eh_threads.specs.Elements.{Joint, switch_to, state_in, with_event, element}
use Rattle.eh_threads.specs.Schedules.{SchedulePoint, at_first, next_element, schedule_run, thread_at}

-- ---- an element

-- the thread was entered, and its own state is as it was
abbrev pub with_thread_entered : ℕ → Core → Joint → Joint
with_thread_entered thread core w = with_event thread (state_in core w) (put_thread w.threads thread core None) w

-- a fault of the outside stopped the named thread, where such a fault may come
pub record FaultAt (p : Program) (named : Option ℕ) (w : Joint) (end : End) (w' : Joint) : Type 0 where
  pub thread : ℕ
  pub core : Core
  pub runs : running w.threads named ≡ Some (thread, core)
  pub fault : is_fault end ≡ true
  pub may : may_fail p (state_in core (switch_to thread w)) end ≡ true
  pub same : w' ≡ with_thread_entered thread core (switch_to thread w)

-- the element ended the run, or a fault did; nothing was written or taken
pub record ElementEnds (p : Program) (named : Option ℕ) (w : Joint) (input : List ℕ) (end : End) (w' : Joint) (left before now : Option (List ℕ)) : Type 0 where
  pub how : (element p named w input ≡ Ends end w') ⊎ FaultAt p named w end w'
  pub leaves : left ≡ Some input
  pub wrote : Appends before now []

abbrev pub ElementDone : Program → Option ℕ → Joint → List ℕ → Turned → Joint → Option (List ℕ) → Option (List ℕ) → Option (List ℕ) → Type 0
ElementDone p named w input Went w' left before now = GoesOn (element p named w input) w' left before now
ElementDone p named w input (Ended end) w' left before now = ElementEnds p named w input end w' left before now

-- ---- a run

-- the run was done wholly
pub record RanWhole (ran : Ran SchedulePoint End) (end : End) (w' : Joint) (left before now : Option (List ℕ)) : Type 0 where
  pub ends : end ≡ ran.end
  pub threads : w' ≡ ran.state.joint
  pub leaves : left ≡ Some ran.left
  pub wrote : Appends before now ran.text

-- a fault stopped the run after some elements, which wrote and took what was written and taken
pub record RanUpTo (p : Program) (schedule : List ℕ) (n : ℕ) (w : Joint) (input : List ℕ) (end : End) (w' : Joint) (left before now : Option (List ℕ)) : Type 0 where
  pub count : ℕ
  pub text : List ℕ
  pub rest : List ℕ
  pub at : SchedulePoint
  pub not_over : exit_number_of_all w.threads ≡ None
  pub within : count < n
  pub went : reach_state (next_element p schedule) count (at_first w) input ≡ Some (record { text = text; state = at; left = rest })
  pub fault : FaultAt p (thread_at schedule at.at) at.joint end w'
  pub leaves : left ≡ Some rest
  pub wrote : Appends before now text

abbrev pub RunsSchedule : Program → List ℕ → ℕ → Joint → List ℕ → End → Joint → Option (List ℕ) → Option (List ℕ) → Option (List ℕ) → Type 0
RunsSchedule p schedule n w input end w' left before now =
    RanWhole (schedule_run p schedule n w input) end w' left before now ⊎ RanUpTo p schedule n w input end w' left before now
