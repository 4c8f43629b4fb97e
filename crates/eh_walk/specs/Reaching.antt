-- A run that goes on to a site: first the events of a budget, whatever the states are, and then further ones until the state stands at a
-- site (docs/guide/walks-and-threads.md, "Sites").
use Rattle.std.specs.Prelude.{ℕ, ◌+◌, ◌&&◌, nat_le, not, Bool, List, is_some, if◌then◌else◌, Option}
use Rattle.run_events.specs.Runs.{Event, Goes, Ends, Machine, Ran, Runs, machine_run}
use Rattle.thumb_core.specs.declared.ends.End.{End}
use Rattle.eh_gates.specs.State.{State}
use Rattle.sim_machines.specs.Program.{Program}
use Rattle.sim_machines.specs.Machine.{machine_of}
use Rattle.sim_machines.specs.Activations.{Recorded, memory_of}
use Rattle.sim_machines.specs.ActivationMachine.{recorded_machine}
use Rattle.eh_walk.specs.Sites.{site_state}
use Rattle.eh_walk.specs.declared.reach.TheConstants.{MOST_FURTHER}

-- ---- any machine

-- a state, and how many events were done before it
pub record Onward (S : Type 0) : Type 0 where
  pub done : ℕ
  pub state : S

abbrev pub state_after : {S : Type 0} → ℕ → S → Onward S
state_after done state = record { done = done; state = state }

-- counts an event that goes on; one that ends the run isn't counted
abbrev pub count_event : {S E : Type 0} → ℕ → Event S E → Event (Onward S) E
count_event done (Goes state text rest) = Goes (state_after (done + 1) state) text rest
count_event done (Ends end state) = Ends end (state_after done state)

-- the budget is spent, and the state is one where the run stops
abbrev pub is_stop : {S : Type 0} → (S → Bool) → ℕ → ℕ → S → Bool
is_stop there budget done state = nat_le budget done && there state

-- there the run ends as one whose budget is spent
abbrev pub counting_event : {S E : Type 0} → (S → Bool) → ℕ → E → (S → List ℕ → Event S E) → Onward S → List ℕ → Event (Onward S) E
counting_event there budget spent event o input = if is_stop there budget o.done o.state then Ends spent o else count_event o.done (event o.state input)

abbrev pub counting_fails : {S E : Type 0} → (S → Bool) → ℕ → (S → E → Bool) → Onward S → E → Bool
counting_fails there budget may_fail o end = not (is_stop there budget o.done o.state) && may_fail o.state end

abbrev pub counting_machine : {S E : Type 0} → (S → Bool) → ℕ → Machine S E → Machine (Onward S) E
counting_machine there budget m = record {
  event = counting_event there budget m.spent m.event;
  spent = m.spent;
  is_fault = m.is_fault;
  may_fail = counting_fails there budget m.may_fail;
}

-- ---- to a site, over bytes and with recorded activations

abbrev pub is_at_site : Program → State → Bool
is_at_site p s = is_some (site_state p s.regs s.memory)

abbrev pub stands_there : Program → ℕ → ℕ → State → Bool
stands_there p budget done s = is_stop (is_at_site p) budget done s

abbrev pub is_recorded_at_site : Program → Recorded → Bool
is_recorded_at_site p s = is_some (site_state p s.regs (memory_of s))

abbrev pub site_machine : Program → ℕ → Machine (Onward State) End
site_machine p budget = counting_machine (is_at_site p) budget (machine_of p)

abbrev pub recorded_site_machine : Program → ℕ → Machine (Onward Recorded) End
recorded_site_machine p budget = counting_machine (is_recorded_at_site p) budget (recorded_machine p)

-- the whole run, from a state and a budget
abbrev pub most_events : ℕ → ℕ
most_events budget = budget + MOST_FURTHER

abbrev pub run_to_site : Program → ℕ → State → List ℕ → Ran (Onward State) End
run_to_site p budget s input = machine_run (site_machine p budget) (most_events budget) (state_after 0 s) input

abbrev pub recorded_run_to_site : Program → ℕ → Recorded → List ℕ → Ran (Onward Recorded) End
recorded_run_to_site p budget s input = machine_run (recorded_site_machine p budget) (most_events budget) (state_after 0 s) input

-- the run was done, wholly or up to a fault
pub record RunsToSite (p : Program) (budget : ℕ) (old : State) (input : List ℕ) (end : End) (done : ℕ) (new : State) (left before now : Option (List ℕ)) : Type 0 where
  pub spare : ℕ
  pub runs : Runs (site_machine p budget) (most_events budget) (state_after 0 old) input end (state_after done new) spare left before now
