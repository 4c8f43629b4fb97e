-- Landings over bytes and with recorded activations (docs/rules/machine.md, "Laws").
use Rattle.std.specs.Prelude.{◌≡◌, ℕ, ◌<◌, ◌≤◌, ◌^◌, List, ◌∷◌, ◌++◌, length, slice_index, Some}
use Rattle.eh_bus.specs.Lists.{Has}
use Rattle.eh_cxa.specs.Lists.{entry, slots, state_in}
use Rattle.eh_cxa.specs.Words.{block}
use Rattle.eh_cxa.specs.declared.layout.TheConstants.{SLOTS}
use Rattle.eh_cxa.specs.declared.state.State.TheVariants.{Flying}
use Rattle.eh_phase.specs.declared.phase2.Entered.{Entered}
use Rattle.eh_phase.specs.declared.phase2.Entered.TheVariants as enters
use Rattle.thumb_core.specs.declared.regs.TheConstants.{SP}
use Rattle.thumb_core.specs.declared.regs.Regs.{Regs}
use Rattle.thumb_core.specs.declared.ends.Cause.TheVariants as cause
use Rattle.thumb_core.specs.declared.ends.End.TheVariants as the_end
use Rattle.eh_gates.specs.declared.state.Turned.TheVariants.{Went, Ended}
use Rattle.eh_gates.specs.Landing.{landing_registers, enter_landing}
use Rattle.sim_machines.specs.Activations.{Activation, InProgress, Recorded, slots_of, bytes_of, lists_of, cleanups_in}
use Rattle.sim_machines.specs.ActivationMachine as acts
use Rattle.sim_machines.specs.ActivationLaws.{callers}
use Rattle.sim_machines.specs.Corresponds.{Corresponds, GateMatches}

-- the exception of a slot is in flight, and none of its cleanups is in progress
pub record IsInFlight (s : Recorded) (slot : ℕ) : Type 0 where
  pub small : slot < SLOTS
  pub flies : state_in (entry (lists_of s) slot) ≡ Some Flying
  pub idle : Has (slots (cleanups_in s.cleanups)) slot → ⊥

-- the slots of the activations that a landing cuts lie below its sp
abbrev pub AreBelow : Recorded → List Activation → ℕ → Type 0
AreBelow s cut sp = (g : ℕ) → Has (slots_of cut) g → (s.home.0 ≤ g) × (g < sp)

-- a landing leaves no slot of the activations that it cuts, and gives a cleanup 32-bit words
abbrev pub Lands : Recorded → List Activation → Entered → Type 0
Lands s cut (enters.Cleanup vrs pad next site) = AreBelow s cut (slice_index vrs.r SP) × (slice_index vrs.r SP < 2 ^ 32) × (next < 2 ^ 32) × (site < 2 ^ 32)
Lands s cut (enters.Catch vrs pad) = AreBelow s cut (slice_index vrs.r SP)
Lands s cut (enters.Spec vrs pad) = AreBelow s cut (slice_index vrs.r SP)
Lands s cut enters.Unexpected = Unit {0}
Lands s cut (enters.Terminate why) = Unit {0}

-- phase 2 enters an activation alike in both machines, and the states after it stand for each other
abbrev pub LandingsMatch : Type 0
LandingsMatch =
    (s : Recorded) (cut : List Activation) (a : Activation) (more : List Activation) (slot object : ℕ) (e : Entered) → Corresponds s → IsInFlight s slot
    → s.first ∷ s.outer ≡ cut ++ a ∷ more → Lands s cut e → GateMatches (enter_landing (bytes_of s) (block slot) object e) (acts.enter_landing s (a ∷ more) (block slot) object e)

-- ---- which activation is entered

-- it is in this activation, with those outside it unchanged
pub record IsIn (a : Activation) (more : List Activation) (t : Recorded) : Type 0 where
  pub function : t.first.function ≡ a.function
  pub caller : t.first.caller ≡ a.caller
  pub outer : callers t.outer ≡ callers more

-- with these registers, and these cleanups in progress with their places
pub record HasLanded (a : Activation) (more : List Activation) (regs : Regs) (cleanups : List InProgress) (o : acts.Outcome) : Type 0 where
  pub goes : o.0 ≡ Went
  pub stands : IsIn a more o.1
  pub with_regs : o.1.regs ≡ regs
  pub in_progress : o.1.cleanups ≡ cleanups

-- a cleanup that is entered is the innermost in progress, and names its activation by the number of those outside it
abbrev pub IsEntered : Recorded → Activation → List Activation → ℕ → Entered → acts.Outcome → Type 0
IsEntered s a more slot (enters.Cleanup vrs pad next site) o =
    HasLanded a more (landing_registers s.regs vrs.r pad 0)
    (record { cleanup = record { slot = slot; next = next; sp = slice_index vrs.r SP; site = site }; place = length more } ∷ s.cleanups) o
IsEntered s a more slot (enters.Catch vrs pad) o = HasLanded a more (landing_registers s.regs vrs.r pad (block slot)) s.cleanups o
IsEntered s a more slot (enters.Spec vrs pad) o = HasLanded a more (landing_registers s.regs vrs.r pad (block slot)) s.cleanups o
IsEntered s a more slot enters.Unexpected o = o ≡ (Ended (the_end.Terminate cause.Unexpected), s)
IsEntered s a more slot (enters.Terminate why) o = o ≡ (Ended (the_end.Terminate why), s)

abbrev pub LandingsAreInTheirActivation : Type 0
LandingsAreInTheirActivation =
    (s : Recorded) (a : Activation) (more : List Activation) (slot object : ℕ) (e : Entered) → slot < SLOTS
    → IsEntered s a more slot e (acts.enter_landing s (a ∷ more) (block slot) object e)
