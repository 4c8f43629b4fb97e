-- What the gates that walk activations do (docs/rules/machine.md, "Laws"): a throw that finds no barrier, and the end of a cleanup.
use Rattle.std.specs.Prelude.{◌≡◌, ℕ, ◌+◌, ◌<◌, true, false, List, [], ◌∷◌, length, drop, slice_index, Some, None, is_some, Ok, Err}
use Rattle.eh_cxa.specs.Lists.{Cleanup}
use Rattle.eh_cxa.specs.Throw.{barrier_of}
use Rattle.eh_cxa.specs.ListCalls.{rethrow_list}
use Rattle.eh_cxa.specs.Words.{word, block, block_slot}
use Rattle.eh_cxa.specs.declared.layout.TheConstants.{SLOTS}
use Rattle.eh_types.specs.Graph.{row_of}
use Rattle.eh_phase.specs.Frames.{entry_contents_at}
use Rattle.eh_phase.specs.Phases.{phase2}
use Rattle.eh_phase.specs.declared.phase2.Entered.{Entered}
use Rattle.eh_phase.specs.declared.phase2.Entered.TheVariants as enters
use Rattle.eh_trace.specs.Trace.{push_event}
use Rattle.eh_trace.specs.declared.event.Event.{Event as Traced}
use Rattle.eh_trace.specs.declared.event.EventKind.{EventKind}
use Rattle.eh_trace.specs.declared.event.EventKind.TheVariants as event
use Rattle.thumb_core.specs.declared.regs.TheConstants.{SP}
use Rattle.thumb_core.specs.declared.ends.Cause.TheVariants as cause
use Rattle.thumb_core.specs.declared.ends.TrapKind.TheVariants as kind
use Rattle.thumb_core.specs.declared.ends.End.{End}
use Rattle.thumb_core.specs.declared.ends.End.TheVariants as the_end
use Rattle.eh_gates.specs.declared.gates.TheConstants.{THROW_GATE, RETHROW_GATE, END_CLEANUP_GATE}
use Rattle.eh_gates.specs.declared.state.Turned.TheVariants.{Went, Ended}
use Rattle.eh_gates.specs.State.{Tables}
use Rattle.eh_gates.specs.Landing.{landing_registers}
use Rattle.eh_gates.specs.Throwing.{barrier_in}
use Rattle.eh_gates.specs.Resuming.{goal_in}
use Rattle.sim_machines.specs.Activations.{Activation, InProgress, Recorded, registers_of, reg_in, memory_of, frames_at, lists_of}
use Rattle.sim_machines.specs.ActivationMachine.{Outcome, gate_of, first_flight, phase1_result, gate_thrown, slot_thrown, can_unwind}
use Rattle.sim_machines.specs.ActivationLaws.{callers}

-- ---- a throw that finds no barrier

-- the run ends so, and only an event of this kind is new
pub record EndsAlone (what : EventKind) (end : End) (s : Recorded) (o : Outcome) : Type 0 where
  pub ends : o.0 ≡ Ended end
  pub added : Traced
  pub is : added.kind ≡ what
  pub only : o.1 ≡ record s { events = push_event s.events added }

-- a throw of an object that may be thrown, or a rethrow of what is caught, of a type of the graph
pub record SearchesFail (g : Tables) (next : ℕ) (s : Recorded) (why : End) : Type 0 where
  pub throw :
      (block : ℕ) → (first_flight s).answer ≡ Ok block → is_some (row_of g.types (reg_in s 1)) ≡ true
      → barrier_in s.regs.pc (phase1_result g s (gate_thrown s)) ≡ Err why → EndsAlone event.Throw why s (gate_of g THROW_GATE next s)
  pub rethrow :
      (block : ℕ) → (rethrow_list (lists_of s)).answer ≡ Ok block → is_some (row_of g.types (slot_thrown (lists_of s) (block_slot block)).ty) ≡ true
      → barrier_in s.regs.pc (phase1_result g s (slot_thrown (lists_of s) (block_slot block))) ≡ Err why → EndsAlone event.Rethrow why s (gate_of g RETHROW_GATE next s)

-- if phase 1 finds no barrier, nothing is entered and no exception flies; registers, exceptions, memory and activations are unchanged
abbrev pub FailedSearchesAddTheirEvent : Type 0
FailedSearchesAddTheirEvent = (g : Tables) (next : ℕ) (s : Recorded) (why : End) → SearchesFail g next s why

-- ---- the end of a cleanup

-- the activation that runs the gate can be unwound, and was called at the landing sp of a cleanup, by the activation at the cleanup's place
pub record IsCalledBy (g : Tables) (s : Recorded) (p : InProgress) : Type 0 where
  pub unwinds : can_unwind (entry_contents_at g.image s.regs.pc) ≡ true
  pub sp : s.first.caller.sp ≡ p.cleanup.sp
  pub place : length s.outer ≡ p.place + 1

-- the run goes on at a landing pad, in one of the activations outside the gate's, with these cleanups in progress
pub record IsAt (s : Recorded) (r : List ℕ) (pad answer : ℕ) (left : List InProgress) (o : Outcome) : Type 0 where
  pub goes : o.0 ≡ Went
  pub regs : o.1.regs ≡ landing_registers s.regs r pad answer
  pub cleanups : o.1.cleanups ≡ left
  pub gone : ℕ
  pub acts : callers (o.1.first ∷ o.1.outer) ≡ drop gone (callers s.outer)

-- the run ends, with the registers and the activations as before the gate, and with these cleanups in progress
pub record IsOver (s : Recorded) (end : End) (left : List InProgress) (o : Outcome) : Type 0 where
  pub ends : o.0 ≡ Ended end
  pub regs : o.1.regs ≡ s.regs
  pub cleanups : o.1.cleanups ≡ left
  pub first : o.1.first ≡ s.first
  pub outer : o.1.outer ≡ s.outer

-- By what phase 2 enters: another cleanup of the same exception becomes the innermost, in the first activation; a handler is given the
-- control block.
abbrev pub IsResumed : Recorded → Cleanup → List InProgress → Entered → Outcome → Type 0
IsResumed s c more (enters.Cleanup vrs pad next site) o =
    IsAt s vrs.r pad 0
    (record { cleanup = record { slot = c.slot; next = next; sp = slice_index vrs.r SP; site = site }; place = length o.1.outer } ∷ more) o
IsResumed s c more (enters.Catch vrs pad) o = IsAt s vrs.r pad (block c.slot) more o
IsResumed s c more (enters.Spec vrs pad) o = IsAt s vrs.r pad (block c.slot) more o
IsResumed s c more enters.Unexpected o = IsOver s (the_end.Terminate cause.Unexpected) more o
IsResumed s c more (enters.Terminate why) o = IsOver s (the_end.Terminate why) more o

-- A cleanup ends only in the activation that recorded its landing sp, called by its own activation. Then phase 2 goes on there, from its
-- site and next descriptor, to the barrier of its exception.
pub record CleanupsEndSo (g : Tables) (next : ℕ) (s : Recorded) (o : Outcome) : Type 0 where
  pub none : s.cleanups ≡ [] → o ≡ (Ended (the_end.Trap kind.NoCleanup 0 s.regs.pc), s)
  pub stuck :
      (p : InProgress) (more : List InProgress) → s.cleanups ≡ p ∷ more → can_unwind (entry_contents_at g.image s.regs.pc) ≡ false
      → o ≡ (Ended (the_end.Trap kind.CleanupElsewhere 0 s.regs.pc), s)
  pub elsewhere :
      (p : InProgress) (more : List InProgress) → s.cleanups ≡ p ∷ more → can_unwind (entry_contents_at g.image s.regs.pc) ≡ true → (IsCalledBy g s p → ⊥)
      → o ≡ (Ended (the_end.Trap kind.CleanupElsewhere s.first.caller.sp s.regs.pc), s)
  pub resumes :
      (p : InProgress) (more : List InProgress) (a : Activation) (outer : List Activation) → s.cleanups ≡ p ∷ more → p.cleanup.slot < SLOTS → IsCalledBy g s p
      → s.outer ≡ a ∷ outer
      → IsResumed s p.cleanup more
      (phase2 (goal_in (barrier_of (word (memory_of s)) (Some p.cleanup.slot))) p.cleanup.next
      (frames_at g.image None p.cleanup.site (registers_of s.first.caller) a outer)) o

abbrev pub CleanupsEndInTheirOwn : Type 0
CleanupsEndInTheirOwn = (g : Tables) (next : ℕ) (s : Recorded) → CleanupsEndSo g next s (gate_of g END_CLEANUP_GATE next s)
