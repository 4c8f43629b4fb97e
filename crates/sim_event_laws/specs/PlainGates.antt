-- What gates 0, 1 and 2 do: the same over bytes, with recorded activations and in raw code. Also which numbers are no gate, and which
-- faults of the outside may come (docs/rules/machine.md, "Gates"; docs/rules/memory.md, "Raw code").
use Rattle.std.specs.Prelude.{◌≡◌, ℕ, ◌+◌, ◌%◌, ◌^◌, ◌<◌, ◌≤◌, ◌⊎◌, Bool, true, false, List, [], ◌∷◌, slice_index, slice_set, Some}
use Rattle.run_events.specs.Runs.{Event, Goes, Ends}
use Rattle.thumb_isa.specs.declared.instr.Instr.TheVariants.{Svc}
use Rattle.thumb_core.specs.Step.{instr_at}
use Rattle.thumb_core.specs.declared.regs.Regs.{Regs}
use Rattle.thumb_core.specs.declared.ends.TrapKind.TheVariants as kind
use Rattle.thumb_core.specs.declared.ends.End.{End}
use Rattle.thumb_core.specs.declared.ends.End.TheVariants as the_end
use Rattle.run_images.specs.Start.{State as Raw}
use Rattle.run_flat.specs.Machine.{flat_event, may_fail as flat_may_fail}
use Rattle.eh_gates.specs.State.{State, reg}
use Rattle.sim_machines.specs.Program.{Program}
use Rattle.sim_machines.specs.Machine.{machine_event, may_fail}
use Rattle.sim_machines.specs.Activations.{Recorded, bytes_of, reg_in}
use Rattle.sim_machines.specs.ActivationMachine.{recorded_event, recorded_may_fail}
use Rattle.sim_event_laws.specs.GoingOn.{StandsAt}

-- pc is the next address, and all else is unchanged
abbrev pub on_at : ℕ → Regs → Regs
on_at next regs = record regs { pc = next }

-- .. except r0
abbrev pub on_with : ℕ → ℕ → Regs → Regs
on_with next x regs = record regs { pc = next; r = slice_set regs.r 0 x }

-- a failed write comes only at gate 1, a failed read only at gate 2, and no other end is such a fault
abbrev pub ComesAt : ℕ → End → Type 0
ComesAt number the_end.WriteFault = number ≡ 1
ComesAt number the_end.ReadFault = number ≡ 2
ComesAt number (the_end.Exit code) = ⊥
ComesAt number (the_end.Terminate cause) = ⊥
ComesAt number (the_end.Trap kind value pc) = ⊥
ComesAt number the_end.Budget = ⊥

-- The event of a gate, by its number and by the bytes of the input. The state `s` has the registers `regs`, and the next address is `next`.
-- `with_regs` is that state with other registers, and `none` says which numbers are no gate.
pub record DoesAsGate {S : Type 0} (event : List ℕ → Event S End) (may : End → Bool) (s : S) (with_regs : Regs → S) (regs : Regs) (number next : ℕ) (none : Type 0) : Type 0 where
  -- 0 exits with r0, and leaves the state
  pub exits : number ≡ 0 → (input : List ℕ) → event input ≡ Ends (the_end.Exit (slice_index regs.r 0)) s
  -- 1 writes the low byte of r0, and takes nothing of the input
  pub writes : number ≡ 1 → (input : List ℕ) → event input ≡ Goes (with_regs (on_at next regs)) (slice_index regs.r 0 % 256 ∷ []) input
  -- 2 takes the next byte of the input into r0, and writes nothing; at the end of the input r0 is FFFFFFFF
  pub reads : number ≡ 2 → (byte : ℕ) (rest : List ℕ) → event (byte ∷ rest) ≡ Goes (with_regs (on_with next byte regs)) [] rest
  pub at_end : number ≡ 2 → event [] ≡ Goes (with_regs (on_with next 0xFFFFFFFF regs)) [] []
  -- any other number that is no gate is UnknownGate with the number, and leaves the state
  pub unknown : none → (input : List ℕ) → event input ≡ Ends (the_end.Trap kind.UnknownGate number regs.pc) s
  pub faults : (end : End) → may end ≡ true → ComesAt number end
  pub write_may_fail : number ≡ 1 → may the_end.WriteFault ≡ true
  pub read_may_fail : number ≡ 2 → may the_end.ReadFault ≡ true

-- 3 to 15 and those above 25
abbrev pub IsNoGate : ℕ → Type 0
IsNoGate number = ((3 ≤ number) × (number < 16)) ⊎ (25 < number)

-- a gate stands at pc, and the instruction after it at `next`
pub record StandsInCode (s : Raw) (number next : ℕ) : Type 0 where
  pub size : ℕ
  pub gate : instr_at s.memory s.regs.pc ≡ Some (Svc number, size)
  pub place : next ≡ s.regs.pc + size
  pub is_even : next % 2 ≡ 0
  pub small : next < 2 ^ 32

-- For checked code, if sp (r13) is on the running stack and no function begins at the next address. And for raw code, where each number
-- from 3 up is no gate.
pub record PlainGatesAreAsTold : Type 0 where
  pub bytes :
      (p : Program) (s : State) (number next : ℕ) → StandsAt p s number next → s.memory.home.0 ≤ reg s 13 → (p.look next).is_function ≡ false
      → DoesAsGate (machine_event p s) (may_fail p s) s (λ regs. record s { regs = regs }) s.regs number next (IsNoGate number)
  pub recorded :
      (p : Program) (s : Recorded) (number next : ℕ) → StandsAt p (bytes_of s) number next → s.home.0 ≤ reg_in s 13 → (p.look next).is_function ≡ false
      → DoesAsGate (recorded_event p s) (recorded_may_fail p s) s (λ regs. record s { regs = regs }) s.regs number next (IsNoGate number)
  pub raw :
      (s : Raw) (number next : ℕ) → StandsInCode s number next
      → DoesAsGate (flat_event s) (flat_may_fail s) s (λ regs. record s { regs = regs }) s.regs number next (3 ≤ number)
