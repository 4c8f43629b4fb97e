-- The gates 0 to 2, and a return from the function in which the run started (docs/rules/memory.md).
use Rattle.std.specs.Prelude.{ℕ, ◌≡◌, ◌%◌, ◌==◌, Bool, false, List, [], ◌∷◌, drop, Option, Some, None, slice_get, slice_index, slice_set, if◌then◌else◌}
use Rattle.run_events.specs.Runs.{Event, Goes, Ends}
use Rattle.run_gates.specs.declared.gates.TheConstants.{NO_CALLER, EXIT_GATE, OUTPUT_GATE, INPUT_GATE, END_OF_INPUT}
use Rattle.thumb_core.specs.declared.regs.Regs.{Regs}
use Rattle.thumb_core.specs.declared.regs.Stepped.{Stepped}
use Rattle.thumb_core.specs.declared.regs.Stepped.TheVariants.{Done, Call, Return, Gate, Trap}
use Rattle.thumb_core.specs.declared.ends.TrapKind.TheVariants as kind
use Rattle.thumb_core.specs.declared.ends.End.{End}
use Rattle.thumb_core.specs.declared.ends.End.TheVariants as the_end

abbrev pub r0 : Regs → ℕ
r0 regs = slice_index regs.r 0

abbrev pub with_r0 : ℕ → Regs → Regs
with_r0 x regs = record regs { r = slice_set regs.r 0 x }

-- r0 after an input gate: a byte, or END_OF_INPUT
abbrev pub byte_or_end : Option ℕ → ℕ
byte_or_end None = END_OF_INPUT
byte_or_end (Some byte) = byte

-- the next byte was taken, if there is one
pub record Takes (input : List ℕ) (byte : Option ℕ) (left : Option (List ℕ)) : Type 0 where
  pub is : byte ≡ slice_get input 0
  pub leaves : left ≡ Some (drop 1 input)

-- The exit gate ends the run with r0, the output gate writes the low byte of r0, the input gate reads a byte into r0; any
-- other number is UnknownGate. A gate leaves the memory, so it is an event of the registers: `old` are those before its
-- instruction, which an end leaves, and `new` those after it.
abbrev pub gate_event : ℕ → Regs → Regs → List ℕ → Event Regs End
gate_event number old new input =
    if number == EXIT_GATE then Ends (the_end.Exit (r0 new)) old
    else (if number == OUTPUT_GATE then Goes new (r0 new % 256 ∷ []) input
    else (if number == INPUT_GATE then Goes (with_r0 (byte_or_end (slice_get input 0)) new) [] (drop 1 input)
    else Ends (the_end.Trap kind.UnknownGate number old.pc) old))

-- which faults a gate may have: `WriteFault` for the output gate, `ReadFault` for the input gate
abbrev pub gate_may_fail : ℕ → End → Bool
gate_may_fail number (the_end.Exit code) = false
gate_may_fail number (the_end.Terminate cause) = false
gate_may_fail number (the_end.Trap kind value pc) = false
gate_may_fail number the_end.Budget = false
gate_may_fail number the_end.ReadFault = number == INPUT_GATE
gate_may_fail number the_end.WriteFault = number == OUTPUT_GATE

-- .. so at an instruction only if it is such a gate
abbrev pub gate_fails : Stepped → End → Bool
gate_fails (Gate number) end = gate_may_fail number end
gate_fails Done end = false
gate_fails (Call target ret) end = false
gate_fails (Return to) end = false
gate_fails (Trap trap) end = false

-- a return from the function in which the run started ends the run with r0; registers stay as before it
abbrev pub return_event : ℕ → Regs → Regs → List ℕ → Event Regs End
return_event to old new input = if to == NO_CALLER then Ends (the_end.Exit (r0 new)) old else Goes new [] input
