-- What unwind instructions do to the registers of a frame, over a memory (IHI 0038, "Frame unwinding instructions"). They are executed
-- one after the other on a virtual stack pointer and the registers.
use Rattle.std.specs.Prelude.{ℕ, ◌+◌, ◌-◌, ◌*◌, ◌%◌, ◌^◌, ◌==◌, ◌||◌, false, if◌then◌else◌, List, [], ◌∷◌, length, slice_index, slice_set, Result, Ok, Err}
use Rattle.std.specs.List.{list_any}
use Rattle.eh_bus.specs.Segment.{Segment}
use Rattle.eh_bus.specs.declared.fault.BusFault.{BusFault}
use Rattle.eh_bus.specs.declared.fault.BusFault.TheVariants.{Unmapped, Unaligned, ReadOnly, SavedSlot, Protected, NotExecutable}
use Rattle.thumb_core.specs.Words.{load_words, loads_from}
use Rattle.eh_codes.specs.Cut.{Item, Is, Bad}
use Rattle.eh_codes.specs.Meaning.{Effect, Rises, Falls, Pops, Takes, Refuses, Finishes, effect}
use Rattle.eh_bytecode.specs.declared.frame.Vrs.{Vrs}
use Rattle.eh_bytecode.specs.declared.frame.UnwindEnd.{UnwindEnd}
use Rattle.eh_bytecode.specs.declared.frame.UnwindEnd.TheVariants.{Finished, Refused, BadCode, Unreadable}
use Rattle.eh_bytecode.specs.declared.frame.UnwindState.{UnwindState}
use Rattle.eh_bytecode.specs.declared.frame.CodeOutcome.{CodeOutcome}
use Rattle.eh_bytecode.specs.declared.frame.CodeOutcome.TheVariants as next

-- an instruction goes on with a new state, or ends the unwinding with registers or a fault
pub data Step : Type 0 where
  Goes : (state : UnwindState) → Step
  Ends : (end : Result (List ℕ) UnwindEnd) → Step

-- at the beginning the virtual stack pointer is the stack pointer
abbrev pub begin_unwind : List ℕ → UnwindState
begin_unwind r = record { vsp = slice_index r 13; r = r; popped_pc = false }

-- at the end pc becomes the link register, unless it was popped, and the stack pointer becomes the virtual one
abbrev pub finish_registers : UnwindState → List ℕ
finish_registers s = slice_set (if s.popped_pc then s.r else slice_set s.r 15 (slice_index s.r 14)) 13 s.vsp

-- the address of an access that is refused
abbrev pub address_of : BusFault → ℕ
address_of (Unmapped a) = a
address_of (Unaligned a) = a
address_of (ReadOnly a) = a
address_of (SavedSlot a) = a
address_of (Protected a) = a
address_of (NotExecutable a) = a

-- the words of the registers are loaded, and the virtual stack pointer moves past them
abbrev pub pop_step : UnwindState → List ℕ → Result (List ℕ) BusFault → Step
pop_step s registers (Ok r) = Goes (record {
  vsp = (s.vsp + 4 * length registers) % 2 ^ 32;
  r = r;
  popped_pc = s.popped_pc || list_any (λ k. k == 15) registers;
})
pop_step s registers (Err fault) = Ends (Err (Unreadable (address_of fault)))

-- what an effect does; sums are modulo 2 ^ 32
abbrev pub effect_step : List Segment → UnwindState → Effect → Step
effect_step segments s (Rises by) = Goes (record s { vsp = (s.vsp + by) % 2 ^ 32 })
effect_step segments s (Falls by) = Goes (record s { vsp = (s.vsp + (2 ^ 32 - by)) % 2 ^ 32 })
effect_step segments s (Pops registers) = pop_step s registers (load_words segments s.vsp (loads_from 0 registers) s.r)
effect_step segments s (Takes register) = Goes (record s { vsp = slice_index s.r register })
effect_step segments s Refuses = Ends (Err Refused)
effect_step segments s Finishes = Ends (Ok (finish_registers s))

abbrev pub continue_unwind : (UnwindState → Result (List ℕ) UnwindEnd) → Step → Result (List ℕ) UnwindEnd
continue_unwind further (Goes s) = further s
continue_unwind further (Ends end) = end

-- executes the instructions in order, up to the first that ends the unwinding, or the end of the bytes
abbrev pub run_codes : List Segment → UnwindState → List Item → Result (List ℕ) UnwindEnd
run_codes segments s [] = Ok (finish_registers s)
run_codes segments s (Bad place ∷ _) = Err (BadCode place)
run_codes segments s (Is code ∷ more) = continue_unwind (λ next. run_codes segments next more) (effect_step segments s (effect code))

-- the registers after unwinding, or why it failed
unfoldable pub unwind_result : List Segment → List ℕ → List Item → Result (List ℕ) UnwindEnd
unwind_result segments r items = run_codes segments (begin_unwind r) items

-- ---- as the answers of the calls

abbrev pub step_of : CodeOutcome → UnwindState → Step
step_of next.Goes s = Goes s
step_of next.Finishes s = Ends (Ok (finish_registers s))
step_of (next.Stops end) s = Ends (Err end)

-- registers change only where the codes finish
abbrev pub unwind_answer : Vrs → Result (List ℕ) UnwindEnd → UnwindEnd × Vrs
unwind_answer old (Ok r) = (Finished, record { r = r })
unwind_answer old (Err end) = (end, old)
