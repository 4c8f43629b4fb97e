-- What the codes of directives do in all, by what each code does (IHI 0038, "Frame unwinding instructions"); and that they undo what
-- the directives say.
use Rattle.std.specs.Prelude.{◌≡◌, ℕ, ◌<◌, ◌%◌, not, Bool, true, false, List, [], sum_by, filter, flat_map, reverse}
use Rattle.std.specs.List.{range_with_len, list_any, AllPass}
use Rattle.eh_codes.specs.declared.code.UnwindCode.{UnwindCode}
use Rattle.eh_codes.specs.Meaning.{Effect, Rises, Falls, Pops, Takes, Refuses, Finishes, effect}
use Rattle.asm_unwind.specs.declared.directive.UnwindDirective.{UnwindDirective}
use Rattle.asm_unwind.specs.declared.directive.UnwindDirective.TheVariants.{Save, Pad}
use Rattle.asm_unwind.specs.Refusals.{has_register, is_frame_pointer, is_bad_pad}
use Rattle.asm_unwind.specs.Codes.{save_codes, pad_codes, lower_codes, codes_of}

-- of one effect: how many bytes it adds to the virtual stack pointer, besides its pops; how many it subtracts; and the
-- registers that it pops
abbrev pub rise_of : Effect → ℕ
rise_of (Rises by) = by
rise_of _ = 0

abbrev pub fall_of : Effect → ℕ
fall_of (Falls by) = by
fall_of _ = 0

abbrev pub pops_of : Effect → List ℕ
pops_of (Pops registers) = registers
pops_of _ = []

-- it sets the pointer from a register, ends the instructions, or refuses to unwind
abbrev pub is_other : Effect → Bool
is_other (Takes _) = true
is_other Refuses = true
is_other Finishes = true
is_other _ = false

-- the same of a code
abbrev pub code_rise : UnwindCode → ℕ
code_rise code = rise_of (effect code)

abbrev pub code_fall : UnwindCode → ℕ
code_fall code = fall_of (effect code)

abbrev pub code_pops : UnwindCode → List ℕ
code_pops code = pops_of (effect code)

abbrev pub is_other_code : UnwindCode → Bool
is_other_code code = is_other (effect code)

-- the registers of a list, in the order of their words on the stack: lowest first
abbrev pub registers_in : ℕ → List ℕ
registers_in registers = filter (has_register registers) (range_with_len 0 16)

-- The total effect of instructions: they add and subtract so many bytes, besides their pops, and pop these registers in
-- this order. None sets the virtual stack pointer from a register, or ends or refuses the unwinding.
pub record InAll (codes : List UnwindCode) (up down : ℕ) (registers : List ℕ) : Type 0 where
  pub raise : sum_by code_rise codes ≡ up
  pub lower : sum_by code_fall codes ≡ down
  pub pop : flat_map code_pops codes ≡ registers
  pub keep : list_any is_other_code codes ≡ false

-- the bytecode of a pad adds exactly its size to the virtual stack pointer, and does nothing else
abbrev pub PadsRaise : Type 0
PadsRaise = (size : ℕ) → 0 < size → size % 4 ≡ 0 → InAll (pad_codes size) size 0 []

-- after the instruction for a frame pointer's register, its bytecode subtracts exactly the offset, and does nothing
-- else
abbrev pub FramePointersLower : Type 0
FramePointersLower = (offset : ℕ) → offset % 4 ≡ 0 → InAll (lower_codes offset) 0 offset []

-- the bytecode of a register list pops exactly its registers, each once, lowest first, and does nothing else
abbrev pub SavesPop : Type 0
SavesPop = (registers : ℕ) → InAll (save_codes registers) 0 0 (registers_in registers)

-- the bytes of a pad
abbrev pub pad_size : UnwindDirective → ℕ
pad_size (Pad size) = size
pad_size _ = 0

-- the registers that a directive saves, the lowest first
abbrev pub saved_registers : UnwindDirective → List ℕ
saved_registers (Save registers) = registers_in registers
saved_registers _ = []

-- Without a frame pointer and with pads in range, a function's bytecode adds exactly its pads, pops exactly its saved
-- registers, the last list first, and does nothing else.
abbrev pub FunctionsUndo : Type 0
FunctionsUndo =
    (directives : List UnwindDirective) → list_any is_frame_pointer directives ≡ false → AllPass (λ d. not (is_bad_pad d)) directives
    → InAll (codes_of directives) (sum_by pad_size directives) 0 (flat_map saved_registers (reverse directives))
