-- Unwinding takes back what a function's directives say of its prologue: the stack pointer and the stores of a prologue, and the law
-- that joins them with the unwinding of the entry's codes (IHI 0038, "Frame unwinding instructions").
use Rattle.std.specs.Prelude.{◌≡◌, ◌≢◌, ℕ, ◌+◌, ◌-◌, ◌*◌, ◌^◌, ◌<◌, ◌≤◌, Bool, false, if◌then◌else◌, List, [], ◌∷◌, ◌++◌, None, length, sum_by, slice_index, All, Ok, ⊤}
use Rattle.std.specs.List.{list_any}
use Rattle.eh_bus.specs.Segment.{Segment}
use Rattle.eh_bus.specs.Memory.{load_number}
use Rattle.eh_codes.specs.Cut.{Item, split_codes}
use Rattle.asm_unwind.specs.declared.directive.UnwindDirective.{UnwindDirective}
use Rattle.asm_unwind.specs.declared.directive.UnwindDirective.TheVariants.{Save, Pad, SetFp}
use Rattle.asm_unwind.specs.declared.entry.EntryWords.{EntryWords}
use Rattle.asm_unwind.specs.Refusals.{has_register, is_frame_pointer, directive_state_of, refusal_of}
use Rattle.asm_unwind.specs.Meaning.{registers_in, saved_registers}
use Rattle.asm_unwind.specs.Entries.{entry_words_of}
use Rattle.asm_unwind.specs.EntryLaw.{code_of}
use Rattle.eh_bytecode.specs.Meaning.{unwind_result}
use Rattle.eh_bytecode.specs.RecipeLaw.{Small}

-- ---- what directives say of a prologue

-- how many bytes the stack pointer goes down by a directive
abbrev pub frame_bytes : UnwindDirective → ℕ
frame_bytes (Save registers) = 4 * length (registers_in registers)
frame_bytes (Pad size) = size
frame_bytes _ = 0

-- registers with the addresses of their words, which are consecutive from an address on
abbrev pub words_from : ℕ → List ℕ → List (ℕ × ℕ)
words_from address [] = []
words_from address (register ∷ more) = (register, address) ∷ words_from (address + 4) more

-- The registers that directives push, each with the address of its word, from a stack pointer down. The last list comes first; each
-- list goes up from the new stack pointer, the lowest register first.
abbrev pub stores : ℕ → List UnwindDirective → List (ℕ × ℕ)
stores sp [] = []
stores sp (d ∷ more) = stores (sp - frame_bytes d) more ++ words_from (sp - frame_bytes d) (saved_registers d)

-- the first frame pointer holds the stack pointer at its place plus its offset
abbrev pub FramePointerHolds : List ℕ → ℕ → List UnwindDirective → Type 0
FramePointerHolds r sp [] = ⊤
FramePointerHolds r sp (SetFp register offset ∷ _) = slice_index r register ≡ sp + offset
FramePointerHolds r sp (d ∷ more) = FramePointerHolds r (sp - frame_bytes d) more

-- a directive saves a register
abbrev pub saves_register : ℕ → UnwindDirective → Bool
saves_register register (Save registers) = has_register registers register
saves_register register _ = false

-- a register list has 16 bits, as the type of directives says
abbrev pub IsOfItsType : UnwindDirective → Type 0
IsOfItsType (Save registers) = registers < 2 ^ 16
IsOfItsType _ = ⊤

-- no directive is refused after those before it
abbrev pub NoneRefused : List UnwindDirective → Type 0
NoneRefused directives =
    (before : List UnwindDirective) (next : UnwindDirective) (more : List UnwindDirective)
    → directives ≡ before ++ next ∷ more → refusal_of (directive_state_of before) next ≡ None

-- ---- registers and a memory after a prologue

-- Registers `r` and the segments of a memory after a prologue that began with the registers `old`: what it took fits below the
-- stack pointer; each word that it pushed can be read, and is still what its register held; and the frame pointer holds what its
-- directive says, or without one the stack pointer is where the prologue left it.
pub record AfterPrologue (directives : List UnwindDirective) (segments : List Segment) (old r : List ℕ) : Type 0 where
  pub room : sum_by frame_bytes directives ≤ slice_index old 13
  pub pushed : All (λ store. load_number 4 segments store.1 ≡ Ok (slice_index old store.0)) (stores (slice_index old 13) directives)
  pub frame_pointer : FramePointerHolds r (slice_index old 13) directives
  pub stack_pointer : list_any is_frame_pointer directives ≡ false → slice_index r 13 ≡ slice_index old 13 - sum_by frame_bytes directives

-- Unwinding from registers `r` by items comes to an end, and gives the caller the stack pointer of the function's entry, each saved
-- register as it was there, the others as they are, and the link register as pc.
pub record UndoesPrologue (directives : List UnwindDirective) (segments : List Segment) (old r : List ℕ) (items : List Item) : Type 0 where
  pub caller : List ℕ
  pub ends : unwind_result segments r items ≡ Ok caller
  pub wide : length caller ≡ 16
  pub sp : slice_index caller 13 ≡ slice_index old 13
  pub pc : slice_index caller 15 ≡ slice_index caller 14
  pub others : (k : ℕ) → k < 15 → k ≢ 13 → slice_index caller k ≡ (if list_any (saves_register k) directives then slice_index old k else slice_index r k)

-- the unwind instructions of a function's entry undo its prologue, unless the function can't be unwound
abbrev pub ProloguesAreUndone : Type 0
ProloguesAreUndone =
    (directives : List UnwindDirective) (entry : EntryWords) (segments : List Segment) (old r : List ℕ)
    → NoneRefused directives → All IsOfItsType directives → (directive_state_of directives).cant_unwind ≡ false → entry_words_of directives ≡ Ok entry
    → length old ≡ 16 → Small old → length r ≡ 16 → Small r → AfterPrologue directives segments old r
    → UndoesPrologue directives segments old r (split_codes (code_of entry))
