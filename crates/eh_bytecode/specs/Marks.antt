-- The registers that were popped so far, as marks.
use Rattle.std.specs.Prelude.{ℕ, ◌≡◌, ◌<◌, ◌==◌, ◌&&◌, ◌||◌, not, Bool, true, false, List, [], ◌∷◌, ◌++◌, Option, Some, None, slice_index_or}
use Rattle.thumb_core.specs.Words.{registers_of_list}

-- the registers that an instruction pops, before more; None ends the instructions
abbrev pub with_popped_list : Option ℕ → List ℕ → List ℕ
with_popped_list None more = []
with_popped_list (Some list) more = registers_of_list list ++ more

-- a register more was popped
abbrev pub with_popped : (ℕ → Bool) → ℕ → ℕ → Bool
with_popped before k j = before j || (k == j)

-- none of these registers was popped before, and none is twice among them
abbrev pub are_fresh : (ℕ → Bool) → List ℕ → Bool
are_fresh before [] = true
are_fresh before (k ∷ more) = not (before k) && are_fresh (with_popped before k) more

-- the marks of the registers that were popped before
abbrev pub Marks : List Bool → (ℕ → Bool) → Type 0
Marks seen before = (k : ℕ) → k < 16 → before k ≡ slice_index_or seen k false

-- these registers were not popped, and are marked now; or one of them was popped
abbrev pub MarksRegisters : List Bool → List Bool → List ℕ → Bool → Type 0
MarksRegisters old new registers true = (before : ℕ → Bool) (more : List ℕ) → Marks old before
    → (after : ℕ → Bool) × Marks new after × (are_fresh before (registers ++ more) ≡ are_fresh after more)
MarksRegisters old new registers false = (before : ℕ → Bool) (more : List ℕ) → Marks old before → are_fresh before (registers ++ more) ≡ false
