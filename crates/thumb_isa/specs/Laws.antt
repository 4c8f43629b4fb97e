-- How the second profile differs from the first (docs/rules/instructions.md, "Profiles").
use Rattle.std.specs.Prelude.{◌≡◌, ℕ, Bool, true, false, ◌||◌, ◌⊎◌, List, [], ◌∷◌}
use Rattle.thumb_isa.specs.declared.instr.Instr.{Instr}
use Rattle.thumb_isa.specs.declared.instr.Instr.TheVariants.{Cbz}
use Rattle.thumb_isa.specs.declared.instr.Decoded.{Decoded}
use Rattle.thumb_isa.specs.declared.instr.Decoded.TheVariants.{Is, Undefined}
use Rattle.thumb_isa.specs.declared.profile.Profile.TheVariants.{One, Two}
use Rattle.thumb_isa.specs.Nature.{profiled_nature}
use Rattle.thumb_isa.specs.Range.{InRange}
use Rattle.thumb_isa.specs.Rows.{Row, fits_row, first_fit, late_rows, decode_result_for}

-- the meaning of a pair by the rows that only the second profile has
unfoldable pub late_of : ℕ → ℕ → Decoded
late_of first second = first_fit late_rows first second

abbrev pub any_fits : List Row → ℕ → ℕ → Bool
any_fits [] first second = false
any_fits (row ∷ more) first second = fits_row row first second || any_fits more first second

-- the instructions that the second profile has and the first doesn't
abbrev pub is_late : Instr → Bool
is_late i = (profiled_nature i).late

-- the size of one of the five
abbrev pub late_size : Instr → ℕ
late_size (Cbz nonzero n off) = 2
late_size i = 4

-- an instruction that only the second profile has: which one, its fields, and its size
pub record IsLate (i : Instr) (size : ℕ) : Type 0 where
  pub late : is_late i ≡ true
  pub fields : InRange i
  pub sized : size ≡ late_size i

-- the second profile gives new meanings only to pairs that the first leaves undefined; any other pair means the same in
-- both
abbrev pub AddsToUndefined : Type 0
AddsToUndefined = (first second : ℕ) → (decode_result_for Two first second ≡ decode_result_for One first second) ⊎ (decode_result_for One first second ≡ Undefined)

-- a pair that fits a row of the second profile's own is undefined in the first
abbrev pub LateAreUndefined : Type 0
LateAreUndefined = (first second : ℕ) → any_fits late_rows first second ≡ true → decode_result_for One first second ≡ Undefined

-- an instruction of the second profile is one of the first, with the same size, or one of the five
abbrev pub AddsFive : Type 0
AddsFive = (first second : ℕ) (i : Instr) (size : ℕ) → decode_result_for Two first second ≡ Is i size → (decode_result_for One first second ≡ Is i size) ⊎ IsLate i size

-- the first profile has none of the five
abbrev pub FirstHasNone : Type 0
FirstHasNone = (first second : ℕ) (i : Instr) (size : ℕ) → decode_result_for One first second ≡ Is i size → is_late i ≡ false
