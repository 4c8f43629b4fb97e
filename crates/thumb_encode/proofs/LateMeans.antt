-- What the second profile's own rows say of a pair is what the pair means in it.
use Rattle.std.proofs.Common.{◌≡◌, ℕ, Bool, true, false, ◌||◌, cond, List, [], ◌∷◌, refl, sym, ◌∙◌}
use Rattle.thumb_isa.specs.declared.instr.Instr.{Instr}
use Rattle.thumb_isa.specs.declared.instr.Decoded.{Decoded}
use Rattle.thumb_isa.specs.declared.instr.Decoded.TheVariants.{Is, Undefined}
use Rattle.thumb_isa.specs.Rows.{Row, fits_row, late_rows, first_fit, late_decode_result}
use Rattle.thumb_isa.specs.Laws.{late_of, any_fits}
use Rattle.thumb_isa.proofs.BothProfiles.{added, late_are_undefined}

none_fits : (rs : List Row) (f s : ℕ) → any_fits rs f s ≡ false → first_fit rs f s ≡ Undefined
none_fits [] f s h = refl
none_fits (row ∷ more) f s h = by (fits_row row f s) (row.means f s) (any_fits more f s) (first_fit more f s) h (none_fits more f s)
  where
    by : (b : Bool) (x : Decoded) (c : Bool) (y : Decoded) → (b || c) ≡ false → (c ≡ false → y ≡ Undefined) → cond b x y ≡ Undefined
    by true x c y h later = cc
    by false x c y h later = later h

late_none : (f s : ℕ) → any_fits late_rows f s ≡ false → late_of f s ≡ Undefined
unfolding late_of
late_none f s h = none_fits late_rows f s h

pub late_means : (f s : ℕ) (i : Instr) (n : ℕ) → late_of f s ≡ Is i n → late_decode_result f s ≡ Is i n
late_means f s i n e = by (any_fits late_rows f s) refl
  where
    by : (b : Bool) → any_fits late_rows f s ≡ b → late_decode_result f s ≡ Is i n
    by true h = added f s (late_are_undefined f s h) ∙ e
    by false h = absurd (let none : Undefined ≡ Is i n = sym (late_none f s h) ∙ e in cc)
