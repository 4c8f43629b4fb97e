-- Whether a row has a generic entry, from a row on.
use Rattle.std.proofs.Common.{◌≡◌, ℕ, suc, ◌+◌, ◌-◌, ◌<◌, ◌≤◌, ◌||◌, Bool, true, false, ◌∷◌, is_some, ap, ◌∙◌, arith}
use Rattle.std.specs.List.{list_any, range_with_len}
use Rattle.elf_image.specs.Image.{Image}
use Rattle.eh_index.specs.Rows.{entry_count}
use Rattle.gnu_lsda.specs.Entries.{generic_of}
use Rattle.audit_top.specs.Tables.{has_generic}

-- of rows from k up to n
abbrev pub any_from : Image → ℕ → ℕ → Bool
any_from image k n = list_any (λ j. is_some (generic_of image j)) (range_with_len k (n - k))

range_step : (k n : ℕ) → k < n → range_with_len k (n - k) ≡ k ∷ range_with_len (k + 1) (n - (k + 1))
range_step k n h = let e : n - k ≡ suc (n - (k + 1)) = omega arith in ap (range_with_len k) e

any_step : (image : Image) (k n : ℕ) → k < n → any_from image k n ≡ (is_some (generic_of image k) || any_from image (k + 1) n)
any_step image k n h = ap (list_any (λ j. is_some (generic_of image j))) (range_step k n h)

pub any_begins : (image : Image) (n : ℕ) → n ≡ entry_count image → any_from image 0 n ≡ has_generic image
any_begins image n e = let f : n - 0 ≡ entry_count image = omega (arith, e) in ap (λ (m : ℕ). list_any (λ j. is_some (generic_of image j)) (range_with_len 0 m)) f

pub any_found : (image : Image) (k n : ℕ) → k < n → is_some (generic_of image k) ≡ true → any_from image k n ≡ true
any_found image k n h e = any_step image k n h ∙ ap (λ (b : Bool). b || any_from image (k + 1) n) e

pub any_goes_on : (image : Image) (k n : ℕ) → k < n → is_some (generic_of image k) ≡ false → any_from image k n ≡ any_from image (k + 1) n
any_goes_on image k n h e = any_step image k n h ∙ ap (λ (b : Bool). b || any_from image (k + 1) n) e

pub any_ends : (image : Image) (k n : ℕ) → n ≤ k → any_from image k n ≡ false
any_ends image k n h = let e : n - k ≡ 0 = omega arith in ap (λ (m : ℕ). list_any (λ j. is_some (generic_of image j)) (range_with_len k m)) e

pub ruleset generics = (any_begins, any_found, any_goes_on, any_ends)
