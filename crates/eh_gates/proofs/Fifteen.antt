-- A list of fifteen numbers, number by number.
use Rattle.std.proofs.Common.{◌≡◌, ℕ, ◌+◌, List, [], ◌∷◌, ◌++◌, map, length, slice_index, refl, sym, ap, ◌∙◌, arith}
use Rattle.std.specs.List.{range_with_len}
use Rattle.std.proofs.lemmas.Grind.{same_number_lists}
use Rattle.std.proofs.lemmas.List.FromFn.{get_or-map-range_with_len, length-map-range_with_len}

pub fifteen : (r : List ℕ) (pc : ℕ) → length r ≡ 15
    → (slice_index r 0 ∷ slice_index r 1 ∷ slice_index r 2 ∷ slice_index r 3 ∷ slice_index r 4 ∷ slice_index r 5 ∷ slice_index r 6 ∷ slice_index r 7 ∷ slice_index r 8
    ∷ slice_index r 9 ∷ slice_index r 10 ∷ slice_index r 11 ∷ slice_index r 12 ∷ slice_index r 13 ∷ slice_index r 14 ∷ pc ∷ []) ≡ r ++ (pc ∷ [])
fifteen r pc e =
    let f : ℕ → ℕ = λ k. slice_index r k in
    let count = length-map-range_with_len f 0 15 in
    ap (λ (xs : List ℕ). xs ++ (pc ∷ []))
    (same_number_lists (map f (range_with_len 0 15)) r (count ∙ sym e) (λ i h. get_or-map-range_with_len f 0 15 i i 0 (omega (arith, h, count)) (omega arith)))
