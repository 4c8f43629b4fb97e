-- One further word more.
use Rattle.std.proofs.Common.{◌≡◌, ℕ, ◌+◌, ◌*◌, List, [], ◌∷◌, ◌++◌, map, ap, sym, arith}
use Rattle.std.specs.List.{range_with_len}
use Rattle.std.proofs.lemmas.List.FromFn.{map-range_with_len_more}
use Rattle.asm_unwind.specs.Entries.{word_at}

pub further_more : (old new : List ℕ) (first next : ℕ) (bytes : List ℕ) (k : ℕ) →
    old ≡ first ∷ map (λ k. word_at bytes (2 + 4 * k)) (range_with_len 0 k) →
    next ≡ word_at bytes (2 + 4 * k) →
    new ≡ old ++ next ∷ [] →
    new ≡ first ∷ map (λ k. word_at bytes (2 + 4 * k)) (range_with_len 0 (k + 1))
further_more old new first next bytes k was is pushed =
    let f : ℕ → ℕ = λ k. word_at bytes (2 + 4 * k) in
    rw (pushed, was, is) (sym (ap (λ (l : List ℕ). first ∷ l) (map-range_with_len_more f 0 k k (omega arith))))
