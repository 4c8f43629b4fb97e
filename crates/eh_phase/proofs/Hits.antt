-- The first match that isn't Failed, from a place on.
use Rattle.std.proofs.Common.{◌≡◌, ℕ, ◌+◌, ◌-◌, ◌<◌, ◌≤◌, zero, suc, List, ◌∷◌, map, refl, sym, ◌∙◌, ap, arith, true, false}
use Rattle.std.specs.List.{range_with_len}
use Rattle.eh_match.specs.declared.rules.Match.{Match}
use Rattle.eh_match.specs.declared.rules.Match.TheVariants.{Failed}
use Rattle.eh_phase.specs.Verdict.{is_hit, first_hit}

-- the matches with the types from i on
abbrev pub hits : (ℕ → Match) → (ℕ → ℕ) → ℕ → ℕ → List Match
hits f t i n = map f (map t (range_with_len i (n - i)))

from_here : (f : ℕ → Match) (t : ℕ → ℕ) (i n k : ℕ) → n - i ≡ k → i < n → hits f t i n ≡ f (t i) ∷ hits f t (i + 1) n
from_here f t i n zero e h = absurd (omega arith)
from_here f t i n (suc k) e h =
    let z : k ≡ n - (i + 1) = omega arith in
    ap (λ m. map f (map t (range_with_len i m))) e ∙ ap (λ m. f (t i) ∷ map f (map t (range_with_len (i + 1) m))) z

pub hit_past : (f : ℕ → Match) (t : ℕ → ℕ) (i n : ℕ) → i < n → is_hit (f (t i)) ≡ false → first_hit (hits f t (i + 1) n) ≡ first_hit (hits f t i n)
hit_past f t i n h e = sym (ap first_hit (from_here f t i n (n - i) refl h) ∙ rw e refl)

pub hit_here : (f : ℕ → Match) (t : ℕ → ℕ) (i n : ℕ) → i < n → is_hit (f (t i)) ≡ true → first_hit (hits f t i n) ≡ f (t i)
hit_here f t i n h e = ap first_hit (from_here f t i n (n - i) refl h) ∙ rw e refl

pub hit_none : (f : ℕ → Match) (t : ℕ → ℕ) (i n : ℕ) → n ≤ i → first_hit (hits f t i n) ≡ Failed
hit_none f t i n h = let z : n - i ≡ 0 = omega arith in ap (λ m. first_hit (map f (map t (range_with_len i m)))) z
