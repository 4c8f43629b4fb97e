-- Lists made from a function of the index.
use Rattle.std.proofs.Common.{◌≡◌, ℕ, ◌+◌, List, [], ◌∷◌, ◌++◌, ◌<◌, length, get_or, take, map, ap, sym, ◌∙◌, arith}
use Rattle.std.specs.List.{range_with_len}
use Rattle.std.proofs.lemmas.List.{map_more}
use Rattle.std.proofs.lemmas.List.FromFn.{map-range_with_len_more}

pub listed_more : {X : Type 0} (f : ℕ → X) (n : ℕ) → map f (range_with_len 0 (n + 1)) ≡ map f (range_with_len 0 n) ++ f n ∷ []
listed_more f n = map-range_with_len_more f 0 n n (omega arith)

-- the whole list, once the loop has come to its end
pub listed_all : {X : Type 0} (f : ℕ → X) (xs : List X) (m n : ℕ) → m ≡ n → xs ≡ map f (range_with_len 0 m) → xs ≡ map f (range_with_len 0 n)
listed_all f xs m n e h = h ∙ ap (λ (k : ℕ). map f (range_with_len 0 k)) e

-- a loop's step, which puts what it makes of one more element at the end
pub map_pushed : {X Y : Type 0} (f : X → Y) (xs : List X) (i : ℕ) (d : X) (ys zs : List Y) (y : Y) → i < length xs → ys ≡ map f (take i xs) → zs ≡ ys ++ y ∷ [] → y ≡ f (get_or xs i d)
    → zs ≡ map f (take (i + 1) xs)
map_pushed f xs i d ys zs y inside h push is = push ∙ rw (h, is) (sym (map_more f xs i d inside))

pub ruleset listed = (listed_more, listed_all)
