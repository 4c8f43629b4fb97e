-- Whether the meeting of two lists of sources is the first one.
use Rattle.std.proofs.Common.{ℕ, ◌≡◌, ◌<◌, ◌≤◌, ◌+◌, ◌&&◌, List, [], ◌∷◌, length, Bool, true, false, sym, ◌∙◌, ap, refl, arith, suc, zero, get_or, drop, drop-cons, add-one}
use Rattle.frame_facts.specs.declared.facts.Source.{Source}
use Rattle.frame_facts.specs.Facts.{same_source, met_source, met_sources, same_sources}

abbrev pub stayed : List Source → List Source → Bool
stayed xs ys = same_sources (met_sources xs ys) xs

-- at a place, the sources there and those after it
stay_step : (r : ℕ) (xs ys : List Source) (d : Source) → r < length xs → r < length ys
    → stayed (drop r xs) (drop r ys) ≡ (same_source (met_source (get_or xs r d) (get_or ys r d)) (get_or xs r d) && stayed (drop (r + 1) xs) (drop (r + 1) ys))
unfolding same_sources met_sources
stay_step r xs ys d l m = rw add-one (ap (λ v. stayed v (drop r ys)) (drop-cons xs r d l) ∙ ap (λ v. stayed (get_or xs r d ∷ drop (suc r) xs) v) (drop-cons ys r d m))

pub stay_next : (r : ℕ) (xs ys : List Source) (d : Source) → r < length xs → r < length ys → same_source (met_source (get_or xs r d) (get_or ys r d)) (get_or xs r d) ≡ true
    → stayed (drop (r + 1) xs) (drop (r + 1) ys) ≡ stayed (drop r xs) (drop r ys)
stay_next r xs ys d l m e = sym (stay_step r xs ys d l m ∙ ap (λ t. t && stayed (drop (r + 1) xs) (drop (r + 1) ys)) e)

pub stay_stop : (r : ℕ) (xs ys : List Source) (d : Source) → r < length xs → r < length ys → same_source (met_source (get_or xs r d) (get_or ys r d)) (get_or xs r d) ≡ false
    → stayed (drop r xs) (drop r ys) ≡ false
stay_stop r xs ys d l m e = stay_step r xs ys d l m ∙ ap (λ t. t && stayed (drop (r + 1) xs) (drop (r + 1) ys)) e

pub stay_end : (r : ℕ) (xs ys : List Source) → length xs ≤ r → stayed (drop r xs) ys ≡ true
unfolding same_sources met_sources
stay_end zero [] ys l = refl
stay_end (suc r) [] ys l = refl
stay_end zero (x ∷ xs) ys l = absurd (omega (arith, l))
stay_end (suc r) (x ∷ xs) ys l = stay_end r xs ys (omega (arith, l))
