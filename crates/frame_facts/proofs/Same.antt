-- Whether two facts are one.
use Rattle.std.proofs.Common.{ℕ, ◌≡◌, ◌<◌, ◌≤◌, ◌+◌, ◌&&◌, List, [], ◌∷◌, length, Bool, true, false, eqb, sym, ◌∙◌, ap, subst, refl, arith, suc, zero, get_or, drop, drop-cons, add-one}
use Rattle.std.proofs.lemmas.Bool.{true≢false, false≢true, eqb-true, eq-eqb, and_parts, and_from}
use Rattle.frame_facts.specs.declared.facts.Source.{Source}
use Rattle.frame_facts.specs.declared.facts.Fact.{Fact}
use Rattle.frame_facts.specs.Facts.{same_source, same_sources, same_bool, same_fact}
use Rattle.frame_facts.proofs.Meeting.{same_true, same_self}

-- at a place, the sources there and those after it
pub alike_step : (r : ℕ) (xs ys : List Source) (d : Source) → r < length xs → r < length ys
    → same_sources (drop r xs) (drop r ys) ≡ (same_source (get_or xs r d) (get_or ys r d) && same_sources (drop (r + 1) xs) (drop (r + 1) ys))
unfolding same_sources
alike_step r xs ys d l m = rw add-one (ap (λ v. same_sources v (drop r ys)) (drop-cons xs r d l) ∙ ap (λ v. same_sources (get_or xs r d ∷ drop (suc r) xs) v) (drop-cons ys r d m))

pub alike_next : (r : ℕ) (xs ys : List Source) (d : Source) → r < length xs → r < length ys → same_source (get_or xs r d) (get_or ys r d) ≡ true → same_sources (drop (r + 1) xs) (drop (r + 1) ys) ≡ same_sources (drop r xs) (drop r ys)
alike_next r xs ys d l m e = sym (alike_step r xs ys d l m ∙ ap (λ t. t && same_sources (drop (r + 1) xs) (drop (r + 1) ys)) e)

pub alike_stop : (r : ℕ) (xs ys : List Source) (d : Source) → r < length xs → r < length ys → same_source (get_or xs r d) (get_or ys r d) ≡ false → same_sources (drop r xs) (drop r ys) ≡ false
alike_stop r xs ys d l m e = alike_step r xs ys d l m ∙ ap (λ t. t && same_sources (drop (r + 1) xs) (drop (r + 1) ys)) e

alike_end_nil : (r : ℕ) (xs : List Source) → length xs ≤ r → same_sources (drop r xs) [] ≡ true
unfolding same_sources
alike_end_nil zero [] l = refl
alike_end_nil (suc r) [] l = refl
alike_end_nil zero (x ∷ xs) l = absurd (omega (arith, l))
alike_end_nil (suc r) (x ∷ xs) l = alike_end_nil r xs (omega (arith, l))

nil_alike_end : (r : ℕ) (ys : List Source) → length ys ≤ r → same_sources [] (drop r ys) ≡ true
unfolding same_sources
nil_alike_end zero [] l = refl
nil_alike_end (suc r) [] l = refl
nil_alike_end zero (y ∷ ys) l = absurd (omega (arith, l))
nil_alike_end (suc r) (y ∷ ys) l = nil_alike_end r ys (omega (arith, l))

pub alike_end : (r : ℕ) (xs ys : List Source) → length xs ≤ r → length ys ≤ r → same_sources (drop r xs) (drop r ys) ≡ true
unfolding same_sources
alike_end zero [] [] l m = refl
alike_end (suc r) [] [] l m = refl
alike_end zero (x ∷ xs) [] l m = absurd (omega (arith, l))
alike_end (suc r) (x ∷ xs) [] l m = alike_end_nil r xs (omega (arith, l))
alike_end zero [] (y ∷ ys) l m = absurd (omega (arith, m))
alike_end (suc r) [] (y ∷ ys) l m = nil_alike_end r ys (omega (arith, m))
alike_end zero (x ∷ xs) (y ∷ ys) l m = absurd (omega (arith, l))
alike_end (suc r) (x ∷ xs) (y ∷ ys) l m = alike_end r xs ys (omega (arith, l)) (omega (arith, m))

pub alike_true : (xs ys : List Source) → same_sources xs ys ≡ true → xs ≡ ys
unfolding same_sources
alike_true [] [] h = refl
alike_true [] (y ∷ ys) h = absurd (false≢true h)
alike_true (x ∷ xs) [] h = absurd (false≢true h)
alike_true (x ∷ xs) (y ∷ ys) h = let w = and_parts (same_source x y) (same_sources xs ys) h in ap (λ v. v ∷ xs) (same_true x y w.0) ∙ ap (λ v. y ∷ v) (alike_true xs ys w.1)

pub alike_self : (xs : List Source) → same_sources xs xs ≡ true
unfolding same_sources
alike_self [] = refl
alike_self (x ∷ xs) = and_from (same_source x x) (same_sources xs xs) (same_self x) (alike_self xs)

same_below : (a b : Bool) → same_bool a b ≡ true → a ≡ b
same_below true b h = sym h
same_below false true h = absurd (false≢true h)
same_below false false h = refl

self_below : (a : Bool) → same_bool a a ≡ true
self_below true = refl
self_below false = refl

pub one_fact : (a b : Fact) → same_fact a b ≡ true → a ≡ b
one_fact a b h =
    let v = and_parts (eqb a.depth b.depth && same_bool a.below b.below && eqb a.kept b.kept) (same_sources a.regs b.regs) h in
    let u = and_parts (eqb a.depth b.depth && same_bool a.below b.below) (eqb a.kept b.kept) v.0 in
    let w = and_parts (eqb a.depth b.depth) (same_bool a.below b.below) u.0 in
    ap (λ x. let f : Fact = record { depth = x; below = a.below; kept = a.kept; regs = a.regs } in f) (eqb-true a.depth b.depth w.0)
    ∙ ap (λ x. let f : Fact = record { depth = b.depth; below = x; kept = a.kept; regs = a.regs } in f) (same_below a.below b.below w.1)
    ∙ ap (λ x. let f : Fact = record { depth = b.depth; below = b.below; kept = x; regs = a.regs } in f) (eqb-true a.kept b.kept u.1)
    ∙ ap (λ x. let f : Fact = record { depth = b.depth; below = b.below; kept = b.kept; regs = x } in f) (alike_true a.regs b.regs v.1)

pub two_facts : (a b : Fact) → same_fact a b ≡ false → a ≡ b → ⊥
two_facts a b h e = true≢false (sym (subst (λ x. same_fact a x ≡ true) e self) ∙ h)
  where
    self : same_fact a a ≡ true
    self = and_from (eqb a.depth a.depth && same_bool a.below a.below && eqb a.kept a.kept) (same_sources a.regs a.regs)
        (and_from (eqb a.depth a.depth && same_bool a.below a.below) (eqb a.kept a.kept)
        (and_from (eqb a.depth a.depth) (same_bool a.below a.below) (eq-eqb a.depth a.depth refl) (self_below a.below)) (eq-eqb a.kept a.kept refl)) (alike_self a.regs)
