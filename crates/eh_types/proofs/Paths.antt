-- Paths of bases: they are finished once no path is as long as it may be, and equal bases have equal paths.
use Rattle.std.proofs.Common.{◌≡◌, ℕ, zero, suc, ◌+◌, ◌≤◌, List, [], ◌∷◌, refl, sym, ◌∙◌, ap, inl, inr, arith}
use Rattle.std.specs.List.{sum_by}
use Rattle.std.proofs.lemmas.List.Sums.{sum_by-cons}
use Rattle.eh_types.specs.declared.kind.Base.{Base}
use Rattle.eh_types.specs.Graph.{paths_within}
use Rattle.eh_types.specs.Meant.{Among, types_of}

-- a sum over bases by their types
pub sum_same : (f g : ℕ → ℕ) (bs : List Base) → ((a : ℕ) → Among (types_of bs) a → f a ≡ g a) → sum_by (λ (b : Base). f b.ty) bs ≡ sum_by (λ (b : Base). g b.ty) bs
sum_same f g [] h = refl
sum_same f g (b ∷ bs) h =
    let first = h b.ty (inl refl) in
    let rest = sum_same f g bs (λ a in_bs. h a (inr in_bs)) in
    sum_by-cons (λ (x : Base). f x.ty) b bs ∙ rw (first, rest) (sym (sum_by-cons (λ (x : Base). g x.ty) b bs))

-- one term is at most the sum
pub term_below : (f : ℕ → ℕ) (bs : List Base) (a : ℕ) → Among (types_of bs) a → f a ≤ sum_by (λ (b : Base). f b.ty) bs
term_below f [] a h = absurd h
term_below f (b ∷ bs) a (inl e) = omega (arith, ap f e, sum_by-cons (λ (x : Base). f x.ty) b bs)
term_below f (b ∷ bs) a (inr h) = omega (arith, term_below f bs a h, sum_by-cons (λ (x : Base). f x.ty) b bs)

pub paths_more : (bases : ℕ → List Base) (steps a : ℕ) → paths_within bases (suc steps) a ≡ 1 + sum_by (λ (b : Base). paths_within bases steps b.ty) (bases a)
unfolding paths_within
paths_more bases steps a = refl

pub paths_none : (bases : ℕ → List Base) (a : ℕ) → paths_within bases zero a ≡ 1
unfolding paths_within
paths_none bases a = refl

pub paths_some : (bases : ℕ → List Base) (steps a : ℕ) → 1 ≤ paths_within bases steps a
paths_some bases zero a = omega (arith, paths_none bases a)
paths_some bases (suc steps) a = omega (arith, paths_more bases steps a)

-- where there are at most as many paths as steps, none has that many steps
pub paths_converge : (bases : ℕ → List Base) (steps a : ℕ) → paths_within bases (suc steps) a ≤ suc steps → paths_within bases steps a ≡ paths_within bases (suc steps) a
paths_converge bases zero a few =
    paths_none bases a ∙ (let some = paths_some bases 1 a in omega (arith, few, some))
paths_converge bases (suc steps) a few =
    paths_more bases steps a
    ∙ ap (λ n. 1 + n) (sum_same (paths_within bases steps) (paths_within bases (suc steps)) (bases a)
    (λ b in_bases. paths_converge bases steps b (omega (arith, few, paths_more bases (suc steps) a, term_below (paths_within bases (suc steps)) (bases a) b in_bases))))
    ∙ sym (paths_more bases (suc steps) a)

-- types whose bases are the same, and whose bases are such types too, have the same paths
pub paths_same : (one other : ℕ → List Base) (Held : ℕ → Type 0) → ((a : ℕ) → Held a → one a ≡ other a) → ((a b : ℕ) → Held a → Among (types_of (one a)) b → Held b)
    → (steps a : ℕ) → Held a → paths_within one steps a ≡ paths_within other steps a
paths_same one other Held same closed zero a h = paths_none one a ∙ sym (paths_none other a)
paths_same one other Held same closed (suc steps) a h =
    paths_more one steps a
    ∙ ap (λ n. 1 + n) (sum_same (paths_within one steps) (paths_within other steps) (one a) (λ b in_bases. paths_same one other Held same closed steps b (closed a b h in_bases)))
    ∙ ap (λ (bs : List Base). 1 + sum_by (λ (b : Base). paths_within other steps b.ty) bs) (same a h)
    ∙ sym (paths_more other steps a)
