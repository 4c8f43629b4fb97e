-- The meeting of two lists of sources.
use Rattle.std.proofs.Common.{ℕ, ◌≡◌, ◌<◌, ◌≤◌, ◌+◌, ◌⊎◌, inl, inr, List, [], ◌∷◌, ◌++◌, length, true, false, cond, sym, ◌∙◌, ap, subst, refl, ⊎_elim, arith, suc, zero, set, get_or, take, drop, add-one}
use Rattle.std.proofs.lemmas.Bool.{false≢true, cases_Bool, eqb-true, eq-eqb}
use Rattle.std.proofs.lemmas.List.Sums.{sum_by-cons}
use Rattle.std.specs.List.{sum_by}
use Rattle.frame_facts.specs.declared.facts.Source.{Source}
use Rattle.frame_facts.specs.declared.facts.Source.TheVariants.{Entry, SpAt, Other}
use Rattle.frame_facts.specs.Facts.{same_source, met_source, met_sources, source_height, IsVaguer}

met_suc : (r : ℕ) (xs ys : List Source) (d s : Source) → r < length xs → r < length ys → s ≡ met_source (get_or xs r d) (get_or ys r d)
    → take r xs ++ met_sources (drop r xs) (drop r ys) ≡ take (suc r) (set xs r s) ++ met_sources (drop (suc r) (set xs r s)) (drop (suc r) ys)
unfolding met_sources
met_suc r [] ys d s l m e = absurd (omega (arith, l))
met_suc r (x ∷ xs) [] d s l m e = absurd (omega (arith, m))
met_suc zero (x ∷ xs) (y ∷ ys) d s l m e = ap (λ t. t ∷ met_sources xs ys) (sym e)
met_suc (suc r) (x ∷ xs) (y ∷ ys) d s l m e = ap (λ l. x ∷ l) (met_suc r xs ys d s (omega (arith, l)) (omega (arith, m)) e)

pub met_next : (r : ℕ) (xs ys : List Source) (d s : Source) → r < length xs → r < length ys → s ≡ met_source (get_or xs r d) (get_or ys r d)
    → take (r + 1) (set xs r s) ++ met_sources (drop (r + 1) (set xs r s)) (drop (r + 1) ys) ≡ take r xs ++ met_sources (drop r xs) (drop r ys)
met_next r xs ys d s l m e = rw add-one (sym (met_suc r xs ys d s l m e))

met_all_nil : (r : ℕ) (xs : List Source) → length xs ≤ r → take r xs ++ met_sources (drop r xs) [] ≡ xs
unfolding met_sources
met_all_nil zero [] l = refl
met_all_nil (suc r) [] l = refl
met_all_nil zero (x ∷ xs) l = absurd (omega (arith, l))
met_all_nil (suc r) (x ∷ xs) l = ap (λ l. x ∷ l) (met_all_nil r xs (omega (arith, l)))

pub met_all : (r : ℕ) (xs ys : List Source) → length xs ≤ r → take r xs ++ met_sources (drop r xs) (drop r ys) ≡ xs
unfolding met_sources
met_all zero [] ys l = refl
met_all (suc r) [] ys l = refl
met_all zero (x ∷ xs) ys l = absurd (omega (arith, l))
met_all (suc r) (x ∷ xs) [] l = ap (λ l. x ∷ l) (met_all_nil r xs (omega (arith, l)))
met_all (suc r) (x ∷ xs) (y ∷ ys) l = ap (λ l. x ∷ l) (met_all r xs ys (omega (arith, l)))

pub same_true : (a b : Source) → same_source a b ≡ true → a ≡ b
same_true (Entry m) (Entry n) h = ap Entry (eqb-true m n h)
same_true (SpAt m) (SpAt n) h = ap SpAt (eqb-true m n h)
same_true Other Other h = refl
same_true a b h = absurd (false≢true h)

pub same_self : (a : Source) → same_source a a ≡ true
same_self (Entry m) = eq-eqb m m refl
same_self (SpAt m) = eq-eqb m m refl
same_self Other = refl

-- a meeting is both, or Other
pub met_cases : (a b : Source) → ((a ≡ b) × (met_source a b ≡ a)) ⊎ (met_source a b ≡ Other)
met_cases a b = ⊎_elim
    (λ (e : same_source a b ≡ true). inl (same_true a b e, ap (λ t. cond t a Other) e))
    (λ (e : same_source a b ≡ false). inr (ap (λ t. cond t a Other) e))
    (cases_Bool (same_source a b))

pub met_left : (a b : Source) → IsVaguer a (met_source a b)
met_left a b = ⊎_elim (λ (w : (a ≡ b) × (met_source a b ≡ a)). inl (sym w.1)) (λ (e : met_source a b ≡ Other). inr e) (met_cases a b)

pub met_right : (a b : Source) → IsVaguer b (met_source a b)
met_right a b = ⊎_elim (λ (w : (a ≡ b) × (met_source a b ≡ a)). inl (sym w.0 ∙ sym w.1)) (λ (e : met_source a b ≡ Other). inr e) (met_cases a b)

pub met_self : (a : Source) → met_source a a ≡ a
met_self a = ap (λ t. cond t a Other) (same_self a)

pub met_least : (a b k : Source) → IsVaguer a k → IsVaguer b k → IsVaguer (met_source a b) k
met_least a b k x y = ⊎_elim
    (λ (e : a ≡ k). ⊎_elim
    (λ (f : b ≡ k). inl (ap (met_source a) (f ∙ sym e) ∙ met_self a ∙ e))
    (λ (f : k ≡ Other). inr f) y)
    (λ (e : k ≡ Other). inr e) x

pub met_at : (xs ys : List Source) (r : ℕ) → get_or (met_sources xs ys) r Other ≡ met_source (get_or xs r Other) (get_or ys r Other)
unfolding met_sources
met_at [] ys r = other_left (get_or ys r Other)
  where
    other_left : (y : Source) → Other ≡ met_source Other y
    other_left (Entry n) = refl
    other_left (SpAt n) = refl
    other_left Other = refl
met_at (x ∷ xs) [] zero = other_right x
  where
    other_right : (x : Source) → Other ≡ met_source x Other
    other_right (Entry n) = refl
    other_right (SpAt n) = refl
    other_right Other = refl
met_at (x ∷ xs) [] (suc r) = met_at xs [] r
met_at (x ∷ xs) (y ∷ ys) zero = refl
met_at (x ∷ xs) (y ∷ ys) (suc r) = met_at xs ys r

pub met_length : (xs ys : List Source) → length (met_sources xs ys) ≡ length xs
unfolding met_sources
met_length [] ys = refl
met_length (x ∷ xs) [] = ap suc (met_length xs [])
met_length (x ∷ xs) (y ∷ ys) = ap suc (met_length xs ys)

head_falls : (x m : Source) → (m ≡ x) ⊎ (m ≡ Other) → (m ≡ x) ⊎ (source_height m < source_height x)
head_falls x m (inl e) = inl e
head_falls (Entry n) m (inr e) = inr (subst (λ s. source_height s < 1) (sym e) (omega arith))
head_falls (SpAt n) m (inr e) = inr (subst (λ s. source_height s < 1) (sym e) (omega arith))
head_falls Other m (inr e) = inl e

two_fall : (x m : Source) (xs ms : List Source) → (m ≡ x) ⊎ (source_height m < source_height x) → (ms ≡ xs) ⊎ (sum_by source_height ms < sum_by source_height xs) → (m ∷ ms ≡ x ∷ xs) ⊎ (sum_by source_height (m ∷ ms) < sum_by source_height (x ∷ xs))
two_fall x m xs ms (inl e) (inl f) = inl (ap (λ s. s ∷ ms) e ∙ ap (λ l. x ∷ l) f)
two_fall x m xs ms (inl e) (inr f) = inr (omega (arith, sum_by-cons source_height m ms, sum_by-cons source_height x xs, ap source_height e, f))
two_fall x m xs ms (inr e) (inl f) = inr (omega (arith, sum_by-cons source_height m ms, sum_by-cons source_height x xs, ap (sum_by source_height) f, e))
two_fall x m xs ms (inr e) (inr f) = inr (omega (arith, sum_by-cons source_height m ms, sum_by-cons source_height x xs, e, f))

met_or_other : (a b : Source) → (met_source a b ≡ a) ⊎ (met_source a b ≡ Other)
met_or_other a b = ⊎_elim (λ (w : (a ≡ b) × (met_source a b ≡ a)). inl w.1) (λ (e : met_source a b ≡ Other). inr e) (met_cases a b)

pub met_falls : (xs ys : List Source) → (met_sources xs ys ≡ xs) ⊎ (sum_by source_height (met_sources xs ys) < sum_by source_height xs)
unfolding met_sources
met_falls [] ys = inl refl
met_falls (x ∷ xs) [] = two_fall x Other xs (met_sources xs []) (head_falls x Other (inr refl)) (met_falls xs [])
met_falls (x ∷ xs) (y ∷ ys) = two_fall x (met_source x y) xs (met_sources xs ys) (head_falls x (met_source x y) (met_or_other x y)) (met_falls xs ys)

-- at the end all is met
pub met_done : (r : ℕ) (xs ys all : List Source) → length xs ≤ r → take r xs ++ met_sources (drop r xs) (drop r ys) ≡ all → xs ≡ all
met_done r xs ys all l e = sym (met_all r xs ys l) ∙ e
