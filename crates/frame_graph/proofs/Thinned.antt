-- Edges that stand one after the other and are the same.
use Rattle.std.proofs.Common.{ℕ, ◌≡◌, ◌<◌, ◌≤◌, ◌+◌, ◌⊎◌, inl, inr, ◌↔◌, List, [], ◌∷◌, length, get_or, drop, drop-cons, add-one, sym, subst, refl, ⊎_elim, zero, suc, arith}
use Rattle.std.proofs.Math.ListN.{drop_of_length-le}
use Rattle.std.proofs.lemmas.List.Sorted.{Contains-permutation, IsPermutation-sym}
use Rattle.std.specs.List.{Contains}
use Rattle.std.specs.List.Sorted.{IsPermutation}
use Rattle.frame_graph.specs.declared.edges.Edge.{Edge}
use Rattle.frame_graph.specs.SiteCaching.{HaveSame}

first : (x : Edge) (xs : List Edge) → Contains (x ∷ xs) x
first x xs = (0, omega arith, refl)

after : (x y : Edge) (xs : List Edge) → Contains xs x → Contains (y ∷ xs) x
after x y xs h = (suc h.0, omega (arith, h.1), h.2)

either : (x y : Edge) (xs : List Edge) → Contains (y ∷ xs) x → (x ≡ y) ⊎ Contains xs x
either x y xs (zero, l, e) = inl (sym e)
either x y xs (suc k, l, e) = inr (k, omega (arith, l), e)

-- an edge more is looked at
pub thin_more : (thin more edges : List Edge) (i : ℕ) (d : Edge) → i < length edges → ((w : Edge) → Contains more w ↔ (Contains thin w ⊎ (w ≡ get_or edges i d)))
    → ((w : Edge) → (Contains thin w ⊎ Contains (drop i edges) w) ↔ Contains edges w) → (w : Edge) → (Contains more w ⊎ Contains (drop (i + 1) edges) w) ↔ Contains edges w
thin_more thin more edges i d l step before w =
    let x = get_or edges i d in
    let rest = drop (i + 1) edges in
    let cut : drop i edges ≡ x ∷ rest = rw (add-one) (drop-cons edges i d l) in
    let put : Contains (x ∷ rest) w → Contains (drop i edges) w = λ c. subst (λ (xs : List Edge). Contains xs w) (sym cut) c in
    let take : Contains (drop i edges) w → Contains (x ∷ rest) w = λ c. subst (λ (xs : List Edge). Contains xs w) cut c in (
      λ h. (before w).0 (⊎_elim
          (λ (m : Contains more w). ⊎_elim (λ (t : Contains thin w). inl t) (λ (e : w ≡ x). inr (put (subst (λ (y : Edge). Contains (x ∷ rest) y) (sym e) (first x rest)))) ((step w).0 m))
          (λ (r : Contains rest w). inr (put (after w x rest r)))
          h),
      λ h. ⊎_elim
          (λ (t : Contains thin w). inl ((step w).1 (inl t)))
          (λ (r : Contains (drop i edges) w). ⊎_elim (λ (e : w ≡ x). inl ((step w).1 (inr e))) (λ (t : Contains rest w). inr t) (either w x rest (take r)))
          ((before w).1 h),
    )

pub thin_over : (thin edges : List Edge) (i : ℕ) → length edges ≤ i → ((w : Edge) → (Contains thin w ⊎ Contains (drop i edges) w) ↔ Contains edges w) → HaveSame thin edges
thin_over thin edges i l h w = (
  λ c. (h w).0 (inl c),
  λ c. ⊎_elim (λ (t : Contains thin w). t) (λ (r : Contains (drop i edges) w). absurd (none w (subst (λ (xs : List Edge). Contains xs w) (drop_of_length-le edges l) r))) ((h w).1 c),
)
  where
    none : (w : Edge) → Contains [] w → ⊥
    none w h = omega (arith, h.1)

-- in another order
ordered : (xs ys : List Edge) → IsPermutation xs ys → HaveSame ys xs
ordered xs ys p w = (λ c. Contains-permutation ys xs w (IsPermutation-sym xs ys p) c, λ c. Contains-permutation xs ys w p c)

pub same_in_order : (edges thin sorted seen again : List Edge) → HaveSame thin edges → IsPermutation thin sorted → seen ≡ sorted → HaveSame again seen → HaveSame again edges
same_in_order edges thin sorted seen again same p e h w = (
  λ c. (same w).0 ((ordered thin sorted p w).0 (subst (λ (xs : List Edge). Contains xs w) e ((h w).0 c))),
  λ c. (h w).1 (subst (λ (xs : List Edge). Contains xs w) (sym e) ((ordered thin sorted p w).1 ((same w).1 c))),
)
