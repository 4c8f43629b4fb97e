-- Elements of lists, by recursion.
use Rattle.std.proofs.Common.{◌≡◌, ℕ, ◌<◌, ◌≤◌, zero, suc, List, [], ◌∷◌, ◌++◌, length, map, refl, arith, ◌∙◌, ap, sym, subst, inl, inr, Bool, true, false, cond, Some, None, ◌⊎◌}
use Rattle.std.specs.Prelude.{Contains, filter, find, slice_index_or, ◌&&◌}
use Rattle.std.specs.List.{flat_map, list_all, sum_by}
use Rattle.std.proofs.lemmas.List.Sums.{sum_by-cons}

abbrev pub Among : {X : Type 0} → List X → X → Type 0
Among [] x = ⊥
Among (y ∷ more) x = (y ≡ x) ⊎ Among more x

module _ {X : Type 0} where
  among_at : (xs : List X) (x : X) (k : ℕ) → k < length xs → slice_index_or xs k x ≡ x → Among xs x
  among_at [] x k h e = absurd (omega (arith, h))
  among_at (y ∷ ys) x zero h e = inl e
  among_at (y ∷ ys) x (suc k) h e = inr (among_at ys x k (omega (arith, h)) e)

  pub among_from : (xs : List X) (x : X) → Contains xs x → Among xs x
  among_from xs x h = among_at xs x h.0 h.1 h.2

  pub contains_from : (xs : List X) (x : X) → Among xs x → Contains xs x
  contains_from [] x h = absurd h
  contains_from (y ∷ ys) x (inl e) = (0, omega arith, e)
  contains_from (y ∷ ys) x (inr h) = let c = contains_from ys x h in let l = c.1 in (suc c.0, omega (arith, l), c.2)

  pub among_left : (xs ys : List X) (x : X) → Among xs x → Among (xs ++ ys) x
  among_left [] ys x h = absurd h
  among_left (z ∷ xs) ys x (inl e) = inl e
  among_left (z ∷ xs) ys x (inr h) = inr (among_left xs ys x h)

  pub among_right : (xs ys : List X) (x : X) → Among ys x → Among (xs ++ ys) x
  among_right [] ys x h = h
  among_right (z ∷ xs) ys x h = inr (among_right xs ys x h)

  pub among_either : (xs ys : List X) (x : X) → Among (xs ++ ys) x → Among xs x ⊎ Among ys x
  among_either [] ys x h = inr h
  among_either (z ∷ xs) ys x (inl e) = inl (inl e)
  among_either (z ∷ xs) ys x (inr h) = elim (among_either xs ys x h) [ inl a ↦ inl (inr a) | inr b ↦ inr b ]

  -- filters
  pub among_filter : (p : X → Bool) (xs : List X) (x : X) → Among xs x → p x ≡ true → Among (filter p xs) x
  among_filter p [] x h e = absurd h
  among_filter p (y ∷ ys) x (inl q) e = let t : p y ≡ true = ap p q ∙ e in rw t (inl q)
  among_filter p (y ∷ ys) x (inr h) e = elim (p y) as (λ b. Among (cond b (y ∷ filter p ys) (filter p ys)) x) [ true ↦ inr (among_filter p ys x h e) | false ↦ among_filter p ys x h e ]

  among_kept : (b : Bool) (p : X → Bool) (y : X) (kept ys : List X) (x : X) → p y ≡ b → (Among kept x → Among ys x × (p x ≡ true)) → Among (cond b (y ∷ kept) kept) x → Among (y ∷ ys) x × (p x ≡ true)
  among_kept true p y kept ys x e more (inl q) = (inl q, sym (ap p q) ∙ e)
  among_kept true p y kept ys x e more (inr h) = let m = more h in (inr m.0, m.1)
  among_kept false p y kept ys x e more h = let m = more h in (inr m.0, m.1)

  pub among_filter_from : (p : X → Bool) (xs : List X) (x : X) → Among (filter p xs) x → Among xs x × (p x ≡ true)
  among_filter_from p [] x h = absurd h
  among_filter_from p (y ∷ ys) x h = among_kept (p y) p y (filter p ys) ys x refl (among_filter_from p ys x) h

  -- what a search finds
  pub find-none : (p : X → Bool) (xs : List X) → ((x : X) → Among xs x → p x ≡ false) → find p xs ≡ None
  find-none p [] h = refl
  find-none p (y ∷ ys) h = ap (λ b. cond b (Some y) (find p ys)) (h y (inl refl)) ∙ find-none p ys (λ x a. h x (inr a))

  found_if : (b : Bool) (p : X → Bool) (y : X) (ys : List X) (x : X) → p y ≡ b → Among ys x ⊎ (y ≡ x) → p x ≡ true → (Among ys x → (z : X) × (find p ys ≡ Some z)) → (z : X) × (cond b (Some y) (find p ys) ≡ Some z)
  found_if true p y ys x e a t more = (y, refl)
  found_if false p y ys x e (inl a) t more = more a
  found_if false p y ys x e (inr q) t more = absurd (cc (t, e, ap p q))

  pub found : (p : X → Bool) (xs : List X) (x : X) → Among xs x → p x ≡ true → (z : X) × (find p xs ≡ Some z)
  found p [] x h t = absurd h
  found p (y ∷ ys) x (inl q) t = found_if (p y) p y ys x refl (inr q) t (λ a. found p ys x a t)
  found p (y ∷ ys) x (inr h) t = found_if (p y) p y ys x refl (inl h) t (λ a. found p ys x a t)

  among_found_if : (b : Bool) (p : X → Bool) (y : X) (ys : List X) (z : X) → p y ≡ b → (find p ys ≡ Some z → Among ys z × (p z ≡ true)) → cond b (Some y) (find p ys) ≡ Some z → Among (y ∷ ys) z × (p z ≡ true)
  among_found_if true p y ys z e more q = let same : y ≡ z = cc in (inl same, sym (ap p same) ∙ e)
  among_found_if false p y ys z e more q = let m = more q in (inr m.0, m.1)

  pub among_found : (p : X → Bool) (xs : List X) (z : X) → find p xs ≡ Some z → Among xs z × (p z ≡ true)
  among_found p [] z h = absurd (cc h)
  among_found p (y ∷ ys) z h = among_found_if (p y) p y ys z refl (among_found p ys z) h

  -- a search in a filter is a search for both
  pub find-filter : (p q : X → Bool) (xs : List X) → find p (filter q xs) ≡ find (λ x. p x && q x) xs
  find-filter p q [] = refl
  find-filter p q (y ∷ ys) = elim (q y) as (λ b. find p (cond b (y ∷ filter q ys) (filter q ys)) ≡ cond (p y && b) (Some y) (find (λ x. p x && q x) ys)) [
    | true ↦ elim (p y) as (λ b. cond b (Some y) (find p (filter q ys)) ≡ cond (b && true) (Some y) (find (λ x. p x && q x) ys)) [ true ↦ refl | false ↦ find-filter p q ys ]
    | false ↦ elim (p y) as (λ b. find p (filter q ys) ≡ cond (b && false) (Some y) (find (λ x. p x && q x) ys)) [ true ↦ find-filter p q ys | false ↦ find-filter p q ys ]
  ]

  -- tests of all
  pub all_among : (p : X → Bool) (xs : List X) (x : X) → list_all p xs ≡ true → Among xs x → p x ≡ true
  all_among p [] x t h = absurd h
  all_among p (y ∷ ys) x t (inl e) = sym (ap p e) ∙ and_first (p y) (list_all p ys) t
    where
      and_first : (a b : Bool) → a && b ≡ true → a ≡ true
      and_first true b e = refl
      and_first false b e = e
  all_among p (y ∷ ys) x t (inr h) = all_among p ys x (and_second (p y) (list_all p ys) t) h
    where
      and_second : (a b : Bool) → a && b ≡ true → b ≡ true
      and_second true b e = e
      and_second false b e = absurd (cc e)

  pub all_from : (p : X → Bool) (xs : List X) → ((x : X) → Among xs x → p x ≡ true) → list_all p xs ≡ true
  all_from p [] h = refl
  all_from p (y ∷ ys) h = ap (λ b. b && list_all p ys) (h y (inl refl)) ∙ all_from p ys (λ x a. h x (inr a))

  pub sum_by-among : (f : X → ℕ) (xs : List X) (x : X) → Among xs x → f x ≤ sum_by f xs
  sum_by-among f [] x h = absurd h
  sum_by-among f (y ∷ ys) x (inl e) = omega (arith, sum_by-cons f y ys, ap f e)
  sum_by-among f (y ∷ ys) x (inr h) = omega (arith, sum_by-cons f y ys, sum_by-among f ys x h)

module _ {X Y : Type 0} where
  pub among_map : (f : X → Y) (xs : List X) (x : X) → Among xs x → Among (map f xs) (f x)
  among_map f [] x h = absurd h
  among_map f (y ∷ ys) x (inl e) = inl (ap f e)
  among_map f (y ∷ ys) x (inr h) = inr (among_map f ys x h)

  pub among_map_from : (f : X → Y) (xs : List X) (y : Y) → Among (map f xs) y → (x : X) × Among xs x × (f x ≡ y)
  among_map_from f [] y h = absurd h
  among_map_from f (x ∷ xs) y (inl e) = (x, inl refl, e)
  among_map_from f (x ∷ xs) y (inr h) = let m = among_map_from f xs y h in (m.0, inr m.1, m.2)

  pub among_flat_map : (f : X → List Y) (xs : List X) (x : X) (y : Y) → Among xs x → Among (f x) y → Among (flat_map f xs) y
  among_flat_map f [] x y h a = absurd h
  among_flat_map f (z ∷ xs) x y (inl e) a = among_left (f z) (flat_map f xs) y (let P : X → Type 0 = λ w. Among (f w) y in subst P (sym e) a)
  among_flat_map f (z ∷ xs) x y (inr h) a = among_right (f z) (flat_map f xs) y (among_flat_map f xs x y h a)

  pub among_flat_map_from : (f : X → List Y) (xs : List X) (y : Y) → Among (flat_map f xs) y → (x : X) × Among xs x × Among (f x) y
  among_flat_map_from f [] y h = absurd h
  among_flat_map_from f (z ∷ xs) y h = elim (among_either (f z) (flat_map f xs) y h) [
    | inl a ↦ (z, inl refl, a)
    | inr b ↦ let m = among_flat_map_from f xs y b in (m.0, inr m.1, m.2)
  ]
