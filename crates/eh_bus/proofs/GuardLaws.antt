-- A filter of guarded words by any test, as a release within one home is.
use Rattle.std.proofs.Common.{◌≡◌, ℕ, suc, ◌+◌, ◌≤◌, ◌⊎◌, inl, inr, ◌++◌, ap, Bool, true, false, ◌==◌, nat_lt, cond, List, [], ◌∷◌, filter, refl, sym, ◌∙◌, arith}
use Rattle.std.proofs.lemmas.Bool.{ltb-true, ltb-false, eqb-false, eqb-true, le-ltb, ne_eqb}
use Rattle.eh_bus.specs.Guards.{insert_sorted, insert_all, RiseFrom}
use Rattle.eh_bus.specs.Lists.{Has}
use Rattle.eh_bus.specs.Memory.{Memory, guard_all}

abbrev pub Rising : ℕ → List ℕ → Type 0
Rising low [] = Unit {0}
Rising low (g ∷ more) = (low ≤ g) × Rising (suc g) more

lower : (low high : ℕ) (gs : List ℕ) → low ≤ high → Rising high gs → Rising low gs
lower low high [] h r = tt
lower low high (g ∷ more) h r = (omega (arith, r.0), r.1)

filter_rising : (p : ℕ → Bool) (low : ℕ) (gs : List ℕ) → Rising low gs → Rising low (filter p gs)
filter_rising p low [] r = tt
filter_rising p low (g ∷ more) r = go (p g) (filter_rising p (suc g) more r.1)
  where
    go : (b : Bool) → Rising (suc g) (filter p more) → Rising low (cond b (g ∷ filter p more) (filter p more))
    go true q = (r.0, q)
    go false q = lower low (suc g) (filter p more) (omega (arith, r.0)) q

inserted_low : (b : ℕ) (gs : List ℕ) → Rising (suc b) gs → insert_sorted b gs ≡ b ∷ gs
inserted_low b [] r = refl
inserted_low b (g ∷ more) r = let h = r.0 in rw (le-ltb g b (omega arith), ne_eqb g b (λ e. absurd (omega arith)))

pub filter_inserted : (p : ℕ → Bool) (b low : ℕ) (gs : List ℕ) → Rising low gs → filter p (insert_sorted b gs) ≡ cond (p b) (insert_sorted b (filter p gs)) (filter p gs)
filter_inserted p b low [] r = refl
filter_inserted p b low (g ∷ more) r = go (nat_lt g b) refl (g == b) refl (p g) refl (p b) refl (filter_inserted p b (suc g) more r.1) (filter_rising p (suc g) more r.1)
  where
    go : (t : Bool) → nat_lt g b ≡ t → (u : Bool) → (g == b) ≡ u → (v : Bool) → p g ≡ v → (w : Bool) → p b ≡ w
        → filter p (insert_sorted b more) ≡ cond w (insert_sorted b (filter p more)) (filter p more) → Rising (suc g) (filter p more)
        → filter p (cond t (g ∷ insert_sorted b more) (cond u (g ∷ more) (b ∷ g ∷ more))) ≡ cond w (insert_sorted b (cond v (g ∷ filter p more) (filter p more))) (cond v (g ∷ filter p more) (filter p more))
    go true t u x true v true w e q = rw (v, t, e)
    go true t u x true v false w e q = rw (v, e)
    go true t u x false v true w e q = rw (v, e)
    go true t u x false v false w e q = rw (v, e)
    go false t true u true v true w e q = rw (v, t, u)
    go false t true u false v false w e q = rw v
    go false t true u true v false w e q = absurd (let f = rw (eqb-true g b u) at v in let h : true ≡ false = sym f ∙ w in cc)
    go false t true u false v true w e q = absurd (let f = rw (eqb-true g b u) at v in let h : false ≡ true = sym f ∙ w in cc)
    go false t false u true v true w e q = rw (w, v, t, u)
    go false t false u true v false w e q = rw (w, v)
    go false t false u false v true w e q =
        let a = ltb-false g b t in
        let n = eqb-false g b u in
        rw (w, v) (sym (inserted_low b (filter p more) (lower (suc b) (suc g) (filter p more) (above a n) q)))
      where
        above : b ≤ g → (g ≡ b → ⊥) → suc b ≤ suc g
        above a n = omega arith
    go false t false u false v false w e q = rw (w, v)

-- ---- rising lists as sets

pub rises : (low : ℕ) (gs : List ℕ) → RiseFrom low gs → Rising low gs
rises low [] r = tt
rises low (g ∷ more) r = (r.0, lower (suc g) (g + 4) more (omega arith) (rises (g + 4) more r.1.1))

pub has_above : (low : ℕ) (gs : List ℕ) (b : ℕ) → Rising low gs → Has gs b → low ≤ b
has_above low [] b r h = absurd h
has_above low (g ∷ more) b r (inl e) = rw (← e) r.0
has_above low (g ∷ more) b r (inr h) = let l = has_above (suc g) more b r.1 h in omega (arith, r.0)

-- lists that rise and have the same words are equal
pub same_rising : (low : ℕ) (xs ys : List ℕ) → Rising low xs → Rising low ys → ((g : ℕ) → Has xs g → Has ys g) → ((g : ℕ) → Has ys g → Has xs g) → xs ≡ ys
same_rising low [] [] r s p q = refl
same_rising low [] (y ∷ ys) r s p q = absurd (q y (inl refl))
same_rising low (x ∷ xs) [] r s p q = absurd (p x (inl refl))
same_rising low (x ∷ xs) (y ∷ ys) r s p q = join first (same_rising (suc x) xs ys r.1 (rw first s.1) forth back)
  where
    join : x ≡ y → xs ≡ ys → x ∷ xs ≡ y ∷ ys
    join e f = cc

    equal : (y ≡ x) ⊎ Has ys x → (x ≡ y) ⊎ Has xs y → x ≡ y
    equal (inl e) h = sym e
    equal (inr g) (inl e) = e
    equal (inr g) (inr h) =
        let l = has_above (suc y) ys x s.1 g in
        let m = has_above (suc x) xs y r.1 h in
        absurd (omega arith)

    first : x ≡ y
    first = equal (p x (inl refl)) (q y (inl refl))

    forth : (g : ℕ) → Has xs g → Has ys g
    forth g h = go (p g (inr h))
      where
        go : (y ≡ g) ⊎ Has ys g → Has ys g
        go (inl e) = let l = has_above (suc x) xs g r.1 h in absurd (omega (arith, first))
        go (inr k) = k

    back : (g : ℕ) → Has ys g → Has xs g
    back g h = go (q g (inr h))
      where
        go : (x ≡ g) ⊎ Has xs g → Has xs g
        go (inl e) = let l = has_above (suc y) ys g s.1 h in absurd (omega (arith, first))
        go (inr k) = k

pub inserted_rising : (low a : ℕ) (gs : List ℕ) → low ≤ a → Rising low gs → Rising low (insert_sorted a gs)
inserted_rising low a [] h r = (h, tt)
inserted_rising low a (g ∷ more) h r = go (nat_lt g a) refl (g == a) refl (inserted_rising (suc g) a more)
  where
    go : (t : Bool) → nat_lt g a ≡ t → (u : Bool) → (g == a) ≡ u → (suc g ≤ a → Rising (suc g) more → Rising (suc g) (insert_sorted a more))
        → Rising low (cond t (g ∷ insert_sorted a more) (cond u (g ∷ more) (a ∷ g ∷ more)))
    go true t u x next = (r.0, next (let o = ltb-true g a t in omega arith) r.1)
    go false t true u next = r
    go false t false u next = let o = ltb-false g a t in let n = eqb-false g a u in (h, (omega (arith, n, o), r.1))

pub in_inserted : (a : ℕ) (gs : List ℕ) → Has (insert_sorted a gs) a
in_inserted a [] = inl refl
in_inserted a (g ∷ more) = go (nat_lt g a) (g == a) refl (in_inserted a more)
  where
    go : (t u : Bool) → (g == a) ≡ u → Has (insert_sorted a more) a → Has (cond t (g ∷ insert_sorted a more) (cond u (g ∷ more) (a ∷ g ∷ more))) a
    go true u e h = inr h
    go false true e h = inl (eqb-true g a e)
    go false false e h = inl refl

pub still_inserted : (a b : ℕ) (gs : List ℕ) → Has gs b → Has (insert_sorted a gs) b
still_inserted a b [] h = absurd h
still_inserted a b (g ∷ more) h = go (nat_lt g a) (g == a) h (still_inserted a b more)
  where
    go : (t u : Bool) → (g ≡ b) ⊎ Has more b → (Has more b → Has (insert_sorted a more) b) → Has (cond t (g ∷ insert_sorted a more) (cond u (g ∷ more) (a ∷ g ∷ more))) b
    go true u (inl e) next = inl e
    go true u (inr h) next = inr (next h)
    go false true h next = h
    go false false h next = inr h

pub has_inserted : (a b : ℕ) (gs : List ℕ) → Has (insert_sorted a gs) b → (a ≡ b) ⊎ Has gs b
has_inserted a b [] h = h
has_inserted a b (g ∷ more) h = go (nat_lt g a) (g == a) h (has_inserted a b more)
  where
    go : (t u : Bool) → Has (cond t (g ∷ insert_sorted a more) (cond u (g ∷ more) (a ∷ g ∷ more))) b → (Has (insert_sorted a more) b → (a ≡ b) ⊎ Has more b) → (a ≡ b) ⊎ ((g ≡ b) ⊎ Has more b)
    go true u (inl e) next = inr (inl e)
    go true u (inr h) next = out (next h)
      where
        out : (a ≡ b) ⊎ Has more b → (a ≡ b) ⊎ ((g ≡ b) ⊎ Has more b)
        out (inl e) = inl e
        out (inr k) = inr (inr k)
    go false true h next = inr h
    go false false h next = h

-- guarding twice is guarding once
pub inserted_present : (low a : ℕ) (gs : List ℕ) → low ≤ a → Rising low gs → Has gs a → insert_sorted a gs ≡ gs
inserted_present low a gs l r h = same_rising low (insert_sorted a gs) gs (inserted_rising low a gs l r) r (λ g k. go g (has_inserted a g gs k)) (λ g k. still_inserted a g gs k)
  where
    go : (g : ℕ) → (a ≡ g) ⊎ Has gs g → Has gs g
    go g (inl e) = rw (← e) h
    go g (inr k) = k

-- the order in which words are guarded doesn't matter
pub inserted_swap : (low a b : ℕ) (gs : List ℕ) → low ≤ a → low ≤ b → Rising low gs → insert_sorted a (insert_sorted b gs) ≡ insert_sorted b (insert_sorted a gs)
inserted_swap low a b gs l m r = same_rising low _ _ (inserted_rising low a _ l (inserted_rising low b gs m r)) (inserted_rising low b _ m (inserted_rising low a gs l r)) (over a b) (over b a)
  where
    over : (a b g : ℕ) → Has (insert_sorted a (insert_sorted b gs)) g → Has (insert_sorted b (insert_sorted a gs)) g
    over a b g h = outer (has_inserted a g (insert_sorted b gs) h)
      where
        inner : (b ≡ g) ⊎ Has gs g → Has (insert_sorted b (insert_sorted a gs)) g
        inner (inl e) = rw (← e) (in_inserted b (insert_sorted a gs))
        inner (inr k) = still_inserted b g (insert_sorted a gs) (still_inserted a g gs k)

        outer : (a ≡ g) ⊎ Has (insert_sorted b gs) g → Has (insert_sorted b (insert_sorted a gs)) g
        outer (inl e) = rw (← e) (still_inserted b a (insert_sorted a gs) (in_inserted a gs))
        outer (inr k) = inner (has_inserted b g gs k)

pub has_filter : (p : ℕ → Bool) (gs : List ℕ) (b : ℕ) → Has (filter p gs) b → Has gs b × (p b ≡ true)
has_filter p [] b h = absurd h
has_filter p (g ∷ more) b h = go (p g) refl h (has_filter p more b)
  where
    go : (t : Bool) → p g ≡ t → Has (cond t (g ∷ filter p more) (filter p more)) b → (Has (filter p more) b → Has more b × (p b ≡ true)) → ((g ≡ b) ⊎ Has more b) × (p b ≡ true)
    go true t (inl e) next = (inl e, rw (← e) t)
    go true t (inr h) next = let n = next h in (inr n.0, n.1)
    go false t h next = let n = next h in (inr n.0, n.1)

pub in_filter : (p : ℕ → Bool) (gs : List ℕ) (b : ℕ) → Has gs b → p b ≡ true → Has (filter p gs) b
in_filter p [] b h e = absurd h
in_filter p (g ∷ more) b h e = go (p g) refl h (λ k. in_filter p more b k e)
  where
    go : (t : Bool) → p g ≡ t → (g ≡ b) ⊎ Has more b → (Has more b → Has (filter p more) b) → Has (cond t (g ∷ filter p more) (filter p more)) b
    go true t (inl f) next = inl f
    go true t (inr k) next = inr (next k)
    go false t (inl f) next = absurd (let g : p g ≡ true = rw f e in let h : false ≡ true = sym t ∙ g in cc)
    go false t (inr k) next = next k

-- ---- words guarded together

pub guard_all-is : (words : List ℕ) (m : Memory) → guard_all words m ≡ record m { guards = insert_all words m.guards }
guard_all-is [] m = refl
guard_all-is (a ∷ more) m = rw (guard_all-is more m) refl

pub insert_append : (xs ys gs : List ℕ) → insert_all (xs ++ ys) gs ≡ insert_all xs (insert_all ys gs)
insert_append [] ys gs = refl
insert_append (x ∷ xs) ys gs = ap (insert_sorted x) (insert_append xs ys gs)
