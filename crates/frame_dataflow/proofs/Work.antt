-- A work list: facts so far, places whose edges are to be followed, and edges of the place in hand.
use Rattle.std.proofs.Common.{ℕ, ◌≡◌, ◌<◌, ◌⊎◌, inl, inr, List, [], ◌∷◌, ◌++◌, length, Option, Some, None, sym, ◌∙◌, ap, subst, refl, ⊎_elim, arith, suc, zero, set}
use Rattle.std.proofs.lemmas.Bool.{cases_eq}
use Rattle.std.proofs.lemmas.Option.{same_Some, none-some}
use Rattle.std.proofs.lemmas.List.{get_or-set_same, get_or-set_other, length-set}
use Rattle.std.proofs.lemmas.List.Elements.{Contains-append_left, Contains-append_right, Contains-append_cases}
use Rattle.std.specs.List.{Contains}
use Rattle.frame_dataflow.specs.Flow.{Flow, IsState, along, fact_at, Passes, IsCovered, AreValid}
use Rattle.frame_dataflow.specs.Sound.{Rests, Sound}
use Rattle.frame_dataflow.specs.Laws.{Laws}

pub contains_none : {X : Type 0} (x : X) → Contains [] x → ⊥
contains_none x h = omega (arith, h.1)

pub contains_one : {X : Type 0} (x y : X) → Contains (y ∷ []) x → x ≡ y
contains_one x y (zero, l, e) = sym e
contains_one x y (suc k, l, e) = absurd (omega (arith, l))

pub contains_head : {X : Type 0} (x : X) (xs : List X) → Contains (x ∷ xs) x
contains_head x xs = (0, omega arith, refl)

pub contains_tail : {X : Type 0} (x y : X) (xs : List X) → Contains xs x → Contains (y ∷ xs) x
contains_tail x y xs h = (suc h.0, omega (arith, h.1), h.2)

pub contains_cons : {X : Type 0} (x y : X) (xs : List X) → Contains (y ∷ xs) x → (x ≡ y) ⊎ Contains xs x
contains_cons x y xs (zero, l, e) = inl (sym e)
contains_cons x y xs (suc k, l, e) = inr (k, omega (arith, l), e)

-- what a place held before and what was written there
abbrev pub old_or_new : {F : Type 0} (facts : List (Option F)) (q p : ℕ) (k f : F) → Type 0
old_or_new facts q p k f = ((p ≡ q) × (k ≡ f)) ⊎ ((p ≡ q → ⊥) × (fact_at facts p ≡ Some f))

pub written : {F : Type 0} (facts : List (Option F)) (q p : ℕ) (k f : F) → q < length facts → fact_at (set facts q (Some k)) p ≡ Some f → old_or_new facts q p k f
written {F} facts q p k f l e = ⊎_elim
    (λ (same : p ≡ q). let e' : fact_at (set facts q (Some k)) q ≡ Some f = subst (λ x. fact_at (set facts q (Some k)) x ≡ Some f) same e in inl (same, same_Some k f (sym (get_or-set_same facts q (Some k) None l) ∙ e')))
    (λ (other : p ≡ q → ⊥). inr (other, sym (get_or-set_other facts q p (Some k) None other) ∙ e))
    (cases_eq p q)

module _ (F C : Type 0) (flow : Flow F C) (at_most : F → F → Type 0) (laws : Laws F C flow at_most) (n : ℕ) (inside : (p : ℕ) (f : F) (q : ℕ) (g : F) → Contains (flow.transfer p f) (q, g) → q < n) where
  -- what is covered stays so where a fact gets vaguer
  still : (facts : List (Option F)) (q : ℕ) (k : F) → q < length facts → ((h : F) → fact_at facts q ≡ Some h → at_most h k) → (p : ℕ) (g : F) → IsCovered at_most facts p g → IsCovered at_most (set facts q (Some k)) p g
  still facts q k l vaguer p g c = ⊎_elim
      (λ (same : p ≡ q). (k, subst (λ x. fact_at (set facts q (Some k)) x ≡ Some k) (sym same) (get_or-set_same facts q (Some k) None l), laws.via g c.0 k c.2 (vaguer c.0 (subst (λ x. fact_at facts x ≡ Some c.0) same c.1))))
      (λ (other : p ≡ q → ⊥). (c.0, get_or-set_other facts q p (Some k) None other ∙ c.1, c.2))
      (cases_eq p q)

  -- a fact that covers the edge in hand is written
  pub grow : (facts : List (Option F)) (work : List ℕ) (todo : List (ℕ × F)) (q : ℕ) (g k : F)
      → Sound F C flow at_most n facts work ((q, g) ∷ todo)
      → IsState F C flow q k → at_most g k → ((h : F) → fact_at facts q ≡ Some h → at_most h k)
      → Sound F C flow at_most n (set facts q (Some k)) (work ++ q ∷ []) todo
  grow facts work todo q g k s state covers vaguer =
      let l : q < length facts = omega (arith, s.long, (s.ahead q g (contains_head (q, g) todo)).1) in
      let more = λ (p : ℕ) (f : F) (c : IsCovered at_most facts p f). still facts q k l vaguer p f c in
      record {
        long = length-set facts q (Some k) ∙ s.long;
        states = λ p f e. ⊎_elim
            (λ (w : (p ≡ q) × (k ≡ f)). subst (λ x. IsState F C flow p x) w.1 (subst (λ x. IsState F C flow x k) (sym w.0) state))
            (λ (w : (p ≡ q → ⊥) × (fact_at facts p ≡ Some f)). s.states p f w.1)
            (written facts q p k f l e);
        ahead = λ p f h. s.ahead p f (contains_tail (p, f) (q, g) todo h);
        within = λ p h. ⊎_elim (λ (c : Contains work p). s.within p c) (λ (c : Contains (q ∷ []) p). subst (λ x. x < n) (sym (contains_one p q c)) (s.ahead q g (contains_head (q, g) todo)).1) (Contains-append_cases work (q ∷ []) p h);
        entry = more flow.entry flow.start s.entry;
        closed = λ p f e. ⊎_elim
            (λ (w : (p ≡ q) × (k ≡ f)). inl (subst (λ x. Contains (work ++ q ∷ []) x) (sym w.0) (Contains-append_right work (q ∷ []) q (contains_head q []))))
            (λ (w : (p ≡ q → ⊥) × (fact_at facts p ≡ Some f)). ⊎_elim
            (λ (c : Contains work p). inl (Contains-append_left work (q ∷ []) p c))
            (λ (r : Rests F C flow at_most facts ((q, g) ∷ todo) p f). inr (
              r.0,
              λ q' g' c. ⊎_elim
                  (λ (t : Contains ((q, g) ∷ todo) (q', g')). ⊎_elim
                  (λ (is : (q', g') ≡ (q, g)). inr (k, subst (λ x. fact_at (set facts q (Some k)) x ≡ Some k) (sym (ap (λ (x : ℕ × F). x.0) is)) (get_or-set_same facts q (Some k) None l), subst (λ x. at_most x k) (sym (ap (λ (x : ℕ × F). x.1) is)) covers))
                  (λ (t' : Contains todo (q', g')). inl t')
                  (contains_cons (q', g') (q, g) todo t))
                  (λ (t : IsCovered at_most facts q' g'). inr (more q' g' t))
                  (r.1 q' g' c),
            ))
            (s.closed p f w.1))
            (written facts q p k f l e);
      }

  -- the edge in hand is covered already
  pub keep : (facts : List (Option F)) (work : List ℕ) (todo : List (ℕ × F)) (q : ℕ) (g : F)
      → Sound F C flow at_most n facts work ((q, g) ∷ todo) → IsCovered at_most facts q g → Sound F C flow at_most n facts work todo
  keep facts work todo q g s covered = record {
    long = s.long;
    states = s.states;
    ahead = λ p f h. s.ahead p f (contains_tail (p, f) (q, g) todo h);
    within = s.within;
    entry = s.entry;
    closed = λ p f e. ⊎_elim
        (λ (c : Contains work p). inl c)
        (λ (r : Rests F C flow at_most facts ((q, g) ∷ todo) p f). inr (
          r.0,
          λ q' g' c. ⊎_elim
              (λ (t : Contains ((q, g) ∷ todo) (q', g')). ⊎_elim
              (λ (is : (q', g') ≡ (q, g)). inr (subst (λ (x : ℕ × F). IsCovered at_most facts x.0 x.1) (sym is) covered))
              (λ (t' : Contains todo (q', g')). inl t')
              (contains_cons (q', g') (q, g) todo t))
              (λ (t : IsCovered at_most facts q' g'). inr t)
              (r.1 q' g' c),
        ))
        (s.closed p f e);
  }

  -- the last place of the work list comes in hand
  pub take_up : (facts : List (Option F)) (work : List ℕ) (p : ℕ) (f : F)
      → Sound F C flow at_most n facts (work ++ p ∷ []) [] → fact_at facts p ≡ Some f → Passes flow p f → Sound F C flow at_most n facts work (flow.transfer p f)
  take_up facts work p f s is passes = record {
    long = s.long;
    states = s.states;
    ahead = λ q g h. (along (s.states p f is) h, inside p f q g h);
    within = λ q h. s.within q (Contains-append_left work (p ∷ []) q h);
    entry = s.entry;
    closed = λ p' f' e. ⊎_elim
        (λ (c : Contains (work ++ p ∷ []) p'). ⊎_elim
        (λ (c' : Contains work p'). inl c')
        (λ (c' : Contains (p ∷ []) p').
        let one : p' ≡ p = contains_one p' p c' in
        let fact : f ≡ f' = same_Some f f' (sym is ∙ subst (λ x. fact_at facts x ≡ Some f') one e) in
        inr (subst (λ (x : F). Rests F C flow at_most facts (flow.transfer p f) p' x) fact
        (subst (λ (x : ℕ). Rests F C flow at_most facts (flow.transfer p f) x f) (sym one) (passes, λ q g h. inl h))))
        (Contains-append_cases work (p ∷ []) p' c))
        (λ (r : Rests F C flow at_most facts [] p' f'). inr (
          r.0,
          λ q g h. ⊎_elim
              (λ (none : Contains [] (q, g)). absurd (contains_none (q, g) none))
              (λ (t : IsCovered at_most facts q g). inr t)
              (r.1 q g h),
        ))
        (s.closed p' f' e);
  }

  pub over : (facts : List (Option F)) → Sound F C flow at_most n facts [] [] → AreValid F C flow at_most facts
  over facts s = record {
    entry = s.entry;
    passes = λ p f e. ⊎_elim
        (λ (c : Contains [] p). absurd (contains_none p c))
        (λ (r : Rests F C flow at_most facts [] p f). r.0)
        (s.closed p f e);
    closed = λ p f q g e h. ⊎_elim
        (λ (c : Contains [] p). absurd (contains_none p c))
        (λ (r : Rests F C flow at_most facts [] p f). ⊎_elim
        (λ (none : Contains [] (q, g)). absurd (contains_none (q, g) none))
        (λ (t : IsCovered at_most facts q g). t)
        (r.1 q g h))
        (s.closed p f e);
  }

  -- a place with no fact, which the work list does not hold
  pub unasked : (facts : List (Option F)) (work : List ℕ) (p : ℕ)
      → Sound F C flow at_most n facts (work ++ p ∷ []) [] → fact_at facts p ≡ None → Sound F C flow at_most n facts work []
  unasked facts work p s none = record {
    long = s.long;
    states = s.states;
    ahead = s.ahead;
    within = λ q h. s.within q (Contains-append_left work (p ∷ []) q h);
    entry = s.entry;
    closed = λ p' f' e. ⊎_elim
        (λ (c : Contains (work ++ p ∷ []) p'). ⊎_elim
        (λ (c' : Contains work p'). inl c')
        (λ (c' : Contains (p ∷ []) p'). absurd (none-some f' (sym none ∙ subst (λ x. fact_at facts x ≡ Some f') (contains_one p' p c') e)))
        (Contains-append_cases work (p ∷ []) p' c))
        (λ (r : Rests F C flow at_most facts [] p' f'). inr r)
        (s.closed p' f' e);
  }
