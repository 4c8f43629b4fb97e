-- The work list ends, in valid facts or at a cause that stands.
use Rattle.std.proofs.Common.{ℕ, ◌≡◌, ◌<◌, ◌⊎◌, inl, inr, List, [], ◌∷◌, ◌++◌, length, true, Option, Some, None, sym, ◌∙◌, ap, subst, refl, ⊎_elim, arith, suc, zero, set, replicate}
use Rattle.std.proofs.lemmas.Option.{same_Some, none-some}
use Rattle.std.proofs.lemmas.List.{get_or-set_same, length-set, length_push, length-replicate}
use Rattle.std.proofs.lemmas.List.Sums.{sum_by-set}
use Rattle.std.specs.List.{Contains}
use Rattle.frame_dataflow.specs.Flow.{Flow, IsState, at_entry, meeting, IsShownAt, met, apart, fact_at, Passes, AreValid, AreStates}
use Rattle.frame_dataflow.specs.Laws.{Laws, Falls, IsFinite, HasValidFacts, NoneStands, Decides, SolvingGivesStates}
use Rattle.frame_dataflow.proofs.Law.{none_stand}
use Rattle.frame_dataflow.specs.Sound.{Sound, weigh, weight}
use Rattle.frame_dataflow.proofs.Work.{written, contains_head, contains_one, contains_none, grow, keep, take_up, unasked, over}

pub lighter : {F : Type 0} (height : F → ℕ) (top : ℕ) (facts : List (Option F)) (work : List ℕ) (q : ℕ) (k : F) → q < length facts
    → height k < weigh height top (fact_at facts q) → weight height top (set facts q (Some k)) (work ++ q ∷ []) < weight height top facts work
unfolding weight
lighter height top facts work q k l h = omega (arith, sum_by-set (weigh height top) facts q (Some k) None l, length_push work q)

pub popped : {F : Type 0} (height : F → ℕ) (top : ℕ) (facts : List (Option F)) (work : List ℕ) (p : ℕ) → weight height top facts work < weight height top facts (work ++ p ∷ [])
unfolding weight
popped height top facts work p = omega (arith, length_push work p)

last_of : (xs : List ℕ) → (xs ≡ []) ⊎ ((ys : List ℕ) × (y : ℕ) × (xs ≡ ys ++ y ∷ []))
last_of [] = inl refl
last_of (x ∷ xs) = inr (⊎_elim
    (λ (e : xs ≡ []). ([], x, ap (λ l. x ∷ l) e))
    (λ (w : (ys : List ℕ) × (y : ℕ) × (xs ≡ ys ++ y ∷ [])). (x ∷ w.0, w.1, ap (λ l. x ∷ l) w.2))
    (last_of xs))

some_or_none : {X : Type 0} (o : Option X) → (o ≡ None) ⊎ ((x : X) × (o ≡ Some x))
some_or_none None = inl refl
some_or_none (Some x) = inr (x, refl)

abbrev pub nothing : (F : Type 0) → Option F
nothing F = None

pub blank : {F : Type 0} (n p : ℕ) → fact_at (replicate n (nothing F)) p ≡ None
blank zero p = refl
blank (suc n) zero = refl
blank (suc n) (suc p) = blank n p

module _ (F C : Type 0) (flow : Flow F C) (at_most : F → F → Type 0) (laws : Laws F C flow at_most) (n : ℕ) (inside : (p : ℕ) (f : F) (q : ℕ) (g : F) → Contains (flow.transfer p f) (q, g) → q < n)
    (height : F → ℕ) (top : ℕ) (falls : Falls F C flow height top) where
  -- no place has a fact yet
  pub starts : (facts : List (Option F)) → length facts ≡ n → ((p : ℕ) → fact_at facts p ≡ None) → flow.entry < n
      → Sound F C flow at_most n (set facts flow.entry (Some flow.start)) (flow.entry ∷ []) []
  starts facts long none l = let l' : flow.entry < length facts = omega arith in record {
    long = length-set facts flow.entry (Some flow.start) ∙ long;
    states = λ p f e. ⊎_elim
        (λ (w : (p ≡ flow.entry) × (flow.start ≡ f)). subst (λ x. IsState F C flow p x) w.1 (subst (λ x. IsState F C flow x flow.start) (sym w.0) at_entry))
        (λ (w : (p ≡ flow.entry → ⊥) × (fact_at facts p ≡ Some f)). absurd (none-some f (sym (none p) ∙ w.1)))
        (written facts flow.entry p flow.start f l' e);
    ahead = λ q g h. absurd (contains_none (q, g) h);
    within = λ p h. subst (λ x. x < n) (sym (contains_one p flow.entry h)) l;
    entry = (flow.start, get_or-set_same facts flow.entry (Some flow.start) None l', laws.same flow.start);
    closed = λ p f e. ⊎_elim
        (λ (w : (p ≡ flow.entry) × (flow.start ≡ f)). inl (subst (λ x. Contains (flow.entry ∷ []) x) (sym w.0) (contains_head flow.entry [])))
        (λ (w : (p ≡ flow.entry → ⊥) × (fact_at facts p ≡ Some f)). absurd (none-some f (sym (none p) ∙ w.1)))
        (written facts flow.entry p flow.start f l' e);
  }

  pub merge_new : (facts : List (Option F)) (work : List ℕ) (todo : List (ℕ × F)) (q : ℕ) (g : F)
      → Sound F C flow at_most n facts work ((q, g) ∷ todo) → fact_at facts q ≡ None
      → Sound F C flow at_most n (set facts q (Some g)) (work ++ q ∷ []) todo × (weight height top (set facts q (Some g)) (work ++ q ∷ []) < weight height top facts work)
  merge_new facts work todo q g s none =
      let a = s.ahead q g (contains_head (q, g) todo) in
      let l : q < length facts = omega (arith, s.long, a.1) in (
        grow F C flow at_most laws n inside facts work todo q g g s a.0 (laws.same g) (λ h e. absurd (none-some h (sym none ∙ e))),
        lighter height top facts work q g l (subst (λ o. height g < weigh height top o) (sym none) (falls.low q g a.0)),
      )

  pub merge_vaguer : (facts : List (Option F)) (work : List ℕ) (todo : List (ℕ × F)) (q : ℕ) (g h k : F)
      → Sound F C flow at_most n facts work ((q, g) ∷ todo) → fact_at facts q ≡ Some h → flow.join h g ≡ Some k → height k < height h
      → Sound F C flow at_most n (set facts q (Some k)) (work ++ q ∷ []) todo × (weight height top (set facts q (Some k)) (work ++ q ∷ []) < weight height top facts work)
  merge_vaguer facts work todo q g h k s is e less =
      let a = s.ahead q g (contains_head (q, g) todo) in
      let l : q < length facts = omega (arith, s.long, a.1) in (
        grow F C flow at_most laws n inside facts work todo q g k s (meeting (s.states q h is) a.0 e) (laws.right q h g k (s.states q h is) a.0 e)
            (λ h' e'. subst (λ x. at_most x k) (same_Some h h' (sym is ∙ e')) (laws.left h g k e)),
        lighter height top facts work q k l (subst (λ o. height k < weigh height top o) (sym is) less),
      )

  pub merge_same : (facts : List (Option F)) (work : List ℕ) (todo : List (ℕ × F)) (q : ℕ) (g h k : F)
      → Sound F C flow at_most n facts work ((q, g) ∷ todo) → fact_at facts q ≡ Some h → flow.join h g ≡ Some k → k ≡ h
      → Sound F C flow at_most n facts work todo
  merge_same facts work todo q g h k s is e one =
      keep F C flow at_most laws n inside facts work todo q g s (h, is, subst (λ x. at_most g x) one (laws.right q h g k (s.states q h is) (s.ahead q g (contains_head (q, g) todo)).0 e))

  pub merge_apart : (facts : List (Option F)) (work : List ℕ) (todo : List (ℕ × F)) (q : ℕ) (g h : F) (c : C)
      → Sound F C flow at_most n facts work ((q, g) ∷ todo) → fact_at facts q ≡ Some h → flow.join h g ≡ None → flow.parted q c ≡ true → IsShownAt F C flow q c
  merge_apart facts work todo q g h c s is e m = apart (s.states q h is) (s.ahead q g (contains_head (q, g) todo)).0 e m

  pub refused : (facts : List (Option F)) (work : List ℕ) (todo : List (ℕ × F)) (p : ℕ) (f : F) (c : C)
      → Sound F C flow at_most n facts work todo → fact_at facts p ≡ Some f → flow.meets c p f ≡ true → IsShownAt F C flow p c
  refused facts work todo p f c s is m = met (s.states p f is) m

  abbrev pub Outcome : Type 0
  Outcome = ((facts : List (Option F)) × AreValid F C flow at_most facts × AreStates F C flow facts) ⊎ ((p : ℕ) × (c : C) × IsShownAt F C flow p c)

  module _ (first : ℕ → F → Option C) (first_met : (p : ℕ) (f : F) (c : C) → first p f ≡ Some c → flow.meets c p f ≡ true) (first_none : (p : ℕ) (f : F) → first p f ≡ None → Passes flow p f) (named : ℕ → C) (named_is : (q : ℕ) → flow.parted q (named q) ≡ true) where
    follow : (fuel : ℕ) (rest : (facts : List (Option F)) (work : List ℕ) → Sound F C flow at_most n facts work [] → weight height top facts work < fuel → Outcome)
        (todo : List (ℕ × F)) (facts : List (Option F)) (work : List ℕ) → Sound F C flow at_most n facts work todo → weight height top facts work < fuel → Outcome
    follow fuel rest [] facts work s l = rest facts work s l
    follow fuel rest ((q, g) ∷ todo) facts work s l = ⊎_elim
        (λ (none : fact_at facts q ≡ None). let m = merge_new facts work todo q g s none in follow fuel rest todo (set facts q (Some g)) (work ++ q ∷ []) m.0 (omega (arith, m.1)))
        (λ (some : (h : F) × (fact_at facts q ≡ Some h)). ⊎_elim
        (λ (none : flow.join some.0 g ≡ None). inr (q, named q, merge_apart facts work todo q g some.0 (named q) s some.1 none (named_is q)))
        (λ (k : (k : F) × (flow.join some.0 g ≡ Some k)). ⊎_elim
        (λ (same : k.0 ≡ some.0). follow fuel rest todo facts work (merge_same facts work todo q g some.0 k.0 s some.1 k.1 same) l)
        (λ (less : height k.0 < height some.0). let m = merge_vaguer facts work todo q g some.0 k.0 s some.1 k.1 less in follow fuel rest todo (set facts q (Some k.0)) (work ++ q ∷ []) m.0 (omega (arith, m.1)))
        (falls.falls some.0 g k.0 k.1))
        (some_or_none (flow.join some.0 g)))
        (some_or_none (fact_at facts q))

    solve : (fuel : ℕ) (facts : List (Option F)) (work : List ℕ) → Sound F C flow at_most n facts work [] → weight height top facts work < fuel → Outcome
    solve zero facts work s l = absurd (omega (arith, l))
    solve (suc fuel) facts work s l = ⊎_elim
        (λ (e : work ≡ []). inl (facts, over F C flow at_most laws n inside facts (subst (λ w. Sound F C flow at_most n facts w []) e s), s.states))
        (λ (w : (ys : List ℕ) × (y : ℕ) × (work ≡ ys ++ y ∷ [])).
        let s' = subst (λ w. Sound F C flow at_most n facts w []) w.2 s in
        let l' : weight height top facts w.0 < fuel = omega (arith, popped height top facts w.0 w.1, subst (λ v. weight height top facts v < suc fuel) w.2 l) in
        ⊎_elim
        (λ (none : fact_at facts w.1 ≡ None). solve fuel facts w.0 (unasked F C flow at_most laws n inside facts w.0 w.1 s' none) l')
        (λ (some : (h : F) × (fact_at facts w.1 ≡ Some h)). ⊎_elim
        (λ (fine : first w.1 some.0 ≡ None). follow fuel (solve fuel) (flow.transfer w.1 some.0) facts w.0 (take_up F C flow at_most laws n inside facts w.0 w.1 some.0 s' some.1 (first_none w.1 some.0 fine)) l')
        (λ (c : (c : C) × (first w.1 some.0 ≡ Some c)). inr (w.1, c.0, refused facts (w.0 ++ w.1 ∷ []) [] w.1 some.0 c.0 s' some.1 (first_met w.1 some.0 c.0 c.1)))
        (some_or_none (first w.1 some.0)))
        (some_or_none (fact_at facts w.1)))
        (last_of work)

    -- valid facts, or a cause that stands: no third case
    pub either : flow.entry < n → Outcome
    either l =
        let facts = set (replicate n (nothing F)) flow.entry (Some flow.start) in
        solve (suc (weight height top facts (flow.entry ∷ []))) facts (flow.entry ∷ []) (starts (replicate n (nothing F)) (length-replicate n (nothing F)) (blank n) l) (omega arith)

-- the search from the entry on, with what a finite flow has
solved : (F C : Type 0) (flow : Flow F C) (at_most : F → F → Type 0) (laws : Laws F C flow at_most) (finite : IsFinite F C flow) → Outcome F C flow at_most laws finite.count finite.inside finite.height finite.top finite.falls
solved F C flow at_most laws finite =
    either F C flow at_most laws finite.count finite.inside finite.height finite.top finite.falls finite.first finite.first_met finite.first_none finite.named finite.named_is finite.begins

-- valid facts exist exactly where no cause stands
pub decides : (F C : Type 0) (at_most : F → F → Type 0) → Decides F C at_most
decides F C at_most flow laws finite =
    let outcome : HasValidFacts F C flow at_most ⊎ ((p : ℕ) × (c : C) × IsShownAt F C flow p c) = ⊎_elim
    (λ (v : (facts : List (Option F)) × AreValid F C flow at_most facts × AreStates F C flow facts). inl (v.0, v.1))
    (λ (w : (p : ℕ) × (c : C) × IsShownAt F C flow p c). inr w)
    (solved F C flow at_most laws finite) in (
      outcome,
      (
        λ (v : HasValidFacts F C flow at_most). λ p c s. none_stand F C flow at_most laws v.0 v.1 p c s,
        λ (none : NoneStands F C flow). ⊎_elim
            (λ (v : HasValidFacts F C flow at_most). v)
            (λ (w : (p : ℕ) × (c : C) × IsShownAt F C flow p c). absurd (none w.0 w.1 w.2))
            outcome,
      ),
    )

-- and then there are some that are states
pub solves : (F C : Type 0) (at_most : F → F → Type 0) → SolvingGivesStates F C at_most
solves F C at_most flow laws finite none = ⊎_elim
    (λ (v : (facts : List (Option F)) × AreValid F C flow at_most facts × AreStates F C flow facts). v)
    (λ (w : (p : ℕ) × (c : C) × IsShownAt F C flow p c). absurd (none w.0 w.1 w.2))
    (solved F C flow at_most laws finite)
