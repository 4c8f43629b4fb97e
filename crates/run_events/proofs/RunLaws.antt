-- Laws of runs.
use Rattle.std.specs.Prelude.{MatchOption, IsSome, IsNone, option_map}
use Rattle.std.proofs.Common.{◌≡◌, ℕ, zero, suc, ◌+◌, ◌<◌, ◌-◌, List, [], ◌∷◌, ◌++◌, Option, Some, None, refl, sym, ap, ◌∙◌, arith, append_assoc, append-nil, zero-add}
use Rattle.run_events.specs.Runs.{Event, Goes, Ends, Ran, ReachedState, prepend, run_after, run, reach_state, reach_after, prepend_reached}
use Rattle.run_events.specs.Laws.{Stops, AllGo, Spent, IsNoEnd, with_more_budget, Alike, EventsAlike, SameRan, run_budgets, AllSame, RunAlike}

pub prepend-prepend : {S E : Type 0} (xs ys : List ℕ) (r : Ran S E) → prepend xs (prepend ys r) ≡ prepend (xs ++ ys) r
prepend-prepend xs ys r = simp append_assoc

match_map : {A : Type 0} (f : A → A) (o : Option A) (P P' : Type 0) (Q Q' : A → Type 0) → (P → P') → ((a : A) → Q a → Q' (f a))
    → MatchOption o P Q → MatchOption (option_map f o) P' Q'
match_map f None P P' Q Q' p q h = p h
match_map f (Some a) P P' Q Q' p q h = q a h

some_same : {A : Type 0} (a b : A) → Some a ≡ Some b → a ≡ b
some_same a b e = cc

none_of : {A : Type 0} (f : A → A) (o : Option A) → option_map f o ≡ None → o ≡ None
none_of f None e = refl
none_of f (Some a) e = absurd (let no : Some (f a) ≡ None = e in cc)

some_of : {A : Type 0} (f : A → A) (o : Option A) (b : A) → option_map f o ≡ Some b → (a : A) × (o ≡ Some a) × (f a ≡ b)
some_of f None b e = absurd (let no : None ≡ Some b = e in cc)
some_of f (Some a) b e = (a, refl, cc)

module _ (S E : Type 0) (event : S → List ℕ → Event S E) (spent : E) where
  pub run-suc : (n : ℕ) (state : S) (input : List ℕ) → run event spent (suc n) state input ≡ run_after (event state input) (run event spent n) n input
  unfolding run
  run-suc n state input = refl

  pub run-zero : (state : S) (input : List ℕ) → run event spent 0 state input ≡ record { text = []; end = spent; state = state; left = input; spare = 0 }
  unfolding run
  run-zero state input = refl

  -- the first event of a run that has some left
  pub run-turn : (n : ℕ) (state : S) (input : List ℕ) → 0 < n → run event spent n state input ≡ run_after (event state input) (run event spent (n - 1)) (n - 1) input
  run-turn zero state input h = absurd (omega arith)
  run-turn (suc n) state input h = let e : suc n - 1 ≡ n = omega arith in rw e (run-suc n state input)

module _ (S E : Type 0) (event : S → List ℕ → Event S E) where
  pub reached-suc : (n : ℕ) (state : S) (input : List ℕ) → reach_state event (suc n) state input ≡ reach_after (event state input) (reach_state event n)
  unfolding reach_state
  reached-suc n state input = refl

  pub reached-zero : (state : S) (input : List ℕ) → reach_state event 0 state input ≡ Some (record { text = []; state = state; left = input })
  unfolding reach_state
  reached-zero state input = refl

  -- one event more, after those that went
  pub reached-more : (n : ℕ) (state : S) (input more left : List ℕ) (state' : S) (r : ReachedState S)
      → reach_state event n state input ≡ Some r → event r.state r.left ≡ Goes state' more left
      → reach_state event (suc n) state input ≡ Some (record { text = r.text ++ more; state = state'; left = left })
  reached-more zero state input more left state' r h e =
      let same = some_same _ _ (sym (reached-zero state input) ∙ h) in
      go (event state input) refl same e
    where
      go : (v : Event S E) → event state input ≡ v → record { text = []; state = state; left = input } ≡ r → event r.state r.left ≡ Goes state' more left
          → reach_state event 1 state input ≡ Some (record { text = r.text ++ more; state = state'; left = left })
      go v is same e =
          let here : event state input ≡ Goes state' more left = ap (λ (q : ReachedState S). event q.state q.left) same ∙ e in
          reached-suc 0 state input ∙ ap (λ v. reach_after v (reach_state event 0)) here
          ∙ ap (option_map (prepend_reached more)) (reached-zero state' left)
          ∙ ap (λ text. Some (record { text = text; state = state'; left = left })) (append-nil more ∙ ap (λ (q : ReachedState S). q.text ++ more) same)
  reached-more (suc n) state input more left state' r h e =
      go (event state input) refl (reached-more n)
    where
      go : (v : Event S E) → event state input ≡ v
          → ((state : S) (input more left : List ℕ) (state' : S) (r : ReachedState S) → reach_state event n state input ≡ Some r → event r.state r.left ≡ Goes state' more left
          → reach_state event (suc n) state input ≡ Some (record { text = r.text ++ more; state = state'; left = left }))
          → reach_state event (suc (suc n)) state input ≡ Some (record { text = r.text ++ more; state = state'; left = left })
      go (Ends end new) is rest = absurd (let no = sym (ap (λ v. reach_after v (reach_state event n)) is) ∙ sym (reached-suc n state input) ∙ h in cc)
      go (Goes s1 t1 l1) is rest =
          let p = some_of (prepend_reached t1) (reach_state event n s1 l1) r (sym (ap (λ v. reach_after v (reach_state event n)) is) ∙ sym (reached-suc n state input) ∙ h) in
          let q : ReachedState S = p.0 in
          let next = rest s1 l1 more left state' q p.1 (ap (λ (x : ReachedState S). event x.state x.left) p.2 ∙ e) in
          reached-suc (suc n) state input ∙ ap (λ v. reach_after v (reach_state event (suc n))) is
          ∙ ap (option_map (prepend_reached t1)) next
          ∙ ap (λ text. Some (record { text = text; state = state'; left = left })) (sym (append_assoc t1 q.text more) ∙ ap (λ (x : ReachedState S). x.text ++ more) p.2)

  -- where an event ends a run, no more go
  pub stopped_short : (count n : ℕ) (state : S) (input : List ℕ) (r : ReachedState S) (end : E) (new : S) → count < n
      → reach_state event count state input ≡ Some r → event r.state r.left ≡ Ends end new → reach_state event n state input ≡ None
  stopped_short count zero state input r end new within went ends = absurd (omega arith)
  stopped_short zero (suc n) state input r end new within went ends =
      let same = some_same _ _ (sym (reached-zero state input) ∙ went) in
      let here : event state input ≡ Ends end new = ap (λ (q : ReachedState S). event q.state q.left) same ∙ ends in
      reached-suc n state input ∙ ap (λ v. reach_after v (reach_state event n)) here
  stopped_short (suc count) (suc n) state input r end new within went ends = go (event state input) refl (stopped_short count n)
    where
      go : (v : Event S E) → event state input ≡ v
          → ((state : S) (input : List ℕ) (r : ReachedState S) (end : E) (new : S) → count < n
          → reach_state event count state input ≡ Some r → event r.state r.left ≡ Ends end new → reach_state event n state input ≡ None)
          → reach_state event (suc n) state input ≡ None
      go (Ends end' new') is rest = reached-suc n state input ∙ ap (λ v. reach_after v (reach_state event n)) is
      go (Goes s1 t1 l1) is rest =
          let p = some_of (prepend_reached t1) (reach_state event count s1 l1) r (sym (ap (λ v. reach_after v (reach_state event count)) is) ∙ sym (reached-suc count state input) ∙ went) in
          let q : ReachedState S = p.0 in
          let none = rest s1 l1 q end new (omega arith) p.1 (ap (λ (x : ReachedState S). event x.state x.left) p.2 ∙ ends) in
          reached-suc n state input ∙ ap (λ v. reach_after v (reach_state event n)) is ∙ ap (option_map (prepend_reached t1)) none

module _ (S E : Type 0) (event : S → List ℕ → Event S E) (spent : E) where
  pub splits : (n m : ℕ) (state : S) (input : List ℕ)
      → MatchOption (reach_state event n state input)
      (run event spent (n + m) state input ≡ with_more_budget m (run event spent n state input))
      (λ (r : ReachedState S). run event spent (n + m) state input ≡ prepend r.text (run event spent m r.state r.left))
  splits zero m state input = rw (reached-zero S E event state input, zero-add m) refl
  splits (suc n) m state input = go (event state input) refl (splits n m)
    where
      go : (v : Event S E) → event state input ≡ v
          → ((state : S) (input : List ℕ) → MatchOption (reach_state event n state input)
          (run event spent (n + m) state input ≡ with_more_budget m (run event spent n state input))
          (λ (r : ReachedState S). run event spent (n + m) state input ≡ prepend r.text (run event spent m r.state r.left)))
          → MatchOption (reach_state event (suc n) state input)
          (run event spent (suc n + m) state input ≡ with_more_budget m (run event spent (suc n) state input))
          (λ (r : ReachedState S). run event spent (suc n + m) state input ≡ prepend r.text (run event spent m r.state r.left))
      go (Ends end new) is rest =
          let e : suc n + m ≡ suc (n + m) = omega arith in
          rw (e, reached-suc S E event n state input, run-suc S E event spent (n + m) state input, run-suc S E event spent n state input, is) refl
      go (Goes s1 t1 l1) is rest =
          let e : suc n + m ≡ suc (n + m) = omega arith in
          rw (e, reached-suc S E event n state input, run-suc S E event spent (n + m) state input, run-suc S E event spent n state input, is)
          (match_map (prepend_reached t1) (reach_state event n s1 l1) _ _ _ _
          (λ h. ap (prepend t1) h)
          (λ r h. ap (prepend t1) h ∙ prepend-prepend t1 r.text (run event spent m r.state r.left))
          (rest s1 l1))

  pub all_go : (n : ℕ) (state : S) (input : List ℕ) (r : ReachedState S) → reach_state event n state input ≡ Some r
      → run event spent n state input ≡ record { text = r.text; end = spent; state = r.state; left = r.left; spare = 0 }
  all_go zero state input r h =
      let same = some_same _ _ (sym (reached-zero S E event state input) ∙ h) in
      run-zero S E event spent state input ∙ ap (λ (q : ReachedState S). record { text = q.text; end = spent; state = q.state; left = q.left; spare = 0 }) same
  all_go (suc n) state input r h = go (event state input) refl (all_go n)
    where
      go : (v : Event S E) → event state input ≡ v
          → ((state : S) (input : List ℕ) (r : ReachedState S) → reach_state event n state input ≡ Some r
          → run event spent n state input ≡ record { text = r.text; end = spent; state = r.state; left = r.left; spare = 0 })
          → run event spent (suc n) state input ≡ record { text = r.text; end = spent; state = r.state; left = r.left; spare = 0 }
      go (Ends end new) is rest = absurd (let no = sym (ap (λ v. reach_after v (reach_state event n)) is) ∙ sym (reached-suc S E event n state input) ∙ h in cc)
      go (Goes s1 t1 l1) is rest =
          let p = some_of (prepend_reached t1) (reach_state event n s1 l1) r (sym (ap (λ v. reach_after v (reach_state event n)) is) ∙ sym (reached-suc S E event n state input) ∙ h) in
          run-suc S E event spent n state input ∙ ap (λ v. run_after v (run event spent n) n input) is
          ∙ ap (prepend t1) (rest s1 l1 p.0 p.1)
          ∙ ap (λ (q : ReachedState S). record { text = q.text; end = spent; state = q.state; left = q.left; spare = 0 }) p.2

  pub stops : (n : ℕ) (state : S) (input : List ℕ) → reach_state event n state input ≡ None → Stops event n state input (run event spent n state input)
  stops zero state input h = absurd (let no = sym (reached-zero S E event state input) ∙ h in cc)
  stops (suc n) state input h = go (event state input) refl (stops n)
    where
      go : (v : Event S E) → event state input ≡ v
          → ((state : S) (input : List ℕ) → reach_state event n state input ≡ None → Stops event n state input (run event spent n state input))
          → Stops event (suc n) state input (run event spent (suc n) state input)
      go (Ends end new) is rest =
          rw (run-suc S E event spent n state input, is)
          (record { count = 0; at = state; within = omega arith; went = reached-zero S E event state input; ends = is; spare = omega arith })
      go (Goes s1 t1 l1) is rest =
          let none = none_of (prepend_reached t1) (reach_state event n s1 l1) (sym (ap (λ v. reach_after v (reach_state event n)) is) ∙ sym (reached-suc S E event n state input) ∙ h) in
          let r = rest s1 l1 none in
          rw (run-suc S E event spent n state input, is)
          (record {
            count = suc r.count;
            at = r.at;
            within = omega (arith, r.within);
            went = reached-suc S E event r.count state input ∙ ap (λ v. reach_after v (reach_state event r.count)) is ∙ ap (option_map (prepend_reached t1)) r.went;
            ends = r.ends;
            spare = omega (arith, r.spare);
          })

  spent_some : (n : ℕ) (state : S) (input : List ℕ) (o : Option (ReachedState S)) → reach_state event n state input ≡ o → IsSome o
      → AllGo event spent n state input (run event spent n state input)
  spent_some n state input None is some = absurd (cc)
  spent_some n state input (Some r) is some = rw (all_go n state input r is) (record { went = is; end = refl; spare = refl })

  is_none : (o : Option (ReachedState S)) → IsNone o → o ≡ None
  is_none None h = refl
  is_none (Some r) h = absurd (cc)

  -- where no event ends as spent, the end alone tells
  spent_went : (n : ℕ) (state : S) (input : List ℕ) (o : Option (ReachedState S)) → reach_state event n state input ≡ o → IsNoEnd event spent
      → (run event spent n state input).end ≡ spent → IsSome o
  spent_went n state input (Some r) is never e = refl
  spent_went n state input None is never e =
      let s = stops n state input is in
      absurd (never s.at (run event spent n state input).state (run event spent n state input).left (s.ends ∙ ap (λ end. Ends end (run event spent n state input).state) e))

  pub spends : (n : ℕ) (state : S) (input : List ℕ) → Spent event spent n state input (run event spent n state input)
  spends n state input =
      let o = reach_state event n state input in
      record {
        went = ((λ h. spent_some n state input o refl h), (λ g. rw (AllGo.went g) refl));
        ended = (
          (λ h. stops n state input (is_none o h)),
          (λ s. rw (stopped_short S E event s.count n state input _ _ _ s.within s.went s.ends) refl),
        );
        by_end = λ never. ((λ e. spent_went n state input o refl never e), (λ h. (spent_some n state input o refl h).end));
      }

-- ---- two machines

module _ (S T E : Type 0) (Related : S → T → Type 0) (one : S → List ℕ → Event S E) (two : T → List ℕ → Event T E) (spent : E)
    (alike : EventsAlike Related one two) where
  same_run : (n : ℕ) (s : S) (t : T) (input : List ℕ) → Related s t → SameRan Related (run one spent n s input) (run two spent n t input)
  same_run zero s t input r =
      rw (run-zero S E one spent s input, run-zero T E two spent t input) (record { text = refl; end = refl; left = refl; spare = refl; state = r })
  same_run (suc n) s t input r =
      rw (run-suc S E one spent n s input, run-suc T E two spent n t input) (go (one s input) (two t input) (alike s t input r) (same_run n))
    where
      go : (e : Event S E) (f : Event T E) → Alike Related e f
          → ((s : S) (t : T) (input : List ℕ) → Related s t → SameRan Related (run one spent n s input) (run two spent n t input))
          → SameRan Related (run_after e (run one spent n) n input) (run_after f (run two spent n) n input)
      go (Goes s' text left) (Goes t' text' left') a next =
          let q : left ≡ left' = a.2 in
          let w : text ≡ text' = a.1 in
          let r = rw q at (next s' t' left a.0) in
          rw (q, w) (record { text = ap (λ x. text' ++ x) r.text; end = r.end; left = r.left; spare = r.spare; state = r.state })
      go (Ends e s') (Ends f t') a next = record { text = refl; end = a.0; left = refl; spare = refl; state = a.1 }
      go (Goes s' text left) (Ends f t') a next = absurd a
      go (Ends e s') (Goes t' text left) a next = absurd a

  same_runs : (budgets : List ℕ) (s : S) (t : T) (input : List ℕ) → Related s t → AllSame Related (run_budgets one spent budgets s input) (run_budgets two spent budgets t input)
  unfolding run_budgets
  same_runs [] s t input r = tt
  same_runs (n ∷ budgets) s t input r =
      let first = same_run n s t input r in
      (first, rw (sym first.left) (same_runs budgets (run one spent n s input).state (run two spent n t input).state (run one spent n s input).left first.state))

  pub runs_alike : (s : S) (t : T) (input : List ℕ) → Related s t → RunAlike Related one two spent s t input
  runs_alike s t input r = record { first = λ n. same_run n s t input r; all = λ budgets. same_runs budgets s t input r }
