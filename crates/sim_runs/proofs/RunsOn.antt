-- Two machines whose events are alike on inputs of one kind, which every event leaves: their runs on such an input are the same. So of a
-- machine that keeps something of its registers only where the input's numbers are bytes.
use Rattle.std.proofs.Common.{◌≡◌, ℕ, zero, suc, List, [], ◌∷◌, ◌++◌, refl, ap, subst}
use Rattle.run_events.specs.Runs.{Event, Goes, Ends, Ran, run_after, run, prepend}
use Rattle.run_events.specs.Laws.{SameRan, run_budgets, AllSame}

module _ (S T E : Type 0) (Fits : List ℕ → Type 0) (Related : S → T → Type 0) where
  abbrev pub AlikeOn : Event S E → Event T E → Type 0
  AlikeOn (Goes s text left) (Goes t said rest) = Related s t × (text ≡ said) × (left ≡ rest) × Fits left
  AlikeOn (Ends end s) (Ends why t) = (end ≡ why) × Related s t
  AlikeOn (Goes s text left) (Ends why t) = ⊥
  AlikeOn (Ends end s) (Goes t said rest) = ⊥

  -- the same run, and what is left of the input fits again
  pub record SameOn (one : Ran S E) (two : Ran T E) : Type 0 where
    pub same : SameRan Related one two
    pub fits : Fits one.left

  module _ (one : S → List ℕ → Event S E) (two : T → List ℕ → Event T E) (spent : E) (alike : (s : S) (t : T) (input : List ℕ) → Fits input → Related s t → AlikeOn (one s input) (two t input)) where
    pub same_on : (n : ℕ) (s : S) (t : T) (input : List ℕ) → Fits input → Related s t → SameOn (run one spent n s input) (run two spent n t input)
    unfolding run
    same_on zero s t input f r = record { same = record { text = refl; end = refl; left = refl; spare = refl; state = r }; fits = f }
    same_on (suc n) s t input f r = go (one s input) (two t input) (alike s t input f r) (same_on n)
      where
        go : (e : Event S E) (d : Event T E) → AlikeOn e d → ((s : S) (t : T) (input : List ℕ) → Fits input → Related s t → SameOn (run one spent n s input) (run two spent n t input))
            → SameOn (run_after e (run one spent n) n input) (run_after d (run two spent n) n input)
        go (Goes u text left) (Goes v said rest) a next = by_same u v text said left rest a.1 a.2 (next u v left a.3 a.0)
          where
            by_same : (u : S) (v : T) (text said left rest : List ℕ) → text ≡ said → left ≡ rest → SameOn (run one spent n u left) (run two spent n v left)
                → SameOn (prepend text (run one spent n u left)) (prepend said (run two spent n v rest))
            by_same u v text said left rest p q w =
                subst (λ (r : List ℕ). SameOn (prepend text (run one spent n u left)) (prepend said (run two spent n v r))) q
                (subst (λ (y : List ℕ). SameOn (prepend text (run one spent n u left)) (prepend y (run two spent n v left))) p
                (record { same = record { text = ap (λ y. text ++ y) w.same.text; end = w.same.end; left = w.same.left; spare = w.same.spare; state = w.same.state }; fits = w.fits }))
        go (Ends end u) (Ends why v) a next = record { same = record { text = refl; end = a.0; left = refl; spare = refl; state = a.1 }; fits = f }
        go (Goes u text left) (Ends why v) a next = absurd a
        go (Ends end u) (Goes v said rest) a next = absurd a

    -- and all that go on from there
    pub all_on : (budgets : List ℕ) (s : S) (t : T) (input : List ℕ) → Fits input → Related s t → AllSame Related (run_budgets one spent budgets s input) (run_budgets two spent budgets t input)
    unfolding run_budgets
    all_on [] s t input f r = tt
    all_on (n ∷ budgets) s t input f r =
        let first = same_on n s t input f r in (
          first.same,
          subst (λ (left : List ℕ). AllSame Related (run_budgets one spent budgets (run one spent n s input).state (run one spent n s input).left) (run_budgets two spent budgets (run two spent n t input).state left)) first.same.left
              (all_on budgets (run one spent n s input).state (run two spent n t input).state (run one spent n s input).left first.fits first.same.state),
        )
