-- Laws on runs, for every machine.
use Rattle.std.specs.Prelude.{ℕ, ◌≡◌, ◌+◌, ◌-◌, ◌<◌, ◌↔◌, List, [], ◌∷◌, Some, MatchOption, IsSome, IsNone}
use Rattle.run_events.specs.Runs.{Event, Goes, Ends, Ran, ReachedState, run, reach_state, prepend}

abbrev pub with_more_budget : {S E : Type 0} → ℕ → Ran S E → Ran S E
with_more_budget m ran = record { text = ran.text; end = ran.end; state = ran.state; left = ran.left; spare = ran.spare + m }

-- A run of n + m events is a run of n, followed by a run of m from the state that it reached. If one of the first n
-- ends the run, the m are to spare as well.
abbrev pub Splits : (S E : Type 0) → Type 0
Splits S E = (event : S → List ℕ → Event S E) (spent : E) (n m : ℕ) (state : S) (input : List ℕ)
    → MatchOption (reach_state event n state input)
    (run event spent (n + m) state input ≡ with_more_budget m (run event spent n state input))
    (λ (r : ReachedState S). run event spent (n + m) state input ≡ prepend r.text (run event spent m r.state r.left))

-- ---- how a run ends

-- an event of the run ends it, after `count` others that went on
pub record Stops {S E : Type 0} (event : S → List ℕ → Event S E) (n : ℕ) (state : S) (input : List ℕ) (ran : Ran S E) : Type 0 where
  pub count : ℕ
  pub at : S
  pub within : count < n
  pub went : reach_state event count state input ≡ Some (record { text = ran.text; state = at; left = ran.left })
  pub ends : event at ran.left ≡ Ends ran.end ran.state
  pub spare : ran.spare ≡ n - (count + 1)

-- all n events went on; the run ends as spent in the state that they reach, with none to spare
pub record AllGo {S E : Type 0} (event : S → List ℕ → Event S E) (spent : E) (n : ℕ) (state : S) (input : List ℕ) (ran : Ran S E) : Type 0 where
  pub went : reach_state event n state input ≡ Some (record { text = ran.text; state = ran.state; left = ran.left })
  pub end : ran.end ≡ spent
  pub spare : ran.spare ≡ 0

-- no event ends as spent
abbrev pub IsNoEnd : {S E : Type 0} → (S → List ℕ → Event S E) → E → Type 0
IsNoEnd {S} {E} event spent = (state new : S) (input : List ℕ) → event state input ≡ Ends spent new → ⊥

-- A run is one of two things. All n events went on exactly if it ends as spent with none to spare, in the state that
-- they reach; one of them ended it exactly if they did not all go on. So without events that themselves end as spent, a
-- run ends as spent exactly if its n events all went on.
pub record Spent {S E : Type 0} (event : S → List ℕ → Event S E) (spent : E) (n : ℕ) (state : S) (input : List ℕ) (ran : Ran S E) : Type 0 where
  pub went : IsSome (reach_state event n state input) ↔ AllGo event spent n state input ran
  pub ended : IsNone (reach_state event n state input) ↔ Stops event n state input ran
  pub by_end : IsNoEnd event spent → (ran.end ≡ spent) ↔ IsSome (reach_state event n state input)

abbrev pub Spends : (S E : Type 0) → Type 0
Spends S E = (event : S → List ℕ → Event S E) (spent : E) (n : ℕ) (state : S) (input : List ℕ)
    → Spent event spent n state input (run event spent n state input)

-- ---- two machines with one kind of end

-- Two events are alike if both go on with the same text and the same input left, or both end with the same end; and the
-- states that they leave are related.
abbrev pub Alike : {S T E : Type 0} → (S → T → Type 0) → Event S E → Event T E → Type 0
Alike Related (Goes s text left) (Goes t text' left') = Related s t × (text ≡ text') × (left ≡ left')
Alike Related (Ends end s) (Ends end' t) = (end ≡ end') × Related s t
Alike Related (Goes s text left) (Ends end t) = ⊥
Alike Related (Ends end s) (Goes t text left) = ⊥

-- two runs with the same text, end, input left and events to spare, whose last states are related
pub record SameRan {S T E : Type 0} (Related : S → T → Type 0) (one : Ran S E) (two : Ran T E) : Type 0 where
  pub text : one.text ≡ two.text
  pub end : one.end ≡ two.end
  pub left : one.left ≡ two.left
  pub spare : one.spare ≡ two.spare
  pub state : Related one.state two.state

-- in related states the events are alike, whatever the input
abbrev pub EventsAlike : {S T E : Type 0} → (S → T → Type 0) → (S → List ℕ → Event S E) → (T → List ℕ → Event T E) → Type 0
EventsAlike {S} {T} Related one two = (s : S) (t : T) (input : List ℕ) → Related s t → Alike Related (one s input) (two t input)

-- consecutive runs, each with its own budget: each continues with the state and the input that the one before left,
-- however it ended
unfoldable pub run_budgets : {S E : Type 0} → (S → List ℕ → Event S E) → E → List ℕ → S → List ℕ → List (Ran S E)
run_budgets event spent [] state input = []
run_budgets event spent (n ∷ budgets) state input =
    let ran = run event spent n state input in
    ran ∷ run_budgets event spent budgets ran.state ran.left

-- equally many runs, each the same as its counterpart
abbrev pub AllSame : {S T E : Type 0} → (S → T → Type 0) → List (Ran S E) → List (Ran T E) → Type 0
AllSame Related [] [] = Unit {0}
AllSame Related (one ∷ ones) (two ∷ twos) = SameRan Related one two × AllSame Related ones twos
AllSame Related [] (two ∷ twos) = ⊥
AllSame Related (one ∷ ones) [] = ⊥

-- If related states have alike events, runs from related states are the same and leave related states; and so do all
-- runs that continue from there.
pub record RunAlike {S T E : Type 0} (Related : S → T → Type 0) (one : S → List ℕ → Event S E) (two : T → List ℕ → Event T E) (spent : E) (s : S) (t : T) (input : List ℕ) : Type 0 where
  pub first : (n : ℕ) → SameRan Related (run one spent n s input) (run two spent n t input)
  pub all : (budgets : List ℕ) → AllSame Related (run_budgets one spent budgets s input) (run_budgets two spent budgets t input)

abbrev pub RunsAlike : {S T : Type 0} → (E : Type 0) → (S → T → Type 0) → Type 0
RunsAlike {S} {T} E Related = (one : S → List ℕ → Event S E) (two : T → List ℕ → Event T E) (spent : E) (s : S) (t : T) (input : List ℕ)
    → EventsAlike Related one two → Related s t → RunAlike Related one two spent s t input
