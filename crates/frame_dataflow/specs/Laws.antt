-- The properties that facts, their vagueness and their causes must have, and what follows for states, valid facts and causes.
use Rattle.std.specs.Prelude.{ℕ, ◌≡◌, ◌<◌, ◌⊎◌, ◌↔◌, List, true, Option, Some, None}
use Rattle.std.specs.List.{Contains}
use Rattle.frame_dataflow.specs.Flow.{Flow, IsState, IsShownAt, Passes, IsCovered, AreValid, AreStates}

-- Being at most as vague is reflexive and transitive; the meeting of two facts is the least vague that both are at most as vague as,
-- and facts that lie below one have a meeting; a fact that is less vague meets no more causes, and leads along no more edges and to
-- facts no vaguer.
pub record Laws (F C : Type 0) (flow : Flow F C) (at_most : F → F → Type 0) : Type 0 where
  pub same : (f : F) → at_most f f
  pub via : (f g h : F) → at_most f g → at_most g h → at_most f h
  pub left : (f g h : F) → flow.join f g ≡ Some h → at_most f h
  pub right : (p : ℕ) (f g h : F) → IsState F C flow p f → IsState F C flow p g → flow.join f g ≡ Some h → at_most g h
  pub least : (f g h k : F) → flow.join f g ≡ Some h → at_most f k → at_most g k → at_most h k
  pub joins : (f g k : F) → at_most f k → at_most g k → flow.join f g ≡ None → ⊥
  pub passes : (p : ℕ) (f g : F) → at_most f g → Passes flow p g → Passes flow p f
  pub transfer : (p : ℕ) (f g : F) → at_most f g → Passes flow p g → (q : ℕ) (f' : F) → Contains (flow.transfer p f) (q, f')
      → (g' : F) × Contains (flow.transfer p g) (q, g') × at_most f' g'

-- A meeting is the first fact or has a smaller height, and the height of every state is below a top.
pub record Falls (F C : Type 0) (flow : Flow F C) (height : F → ℕ) (top : ℕ) : Type 0 where
  pub falls : (h g k : F) → flow.join h g ≡ Some k → (k ≡ h) ⊎ (height k < height h)
  pub low : (p : ℕ) (f : F) → IsState F C flow p f → height f < top

-- The places are numbers below a count, and facts can only fall so often. For each fact a first cause that it meets can be computed, if
-- it meets any; and for each place a cause of two facts without a meeting.
pub record IsFinite (F C : Type 0) (flow : Flow F C) : Type 0 where
  pub count : ℕ
  pub begins : flow.entry < count
  pub inside : (p : ℕ) (f : F) (q : ℕ) (g : F) → Contains (flow.transfer p f) (q, g) → q < count
  pub height : F → ℕ
  pub top : ℕ
  pub falls : Falls F C flow height top
  pub first : ℕ → F → Option C
  pub first_met : (p : ℕ) (f : F) (c : C) → first p f ≡ Some c → flow.meets c p f ≡ true
  pub first_none : (p : ℕ) (f : F) → first p f ≡ None → Passes flow p f
  pub named : ℕ → C
  pub named_is : (q : ℕ) → flow.parted q (named q) ≡ true

-- ---- what holds

abbrev pub HasValidFacts : (F C : Type 0) → Flow F C → (F → F → Type 0) → Type 0
HasValidFacts F C flow at_most = (facts : List (Option F)) × AreValid F C flow at_most facts

abbrev pub NoneStands : (F C : Type 0) → Flow F C → Type 0
NoneStands F C flow = (p : ℕ) (c : C) → IsShownAt F C flow p c → ⊥

-- if facts are valid, each state is at most as vague as the fact of its place, and no cause stands
abbrev pub Bounds : (F C : Type 0) → (F → F → Type 0) → Type 0
Bounds F C at_most = (flow : Flow F C) (facts : List (Option F)) → Laws F C flow at_most → AreValid F C flow at_most facts
    → ((p : ℕ) (f : F) → IsState F C flow p f → IsCovered at_most facts p f) × NoneStands F C flow

-- With finitely many places and heights, there are valid facts, or a place and a cause that stands there. So there are valid facts if
-- and only if no cause stands.
abbrev pub Decides : (F C : Type 0) → (F → F → Type 0) → Type 0
Decides F C at_most = (flow : Flow F C) → Laws F C flow at_most → IsFinite F C flow
    → (HasValidFacts F C flow at_most ⊎ ((p : ℕ) × (c : C) × IsShownAt F C flow p c))
    × (HasValidFacts F C flow at_most ↔ NoneStands F C flow)

-- With finitely many places and heights, if no cause stands, there are valid facts that are states. Then exactly the places with a
-- state have a fact.
abbrev pub SolvingGivesStates : (F C : Type 0) → (F → F → Type 0) → Type 0
SolvingGivesStates F C at_most = (flow : Flow F C) → Laws F C flow at_most → IsFinite F C flow → NoneStands F C flow
    → (facts : List (Option F)) × AreValid F C flow at_most facts × AreStates F C flow facts
