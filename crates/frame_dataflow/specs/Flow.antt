-- Facts at the places of a flow: which are states, which causes stand, and which tables of facts are valid.
use Rattle.std.specs.Prelude.{ℕ, ◌≡◌, List, Bool, true, false, Option, Some, None, slice_index_or}
use Rattle.std.specs.List.{Contains}

-- Facts of type F at places, and causes of type C to refuse them. `transfer p f` are the places that p leads to, each with the fact
-- there, for a fact f at p; `meets c p f` says that a fact f at p meets the condition of the cause c; `join` is the meeting of two
-- facts of one place, where they have one; `parted p c` says that c is a cause of two facts at p that have none.
pub record Flow (F C : Type 0) : Type 0 where
  pub entry : ℕ
  pub start : F
  pub transfer : ℕ → F → List (ℕ × F)
  pub meets : C → ℕ → F → Bool
  pub join : F → F → Option F
  pub parted : ℕ → C → Bool

-- A state of a place: the fact with which the entry starts, a state carried along an edge, or the meeting of two states of one place.
-- Nothing else is a state.
pub data IsState (F C : Type 0) (flow : Flow F C) : ℕ → F → Type 0 where
  at_entry : IsState F C flow flow.entry flow.start
  along : {p q : ℕ} {f g : F} → IsState F C flow p f → Contains (flow.transfer p f) (q, g) → IsState F C flow q g
  meeting : {p : ℕ} {f g h : F} → IsState F C flow p f → IsState F C flow p g → flow.join f g ≡ Some h → IsState F C flow p h

-- A cause stands at a place if a state there meets it, or two states there have no meeting.
pub data IsShownAt (F C : Type 0) (flow : Flow F C) : ℕ → C → Type 0 where
  met : {p : ℕ} {f : F} {c : C} → IsState F C flow p f → flow.meets c p f ≡ true → IsShownAt F C flow p c
  apart : {p : ℕ} {f g : F} {c : C} → IsState F C flow p f → IsState F C flow p g → flow.join f g ≡ None → flow.parted p c ≡ true → IsShownAt F C flow p c

-- the fact of a place in a table, where it has one
abbrev pub fact_at : {F : Type 0} → List (Option F) → ℕ → Option F
fact_at facts p = slice_index_or facts p None

-- a fact meets no cause
abbrev pub Passes : {F C : Type 0} → Flow F C → ℕ → F → Type 0
Passes {F} {C} flow p f = (c : C) → flow.meets c p f ≡ false

-- the table has a fact for the place, and the given fact is at most as vague as it
abbrev pub IsCovered : {F : Type 0} → (F → F → Type 0) → List (Option F) → ℕ → F → Type 0
IsCovered {F} at_most facts q g = (h : F) × (fact_at facts q ≡ Some h) × at_most g h

-- Valid facts: the entry's fact is covered, no fact meets a cause, and each fact carried along an edge is covered. So each reached
-- place has a fact.
pub record AreValid (F C : Type 0) (flow : Flow F C) (at_most : F → F → Type 0) (facts : List (Option F)) : Type 0 where
  pub entry : IsCovered at_most facts flow.entry flow.start
  pub passes : (p : ℕ) (f : F) → fact_at facts p ≡ Some f → Passes flow p f
  pub closed : (p : ℕ) (f : F) (q : ℕ) (g : F) → fact_at facts p ≡ Some f → Contains (flow.transfer p f) (q, g) → IsCovered at_most facts q g

-- each fact of a table is a state of its place
abbrev pub AreStates : (F C : Type 0) → Flow F C → List (Option F) → Type 0
AreStates F C flow facts = (p : ℕ) (f : F) → fact_at facts p ≡ Some f → IsState F C flow p f
