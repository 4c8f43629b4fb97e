-- A work list: the facts so far, the places whose edges are still to be followed, and the remaining edges of the current place.
use Rattle.std.specs.Prelude.{ℕ, ◌≡◌, ◌<◌, ◌+◌, ◌*◌, ◌⊎◌, List, length, Option, Some, None}
use Rattle.std.specs.List.{Contains, sum_by}
use Rattle.frame_dataflow.specs.Flow.{Flow, IsState, fact_at, Passes, IsCovered}

-- the fact at p meets no cause, and each of its edges is covered or still to be followed
abbrev pub Rests : (F C : Type 0) (flow : Flow F C) (at_most : F → F → Type 0) → List (Option F) → List (ℕ × F) → ℕ → F → Type 0
Rests F C flow at_most facts todo p f = Passes flow p f × ((q : ℕ) (g : F) → Contains (flow.transfer p f) (q, g) → Contains todo (q, g) ⊎ IsCovered at_most facts q g)

pub record Sound (F C : Type 0) (flow : Flow F C) (at_most : F → F → Type 0) (n : ℕ) (facts : List (Option F)) (work : List ℕ) (todo : List (ℕ × F)) : Type 0 where
  pub long : length facts ≡ n
  pub states : (p : ℕ) (f : F) → fact_at facts p ≡ Some f → IsState F C flow p f
  pub ahead : (q : ℕ) (g : F) → Contains todo (q, g) → IsState F C flow q g × (q < n)
  pub within : (p : ℕ) → Contains work p → p < n
  pub entry : IsCovered at_most facts flow.entry flow.start
  pub closed : (p : ℕ) (f : F) → fact_at facts p ≡ Some f → Contains work p ⊎ Rests F C flow at_most facts todo p f

abbrev pub weigh : {F : Type 0} → (F → ℕ) → ℕ → Option F → ℕ
weigh height top None = top
weigh height top (Some f) = height f

unfoldable pub weight : {F : Type 0} → (F → ℕ) → ℕ → List (Option F) → List ℕ → ℕ
weight height top facts work = 2 * sum_by (weigh height top) facts + length work
