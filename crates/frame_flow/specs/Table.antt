-- The facts of a function's places; a place without a fact takes little memory.
use Rattle.std.specs.Prelude.{ℕ, ◌≡◌, ◌<◌, map, List, length, Option, Some, None, slice_index_or}
use Rattle.frame_facts.specs.declared.facts.Fact.{Fact}
use Rattle.frame_facts.specs.Facts.{entry_fact}
use Rattle.frame_flow.specs.declared.facts.PlaceFact.{PlaceFact}

-- past the last one
abbrev pub no_one : PlaceFact
no_one = record { place = 0; fact = entry_fact }

-- a fact, by where it stands among those that are known
abbrev pub fact_in : List PlaceFact → Option ℕ → Option Fact
fact_in known None = None
fact_in known (Some k) = Some ((slice_index_or known k no_one).fact)

-- place by place the fact there, if there is one
abbrev pub table : List (Option ℕ) → List PlaceFact → List (Option Fact)
table slots known = map (fact_in known) slots

-- the slot of a place has the index of a stored fact, and that fact is the place's own
pub record IsTable (slots : List (Option ℕ)) (known : List PlaceFact) : Type 0 where
  pub within : (p k : ℕ) → slice_index_or slots p None ≡ Some k → k < length known
  pub own : (p k : ℕ) → slice_index_or slots p None ≡ Some k → (slice_index_or known k no_one).place ≡ p
