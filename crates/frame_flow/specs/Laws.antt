-- What the facts of a function show: laws above the definitions.
use Rattle.std.specs.Prelude.{ℕ, ◌≡◌, ◌<◌, ◌↔◌, true, List, ◌∷◌, Option, Some}
use Rattle.std.specs.List.{Contains}
use Rattle.frame_facts.specs.declared.cause.FrameCause.{FrameCause}
use Rattle.frame_facts.specs.declared.facts.Fact.{Fact}
use Rattle.frame_facts.specs.Facts.{IsAtMost}
use Rattle.frame_graph.specs.Reach.{IsReached}
use Rattle.frame_dataflow.specs.Flow.{AreValid, fact_at}
use Rattle.frame_dataflow.specs.Laws as law
use Rattle.frame_flow.specs.Framed.{FramedFunction}
use Rattle.frame_flow.specs.Causes.{number, causes_at, meets_cause}
use Rattle.frame_flow.specs.Flows.{flow_of, IsStateOf, HasFacts, NoneStands}

-- the facts of a function have the properties that a dataflow needs: vagueness is an order, meetings are least, and a less vague fact
-- meets no more causes
abbrev pub FlowsKeepLaws : Type 0
FlowsKeepLaws = (x : FramedFunction) → law.Laws Fact FrameCause (flow_of x) IsAtMost

-- a function with an entry has valid facts if and only if no cause stands
abbrev pub FactsDecide : Type 0
FactsDecide = (x : FramedFunction) → x.flow_graph.start < x.flow_graph.end → HasFacts x ↔ NoneStands x

-- a fact meets the causes that are found, and no other
abbrev pub FoundAreMet : Type 0
FoundAreMet = (x : FramedFunction) (c : FrameCause) (p : ℕ) (f : Fact) → (meets_cause x c p f ≡ true) ↔ Contains (causes_at x p f) c

-- the first one found has the lowest number
abbrev pub LowestIsFirst : Type 0
LowestIsFirst = (x : FramedFunction) (p : ℕ) (f : Fact) (c d : FrameCause) (more : List FrameCause) → causes_at x p f ≡ c ∷ more → Contains more d → number c < number d

-- If a function has valid facts, then exactly the reached places have a state, and each has a fact.
pub record FactsReach : Type 0 where
  pub states : (x : FramedFunction) → HasFacts x → (p : ℕ) → IsReached x.flow_graph p ↔ ((f : Fact) × IsStateOf x p f)
  pub facts : (x : FramedFunction) (facts : List (Option Fact)) → AreValid Fact FrameCause (flow_of x) IsAtMost facts → (p : ℕ) → IsReached x.flow_graph p
      → (f : Fact) × (fact_at facts p ≡ Some f)
