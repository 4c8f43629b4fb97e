-- How a work list computes the facts of a function, or finds a cause that stands.
use Rattle.std.specs.Prelude.{ℕ, ◌≡◌, ◌≤◌, ◌+◌, Bool, true, false, List, [], ◌∷◌, ◌++◌, Option, Some, None, Result, Ok, Err, slice_set}
use Rattle.frame_facts.specs.declared.cause.FrameCause.{FrameCause}
use Rattle.frame_facts.specs.declared.facts.Fact.{Fact}
use Rattle.frame_facts.specs.Facts.{join_of, height, IsAtMost}
use Rattle.frame_dataflow.specs.Flow.{fact_at}
use Rattle.frame_dataflow.specs.Sound.{Sound, weight}
use Rattle.frame_flow.specs.declared.work.FrameFault.{FrameFault}
use Rattle.frame_flow.specs.declared.work.FrameFault.TheVariants.{Stands, OutOfMemory}
use Rattle.frame_flow.specs.Framed.{FramedFunction}
use Rattle.frame_flow.specs.Causes.{causes_at}
use Rattle.frame_flow.specs.Flows.{fact_after, parting, flow_of, count_of, StandsIn, HasFacts}

-- ---- a place

-- the first cause of a list; where it has none, a value
abbrev pub by_first : {X : Type 0} → List FrameCause → X → Result X FrameCause
by_first [] x = Ok x
by_first (c ∷ more) x = Err c

-- the fact after a place if it meets no cause there, else the lowest cause
abbrev pub pass_place : FramedFunction → ℕ → Fact → Result (Option Fact) FrameCause
pass_place x p f = by_first (causes_at x p f) (fact_after x p f)

-- the same result, with the fact written to an output
abbrev pub fact_if_true : Result Bool FrameCause → Fact → Result (Option Fact) FrameCause
fact_if_true (Ok true) g = Ok (Some g)
fact_if_true (Ok false) g = Ok None
fact_if_true (Err c) g = Err c

-- ---- the work list

abbrev pub IsSound : FramedFunction → List (Option Fact) → List ℕ → List (ℕ × Fact) → Type 0
IsSound x = Sound Fact FrameCause (flow_of x) IsAtMost (count_of x.flow_graph)

-- a height above that of every state: the number of saves, plus what is known besides them, which is less than 32
abbrev pub top_of : FramedFunction → ℕ
top_of x = x.prologue.count + 32

-- how much there is to do at most
abbrev pub load : FramedFunction → List (Option Fact) → List ℕ → ℕ
load x = weight height (top_of x)

-- a fault names a cause that stands; running out of memory tells nothing
abbrev pub FaultStands : FramedFunction → FrameFault → Type 0
FaultStands x (Stands place cause) = StandsIn x place cause
FaultStands x OutOfMemory = Unit {0}

-- a fault other than running out of memory means that there are no valid facts
abbrev pub LacksFacts : FramedFunction → FrameFault → Type 0
LacksFacts x (Stands place cause) = HasFacts x → ⊥
LacksFacts x OutOfMemory = Unit {0}

-- what becomes of the facts and the work list at an edge to the place q with the fact g: the fact is written where there was none, or the
-- meeting with the one that was there where that is another; then the place is to be visited. Two depths part
pub data MergesFact (x : FramedFunction) (facts : List (Option Fact)) (work : List ℕ) (q : ℕ) (g : Fact) (facts' : List (Option Fact)) (work' : List ℕ) : Result (Unit {0}) FrameFault → Type 0 where
  fresh : fact_at facts q ≡ None → facts' ≡ slice_set facts q (Some g) → work' ≡ work ++ q ∷ [] → MergesFact x facts work q g facts' work' (Ok tt)
  same : (h k : Fact) → fact_at facts q ≡ Some h → join_of h g ≡ Some k → k ≡ h → facts' ≡ facts → work' ≡ work → MergesFact x facts work q g facts' work' (Ok tt)
  vaguer : (h k : Fact) → fact_at facts q ≡ Some h → join_of h g ≡ Some k → (k ≡ h → ⊥) → facts' ≡ slice_set facts q (Some k) → work' ≡ work ++ q ∷ [] → MergesFact x facts work q g facts' work' (Ok tt)
  parts : (h : Fact) → fact_at facts q ≡ Some h → join_of h g ≡ None → MergesFact x facts work q g facts' work' (Err (Stands q (parting x q)))
  spent : MergesFact x facts work q g facts' work' (Err OutOfMemory)

-- the work list keeps its invariant and its load doesn't grow, or a cause stands
abbrev pub Keeps : FramedFunction → List (Option Fact) → List ℕ → List (Option Fact) → List ℕ → List (ℕ × Fact) → Result (Unit {0}) FrameFault → Type 0
Keeps x facts work facts' work' todo (Ok u) = IsSound x facts' work' todo × (load x facts' work' ≤ load x facts work)
Keeps x facts work facts' work' todo (Err e) = FaultStands x e
