-- The condition of each cause on a fact at a place, one line a cause (docs/rules/acceptance.md, "Causes"); these are the causes that are met.
use Rattle.std.specs.Prelude.{ℕ, ◌≡◌, ◌<◌, ◌↔◌, ◌⊎◌, true, false, Some, Ok, Err}
use Rattle.std.specs.List.{Contains}
use Rattle.thumb_isa.specs.declared.instr.Instr.{Instr}
use Rattle.thumb_isa.specs.declared.instr.Instr.TheVariants.{Svc}
use Rattle.thumb_core.specs.declared.regs.TheConstants.{LR}
use Rattle.thumb_core.specs.Words.{registers_of_list}
use Rattle.frame_facts.specs.declared.cause.FrameCause.{FrameCause}
use Rattle.frame_facts.specs.declared.cause.FrameCause.TheVariants.{Undecodable, BranchOut, IndirectBranch, CallNotFunction, SpWrite, JoinDepth, ReturnState, CallState, FramePointerLost, BadBytecode, BadDescriptor, PadDepth, ThrowInLeafScope, SplitEntry, GenericModel, TooLong}
use Rattle.frame_facts.specs.declared.facts.Fact.{Fact}
use Rattle.frame_facts.specs.declared.saves.Prologue.{Prologue}
use Rattle.frame_facts.specs.Facts.{entry_fact, forget_registers}
use Rattle.frame_facts.specs.After.{after_of}
use Rattle.frame_facts.specs.Agrees.{agreement}
use Rattle.frame_entries.specs.declared.unwinding.EntrySummary.{EntrySummary}
use Rattle.frame_entries.specs.declared.unwinding.EntrySummary.TheVariants.{Finds, Refused, BadBytecode as BadCodes, GenericModel as Generic}
use Rattle.frame_graph.specs.declared.edges.Edge.{Edge}
use Rattle.frame_graph.specs.Places.{address_of}
use Rattle.frame_graph.specs.Edges.{is_undecodable, branches_out, calls_nothing, instruction_at}
use Rattle.frame_graph.specs.Sites.{site_at, unwinding_at, is_scoped, pads_out, edges_of}
use Rattle.frame_flow.specs.Framed.{FramedFunction}
use Rattle.frame_flow.specs.Causes.{is_call, meets_cause}
use Rattle.frame_flow.specs.Flows.{transfer, IsStateOf, StandsIn}

-- the effect of the instruction at a place
abbrev pub Leaves : FramedFunction → ℕ → Fact → Fact → Type 0
Leaves x p f g = (i : Instr) × (instruction_at x.flow_graph p ≡ Some i) × (after_of x.prologue (x.lowers p) (address_of x.flow_graph p) i f ≡ Ok g)

abbrev pub Shows : FramedFunction → ℕ → Fact → FrameCause → Type 0
Shows x p f c = (i : Instr) × (instruction_at x.flow_graph p ≡ Some i) × (after_of x.prologue (x.lowers p) (address_of x.flow_graph p) i f ≡ Err c)

-- a site at a place
abbrev pub AtSite : FramedFunction → ℕ → (Instr → ℕ → Type 0) → Type 0
AtSite x p P = (i : Instr) × (site : ℕ) × (instruction_at x.flow_graph p ≡ Some i) × (site_at x.flow_graph p ≡ Some site) × P i site

-- the recipe doesn't agree; or there is none, and a call has no word on the stack
abbrev pub Disagrees : Prologue → EntrySummary → Instr → Fact → FrameCause → Type 0
Disagrees p (Finds r) i f c = agreement p r (is_call i) f ≡ Err c
Disagrees p Refused i f c = (is_call i ≡ true) × (f.depth < 4) × (c ≡ CallState LR)
Disagrees p BadCodes i f c = (is_call i ≡ true) × (f.depth < 4) × (c ≡ CallState LR)
Disagrees p Generic i f c = (is_call i ≡ true) × (f.depth < 4) × (c ≡ CallState LR)

-- The condition of each cause. JoinDepth depends on two facts. The causes about the entry that covers the function's start, about all
-- of its sites, or about all reached places don't depend on a fact.
abbrev pub Holds : FramedFunction → ℕ → Fact → FrameCause → Type 0
Holds x p f Undecodable = is_undecodable x.flow_graph p ≡ true
Holds x p f BranchOut = branches_out x.flow_graph p ≡ true
Holds x p f IndirectBranch = Shows x p f IndirectBranch
Holds x p f CallNotFunction = calls_nothing x.flow_graph p ≡ true
Holds x p f SpWrite = Shows x p f SpWrite
Holds x p f JoinDepth = ⊥
Holds x p f ReturnState = Shows x p f ReturnState
Holds x p f (CallState reg) = AtSite x p (λ i site. Disagrees x.prologue (unwinding_at x.flow_graph site) i f (CallState reg))
Holds x p f (FramePointerLost reg) = AtSite x p (λ i site. Disagrees x.prologue (unwinding_at x.flow_graph site) i f (FramePointerLost reg))
Holds x p f BadBytecode = ⊥
Holds x p f BadDescriptor = ⊥
Holds x p f PadDepth = AtSite x p (λ i site. pads_out x.flow_graph site ≡ true)
Holds x p f ThrowInLeafScope = AtSite x p (λ i site. (is_call i ≡ false) × (f.depth ≡ 0) × (is_scoped x.flow_graph site ≡ true))
Holds x p f SplitEntry = ⊥
Holds x p f GenericModel = ⊥
Holds x p f TooLong = ⊥

-- a fact meets a cause at a place if and only if the cause's condition holds
abbrev pub CausesAreConditions : Type 0
CausesAreConditions = (x : FramedFunction) (c : FrameCause) (p : ℕ) (f : Fact) → (meets_cause x c p f ≡ true) ↔ Holds x p f c

-- a fact leads along the edges of its place and nowhere else; it arrives as the instruction leaves it, without the registers that the
-- edge clobbers
abbrev pub TransferFollowsEdges : Type 0
TransferFollowsEdges = (x : FramedFunction) (p : ℕ) (f : Fact) (q : ℕ) (g : Fact) → Contains (transfer x p f) (q, g) ↔ ((k : Fact) × (w : Edge) × Leaves x p f k × Contains (edges_of x.flow_graph p) w × (q ≡ w.to) × (g ≡ forget_registers (registers_of_list w.clobbers) k))

-- two states of a place with different depths
abbrev pub HasTwoDepths : FramedFunction → ℕ → Type 0
HasTwoDepths x p = (f : Fact) × (g : Fact) × IsStateOf x p f × IsStateOf x p g × (f.depth ≡ g.depth → ⊥)

-- the causes of two different depths, at a place that isn't a landing pad and at one that is
abbrev pub OfDepths : FramedFunction → ℕ → FrameCause → Type 0
OfDepths x p JoinDepth = Unit {0}
OfDepths x p PadDepth = x.pad p ≡ true
OfDepths x p c = ⊥

-- a cause stands at a place if and only if its condition holds for a state there, or it is a cause of two depths and two states there
-- have different ones
abbrev pub CausesStand : Type 0
CausesStand = (x : FramedFunction) (p : ℕ) (c : FrameCause) → StandsIn x p c ↔ (((f : Fact) × IsStateOf x p f × Holds x p f c) ⊎ (OfDepths x p c × HasTwoDepths x p))

-- the entry's fact is a state of the first place
abbrev pub EntryIsAState : Type 0
EntryIsAState = (x : FramedFunction) → IsStateOf x 0 entry_fact

-- the instruction of a site is a call, or a gate and no call
abbrev pub SitesAreCallsOrGates : Type 0
SitesAreCallsOrGates = (x : FramedFunction) (p : ℕ) (i : Instr) (site : ℕ) → instruction_at x.flow_graph p ≡ Some i → site_at x.flow_graph p ≡ Some site
    → (is_call i ≡ true) ⊎ ((is_call i ≡ false) × ((imm : ℕ) × (i ≡ Svc imm)))
