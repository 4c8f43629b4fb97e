-- The causes that a fact meets at a place of a function (docs/rules/acceptance.md, "Causes").
use Rattle.std.specs.Prelude.{ℕ, ◌==◌, ◌&&◌, not, Bool, true, false, if◌then◌else◌, List, [], ◌∷◌, ◌++◌, Option, Some, None, Result, Ok, Err}
use Rattle.std.specs.List.{list_any}
use Rattle.std.specs.Option.{option_map_or}
use Rattle.thumb_isa.specs.declared.instr.Instr.{Instr}
use Rattle.thumb_isa.specs.declared.instr.Instr.TheVariants.{Bl, Blx}
use Rattle.thumb_core.specs.declared.regs.TheConstants.{LR}
use Rattle.frame_facts.specs.declared.cause.FrameCause.{FrameCause}
use Rattle.frame_facts.specs.declared.cause.FrameCause.TheVariants.{Undecodable, BranchOut, IndirectBranch, CallNotFunction, SpWrite, JoinDepth, ReturnState, CallState, FramePointerLost, BadBytecode, BadDescriptor, PadDepth, ThrowInLeafScope, SplitEntry, GenericModel, TooLong}
use Rattle.frame_facts.specs.declared.facts.Fact.{Fact}
use Rattle.frame_facts.specs.declared.saves.Prologue.{Prologue}
use Rattle.frame_facts.specs.After.{after_of}
use Rattle.frame_facts.specs.Agrees.{has_no_room, agreement}
use Rattle.frame_entries.specs.declared.unwinding.EntrySummary.{EntrySummary}
use Rattle.frame_entries.specs.declared.unwinding.EntrySummary.TheVariants.{Finds, Refused, BadBytecode as BadCodes, GenericModel as Generic}
use Rattle.frame_graph.specs.FlowGraph.{FlowGraph}
use Rattle.frame_graph.specs.Places.{address_of}
use Rattle.frame_graph.specs.Edges.{is_undecodable, branches_out, calls_nothing, instruction_at}
use Rattle.frame_graph.specs.Sites.{site_at, unwinding_at, is_scoped, pads_out}
use Rattle.frame_flow.specs.Framed.{FramedFunction}

-- ---- what a test and an answer show

abbrev pub cause_if : Bool → FrameCause → List FrameCause
cause_if test c = if test then c ∷ [] else []

abbrev pub causes_of_result : {X : Type 0} → Result X FrameCause → List FrameCause
causes_of_result (Ok x) = []
causes_of_result (Err c) = c ∷ []

-- ---- sites

-- of the two kinds of site, a call and not a gate
abbrev pub is_call : Instr → Bool
is_call (Bl off) = true
is_call (Blx m) = true
is_call i = false

-- The cause that a site gives by its entry: a recipe must agree with the fact. Without one only calls are checked, and only for a word
-- on the stack.
abbrev pub entry_causes : Prologue → EntrySummary → Bool → Fact → List FrameCause
entry_causes p (Finds r) call f = causes_of_result (agreement p r call f)
entry_causes p Refused call f = cause_if (has_no_room call f LR) (CallState LR)
entry_causes p BadCodes call f = cause_if (has_no_room call f LR) (CallState LR)
entry_causes p Generic call f = cause_if (has_no_room call f LR) (CallState LR)

-- a gate in the scope of a descriptor, with nothing on the stack
abbrev pub throws_in_leaf : FlowGraph → ℕ → Bool → Fact → Bool
throws_in_leaf s site call f = not call && (f.depth == 0) && is_scoped s site

abbrev pub site_causes : FramedFunction → Bool → Fact → ℕ → List FrameCause
site_causes x call f site =
    entry_causes x.prologue (unwinding_at x.flow_graph site) call f ++ (cause_if (pads_out x.flow_graph site) PadDepth ++ cause_if (throws_in_leaf x.flow_graph site call f) ThrowInLeafScope)

-- ---- places

-- what the instruction at a place does to the fact
abbrev pub after_at : FramedFunction → ℕ → Fact → Instr → Result Fact FrameCause
after_at x p f i = after_of x.prologue (x.lowers p) (address_of x.flow_graph p) i f

abbrev pub instruction_causes : FramedFunction → ℕ → Fact → Instr → List FrameCause
instruction_causes x p f i = causes_of_result (after_at x p f i) ++ option_map_or (site_causes x (is_call i) f) (site_at x.flow_graph p) []

-- The causes that a fact meets at a place, the lowest first. Only BL can call an address where no function begins, and its effect gives
-- no cause.
unfoldable pub causes_at : FramedFunction → ℕ → Fact → List FrameCause
causes_at x p f =
    cause_if (is_undecodable x.flow_graph p) Undecodable ++ (cause_if (branches_out x.flow_graph p) BranchOut
    ++ (cause_if (calls_nothing x.flow_graph p) CallNotFunction ++ option_map_or (instruction_causes x p f) (instruction_at x.flow_graph p) []))

-- ---- one cause and another

-- the causes are numbered from 1 on
abbrev pub number : FrameCause → ℕ
number Undecodable = 1
number BranchOut = 2
number IndirectBranch = 3
number CallNotFunction = 4
number SpWrite = 5
number JoinDepth = 6
number ReturnState = 7
number (CallState reg) = 8
number (FramePointerLost reg) = 9
number BadBytecode = 10
number BadDescriptor = 11
number PadDepth = 12
number ThrowInLeafScope = 13
number SplitEntry = 14
number GenericModel = 15
number TooLong = 16

-- two of them name a register
abbrev pub register : FrameCause → Option ℕ
register Undecodable = None
register BranchOut = None
register IndirectBranch = None
register CallNotFunction = None
register SpWrite = None
register JoinDepth = None
register ReturnState = None
register (CallState reg) = Some reg
register (FramePointerLost reg) = Some reg
register BadBytecode = None
register BadDescriptor = None
register PadDepth = None
register ThrowInLeafScope = None
register SplitEntry = None
register GenericModel = None
register TooLong = None

abbrev pub same_register : Option ℕ → Option ℕ → Bool
same_register None None = true
same_register None (Some b) = false
same_register (Some a) None = false
same_register (Some a) (Some b) = a == b

abbrev pub same_cause : FrameCause → FrameCause → Bool
same_cause a b = (number a == number b) && same_register (register a) (register b)

-- a fact meets a cause at a place if the cause is among those computed
unfoldable pub meets_cause : FramedFunction → FrameCause → ℕ → Fact → Bool
meets_cause x c p f = list_any (same_cause c) (causes_at x p f)
