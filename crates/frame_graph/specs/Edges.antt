-- Where a place leads, landing pads apart (DDI 0419).
use Rattle.std.specs.Prelude.{ℕ, ◌+◌, not, Bool, false, if◌then◌else◌, List, [], ◌∷◌, ◌++◌, Option, Some, None, option_and_then}
use Rattle.std.specs.Option.{option_map_or}
use Rattle.thumb_isa.specs.declared.instr.Instr.{Instr}
use Rattle.run_images.specs.Start.{begins_function}
use Rattle.frame_code.specs.declared.standing.Standing.{Standing}
use Rattle.frame_code.specs.declared.standing.Standing.TheVariants.{Instruction, Udf, Nothing}
use Rattle.frame_code.specs.Standing.{is_nothing, instruction_of}
use Rattle.frame_code.specs.Branches.{reaches_next, branch_target, call_target}
use Rattle.frame_graph.specs.declared.edges.Edge.{Edge}
use Rattle.frame_graph.specs.FlowGraph.{FlowGraph}
use Rattle.frame_graph.specs.Places.{address_of, place_of, is_code_of, standing_at}

-- an edge to an address if that is code of the function; nothing is known of these registers after it
abbrev pub edges_to : ℕ → Option ℕ → List Edge
edges_to clobbers None = []
edges_to clobbers (Some place) = record { to = place; clobbers = clobbers } ∷ []

-- to the instruction after one of so many bytes
abbrev pub fall_through_edges : FlowGraph → ℕ → Instr → ℕ → List Edge
fall_through_edges s a i size = if reaches_next i then edges_to 0 (place_of s (a + size)) else []

abbrev pub straight_by : FlowGraph → ℕ → Standing → List Edge
straight_by s a (Instruction i size) = fall_through_edges s a i size ++ edges_to 0 (option_and_then (place_of s) (branch_target a i))
straight_by s a Udf = []
straight_by s a Nothing = []

-- the edges of a place, without those to landing pads: to the next instruction, and to the target of a branch
abbrev pub straight_edges : FlowGraph → ℕ → List Edge
straight_edges s place = straight_by s (address_of s place) (standing_at s place)

-- ---- what is wrong with a place, whatever is known there

-- no instruction stands there, and not UDF
abbrev pub is_undecodable : FlowGraph → ℕ → Bool
is_undecodable s place = is_nothing (standing_at s place)

-- the instruction at a place
abbrev pub instruction_at : FlowGraph → ℕ → Option Instr
instruction_at s place = instruction_of (standing_at s place)

-- a branch there leads to what isn't code of the function
abbrev pub branches_out : FlowGraph → ℕ → Bool
branches_out s place = option_map_or (λ a. not (is_code_of s a)) (option_and_then (branch_target (address_of s place)) (instruction_at s place)) false

-- the target of the branch at a place, if that is code of the function
abbrev pub branch_place : FlowGraph → ℕ → Option ℕ
branch_place s place = option_and_then (place_of s) (option_and_then (branch_target (address_of s place)) (instruction_at s place))

-- BL there leads to where no function begins
abbrev pub calls_nothing : FlowGraph → ℕ → Bool
calls_nothing s place = option_map_or (λ a. not (begins_function s.image.functions a)) (option_and_then (call_target (address_of s place)) (instruction_at s place)) false
