-- The instruction pairs that make a frame of variable size: a MOV into sp of the result of the subtraction before it
-- (docs/rules/acceptance.md, "Lowering places").
use Rattle.std.specs.Prelude.{ℕ, zero, suc, ◌&&◌, Bool, false}
use Rattle.frame_code.specs.Lowering.{lowers_by}
use Rattle.frame_graph.specs.FlowGraph.{FlowGraph}
use Rattle.frame_graph.specs.Edges.{instruction_at}

-- a lowering place: such a MOV, with the subtraction 2 bytes before it and both reached. It doesn't depend on facts
abbrev pub is_lowering : FlowGraph → (ℕ → Bool) → ℕ → Bool
is_lowering s reached zero = false
is_lowering s reached (suc p) = reached p && reached (suc p) && lowers_by (instruction_at s p) (instruction_at s (suc p))
