-- The prologue of a function of an image. docs/rules/acceptance.md, "The prologue".
use Rattle.std.specs.Prelude.{ℕ, ◌+◌, ◌-◌, ◌/◌, ◌==◌, ◌&&◌, ◌||◌, max, zero, suc, Bool, if◌then◌else◌, List, [], ◌∷◌, Option, Some, None}
use Rattle.std.specs.Option.{option_map_or}
use Rattle.thumb_isa.specs.declared.instr.Instr.{Instr}
use Rattle.frame_facts.specs.declared.saves.Prologue.{Prologue}
use Rattle.frame_facts.specs.Prologues.{prologue_of}
use Rattle.frame_code.specs.declared.standing.Standing.{Standing}
use Rattle.frame_code.specs.declared.standing.Standing.TheVariants.{Instruction, Udf, Nothing}
use Rattle.frame_graph.specs.FlowGraph.{FlowGraph}
use Rattle.frame_graph.specs.Places.{standing_at}
use Rattle.frame_reach.specs.Marks.{Marks}

-- the number of places from the entry to the function's end; at least the entry is one
abbrev pub places : FlowGraph → ℕ
places s = max 1 ((s.end - s.start + 1) / 2)

-- one of the halfwords of an instruction at a place is a target
abbrev pub is_led_to : (ℕ → Bool) → ℕ → ℕ → Bool
is_led_to target place size = target place || ((size == 4) && target (place + 1))

-- an instruction with its size, unless one of its halfwords is a target
abbrev pub line_by : (ℕ → Bool) → ℕ → Standing → Option (Instr × ℕ)
line_by target place (Instruction i size) = if is_led_to target place size then None else Some (i, size)
line_by target place Udf = None
line_by target place Nothing = None

abbrev pub line_at : FlowGraph → (ℕ → Bool) → ℕ → Option (Instr × ℕ)
line_at s target place = line_by target place (standing_at s place)

-- the consecutive instructions from a place on, up to the first place without an instruction or with a halfword that is a target; at
-- most so many
abbrev pub lines : FlowGraph → (ℕ → Bool) → ℕ → ℕ → List (Instr × ℕ)
lines s target zero place = []
lines s target (suc fuel) place = option_map_or (λ line. line ∷ lines s target fuel (place + line.1 / 2)) (line_at s target place) []

-- the prologue
unfoldable pub prologue : FlowGraph → Marks → Prologue
prologue s m = prologue_of s.start (lines s m.target (places s) 0)
