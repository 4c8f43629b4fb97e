-- The effect of PUSH, POP, STM and LDM on a fact.
use Rattle.std.specs.Prelude.{ℕ, ◌+◌, ◌*◌, ◌==◌, nat_lt, if◌then◌else◌, List, [], ◌∷◌, length, Option, Some, None, option_map, pos, ◌+ℤ◌, ◌-ℤ◌}
use Rattle.std.specs.Int.{bit_at}
use Rattle.thumb_core.specs.Words.{registers_of_list}
use Rattle.frame_facts.specs.declared.facts.Source.{Source}
use Rattle.frame_facts.specs.declared.facts.Fact.{Fact}
use Rattle.frame_facts.specs.declared.saves.Prologue.{Prologue}
use Rattle.frame_facts.specs.Facts.{with_source, forget_register, forget_registers, bounded_depth}
use Rattle.frame_facts.specs.Saves.{saves_within, stack_word, fact_at_depth, to_depth}

-- sp falls by a word for each register; in the prologue, the saves that are now at or above sp are kept
abbrev pub push_to_depth : Prologue → ℕ → ℕ → Fact → Fact
push_to_depth p at depth f = if nat_lt at p.end then record f { depth = depth; kept = saves_within p depth } else fact_at_depth p depth f

abbrev pub push : Prologue → ℕ → ℕ → Fact → Option Fact
push p at list f = option_map (λ d. push_to_depth p at d f) (bounded_depth (pos f.depth +ℤ pos (4 * length (registers_of_list list))))

-- registers are loaded from consecutive words, from an offset above the old sp on
abbrev pub load_registers : Prologue → Fact → ℕ → List ℕ → Fact → Fact
load_registers p old at [] f = f
load_registers p old at (reg ∷ more) f = load_registers p old (at + 4) more (with_source f reg (stack_word p old (pos at)))

-- and then sp rises after them
abbrev pub pop : Prologue → ℕ → Fact → Option Fact
pop p list f = to_depth p (pos f.depth -ℤ pos (4 * length (registers_of_list list))) (load_registers p f 0 (registers_of_list list) f)

-- where a POP takes pc from: the highest of its words
abbrev pub popped_pc : Prologue → ℕ → Fact → Option Source
popped_pc p list f = if bit_at list 15 == 1 then Some (stack_word p f (pos (4 * length (registers_of_list list)) -ℤ pos 4)) else None

-- the base is written back; LDM writes its registers too
abbrev pub ldm : ℕ → ℕ → Fact → Fact
ldm n list f = forget_register n (forget_registers (registers_of_list list) f)
