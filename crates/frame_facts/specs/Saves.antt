-- The saves of a prologue, and what a fact tells of a word of the stack.
use Rattle.std.specs.Prelude.{ℕ, min, Bool, List, take, Option, find, count_by, nat_le, if◌then◌else◌, ℤ, pos, ◌+ℤ◌, option_map}
use Rattle.std.specs.Ordering.{int_eq}
use Rattle.std.specs.Option.{option_map_or}
use Rattle.frame_facts.specs.declared.facts.Source.{Source}
use Rattle.frame_facts.specs.declared.facts.Source.TheVariants.{Entry, Other}
use Rattle.frame_facts.specs.declared.facts.Fact.{Fact}
use Rattle.frame_facts.specs.declared.saves.Save.{Save}
use Rattle.frame_facts.specs.declared.saves.Prologue.{Prologue}
use Rattle.frame_facts.specs.Facts.{bounded_depth}

abbrev pub saves_of : Prologue → List Save
saves_of p = take p.count p.saves

-- how many saves are at or above sp, if it is at a depth
abbrev pub saves_within : Prologue → ℕ → ℕ
saves_within p depth = count_by (λ (s : Save). nat_le s.offset depth) (saves_of p)

-- the save is the word so many bytes above the address `at` bytes below the CFA
abbrev pub lies_at : ℕ → ℤ → Save → Bool
lies_at at offset s = int_eq (pos s.offset +ℤ offset) (pos at)

-- what is known of that word, if the first `kept` saves are still on the stack
abbrev pub word : Prologue → ℕ → ℕ → ℤ → Source
word p kept at offset = option_map_or (λ (s : Save). Entry s.reg) (find (lies_at at offset) (take kept (saves_of p))) Other

-- what a word holds that lies so many bytes above sp
abbrev pub stack_word : Prologue → Fact → ℤ → Source
stack_word p f offset = if f.below then Other else word p f.kept f.depth offset

-- sp moves to a depth: saves below it are lost
abbrev pub fact_at_depth : Prologue → ℕ → Fact → Fact
fact_at_depth p depth f = record f { depth = depth; kept = min f.kept (saves_within p depth) }

-- the same, where it is a depth
abbrev pub to_depth : Prologue → ℤ → Fact → Option Fact
to_depth p depth f = option_map (λ d. fact_at_depth p d f) (bounded_depth depth)
