-- A statement with its place (docs/rules/sources.md, "Sections and places").
use Rattle.std.specs.Prelude.{ℕ, Option, Some, None}
use Rattle.std.specs.Global.{Box}
use Rattle.asm_statements.specs.declared.statement.Stmt.{Stmt}
use Rattle.asm_relocatable.specs.declared.place.Place.{Place}
use Rattle.asm_layout.specs.declared.placed.Extra.{Extra}
use Rattle.asm_layout.specs.declared.placed.Puts.{Puts}
use Rattle.asm_layout.specs.declared.placed.Puts.TheVariants.{Nothing}

-- a statement, its place, the place of the pool word that it loads, and what it emits besides its own bytes
pub record PlacedStmt : Type 0 where
  pub stmt : Stmt
  pub at : Place
  pub word : Option ℕ
  pub puts : Puts

-- a pool word and what is emitted, from the box; without a box there is neither
abbrev pub word_in : Option (Box Extra) → Option ℕ
word_in None = None
word_in (Some box) = box.value.word

abbrev pub puts_in : Option (Box Extra) → Puts
puts_in None = Nothing
puts_in (Some box) = box.value.puts
