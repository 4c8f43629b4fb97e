-- What `.size name, .-name` says of an object's symbols (docs/rules/sources.md, "Symbols"): the bytes from the label to the directive.
use Rattle.std.specs.Prelude.{◌≡◌, ℕ, ◌-◌, ◌^◌, ◌<◌, Bool, false, List, ◌∷◌, ◌++◌, length, Ok}
use Rattle.eh_word.specs.Names.{same_bytes}
use Rattle.asm_statements.specs.declared.statement.Stmt.{Stmt}
use Rattle.asm_statements.specs.declared.statement.StmtKind.{StmtKind}
use Rattle.asm_statements.specs.declared.statement.StmtKind.TheVariants as statement
use Rattle.asm_layout.specs.Walks.{cursor_place}
use Rattle.asm_relocatable.specs.declared.object.Object.{Object}
use Rattle.asm_object.specs.Objects.{object_of}
use Rattle.asm_laws.specs.RowLaw.{walk_over}
use Rattle.asm_laws.specs.SymbolLaw.{HasNone, EachNamed, WithoutOne}

-- a `.size` of a name
abbrev pub is_size : List ℕ → StmtKind → Bool
is_size name (statement.Size other) = same_bytes name other
is_size name _ = false

abbrev pub label_at : ℕ → List ℕ → Stmt
label_at line name = record { line = line; kind = statement.Label name }

abbrev pub size_at : ℕ → List ℕ → Stmt
size_at line name = record { line = line; kind = statement.Size name }

-- the last `.size` of a name, after its label in the same section, counts the bytes between them
abbrev pub SizesCountBytes : Type 0
SizesCountBytes =
    (before between more : List Stmt) (line last : ℕ) (name : List ℕ) (object : Object)
    → let front = before ++ label_at line name ∷ between in
    let stmts = front ++ size_at last name ∷ more in
    length stmts < 2 ^ 64 → object_of stmts ≡ Ok object → HasNone (is_size name) more
    → (cursor_place (walk_over stmts before).at).section ≡ (cursor_place (walk_over stmts front).at).section
    → EachNamed name (λ symbol. symbol.size ≡ (cursor_place (walk_over stmts front).at).offset - (cursor_place (walk_over stmts before).at).offset) object

-- without one there is no size
abbrev pub OthersHaveNoSize : Type 0
OthersHaveNoSize = WithoutOne is_size (λ symbol. symbol.size ≡ 0)
