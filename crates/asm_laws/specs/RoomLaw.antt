-- How much room statements take (docs/rules/sources.md, "Sections and places"): `.align n` goes on to the next multiple of 2^n, and `.bss` has as many
-- bytes as its statements reserve.
use Rattle.std.specs.Prelude.{◌≡◌, ℕ, pos, ◌^◌, ◌<◌, ◌≤◌, List, [], ◌∷◌, ◌++◌, length, Ok}
use Rattle.eh_word.specs.Bytes.{next_multiple}
use Rattle.asm_statements.specs.declared.statement.Stmt.{Stmt}
use Rattle.asm_statements.specs.declared.statement.StmtKind.TheVariants as statement
use Rattle.asm_layout.specs.Walks.{cursor_place}
use Rattle.asm_relocatable.specs.declared.object.Object.{Object}
use Rattle.asm_object.specs.Objects.{object_of}
use Rattle.asm_object.specs.Pieces.{place_at}
use Rattle.asm_laws.specs.RowLaw.{walk_over}

abbrev pub align_at : ℕ → ℕ → Stmt
align_at line n = record { line = line; kind = statement.Align (pos n) }

-- in the section where it stands, up to `.align 3`
abbrev pub AlignsReachMultiples : Type 0
AlignsReachMultiples =
    (before more : List Stmt) (line n : ℕ) (object : Object)
    → let stmts = before ++ align_at line n ∷ more in
    n ≤ 3 → length stmts < 2 ^ 64 → object_of stmts ≡ Ok object
    → cursor_place (walk_over stmts (before ++ align_at line n ∷ [])).at
    ≡ place_at (walk_over stmts before).at.section (next_multiple (cursor_place (walk_over stmts before).at).offset (2 ^ n))

-- the zeroed data of an object ends where the source has come to in `.bss`
abbrev pub ZeroedDataIsCounted : Type 0
ZeroedDataIsCounted =
    (stmts : List Stmt) (object : Object) → length stmts < 2 ^ 64 → object_of stmts ≡ Ok object → object.bss ≡ (walk_over stmts stmts).at.sizes.bss
