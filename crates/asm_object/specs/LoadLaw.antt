-- What `ldr rt, =value` loads. The place of a pool word is computed in one definition, its bytes are joined in another.
-- The law says that the instruction's offset leads to the bytes of its own value (docs/rules/sources.md, "Pools").
use Rattle.std.specs.Prelude.{◌≡◌, ◌^◌, ◌<◌, ℕ, List, ◌∷◌, ◌++◌, drop, length, take, Ok}
use Rattle.asm_statements.specs.declared.statement.Expr.{Expr}
use Rattle.asm_statements.specs.declared.statement.Stmt.{Stmt}
use Rattle.asm_statements.specs.declared.statement.StmtKind.TheVariants.{LdrPool}
use Rattle.thumb_isa.specs.declared.instr.Instr.TheVariants.{LdrLit}
use Rattle.thumb_encode.specs.Codes.{encode_result}
use Rattle.asm_layout.specs.Functions.{entries_of}
use Rattle.asm_layout.specs.Labels.{labels_of}
use Rattle.asm_layout.specs.Walks.{start, cursor_place, walk_after}
use Rattle.asm_layout.specs.Words.{word_of}
use Rattle.asm_relocatable.specs.declared.object.Object.{Object}
use Rattle.asm_object.specs.Bytes.{word_bytes}
use Rattle.asm_object.specs.Instructions.{literal}
use Rattle.asm_object.specs.Objects.{object_of}
use Rattle.asm_object.specs.Pieces.{bytes_of_code}
use Rattle.asm_object.specs.Values.{section_word}

-- a place of the text has the word of the value, and the load after these statements reaches that place from its own
-- base
pub record LoadsItsWord (stmts before : List Stmt) (t : ℕ) (value : Expr) (object : Object) : Type 0 where
  pub place : ℕ
  pub word : take 4 (drop place object.text) ≡ word_bytes (section_word (labels_of (entries_of stmts) stmts) (word_of value))
  pub code : take 2 (drop (cursor_place (walk_after (entries_of stmts) start before).at).offset object.text)
      ≡ bytes_of_code (encode_result (LdrLit t (literal place (cursor_place (walk_after (entries_of stmts) start before).at).offset)))

abbrev pub LoadsReadTheirWords : Type 0
LoadsReadTheirWords =
    (before more : List Stmt) (line t : ℕ) (value : Expr) (object : Object)
    → let stmts = before ++ record { line = line; kind = LdrPool t value } ∷ more in
    length stmts < 2 ^ 64 → object_of stmts ≡ Ok object → LoadsItsWord stmts before t value object
