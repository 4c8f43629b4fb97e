-- The data of a function's handler, as its source gives it after `.handlerdata`
-- (docs/rules/unwind-tables.md, "From the source").
use Rattle.std.specs.Prelude.{◌≡◌, ℕ, ◌*◌, ◌+◌, ◌^◌, ◌<◌, Bool, true, false, List, [], ◌∷◌, ◌++◌, length, drop, flat_map, is_some, Ok}
use Rattle.std.specs.List.{list_any, list_all}
use Rattle.eh_word.specs.Bytes.{next_multiple}
use Rattle.asm_statements.specs.declared.statement.Stmt.{Stmt}
use Rattle.asm_statements.specs.declared.statement.StmtKind.{StmtKind}
use Rattle.asm_statements.specs.declared.statement.StmtKind.TheVariants as statement
use Rattle.asm_unwind.specs.declared.entry.EntryWords.TheVariants as entry
use Rattle.asm_unwind.specs.Entries.{entry_words_of}
use Rattle.asm_relocatable.specs.declared.place.Section.TheVariants.{Extab}
use Rattle.asm_layout.specs.Functions.{entries_of}
use Rattle.asm_layout.specs.Labels.{labels_of}
use Rattle.asm_layout.specs.Sorts.{stmt_data}
use Rattle.asm_layout.specs.Walks.{cursor_place}
use Rattle.asm_relocatable.specs.declared.object.Object.{Object}
use Rattle.asm_object.specs.Objects.{object_of}
use Rattle.asm_object.specs.Pieces.{place_at, data_bytes}
use Rattle.asm_laws.specs.Functions.{HasNoBound, Function, source_of, directives_of, start_at}
use Rattle.asm_laws.specs.RowLaw.{walk_over}

abbrev pub is_handler : StmtKind → Bool
is_handler statement.HandlerData = true
is_handler _ = false

abbrev pub handler_at : ℕ → Stmt
handler_at line = record { line = line; kind = statement.HandlerData }

-- a statement that only emits bytes, or that names a place
abbrev pub is_data : StmtKind → Bool
is_data (statement.Label _) = true
is_data kind = is_some (stmt_data kind)

-- the place of a function's first `.handlerdata`, and the data that directly follows it
pub record Handler (f : Function) : Type 0 where
  pub code : List Stmt
  pub line : ℕ
  pub own : List Stmt
  pub rest : List Stmt
  pub split : f.between ≡ code ++ handler_at line ∷ (own ++ rest)
  pub first : list_any (λ s. is_handler s.kind) code ≡ false
  pub given : list_all (λ s. is_data s.kind) own ≡ true

-- the bytes of statements that are data
abbrev pub data_of : Function → List Stmt → List ℕ
data_of f own = flat_map (λ s. data_bytes (labels_of (entries_of (source_of f)) (source_of f)) s.kind) own

-- the data is in the exception tables at a place, and the statements after `.handlerdata` are from there on
pub record HandlerStands (f : Function) (handler : Handler f) (object : Object) (place : ℕ) : Type 0 where
  pub here_now : cursor_place (walk_over (source_of f) (f.before ++ start_at f.start_line ∷ (handler.code ++ handler_at handler.line ∷ []))).at ≡ place_at Extab place
  pub after : List ℕ
  pub bytes : drop place object.extab ≡ data_of f handler.own ++ after

-- if the function has a table, that place is directly after the table's words
abbrev pub HandlersStandAfterTheirTables : Type 0
HandlersStandAfterTheirTables =
    (f : Function) (handler : Handler f) (words : List ℕ) (object : Object)
    → HasNoBound f.between → length (source_of f) < 2 ^ 64 → object_of (source_of f) ≡ Ok object
    → entry_words_of (directives_of f) ≡ Ok (entry.Table words)
    → HandlerStands f handler object (next_multiple (walk_over (source_of f) f.before).at.sizes.extab 4 + 4 * length words)
