-- The functions of a source, by its statements alone: each begins at a `.fnstart` and ends at the next `.fnend`
-- (docs/rules/unwind-tables.md, "From the source").
use Rattle.std.specs.Prelude.{◌≡◌, ℕ, Bool, true, false, List, [], ◌∷◌, ◌++◌, count_by}
use Rattle.std.specs.List.{list_any, filter_map}
use Rattle.asm_statements.specs.declared.statement.Stmt.{Stmt}
use Rattle.asm_statements.specs.declared.statement.StmtKind.{StmtKind}
use Rattle.asm_statements.specs.declared.statement.StmtKind.TheVariants as statement
use Rattle.asm_unwind.specs.declared.directive.UnwindDirective.{UnwindDirective}
use Rattle.asm_unwind.specs.declared.directive.UnwindDirective.TheVariants.{FnStart, FnEnd}
use Rattle.asm_layout.specs.Functions.{directive_of}

abbrev pub starts_function : StmtKind → Bool
starts_function statement.FnStart = true
starts_function _ = false

-- the statement begins or ends a function
abbrev pub bounds_function : StmtKind → Bool
bounds_function statement.FnStart = true
bounds_function statement.FnEnd = true
bounds_function _ = false

-- no function begins or ends in statements
abbrev pub HasNoBound : List Stmt → Type 0
HasNoBound stmts = list_any (λ s. bounds_function s.kind) stmts ≡ false

-- how many functions begin in statements
abbrev pub functions_in : List Stmt → ℕ
functions_in stmts = count_by (λ s. starts_function s.kind) stmts

-- the unwind directives among statements
abbrev pub directives_in : List Stmt → List UnwindDirective
directives_in stmts = filter_map (λ s. directive_of s.kind) stmts

-- a source cut at one of its functions: the statements before its `.fnstart`, those between that and its `.fnend`, and those
-- after it
pub record Function : Type 0 where
  pub before : List Stmt
  pub start_line : ℕ
  pub between : List Stmt
  pub end_line : ℕ
  pub after : List Stmt

abbrev pub start_at : ℕ → Stmt
start_at line = record { line = line; kind = statement.FnStart }

abbrev pub end_at : ℕ → Stmt
end_at line = record { line = line; kind = statement.FnEnd }

-- the statements of the source
abbrev pub source_of : Function → List Stmt
source_of f = f.before ++ start_at f.start_line ∷ (f.between ++ end_at f.end_line ∷ f.after)

-- its directives, with those that bound it
abbrev pub directives_of : Function → List UnwindDirective
directives_of f = FnStart ∷ (directives_in f.between ++ FnEnd ∷ [])
