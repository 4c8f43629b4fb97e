-- Sources, and the results for each of several.
use Rattle.std.specs.Prelude.{ℕ, List, [], ◌∷◌, Result, Ok, Err}
use Rattle.asm_statements.specs.declared.statement.Stmt.{Stmt}

-- a source by the name of its file and its bytes
pub record NamedText : Type 0 where
  pub name : List ℕ
  pub text : List ℕ

-- .. and by its statements
pub record NamedStmts : Type 0 where
  pub name : List ℕ
  pub stmts : List Stmt

-- ---- results, or the line that says why there is none

-- a refusal: the status and the line
pub record Refusal : Type 0 where
  pub status : ℕ
  pub line : List ℕ

-- what is made of a result
abbrev pub and_then : {A B : Type 0} → Result A (List ℕ) → (A → Result B (List ℕ)) → Result B (List ℕ)
and_then (Ok answer) next = next answer
and_then (Err line) next = Err line

abbrev pub and_rest : {B : Type 0} → Result B (List ℕ) → Result (List B) (List ℕ) → Result (List B) (List ℕ)
and_rest (Err line) rest = Err line
and_rest (Ok answer) (Err line) = Err line
and_rest (Ok answer) (Ok answers) = Ok (answer ∷ answers)

-- the results for all of a list in order, or the first refusal
unfoldable pub all_answers : {A B : Type 0} → (A → Result B (List ℕ)) → List A → Result (List B) (List ℕ)
all_answers answer [] = Ok []
all_answers answer (x ∷ more) = and_rest (answer x) (all_answers answer more)
