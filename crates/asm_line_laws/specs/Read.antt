-- What is read was written: each statement that is read from a source is there as one of its lines, or is a label.
use Rattle.std.specs.Prelude.{◌≡◌, ◌⊎◌, ℕ, ◌+◌, true, List, [], ◌∷◌, ◌++◌, Ok}
use Rattle.asm_read.specs.declared.token.TokenKind.TheVariants.{Word, End}
use Rattle.asm_statements.specs.declared.statement.Stmt.{Stmt}
use Rattle.asm_statements.specs.declared.statement.StmtKind.{StmtKind}
use Rattle.asm_statements.specs.declared.statement.StmtKind.TheVariants.{Label}
use Rattle.asm_read.specs.Tokens.{token_at}
use Rattle.asm_read.specs.Operands.{name_of}
use Rattle.asm_read.specs.Plans.{is_passed}
use Rattle.asm_read.specs.Reading.{stmt, lines_of, source_stmts}
use Rattle.asm_line_laws.specs.Lines.{mark, name, lines, StandsAt, OneStands}

-- a word is at a place, followed up to the line's end by one of this statement's lines
abbrev pub IsStatementAt : List ℕ → ℕ → StmtKind → Type 0
IsStatementAt source from kind =
    let token = token_at source from in
    (token.kind ≡ Word) × OneStands source (name_of source token) token.end (lines kind)

-- nothing is at a place, or an ignored directive
abbrev pub IsNothingAt : List ℕ → ℕ → Type 0
IsNothingAt source from =
    let token = token_at source from in
    (token.kind ≡ End) ⊎ ((token.kind ≡ Word) × (is_passed (name_of source token) ≡ true))

-- at a place of the line with a number are these statements: one or none
abbrev pub StandAfter : ℕ → List ℕ → ℕ → List Stmt → Type 0
StandAfter number source from [] = IsNothingAt source from
StandAfter number source from (s ∷ []) = (s.line ≡ number) × IsStatementAt source from s.kind
StandAfter number source from (s ∷ t ∷ more) = ⊥

-- a label: a name with a colon after it, and the rest of the line
abbrev pub IsLabelled : ℕ → List ℕ → List Stmt → Type 0
IsLabelled number source [] = ⊥
IsLabelled number source (s ∷ more) =
    (n : List ℕ) × (end : ℕ) × (after : ℕ) × (s ≡ stmt number (Label n)) × StandsAt source 0 (name n) end × StandsAt source end (mark 58) after × StandAfter number source after more

-- the statements of one line
abbrev pub AreOfLine : ℕ → List ℕ → List Stmt → Type 0
AreOfLine number source stmts = StandAfter number source 0 stmts ⊎ IsLabelled number source stmts

-- the statements of lines from a number on
abbrev pub AreOfLines : ℕ → List (List ℕ) → List Stmt → Type 0
AreOfLines number [] stmts = stmts ≡ []
AreOfLines number (source ∷ sources) stmts =
    (here : List Stmt) × (more : List Stmt) × (stmts ≡ here ++ more) × AreOfLine number source here × AreOfLines (number + 1) sources more

abbrev pub WasWritten : Type 0
WasWritten = (text : List ℕ) (stmts : List Stmt) → source_stmts text ≡ Ok stmts → AreOfLines 1 (lines_of text) stmts
