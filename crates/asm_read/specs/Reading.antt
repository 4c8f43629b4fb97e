-- The statements of a text, or the first place at which it is refused (docs/rules/sources.md, "Refusals of text").
use Rattle.std.specs.Prelude.{ℕ, ◌+◌, ◌==◌, not, nat_lt, Bool, if◌then◌else◌, List, [], ◌∷◌, ◌++◌, Option, Some, None, Result, Ok, Err}
use Rattle.asm_read.specs.declared.fault.SourceFault.{SourceFault}
use Rattle.asm_read.specs.declared.fault.SourceWhat.{SourceWhat}
use Rattle.asm_read.specs.declared.fault.SourceWhat.TheVariants.{NotAscii, TooManyLines}
use Rattle.asm_read.specs.declared.line.Span.{Span}
use Rattle.asm_read.specs.declared.line.LineEnd.{LineEnd}
use Rattle.asm_read.specs.declared.plan.LineContent.{LineContent}
use Rattle.asm_read.specs.declared.read.TheConstants.{MOST_LINES}
use Rattle.asm_read.specs.declared.choice.Statement.{Statement}
use Rattle.asm_statements.specs.declared.statement.Stmt.{Stmt}
use Rattle.asm_statements.specs.declared.statement.StmtKind.{StmtKind}
use Rattle.asm_statements.specs.declared.statement.StmtKind.TheVariants.{Label}
use Rattle.asm_read.specs.Fault.{fault_at}
use Rattle.asm_read.specs.Operands.{bytes_of}
use Rattle.asm_read.specs.Statements.{kind_of}
use Rattle.asm_read.specs.Plans.{not_plain, line_plan}

-- bytes other than the line feed
abbrev pub is_inside : ℕ → Bool
is_inside b = not (b == 10)

-- one byte more at the front of the first line
abbrev pub in_front : ℕ → List (List ℕ) → List (List ℕ)
in_front b [] = (b ∷ []) ∷ []
in_front b (line ∷ lines) = (b ∷ line) ∷ lines

-- the lines of a text: each ends at a line feed; after the last one there is a line only if bytes follow
unfoldable pub lines_of : List ℕ → List (List ℕ)
lines_of [] = []
lines_of (b ∷ bs) = if b == 10 then [] ∷ lines_of bs else in_front b (lines_of bs)

abbrev pub stmt : ℕ → StmtKind → Stmt
stmt line kind = record { line = line; kind = kind }

abbrev pub label_stmts : ℕ → List ℕ → Option Span → List Stmt
label_stmts number line None = []
label_stmts number line (Some s) = stmt number (Label (bytes_of line s)) ∷ []

abbrev pub statement_stmts : ℕ → List ℕ → Option Statement → List Stmt
statement_stmts number line None = []
statement_stmts number line (Some s) = stmt number (kind_of line s) ∷ []

-- a line's statements: the label comes before the rest
abbrev pub stmts_of : ℕ → List ℕ → LineContent → List Stmt
stmts_of number line plan = label_stmts number line plan.label ++ statement_stmts number line plan.statement

abbrev pub line_as : ℕ → List ℕ → Result LineContent LineEnd → Result (List Stmt) SourceFault
line_as number line (Ok plan) = Ok (stmts_of number line plan)
line_as number line (Err stop) = Err (fault_at number (stop.at + 1) stop.what)

-- what a line of this number means; columns count from 1
abbrev pub line_of : ℕ → List ℕ → Result (List Stmt) SourceFault
line_of number line = line_as number line (line_plan line)

-- statements with those that follow
abbrev pub append_stmts : List Stmt → Result (List Stmt) SourceFault → Result (List Stmt) SourceFault
append_stmts stmts (Ok more) = Ok (stmts ++ more)
append_stmts stmts (Err fault) = Err fault

abbrev pub then_append_stmts : Result (List Stmt) SourceFault → Result (List Stmt) SourceFault → Result (List Stmt) SourceFault
then_append_stmts (Ok stmts) more = append_stmts stmts more
then_append_stmts (Err fault) more = Err fault

-- why a line beyond the last allowed one is refused, at its first byte
abbrev pub excess_fault : List ℕ → SourceWhat
excess_fault [] = TooManyLines
excess_fault (b ∷ bs) = if not_plain b then NotAscii else TooManyLines

-- lines from a number on
unfoldable pub read_lines : ℕ → List (List ℕ) → Result (List Stmt) SourceFault
read_lines number [] = Ok []
read_lines number (line ∷ lines) =
    if nat_lt MOST_LINES number then Err (fault_at number 1 (excess_fault line))
    else then_append_stmts (line_of number line) (read_lines (number + 1) lines)

-- the statements of a text, or its first refusal
unfoldable pub source_stmts : List ℕ → Result (List Stmt) SourceFault
source_stmts text = read_lines 1 (lines_of text)
