-- Where reading a statement stops: at the first token with which no form of its word goes on (docs/rules/sources.md,
-- "Refusals of text").
use Rattle.std.specs.Prelude.{◌≡◌, ◌≢◌, ◌⊎◌, ◌+◌, ◌<◌, ◌≤◌, ℕ, zero, suc, Bool, false, true, List, [], ◌∷◌, length, Some, Ok, Err}
use Rattle.asm_read.specs.declared.fault.SourceFault.{SourceFault}
use Rattle.asm_read.specs.declared.fault.SourceWhat.{SourceWhat}
use Rattle.asm_read.specs.declared.fault.SourceWhat.TheVariants.{BadToken, BadOperand, NumberRange}
use Rattle.asm_read.specs.declared.token.TokenKind.{TokenKind}
use Rattle.asm_read.specs.declared.token.TokenKind.TheVariants.{Word, Wide, Bad, End}
use Rattle.asm_read.specs.declared.token.Token.{Token}
use Rattle.asm_read.specs.declared.line.Span.{Span}
use Rattle.asm_read.specs.declared.line.Register.{Register}
use Rattle.asm_read.specs.declared.line.Item.{Item}
use Rattle.asm_read.specs.declared.line.LineEnd.{LineEnd}
use Rattle.asm_read.specs.declared.expression.Shape.{Shape}
use Rattle.asm_read.specs.declared.expression.ParsedExpr.{ParsedExpr}
use Rattle.asm_read.specs.declared.form.Piece.{Piece}
use Rattle.asm_read.specs.declared.form.Piece.TheVariants.{MaybeHash, Registers, RegistersWithFirst, Expression, Expressions, WordExpressions}
use Rattle.asm_read.specs.declared.form.Operands.{Operands}
use Rattle.asm_read.specs.declared.read.TheConstants.{MOST_LINES}
use Rattle.asm_statements.specs.declared.statement.Stmt.{Stmt}
use Rattle.asm_read.specs.Tokens.{token_at}
use Rattle.asm_read.specs.Operands.{name_of, register_at, mark_at, name_at, item_at}
use Rattle.asm_read.specs.Expressions.{relation_of, list_expr_at}
use Rattle.asm_read.specs.Fits.{no_operands, piece_at}
use Rattle.asm_read.specs.Patterns.{pieces_of}
use Rattle.asm_read.specs.Forms.{TableRow, rows}
use Rattle.asm_read.specs.Plans.{unknown, statement_at, not_plain_at, too_long}
use Rattle.asm_read.specs.Fault.{fault_at}
use Rattle.asm_read.specs.Reading.{lines_of, line_of, excess_fault, source_stmts}

-- why a token of a kind is refused: it is no token, a number that is too wide where one is allowed, or a bad operand
abbrev pub Refuses : TokenKind → SourceWhat → Type 0
Refuses Bad what = what ≡ BadToken
Refuses Wide what = (what ≡ NumberRange) ⊎ (what ≡ BadOperand)
Refuses kind what = what ≡ BadOperand

-- reading stops at the first byte of a token
abbrev pub IsStoppedBy : Token → LineEnd → Type 0
IsStoppedBy token s = (s.at ≡ token.start) × Refuses token.kind s.what

-- ---- how far a piece of a form goes on

-- after the first register of an item: a dash, and a register that isn't lower
abbrev pub GoesInRange : List ℕ → Register → ℕ → Type 0
GoesInRange source low at =
    (at ≡ low.end)
    ⊎ ((dash : ℕ) × (mark_at 45 source low.end ≡ Ok dash) × ((at ≡ dash) ⊎ ((high : Register) × (register_at source dash ≡ Ok high) × (low.number ≤ high.number) × (at ≡ high.end))))

-- from a place to another across the tokens of a register or a range
abbrev pub GoesInItem : List ℕ → ℕ → ℕ → Type 0
GoesInItem source from at =
    (at ≡ from) ⊎ ((low : Register) × (register_at source from ≡ Ok low) × GoesInRange source low at)

-- the same across comma-separated registers and ranges, at most n of them
abbrev pub GoesInItems : ℕ → List ℕ → ℕ → ℕ → Type 0
GoesInItems zero source from at = at ≡ from
GoesInItems (suc n) source from at =
    GoesInItem source from at
    ⊎ ((i : Item) × (next : ℕ) × (item_at source from ≡ Ok i) × (mark_at 44 source i.end ≡ Ok next) × GoesInItems n source next at)

-- across a register list, with at most as many items as the line has bytes
abbrev pub GoesInList : List ℕ → ℕ → ℕ → Type 0
GoesInList source from at =
    (at ≡ from) ⊎ ((inside : ℕ) × (mark_at 123 source from ≡ Ok inside) × GoesInItems (length source) source inside at)

-- after the minus sign of a difference: a name, and + of a number
abbrev pub GoesInDifference : List ℕ → ℕ → ℕ → Type 0
GoesInDifference source minus at =
    (at ≡ minus) ⊎ ((other : Span) × (name_at source minus ≡ Ok other) × (mark_at 43 source other.end ≡ Ok at))

-- after the parenthesis of a relation: its word
abbrev pub GoesInRelation : List ℕ → Span → ℕ → ℕ → Type 0
GoesInRelation source name inside at =
    let token = token_at source inside in
    (at ≡ inside) ⊎ ((shape : Shape) × (relation_of name (name_of source token) ≡ Some shape) × (at ≡ token.end))

-- after a name: + of a number, - of a name, or in a word ( and a relation
abbrev pub GoesAfterName : Bool → List ℕ → Span → ℕ → Type 0
GoesAfterName word source name at =
    (mark_at 43 source name.end ≡ Ok at)
    ⊎ (((minus : ℕ) × (mark_at 45 source name.end ≡ Ok minus) × GoesInDifference source minus at)
    ⊎ ((inside : ℕ) × (word ≡ true) × (mark_at 40 source name.end ≡ Ok inside) × GoesInRelation source name inside at))

abbrev pub GoesInExpression : Bool → List ℕ → ℕ → ℕ → Type 0
GoesInExpression word source from at =
    (at ≡ from) ⊎ ((name : Span) × (name_at source from ≡ Ok name) × GoesAfterName word source name at)

-- an expression of a list, where a number may have a #
abbrev pub GoesInListed : Bool → List ℕ → ℕ → ℕ → Type 0
GoesInListed word source from at = (mark_at 35 source from ≡ Ok at) ⊎ GoesInExpression word source from at

-- across comma-separated expressions, at most n of them
abbrev pub GoesInSeries : ℕ → Bool → List ℕ → ℕ → ℕ → Type 0
GoesInSeries zero word source from at = at ≡ from
GoesInSeries (suc n) word source from at =
    GoesInListed word source from at
    ⊎ ((e : ParsedExpr) × (next : ℕ) × (list_expr_at word source from ≡ Ok e) × (mark_at 44 source e.end ≡ Ok next) × GoesInSeries n word source next at)

abbrev pub GoesInExpressions : Bool → List ℕ → ℕ → ℕ → Type 0
GoesInExpressions word source from at = GoesInSeries (length source) word source from at

-- from a place to one after some tokens of a piece, more of which may follow; most pieces are one token
abbrev pub GoesIn : Piece → List ℕ → ℕ → ℕ → Type 0
GoesIn Registers source from at = GoesInList source from at
GoesIn RegistersWithFirst source from at = GoesInList source from at
GoesIn Expression source from at = GoesInExpression false source from at
GoesIn Expressions source from at = GoesInExpressions false source from at
GoesIn WordExpressions source from at = GoesInExpressions true source from at
GoesIn MaybeHash source from at = ⊥
GoesIn piece source from at = at ≡ from

-- ---- where a form stops

-- the last of places
abbrev pub IsLast : (ℕ → Type 0) → ℕ → Type 0
IsLast P at = (far : ℕ) → P far → far ≤ at

-- a piece of a form is read up to a place and no farther, and the token there stops it
abbrev pub StopsIn : Piece → List ℕ → ℕ → LineEnd → Type 0
StopsIn piece source from s =
    (at : ℕ) × GoesIn piece source from at × IsStoppedBy (token_at source at) s × IsLast (GoesIn piece source from) at

-- the pieces of a form are read up to a stop: the first piece that the line doesn't have, or what follows them in the
-- line
abbrev pub Stops : List Piece → List ℕ → Operands → LineEnd → Type 0
Stops [] source o s = ((token_at source o.at).kind ≢ End) × IsStoppedBy (token_at source o.at) s
Stops (p ∷ ps) source o s =
    ((piece_at p source o ≡ Err s) × StopsIn p source o.at s) ⊎ ((next : Operands) × (piece_at p source o ≡ Ok next) × Stops ps source next s)

-- the first stop is before the second, or at its place; and there a number that is too wide counts as farther than a
-- bad operand
abbrev pub IsNoFarther : LineEnd → LineEnd → Type 0
IsNoFarther t s = (t.at < s.at) ⊎ ((t.at ≡ s.at) × (s.what ≡ BadOperand → t.what ≡ BadOperand))

abbrev pub Among : List TableRow → TableRow → Type 0
Among [] row = ⊥
Among (r ∷ rs) row = (r ≡ row) ⊎ Among rs row

-- a row of a word
abbrev pub IsRowOf : List ℕ → TableRow → Type 0
IsRowOf word row = Among rows row × (row.word ≡ word)

-- a form of a word stops there, and every form stops there or before
pub record IsFarthest (word source : List ℕ) (from : ℕ) (s : LineEnd) : Type 0 where
  pub one : (row : TableRow) × IsRowOf word row × Stops (pieces_of row.form.operands) source (no_operands from) s
  pub each : (row : TableRow) → IsRowOf word row → (t : LineEnd) × Stops (pieces_of row.form.operands) source (no_operands from) t × IsNoFarther t s

-- no form begins with a word
abbrev pub IsUnknown : List ℕ → Type 0
IsUnknown word = (row : TableRow) → IsRowOf word row → ⊥

-- what is at a place is no word, or a word without forms, or a word all of whose forms stop
abbrev pub IsStopAt : List ℕ → ℕ → LineEnd → Type 0
IsStopAt source from s =
    let token = token_at source from in
    ((token.kind ≢ Word) × IsStoppedBy token s)
    ⊎ (((token.kind ≡ Word) × IsUnknown (name_of source token) × (s.at ≡ token.start) × (s.what ≡ unknown (name_of source token)))
    ⊎ ((token.kind ≡ Word) × IsFarthest (name_of source token) source token.end s))

-- a label begins a line, and ends after its colon
abbrev pub LabelEnds : List ℕ → ℕ → Type 0
LabelEnds source after = (label : Span) × (name_at source 0 ≡ Ok label) × (mark_at 58 source label.end ≡ Ok after)

-- where a line's statement begins: after its label, or at the line's start if it has none
abbrev pub StatementBegins : List ℕ → ℕ → Type 0
StatementBegins source from = ((from ≡ 0) × ((after : ℕ) → LabelEnds source after → ⊥)) ⊎ LabelEnds source from

-- what a line can be refused for, in this order at one place: a forbidden byte, its length, its statement
abbrev pub CanStop : ℕ → List ℕ → LineEnd → Type 0
CanStop zero source s = not_plain_at 0 source ≡ Some s
CanStop (suc zero) source s = too_long source ≡ Some s
CanStop (suc (suc zero)) source s =
    (from : ℕ) × StatementBegins source from × (statement_at source from ≡ Err s) × IsStopAt source from s
CanStop (suc (suc (suc n))) source s = ⊥

-- a line is refused at the first place at which it can be, for the first cause there
abbrev pub IsLineStop : List ℕ → LineEnd → Type 0
IsLineStop source s =
    (n : ℕ) × CanStop n source s × ((m : ℕ) (t : LineEnd) → CanStop m source t → (s.at < t.at) ⊎ ((s.at ≡ t.at) × (n ≤ m)))

-- a line with a number is refused: at its stop, or as one line too many
abbrev pub IsRefused : ℕ → List ℕ → SourceFault → Type 0
IsRefused number source fault =
    ((MOST_LINES < number) × (fault ≡ fault_at number 1 (excess_fault source)))
    ⊎ ((s : LineEnd) × (fault ≡ fault_at number (s.at + 1) s.what) × IsLineStop source s)

-- the first of these lines that isn't read is refused in this way
abbrev pub FirstRefused : ℕ → List (List ℕ) → SourceFault → Type 0
FirstRefused number [] fault = ⊥
FirstRefused number (source ∷ sources) fault =
    IsRefused number source fault
    ⊎ ((stmts : List Stmt) × (line_of number source ≡ Ok stmts) × FirstRefused (number + 1) sources fault)

abbrev pub StopsAtTheFirst : Type 0
StopsAtTheFirst = (text : List ℕ) (fault : SourceFault) → source_stmts text ≡ Err fault → FirstRefused 1 (lines_of text) fault
