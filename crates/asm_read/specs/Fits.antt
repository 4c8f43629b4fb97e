-- How a form's operands fit the tokens of a line, piece by piece (docs/rules/sources.md, "Statements").
use Rattle.std.specs.Prelude.{ℕ, ◌&&◌, not, Bool, true, false, if◌then◌else◌, List, [], ◌∷◌, length, Result, Ok, Err, ℤ, pos, codes}
use Rattle.asm_read.specs.declared.fault.SourceWhat.TheVariants.{BadOperand}
use Rattle.asm_read.specs.declared.token.TokenKind.{TokenKind}
use Rattle.asm_read.specs.declared.token.TokenKind.TheVariants.{End}
use Rattle.asm_read.specs.declared.token.Token.{Token}
use Rattle.asm_read.specs.declared.line.LineEnd.{LineEnd}
use Rattle.asm_read.specs.declared.form.Piece.{Piece}
use Rattle.asm_read.specs.declared.form.Piece.TheVariants.{First, Second, Third, Sp, Mark, MaybeHash, Number, Zero, UpToThree, Name, SameName, Dot, Rodata, Function, Object, Registers, RegistersWithFirst, Text, Expression, Expressions, WordExpressions}
use Rattle.asm_read.specs.declared.form.Operands.{Operands}
use Rattle.asm_read.specs.Tokens.{token_at}
use Rattle.asm_read.specs.Operands.{◌>>=◌, span, stop, end_at_token, bytes_of, register_at, mark_at, mark_or_nothing, word_at, name_at, text_at, number_at, limited_number_at, has_register, list_at}
use Rattle.asm_read.specs.Expressions.{expression_at, expressions_at}

-- no operand yet, at a place
abbrev pub no_operands : ℕ → Operands
no_operands at = record { at = at; first = 0; second = 0; third = 0; list = 0; number = pos 0; name = span 0 0; from = 0 }

abbrev pub with_first : List ℕ → Operands → Result Operands LineEnd
with_first line o = register_at line o.at >>= (λ r. Ok (record o { at = r.end; first = r.number }))

abbrev pub with_second : List ℕ → Operands → Result Operands LineEnd
with_second line o = register_at line o.at >>= (λ r. Ok (record o { at = r.end; second = r.number }))

abbrev pub with_third : List ℕ → Operands → Result Operands LineEnd
with_third line o = register_at line o.at >>= (λ r. Ok (record o { at = r.end; third = r.number }))

abbrev pub with_word : List ℕ → List ℕ → Operands → Result Operands LineEnd
with_word word line o = word_at word line o.at >>= (λ at. Ok (record o { at = at }))

abbrev pub with_mark : ℕ → List ℕ → Operands → Result Operands LineEnd
with_mark mark line o = mark_at mark line o.at >>= (λ at. Ok (record o { at = at }))

-- a # or nothing
abbrev pub with_hash : List ℕ → Operands → Operands
with_hash line o = record o { at = mark_or_nothing 35 line o.at }

abbrev pub with_number : List ℕ → Operands → Result Operands LineEnd
with_number line o = number_at line o.at >>= (λ n. Ok (record o { at = n.end; number = n.value }))

-- a number from 0 to high
abbrev pub with_limited_number : ℤ → List ℕ → Operands → Result Operands LineEnd
with_limited_number high line o = limited_number_at high line o.at >>= (λ n. Ok (record o { at = n.end; number = n.value }))

abbrev pub with_name : List ℕ → Operands → Result Operands LineEnd
with_name line o = name_at line o.at >>= (λ s. Ok (record o { at = s.end; name = s }))

abbrev pub with_text : List ℕ → Operands → Result Operands LineEnd
with_text line o = text_at line o.at >>= (λ s. Ok (record o { at = s.end; name = s }))

-- a register list, and whether it has to have the first register
abbrev pub with_list : Bool → List ℕ → Operands → Result Operands LineEnd
with_list first line o =
    list_at line o.at >>= (λ l.
    if first && not (has_register l.list o.first) then Err (stop l.close BadOperand)
    else Ok (record o { at = l.end; list = l.list }))

abbrev pub with_expression : List ℕ → Operands → Result Operands LineEnd
with_expression line o = expression_at false line o.at >>= (λ e. Ok (record o { at = e.end; from = o.at }))

abbrev pub with_expressions : Bool → List ℕ → Operands → Result Operands LineEnd
with_expressions word line o =
    expressions_at (length line) word line o.at >>= (λ s. Ok (record o { at = s.end; from = o.at }))

-- reads one more piece
unfoldable pub piece_at : Piece → List ℕ → Operands → Result Operands LineEnd
piece_at First line o = with_first line o
piece_at Second line o = with_second line o
piece_at Third line o = with_third line o
piece_at Sp line o = with_word (codes "sp") line o
piece_at (Mark mark) line o = with_mark mark line o
piece_at MaybeHash line o = Ok (with_hash line o)
piece_at Number line o = with_number line o
piece_at Zero line o = with_limited_number (pos 0) line o
piece_at UpToThree line o = with_limited_number (pos 3) line o
piece_at Name line o = with_name line o
piece_at SameName line o = with_word (bytes_of line o.name) line o
piece_at Dot line o = with_word (codes ".") line o
piece_at Rodata line o = with_word (codes ".rodata") line o
piece_at Function line o = with_word (codes "function") line o
piece_at Object line o = with_word (codes "object") line o
piece_at Registers line o = with_list false line o
piece_at RegistersWithFirst line o = with_list true line o
piece_at Text line o = with_text line o
piece_at Expression line o = with_expression line o
piece_at Expressions line o = with_expressions false line o
piece_at WordExpressions line o = with_expressions true line o

abbrev pub end_if : Operands → Token → TokenKind → Result Operands LineEnd
end_if o token End = Ok o
end_if o token kind = Err (end_at_token token)

-- the operands, if the line ends after them
unfoldable pub end_at : List ℕ → Operands → Result Operands LineEnd
end_at line o = let token = token_at line o.at in end_if o token token.kind

-- reads these pieces and then the line's end, or stops at the first token that doesn't fit
unfoldable pub read_pieces : List Piece → List ℕ → Operands → Result Operands LineEnd
read_pieces [] line o = end_at line o
read_pieces (p ∷ ps) line o = piece_at p line o >>= (λ next. read_pieces ps line next)
