-- Operands at a place of a line: what stands there and the place after it, or where reading stops and why
-- (docs/rules/sources.md, "Statements").
use Rattle.std.specs.Prelude.{ℕ, ◌+◌, ◌-◌, ◌*◌, ◌/◌, ◌%◌, ◌^◌, ◌==◌, ◌&&◌, nat_eq, nat_lt, nat_le, Bool, true, false, if◌then◌else◌, List, [], length, slice_index, slice_range, Option, Some, None, Result, Ok, Err, ℤ, pos, codes, bit_or, zero, suc, int_le}
use Rattle.std.specs.Cmp.Lexicographic.{pointwise}
use Rattle.asm_read.specs.declared.fault.SourceWhat.{SourceWhat}
use Rattle.asm_read.specs.declared.fault.SourceWhat.TheVariants.{BadToken, BadOperand, NumberRange}
use Rattle.asm_read.specs.declared.token.TokenKind.{TokenKind}
use Rattle.asm_read.specs.declared.token.TokenKind.TheVariants.{Word, Number, Wide, Quoted, Mark, Bad}
use Rattle.asm_read.specs.declared.token.Token.{Token}
use Rattle.asm_read.specs.declared.line.TheConstants.{SP, LR, PC}
use Rattle.asm_read.specs.declared.line.Span.{Span}
use Rattle.asm_read.specs.declared.line.LineEnd.{LineEnd}
use Rattle.asm_read.specs.declared.line.Register.{Register}
use Rattle.asm_read.specs.declared.line.Numeral.{Numeral}
use Rattle.asm_read.specs.declared.line.Item.{Item}
use Rattle.asm_read.specs.declared.line.ListRegisters.{ListRegisters}
use Rattle.asm_read.specs.Tokens.{token_at, is_digit, is_between}

-- goes on with what was read, or keeps the first stop
infixl 10 ◌>>=◌
abbrev pub ◌>>=◌ : {A B : Type 0} → Result A LineEnd → (A → Result B LineEnd) → Result B LineEnd
Ok a >>= f = f a
Err stop >>= f = Err stop

abbrev pub span : ℕ → ℕ → Span
span start end = record { start = start; end = end }

abbrev pub stop : ℕ → SourceWhat → LineEnd
stop at what = record { at = at; what = what }

abbrev pub bytes_of : List ℕ → Span → List ℕ
bytes_of line s = if nat_lt s.start s.end && nat_le s.end (length line) then slice_range line s.start s.end else []

abbrev pub same : List ℕ → List ℕ → Bool
same xs ys = pointwise nat_eq xs ys

-- why a token that no form takes is refused
abbrev pub refusal : TokenKind → SourceWhat
refusal Bad = BadToken
refusal kind = BadOperand

abbrev pub end_at_token : Token → LineEnd
end_at_token token = stop token.start (refusal token.kind)

-- the bytes of a name; none where the token is no name
abbrev pub name_in : List ℕ → Span → TokenKind → List ℕ
name_in line s Word = bytes_of line s
name_in line s kind = []

abbrev pub name_of : List ℕ → Token → List ℕ
name_of line token = name_in line (span token.start token.end) token.kind

-- r0 to r12, sp, lr and pc
abbrev pub register_of : List ℕ → Option ℕ
register_of name =
    if same name (codes "sp") then Some SP
    else if same name (codes "lr") then Some LR
    else if same name (codes "pc") then Some PC
    else if length name == 2 && slice_index name 0 == 114 && is_digit (slice_index name 1) then Some (slice_index name 1 - 48)
    else if length name == 3 && slice_index name 0 == 114 && slice_index name 1 == 49 && is_between 48 50 (slice_index name 2) then Some (10 + (slice_index name 2 - 48))
    else None

abbrev pub register_in : Token → Option ℕ → Result Register LineEnd
register_in token None = Err (end_at_token token)
register_in token (Some r) = Ok (record { number = r; start = token.start; end = token.end })

unfoldable pub register_at : List ℕ → ℕ → Result Register LineEnd
register_at line from = let token = token_at line from in register_in token (register_of (name_of line token))

-- the place after a token of this kind
abbrev pub past_if : Bool → Token → Result ℕ LineEnd
past_if true token = Ok token.end
past_if false token = Err (end_at_token token)

abbrev pub is_mark_of : ℕ → TokenKind → Bool
is_mark_of b (Mark c) = b == c
is_mark_of b kind = false

-- the place after this mark
unfoldable pub mark_at : ℕ → List ℕ → ℕ → Result ℕ LineEnd
mark_at b line from = let token = token_at line from in past_if (is_mark_of b token.kind) token

-- the place after this mark, or the same place if another token is there
unfoldable pub mark_or_nothing : ℕ → List ℕ → ℕ → ℕ
mark_or_nothing b line from = let token = token_at line from in if is_mark_of b token.kind then token.end else from

-- the place after this word
unfoldable pub word_at : List ℕ → List ℕ → ℕ → Result ℕ LineEnd
word_at word line from = let token = token_at line from in past_if (same (name_of line token) word) token

abbrev pub name_span : Token → TokenKind → Result Span LineEnd
name_span token Word = Ok (span token.start token.end)
name_span token kind = Err (end_at_token token)

unfoldable pub name_at : List ℕ → ℕ → Result Span LineEnd
name_at line from = let token = token_at line from in name_span token token.kind

abbrev pub text_span : Token → TokenKind → Result Span LineEnd
text_span token Quoted = Ok (span token.start token.end)
text_span token kind = Err (end_at_token token)

unfoldable pub text_at : List ℕ → ℕ → Result Span LineEnd
text_at line from = let token = token_at line from in text_span token token.kind

abbrev pub numeral : Token → TokenKind → Result Numeral LineEnd
numeral token (Number n) = Ok (record { value = n; end = token.end })
numeral token Wide = Err (stop token.start NumberRange)
numeral token kind = Err (end_at_token token)

unfoldable pub number_at : List ℕ → ℕ → Result Numeral LineEnd
number_at line from = let token = token_at line from in numeral token token.kind

-- a number from 0 to another
abbrev pub limited_number : Token → ℤ → TokenKind → Result Numeral LineEnd
limited_number token high (Number n) =
    if int_le (pos 0) n && int_le n high then Ok (record { value = n; end = token.end }) else Err (end_at_token token)
limited_number token high kind = Err (end_at_token token)

unfoldable pub limited_number_at : ℤ → List ℕ → ℕ → Result Numeral LineEnd
limited_number_at high line from = let token = token_at line from in limited_number token high token.kind

-- registers from one to another as bits of a halfword
abbrev pub register_mask : ℕ → ℕ → ℕ
register_mask low high = 65535 / 2 ^ (15 - high) / 2 ^ low * 2 ^ low

abbrev pub has_register : ℕ → ℕ → Bool
has_register list number = nat_lt number 16 && (list / 2 ^ number % 2 == 1)

-- a register, or a range `a-b` with a at most b
unfoldable pub item_at : List ℕ → ℕ → Result Item LineEnd
item_at line from =
    register_at line from >>= (λ low.
    let token = token_at line low.end in
    if is_mark_of 45 token.kind
    then register_at line token.end >>= (λ high.
    if nat_lt high.number low.number then Err (stop high.start BadOperand)
    else Ok (record { low = low.number; high = high.number; end = high.end }))
    else Ok (record { low = low.number; high = low.number; end = low.end }))

-- comma-separated items up to a closing brace, added to the registers before them; at most n items
unfoldable pub list_from : ℕ → List ℕ → ℕ → ℕ → Result ListRegisters LineEnd
list_from zero line list from = Err (end_at_token (token_at line from))
list_from (suc n) line list from =
    item_at line from >>= (λ item.
    let token = token_at line item.end in
    let all = bit_or list (register_mask item.low item.high) in
    if is_mark_of 125 token.kind then Ok (record { list = all; close = token.start; end = token.end })
    else if is_mark_of 44 token.kind then list_from n line all token.end
    else Err (end_at_token token))

-- a register list in braces; it may be empty
unfoldable pub list_at : List ℕ → ℕ → Result ListRegisters LineEnd
list_at line from =
    mark_at 123 line from >>= (λ inside.
    let token = token_at line inside in
    if is_mark_of 125 token.kind then Ok (record { list = 0; close = token.start; end = token.end })
    else list_from (length line) line 0 inside)
