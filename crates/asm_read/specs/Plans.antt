-- What a line holds, or the first place at which it is refused (docs/rules/sources.md, "Refusals of text").
use Rattle.std.specs.Prelude.{ℕ, ◌+◌, ◌==◌, ◌&&◌, ◌||◌, not, nat_lt, Bool, true, false, if◌then◌else◌, List, [], ◌∷◌, length, slice_index, Option, Some, None, Result, Ok, Err, codes}
use Rattle.asm_read.specs.declared.fault.SourceWhat.{SourceWhat}
use Rattle.asm_read.specs.declared.fault.SourceWhat.TheVariants.{NotAscii, LineTooLong, UnknownMnemonic, UnknownDirective}
use Rattle.asm_read.specs.declared.token.TokenKind.{TokenKind}
use Rattle.asm_read.specs.declared.token.TokenKind.TheVariants.{Word, End}
use Rattle.asm_read.specs.declared.token.Token.{Token}
use Rattle.asm_read.specs.declared.line.Span.{Span}
use Rattle.asm_read.specs.declared.line.LineEnd.{LineEnd}
use Rattle.asm_read.specs.declared.choice.Statement.{Statement}
use Rattle.asm_read.specs.declared.plan.LineContent.{LineContent}
use Rattle.asm_read.specs.declared.plan.TheConstants.{LONGEST}
use Rattle.asm_read.specs.Tokens.{token_at}
use Rattle.asm_read.specs.Operands.{◌>>=◌, span, stop, end_at_token, same, name_of, is_mark_of}
use Rattle.asm_read.specs.Forms.{rows}
use Rattle.asm_read.specs.Search.{first_fit}

-- directives that are ignored, with the rest of their line
abbrev pub is_passed : List ℕ → Bool
is_passed word =
    same word (codes ".syntax") || same word (codes ".thumb") || same word (codes ".thumb_func") || same word (codes ".code")
    || same word (codes ".cpu") || same word (codes ".arch") || same word (codes ".fpu") || same word (codes ".eabi_attribute")
    || same word (codes ".file") || same word (codes ".ident")

-- why a word without forms is refused: as a directive if it begins with a dot, else as a mnemonic
abbrev pub unknown : List ℕ → SourceWhat
unknown word = if slice_index word 0 == 46 then UnknownDirective else UnknownMnemonic

abbrev pub fit_or_stop : Token → List ℕ → Result Statement (Option LineEnd) → Result (Option Statement) LineEnd
fit_or_stop token word (Ok s) = Ok (Some s)
fit_or_stop token word (Err (Some s)) = Err s
fit_or_stop token word (Err None) = Err (stop token.start (unknown word))

-- the statement that a word begins
unfoldable pub word_statement : List ℕ → Token → Result (Option Statement) LineEnd
word_statement line token =
    let word = name_of line token in
    if is_passed word then Ok None else fit_or_stop token word (first_fit rows word line token.end None)

abbrev pub statement_from_token : List ℕ → Token → TokenKind → Result (Option Statement) LineEnd
statement_from_token line token Word = word_statement line token
statement_from_token line token End = Ok None
statement_from_token line token kind = Err (end_at_token token)

-- the statement at a place, if the line goes on there
unfoldable pub statement_at : List ℕ → ℕ → Result (Option Statement) LineEnd
statement_at line from = let token = token_at line from in statement_from_token line token token.kind

abbrev pub is_word : TokenKind → Bool
is_word Word = true
is_word kind = false

abbrev pub plan : Option Span → Option Statement → LineContent
plan label statement = record { label = label; statement = statement }

-- a label is a name with a colon after it; a line has at most one
unfoldable pub plan_of : List ℕ → Result LineContent LineEnd
plan_of line =
    let token = token_at line 0 in
    let colon = token_at line token.end in
    if is_word token.kind && is_mark_of 58 colon.kind
    then statement_at line colon.end >>= (λ s. Ok (plan (Some (span token.start token.end)) s))
    else statement_at line 0 >>= (λ s. Ok (plan None s))

-- bytes that are not allowed in a line: above 126, and below 32 except tab and carriage return
abbrev pub not_plain : ℕ → Bool
not_plain b = nat_lt 126 b || (nat_lt b 32 && not (b == 9) && not (b == 13))

-- the first such byte; `at` is the offset of these bytes in the line
abbrev pub not_plain_at : ℕ → List ℕ → Option LineEnd
not_plain_at at [] = None
not_plain_at at (b ∷ bs) = if not_plain b then Some (stop at NotAscii) else not_plain_at (at + 1) bs

abbrev pub too_long : List ℕ → Option LineEnd
too_long line = if nat_lt LONGEST (length line) then Some (stop LONGEST LineTooLong) else None

-- the earlier of two stops; the first of them if both are at one place
abbrev pub earlier_end : Option LineEnd → Option LineEnd → Option LineEnd
earlier_end None second = second
earlier_end (Some a) None = Some a
earlier_end (Some a) (Some b) = if nat_lt b.at a.at then Some b else Some a

abbrev pub stop_of : Result LineContent LineEnd → Option LineEnd
stop_of (Ok p) = None
stop_of (Err s) = Some s

abbrev pub unless : Option LineEnd → Result LineContent LineEnd → Result LineContent LineEnd
unless None p = p
unless (Some s) p = Err s

-- what a line holds, or its first stop; at one place, a forbidden byte comes first, then the line's length
unfoldable pub line_plan : List ℕ → Result LineContent LineEnd
line_plan line =
    unless (earlier_end (earlier_end (not_plain_at 0 line) (too_long line)) (stop_of (plan_of line))) (plan_of line)
