-- The tokens of a line: a grammar by cases on its bytes (docs/rules/sources.md, "Tokens").
use Rattle.std.specs.Prelude.{ℕ, ◌+◌, ◌-◌, ◌*◌, ◌==◌, ◌&&◌, ◌||◌, not, nat_lt, nat_le, Bool, true, false, if◌then◌else◌, List, [], ◌∷◌, length, take, drop, slice_index, Option, Some, None, is_some, unwrap_or, option_and_then, pos, ◌-ℤ◌}
use Rattle.std.specs.List.{prefix_len}
use Rattle.asm_read.specs.declared.token.TokenKind.{TokenKind}
use Rattle.asm_read.specs.declared.token.TokenKind.TheVariants.{Word, Number, Wide, Quoted, Mark, End, Bad}
use Rattle.asm_read.specs.declared.token.Front.{Front}
use Rattle.asm_read.specs.declared.token.Token.{Token}
use Rattle.asm_read.specs.declared.token.TheConstants.{GREATEST, FARTHEST_BELOW}

-- bytes from one to another
abbrev pub is_between : ℕ → ℕ → ℕ → Bool
is_between low high b = nat_le low b && nat_le b high

-- space, tab and carriage return
abbrev pub is_blank : ℕ → Bool
is_blank b = b == 32 || b == 9 || b == 13

abbrev pub is_digit : ℕ → Bool
is_digit b = is_between 48 57 b

-- letters, digits, _ . and $
abbrev pub is_name_byte : ℕ → Bool
is_name_byte b = is_between 97 122 b || is_between 65 90 b || is_digit b || b == 95 || b == 46 || b == 36

-- # , [ ] { } ! : = + - ( ) %
abbrev pub is_mark : ℕ → Bool
is_mark b = b == 35 || b == 44 || b == 91 || b == 93 || b == 123 || b == 125 || b == 33 || b == 58 || b == 61 || b == 43 || b == 45 || b == 40 || b == 41 || b == 37

-- what stands after a backslash: n t r 0 \ " '
abbrev pub escape_of : ℕ → Option ℕ
escape_of b =
    if b == 110 then Some 10 else if b == 116 then Some 9 else if b == 114 then Some 13 else if b == 48 then Some 0
    else if b == 92 || b == 34 || b == 39 then Some b else None

-- the value of a hexadecimal digit
abbrev pub hex_digit : ℕ → Option ℕ
hex_digit b =
    if is_digit b then Some (b - 48) else if is_between 97 102 b then Some (10 + (b - 97)) else if is_between 65 70 b then Some (10 + (b - 65)) else None

abbrev pub decimal_digit : ℕ → Option ℕ
decimal_digit b = if is_digit b then Some (b - 48) else None

-- appends digits to a number; None if one of the bytes is no digit
abbrev pub number_from : (ℕ → Option ℕ) → ℕ → ℕ → List ℕ → Option ℕ
number_from digit base n [] = Some n
number_from digit base n (b ∷ bs) = option_and_then (λ d. number_from digit base (n * base + d) bs) (digit b)

-- whether a run begins with 0x and has more
abbrev pub is_hexadecimal : List ℕ → Bool
is_hexadecimal run = nat_lt 2 (length run) && slice_index run 0 == 48 && slice_index run 1 == 120

-- the number that a run of name bytes is: decimal, or hexadecimal after 0x
abbrev pub number_of : List ℕ → Option ℕ
number_of run =
    if is_hexadecimal run then number_from hex_digit 16 0 (drop 2 run) else number_from decimal_digit 10 0 run

-- a number that fits 32 bits, signed or unsigned; one that is too wide; or no token
abbrev pub kind_of_number : Bool → Option ℕ → TokenKind
kind_of_number negative None = Bad
kind_of_number true (Some n) = if nat_le n FARTHEST_BELOW then Number (pos 0 -ℤ pos n) else Wide
kind_of_number false (Some n) = if nat_le n GREATEST then Number (pos n) else Wide

abbrev pub front : TokenKind → ℕ → Front
front kind len = record { kind = kind; len = len }

-- a character in single quotes: a byte other than a quote or a backslash, or an escape
abbrev pub character_front : Bool → List ℕ → Front
character_front negative rest =
    if slice_index rest 1 == 92
    then (if slice_index rest 3 == 39 then front (kind_of_number negative (escape_of (slice_index rest 2))) 4 else front Bad 0)
    else (if slice_index rest 2 == 39 && not (slice_index rest 1 == 39) then front (kind_of_number negative (Some (slice_index rest 1))) 3 else front Bad 0)

-- a run that begins with a digit: a number, or no token
abbrev pub run_front : Bool → List ℕ → Front
run_front negative rest =
    let len = prefix_len is_name_byte rest in
    front (kind_of_number negative (number_of (take len rest))) len

abbrev pub one_more : Option ℕ → Option ℕ
one_more None = None
one_more (Some n) = Some (n + 1)

-- the length of a text up to its closing quote, that quote included; the flag says whether the byte before was a
-- backslash
abbrev pub closing : Bool → List ℕ → Option ℕ
closing escaped [] = None
closing true (b ∷ bs) = if is_some (escape_of b) then one_more (closing false bs) else None
closing false (b ∷ bs) = if b == 34 then Some 1 else one_more (closing (b == 92) bs)

abbrev pub quoted_front : Option ℕ → Front
quoted_front None = front Bad 0
quoted_front (Some n) = front Quoted (n + 1)

-- a number or a character with the minus sign before it; where there is none, the sign alone
abbrev pub after_minus : ℕ → TokenKind → Front
after_minus len Bad = front (Mark 45) 1
after_minus len kind = front kind (len + 1)

-- a minus sign belongs to a number or character right after it; otherwise it is a mark
abbrev pub minus_front : List ℕ → Front
minus_front bs =
    let f = if slice_index bs 0 == 39 then character_front true bs else if is_digit (slice_index bs 0) then run_front true bs else front Bad 0 in
    after_minus f.len f.kind

-- the token at the front of bytes that begin with no blank
unfoldable pub front_of : List ℕ → Front
front_of [] = front End 0
front_of (b ∷ bs) =
    if b == 64 then front End 0
    else if b == 34 then quoted_front (closing false bs)
    else if b == 39 then character_front false (b ∷ bs)
    else if is_digit b then run_front false (b ∷ bs)
    else if b == 45 then minus_front bs
    else if is_name_byte b then front Word (prefix_len is_name_byte (b ∷ bs))
    else if is_mark b then front (Mark b) 1
    else front Bad 0

abbrev pub token : ℕ → ℕ → TokenKind → Token
token start end kind = record { start = start; end = end; kind = kind }

-- places a token; the end of the line is placed right after the last token, before blanks and a comment
abbrev pub place_token : ℕ → ℕ → ℕ → TokenKind → Token
place_token from start len End = token from from End
place_token from start len kind = token start (start + len) kind

-- the token at a place of a line, which blanks may lead to
unfoldable pub token_at : List ℕ → ℕ → Token
token_at line from =
    let start = from + prefix_len is_blank (drop from line) in
    let f = front_of (drop start line) in
    place_token from start f.len f.kind

-- the bytes that the inside of a text stands for
abbrev pub unescape : Bool → List ℕ → List ℕ
unescape escaped [] = []
unescape true (b ∷ bs) = unwrap_or (escape_of b) b ∷ unescape false bs
unescape false (b ∷ bs) = if b == 92 then unescape true bs else b ∷ unescape false bs
