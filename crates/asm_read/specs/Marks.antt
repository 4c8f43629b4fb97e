-- A mark at a place of a line, and the place after it.
use Rattle.std.specs.Prelude.{ℕ, ◌==◌, ◌&&◌, not, nat_lt, Bool, if◌then◌else◌, List, length, slice_index, Option, Some, None}
use Rattle.asm_read.specs.Tokens.{is_mark, token_at}
use Rattle.asm_read.specs.Operands.{is_mark_of}

-- a byte that is a mark wherever a token begins with it: a minus sign may begin a number
abbrev pub is_lone_mark : ℕ → Bool
is_lone_mark b = not (b == 45) && is_mark b

abbrev pub begins_with : ℕ → List ℕ → Bool
begins_with byte bytes = nat_lt 0 (length bytes) && slice_index bytes 0 == byte

-- the place after a mark, where the token at a place is this mark
abbrev pub mark_after : ℕ → List ℕ → ℕ → Option ℕ
mark_after mark line from = let token = token_at line from in if is_mark_of mark token.kind then Some token.end else None
