-- Numbers of variable length in the tables of the GNU C++ personality routine (DWARF, "Variable Length Data"; docs/rules/gnu-tables.md).
use Rattle.std.specs.Prelude.{ℕ, ◌+◌, ◌-◌, ◌*◌, nat_lt, nat_le, if◌then◌else◌, List, [], ◌∷◌, length, take, drop, position, Bool, Option, Some, None}
use Rattle.std.specs.Result.{result_ok}
use Rattle.eh_word.specs.Words.{base_128, uleb128_of}
use Rattle.eh_word.specs.declared.words.TheConstants.{ULEB128_MORE}
use Rattle.gnu_lsda.specs.declared.leb128.SignedNumber.{SignedNumber}
use Rattle.gnu_lsda.specs.declared.leb128.SignedNumber.TheVariants.{Plus, Minus}
use Rattle.gnu_lsda.specs.declared.leb128.TheConstants.{SLEB128_BYTES}

-- the ULEB128 number at a place, and the place after it
abbrev pub uleb128_at : List ℕ → ℕ → Option (ℕ × ℕ)
uleb128_at bytes at = if nat_le at (length bytes) then result_ok (uleb128_of bytes at) else None

-- how many numbers so many bytes can say, seven bits in each
abbrev pub span : List ℕ → ℕ
span [] = 1
span (b ∷ more) = 128 * span more

-- the number of the digits in two's complement: the upper half of the numbers means the negative ones
abbrev pub twos_complement : List ℕ → SignedNumber
twos_complement bytes = if nat_lt (2 * base_128 bytes) (span bytes) then Plus (base_128 bytes) else Minus (span bytes - base_128 bytes)

-- how far a number is from 0
abbrev pub magnitude : SignedNumber → ℕ
magnitude (Plus n) = n
magnitude (Minus n) = n

-- a byte with bit 7 clear is the last one of a number
abbrev pub is_last : ℕ → Bool
is_last b = nat_lt b ULEB128_MORE

abbrev pub number_ending_at : List ℕ → Option ℕ → Option (SignedNumber × ℕ)
number_ending_at bytes None = None
number_ending_at bytes (Some last) = Some (twos_complement (take (last + 1) bytes), last + 1)

-- the SLEB128 number at the front, of at most five bytes, and its length in bytes
abbrev pub sleb128_front : List ℕ → Option (SignedNumber × ℕ)
sleb128_front bytes = number_ending_at bytes (position is_last (take SLEB128_BYTES bytes))

abbrev pub move_place : ℕ → Option (SignedNumber × ℕ) → Option (SignedNumber × ℕ)
move_place at None = None
move_place at (Some found) = Some (found.0, at + found.1)

-- the SLEB128 number at a place, and the place after it
unfoldable pub sleb128_of : List ℕ → ℕ → Option (SignedNumber × ℕ)
sleb128_of bytes at = if nat_le at (length bytes) then move_place at (sleb128_front (drop at bytes)) else None
