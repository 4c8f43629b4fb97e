-- Words of memory and of the unwind tables, as whole numbers.
use Rattle.std.specs.Prelude.{ℕ, ◌+◌, ◌-◌, ◌*◌, ◌%◌, ◌^◌, ◌==◌, ◌&&◌, nat_lt, nat_le, Bool, if◌then◌else◌, List, [], ◌∷◌, length, take, drop, slice_index, Option, Some, None, Result, Ok, Err, ℤ, pos, ◌-ℤ◌}
use Rattle.std.specs.Int.{w32, cast_unsigned}
use Rattle.std.specs.List.{prefix_len}
use Rattle.byteorder.specs.Endian.{little_number}
use Rattle.eh_word.specs.declared.words.TheConstants.{ULEB128_BYTES, ULEB128_LAST, ULEB128_MORE}
use Rattle.eh_word.specs.declared.fault.WordFault.{WordFault}
use Rattle.eh_word.specs.declared.fault.WordFault.TheVariants.{Ends, TooWide}

-- n bits read as two's complement: the numbers from 2 ^ (width - 1) on stand for those below 0
abbrev pub signed_value : ℕ → ℕ → ℤ
signed_value width n = if nat_lt n (2 ^ (width - 1)) then pos n else pos n -ℤ pos (2 ^ width)

-- an address with an offset added, modulo 2 ^ 32
abbrev pub plus_offset : ℕ → ℤ → ℕ
plus_offset place offset = (place + cast_unsigned w32 offset) % 2 ^ 32

-- the target of a 31-bit relative word at a place: the place plus bits 30 to 0 as a signed number
unfoldable pub prel31_of : ℕ → ℕ → ℕ
prel31_of place word = plus_offset place (signed_value 31 (word % 2 ^ 31))

-- the number in the n bytes at a place, lowest byte first, if all of them are there
unfoldable pub number_at : ℕ → List ℕ → ℕ → Option ℕ
number_at n bytes at = if nat_le (at + n) (length bytes) then Some (little_number n (drop at bytes)) else None

-- a byte with bit 7 set is followed by another byte of the same number
abbrev pub has_more : ℕ → Bool
has_more b = nat_le ULEB128_MORE b

-- the number whose digits in base 128 are the low seven bits of these bytes, the lowest first
abbrev pub base_128 : List ℕ → ℕ
base_128 [] = 0
base_128 (b ∷ more) = b % 128 + 128 * base_128 more

-- the ULEB128 number at the front, of at most five bytes and below 2 ^ 32, and how many bytes it takes
abbrev pub uleb128_front : List ℕ → Result (ℕ × ℕ) WordFault
uleb128_front bytes =
    let last = prefix_len has_more (take (ULEB128_BYTES - 1) bytes) in
    if nat_le (length bytes) last then Err Ends
    else (if last == ULEB128_BYTES - 1 && nat_lt ULEB128_LAST (slice_index bytes (ULEB128_BYTES - 1)) then Err TooWide else Ok (base_128 (take (last + 1) bytes), last + 1))

abbrev pub move_place : ℕ → Result (ℕ × ℕ) WordFault → Result (ℕ × ℕ) WordFault
move_place at (Ok found) = Ok (found.0, at + found.1)
move_place at (Err fault) = Err fault

-- the ULEB128 number at a place, and the place after it
unfoldable pub uleb128_of : List ℕ → ℕ → Result (ℕ × ℕ) WordFault
uleb128_of bytes at = move_place at (uleb128_front (drop at bytes))
