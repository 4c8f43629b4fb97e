-- Words and names at addresses, read from the file bytes of an image's segments (docs/rules/types-and-matching.md).
use Rattle.std.specs.Prelude.{ℕ, zero, suc, ◌+◌, ◌-◌, ◌==◌, ◌&&◌, ◌||◌, nat_le, Bool, false, if◌then◌else◌, List, length, take, drop, find, position, Option, Some, None, option_map}
use Rattle.std.specs.List.{list_any}
use Rattle.byteorder.specs.Endian.{little_number}
use Rattle.elf_image.specs.Segments.{Segment}
use Rattle.eh_types.specs.declared.words.TheConstants.{WORD_SIZE}

-- the segment has n file bytes from an address on
abbrev pub has_bytes_at : ℕ → ℕ → Segment → Bool
has_bytes_at n a s = nat_le s.start a && nat_le (a + n) (s.start + length s.bytes)

-- how many file bytes the segment has from an address on
abbrev pub room : ℕ → Segment → ℕ
room a s = if nat_le s.start a then s.start + length s.bytes - a else 0

-- ---- words, each wholly in one segment

abbrev pub number_in : ℕ → Option Segment → ℕ
number_in a None = 0
number_in a (Some s) = little_number 4 (drop (a - s.start) s.bytes)

-- the word at an address; 0 where there is none
unfoldable pub word : List Segment → ℕ → ℕ
word segments a = number_in a (find (has_bytes_at WORD_SIZE a) segments)

-- a word is at the address
abbrev pub is_word : List Segment → ℕ → Bool
is_word segments a = list_any (has_bytes_at WORD_SIZE a) segments

-- a word is at the address, and it is writable
abbrev pub is_written : List Segment → ℕ → Bool
is_written segments a = list_any (λ s. has_bytes_at WORD_SIZE a s && s.write) segments

abbrev pub any_writable : Bool → Option Bool → Option Bool
any_writable first None = None
any_writable first (Some more) = Some (first || more)

-- whether one of so many words from an address on is writable; None if one isn't there
unfoldable pub words_from : List Segment → ℕ → ℕ → Option Bool
words_from segments a zero = Some false
words_from segments a (suc count) = if is_word segments a then any_writable (is_written segments a) (words_from segments (a + WORD_SIZE) count) else None

-- ---- names

-- the bytes before the first zero byte; None if there is none
unfoldable pub text_of : List ℕ → Option (List ℕ)
text_of bytes = option_map (λ end. take end bytes) (position (λ b. b == 0) bytes)

-- the name at an address of a segment, and whether it is writable; None if the segment's file bytes don't contain the zero byte at
-- the end
unfoldable pub name_in : ℕ → Segment → Option (List ℕ × Bool)
name_in a s = if has_bytes_at 1 a s then option_map (λ text. (text, s.write)) (text_of (drop (a - s.start) s.bytes)) else None

abbrev pub name_from_segment : ℕ → Option Segment → Option (List ℕ × Bool)
name_from_segment a None = None
name_from_segment a (Some s) = name_in a s

-- the name at an address, in the segment whose memory contains the address
unfoldable pub name_at : List Segment → ℕ → Option (List ℕ × Bool)
name_at segments a = name_from_segment a (find (has_bytes_at 1 a) segments)
