-- Halfwords and words of bytes, by the byte at each place (IHI 0038, "Data representation").
use Rattle.std.specs.Prelude.{◌≡◌, ℕ, ◌+◌, ◌*◌, ◌%◌, ◌<◌, ◌≤◌, nat_lt, if◌then◌else◌, List, length, slice_index}

-- the halfword of two bytes at a place, the lower byte first
pub record HalfStands (bytes : List ℕ) (place half : ℕ) : Type 0 where
  pub inside : place + 2 ≤ length bytes
  pub low : slice_index bytes place < 256
  pub high : slice_index bytes (place + 1) < 256
  pub is : half ≡ slice_index bytes place + 256 * slice_index bytes (place + 1)

-- the word of four bytes at a place, the lowest byte first
pub record WordStands (bytes : List ℕ) (place word : ℕ) : Type 0 where
  pub inside : place + 4 ≤ length bytes
  pub is : word ≡ slice_index bytes place + 256 * slice_index bytes (place + 1) + 65536 * slice_index bytes (place + 2) + 16777216 * slice_index bytes (place + 3)

-- the number that these four bytes are
abbrev pub word_by : List ℕ → ℕ → ℕ
word_by bytes place = slice_index bytes place + 256 * slice_index bytes (place + 1) + 65536 * slice_index bytes (place + 2) + 16777216 * slice_index bytes (place + 3)

-- the address that a word refers to by its bits 30 to 0: that many bytes on, or back if bit 30 is set
abbrev pub prel31_target : ℕ → ℕ → ℕ
prel31_target address word =
    if nat_lt (word % 2147483648) 1073741824 then (address + word % 2147483648) % 4294967296 else (address + word % 2147483648 + 2147483648) % 4294967296
