-- Bytes at an address, with access rights.
use Rattle.std.specs.Prelude.{ℕ, ◌+◌, ◌-◌, ◌<◌, ◌≤◌, ◌⊎◌, Bool, ◌&&◌, nat_le, List, length, take, drop, ◌++◌, All}
use Rattle.byteorder.specs.Endian.{little_number, little_bytes}

pub record Segment : Type 0 where
  pub start : ℕ
  pub bytes : List ℕ
  pub write : Bool
  pub exec : Bool

-- every number of the list is a byte
abbrev pub AreBytes : List ℕ → Type 0
AreBytes bytes = All (λ b. b < 256) bytes

-- all of the n bytes from address a on lie in the segment
abbrev pub holds : Segment → ℕ → ℕ → Bool
holds s a n = nat_le s.start a && nat_le (a - s.start + n) (length s.bytes)

-- the number in the n bytes from address a on, the lowest first
abbrev pub number_at : ℕ → Segment → ℕ → ℕ
number_at n s a = little_number n (drop (a - s.start) s.bytes)

-- the segment with v in the n bytes from address a on
abbrev pub with_number_at : ℕ → Segment → ℕ → ℕ → Segment
with_number_at n s a v = record s {
  bytes = take (a - s.start) s.bytes ++ (little_bytes n v ++ drop (a - s.start + n) s.bytes);
}

-- the n bytes from a on and the m bytes from b on don't overlap
abbrev pub Apart : ℕ → ℕ → ℕ → ℕ → Type 0
Apart a n b m = (a + n ≤ b) ⊎ (b + m ≤ a)
