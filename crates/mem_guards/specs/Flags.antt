-- Guarded words, stored as one bit for each word of the stack, 64 bits in a number.
use Rattle.std.specs.Prelude.{◌≡◌, ◌⊎◌, ℕ, ◌+◌, ◌*◌, ◌/◌, ◌%◌, ◌<◌, ◌≤◌, Bool, true, false, ◌==◌, nat_lt, List, [], ◌∷◌, length, map, slice_index, slice_index_or, if◌then◌else◌, None}
use Rattle.std.specs.Int.{bit_at}
use Rattle.std.specs.List.{range_with_len}
use Rattle.eh_bus.specs.Memory.{guard_hit}
use Rattle.eh_bus.specs.declared.map.TheConstants.{STACK_END, STACK_START, STACK_WORDS}
use Rattle.mem_guards.specs.declared.guards.TheConstants.{HOMES, HOME_NUMBERS, NUMBERS, NUMBER_BITS}

-- the addresses of the flagged words, given the first word's address low
abbrev pub flagged_words : ℕ → List Bool → List ℕ
flagged_words low [] = []
flagged_words low (true ∷ flags) = low ∷ flagged_words (low + 4) flags
flagged_words low (false ∷ flags) = flagged_words (low + 4) flags

-- flag i is a bit of its number
abbrev pub flag_in : List ℕ → ℕ → Bool
flag_in numbers i = bit_at (slice_index numbers (i / NUMBER_BITS)) (i % NUMBER_BITS) == 1

-- the bits of these numbers as flags, lowest bit first
unfoldable pub flags_of : List ℕ → List Bool
flags_of numbers = map (flag_in numbers) (range_with_len 0 (NUMBER_BITS * length numbers))

-- the lowest numbers of a home, as many as this, are 0
pub record IsClear (numbers : List ℕ) (home clear : ℕ) : Type 0 where
  pub within : clear ≤ HOME_NUMBERS
  pub none : (k : ℕ) → k < clear → slice_index numbers (HOME_NUMBERS * home + k) ≡ 0

-- a bit for each word of the stack, and for each home how many of its lowest numbers are 0
pub record AreFlags (numbers clear : List ℕ) : Type 0 where
  pub whole : length numbers ≡ NUMBERS
  pub homes : length clear ≡ HOMES
  pub each : (home : ℕ) → home < HOMES → IsClear numbers home (slice_index clear home)

-- the same, and how many of the lowest homes have no bit set
pub record AreKept (numbers clear : List ℕ) (empty : ℕ) : Type 0 where
  pub flags : AreFlags numbers clear
  pub none : (home : ℕ) → home < empty → slice_index clear home ≡ HOME_NUMBERS

-- the bits from the number `from` on, up to the word `end`, are cleared; the others are unchanged
pub record ClearsBits (old new : List ℕ) (from end : ℕ) : Type 0 where
  pub clear : (k : ℕ) → from ≤ k → k < end / NUMBER_BITS → slice_index new k ≡ 0
  pub part :
      (j : ℕ) → j < NUMBER_BITS
      → bit_at (slice_index new (end / NUMBER_BITS)) j ≡ (if nat_lt j (end % NUMBER_BITS) then 0 else bit_at (slice_index old (end / NUMBER_BITS)) j)
  pub none : end % NUMBER_BITS ≡ 0 → slice_index new (end / NUMBER_BITS) ≡ slice_index old (end / NUMBER_BITS)
  pub below : (k : ℕ) → k < from → slice_index new k ≡ slice_index old k
  pub above : (k : ℕ) → end / NUMBER_BITS < k → slice_index new k ≡ slice_index old k

-- the flags of the words from `low` up to `end` are cleared; the others are unchanged
pub record ReleasesFlags (old new : List ℕ) (low end : ℕ) : Type 0 where
  pub off : (i : ℕ) → low ≤ i → i < end → slice_index_or (flags_of new) i false ≡ false
  pub rest : (i : ℕ) → ((i < low) ⊎ (end ≤ i)) → slice_index_or (flags_of new) i false ≡ slice_index_or (flags_of old) i false

-- these words lie in the stack, and none is guarded
pub record AreFree (guards : List ℕ) (a count : ℕ) : Type 0 where
  pub low : STACK_START ≤ a
  pub below : a < STACK_END
  pub high : a + 4 * count ≤ STACK_END
  pub free : (k : ℕ) → k < count → guard_hit guards (a + 4 * k) 4 ≡ None

-- the same by the words' flags, from flag `i` on
pub record AreOff (flags : List Bool) (i count : ℕ) : Type 0 where
  pub within : i + count ≤ STACK_WORDS
  pub off : (k : ℕ) → k < count → slice_index_or flags (i + k) false ≡ false
