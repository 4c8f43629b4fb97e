-- Numbers at places of bytes, and where words lead.
use Rattle.std.proofs.Common.{◌≡◌, ℕ, ◌+◌, ◌*◌, ◌%◌, ◌≤◌, Bool, true, false, cond, List, length, drop, Some, refl, ap, sym, ◌∙◌, arith, pos}
use Rattle.std.specs.Prelude.{nat_le, nat_lt, slice_index, ◌-ℤ◌}
use Rattle.std.proofs.lemmas.Bool.Decides.{nat_tests}
use Rattle.std.proofs.lemmas.Int.{ints}
use Rattle.std.proofs.lemmas.List.{get_or-drop}
use Rattle.byteorder.specs.Endian.{little_number}
use Rattle.eh_word.specs.Words.{plus_offset, number_at, prel31_of}
use Rattle.eh_table_laws.specs.Words.{HalfStands, WordStands, prel31_target}

byte_after : (bytes : List ℕ) (place k : ℕ) → slice_index (drop place bytes) k ≡ slice_index bytes (place + k)
byte_after bytes place k = get_or-drop place bytes k 0

first_byte : (bytes : List ℕ) (place : ℕ) → slice_index (drop place bytes) 0 ≡ slice_index bytes place
first_byte bytes place = byte_after bytes place 0 ∙ ap (λ k. slice_index bytes k) (let e : place + 0 ≡ place = omega arith in e)

pub four_bytes : (bytes : List ℕ) (place : ℕ) → little_number 4 (drop place bytes)
    ≡ slice_index bytes place + 256 * slice_index bytes (place + 1) + 65536 * slice_index bytes (place + 2) + 16777216 * slice_index bytes (place + 3)
four_bytes bytes place = omega (arith, first_byte bytes place, byte_after bytes place 1, byte_after bytes place 2, byte_after bytes place 3)

pub number_there : (bytes : List ℕ) (place : ℕ) → place + 4 ≤ length bytes → number_at 4 bytes place ≡ Some (little_number 4 (drop place bytes))
unfolding number_at
number_there bytes place h = let e : nat_le (place + 4) (length bytes) ≡ true = grind (arith, nat_tests) in rw e refl

pub word_there : (bytes : List ℕ) (place word : ℕ) → WordStands bytes place word → number_at 4 bytes place ≡ Some word
word_there bytes place word w = number_there bytes place w.inside ∙ ap Some (four_bytes bytes place ∙ sym w.is)

pub halves_there : (bytes : List ℕ) (place low high : ℕ) → HalfStands bytes place low → HalfStands bytes (place + 2) high → number_at 4 bytes place ≡ Some (low + 65536 * high)
halves_there bytes place low high l h =
    let e : slice_index bytes (place + 2 + 1) ≡ slice_index bytes (place + 3) = ap (λ k. slice_index bytes k) (let z : place + 2 + 1 ≡ place + 3 = omega arith in z) in
    let sum : slice_index bytes place + 256 * slice_index bytes (place + 1) + 65536 * slice_index bytes (place + 2) + 16777216 * slice_index bytes (place + 3) ≡ low + 65536 * high
    = omega (arith, e, l.is, h.is) in
    number_there bytes place (omega (arith, h.inside)) ∙ ap Some (four_bytes bytes place ∙ sum)

-- ---- where words lead

led_cases : (address n : ℕ) (near : Bool) → nat_lt n 1073741824 ≡ near
    → plus_offset address (cond near (pos n) (pos n -ℤ pos 2147483648)) ≡ cond near ((address + n) % 4294967296) ((address + n + 2147483648) % 4294967296)
led_cases address n true s = grind (arith, nat_tests, ints)
led_cases address n false s = grind (arith, nat_tests, ints)

pub leads : (address word : ℕ) → prel31_of address word ≡ prel31_target address word
unfolding prel31_of
leads address word = led_cases address (word % 2147483648) (nat_lt (word % 2147483648) 1073741824) refl
