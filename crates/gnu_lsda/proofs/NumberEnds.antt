-- Where a number at a place ends.
use Rattle.std.proofs.Common.{◌≡◌, ℕ, ◌+◌, ◌-◌, ◌<◌, ◌≤◌, Bool, true, false, cond, List, length, take, drop, length-take, length-drop, Some, None, refl, ap, arith, ◌==◌, ◌&&◌}
use Rattle.std.specs.Prelude.{Result, Ok, Err, nat_le, nat_lt, position, slice_index}
use Rattle.std.specs.List.{prefix_len, position_or_len}
use Rattle.std.specs.Result.{result_ok}
use Rattle.std.proofs.lemmas.Bool.Decides.{nat_tests}
use Rattle.byteorder.specs.Endian.{little_number}
use Rattle.eh_word.specs.Words.{has_more, base_128, uleb128_front, move_place, uleb128_of, number_at}
use Rattle.eh_word.specs.declared.words.TheConstants.{ULEB128_BYTES, ULEB128_LAST}
use Rattle.eh_word.specs.declared.fault.WordFault.{WordFault}
use Rattle.eh_word.specs.declared.fault.WordFault.TheVariants.{Ends, TooWide}
use Rattle.gnu_lsda.specs.Leb128.{uleb128_at, is_last}
use Rattle.gnu_lsda.specs.declared.leb128.TheConstants.{SLEB128_BYTES}

-- a place that is found is one of the list
pub position_inside : (p : ℕ → Bool) (xs : List ℕ) (i : ℕ) → position p xs ≡ Some i → i < length xs
position_inside p xs i e = tested (nat_lt (position_or_len p xs) (length xs)) refl e
  where
    tested : (b : Bool) → nat_lt (position_or_len p xs) (length xs) ≡ b → cond b (Some (position_or_len p xs)) None ≡ Some i → i < length xs
    tested true s e = let same : position_or_len p xs ≡ i = cc in grind (arith, nat_tests)
    tested false s e = absurd cc

-- the last byte of a number is one of the five, and one of the bytes
pub last_inside : (xs : List ℕ) (i : ℕ) → position is_last (take SLEB128_BYTES xs) ≡ Some i → (i < SLEB128_BYTES) × (i < length xs)
last_inside xs i e =
    let h = position_inside is_last (take SLEB128_BYTES xs) i e in
    let size : length (take SLEB128_BYTES xs) ≤ SLEB128_BYTES = grind (arith, length-take {A = ℕ}) in
    let inside : length (take SLEB128_BYTES xs) ≤ length xs = grind (arith, length-take {A = ℕ}) in
    (omega arith, omega arith)

-- ---- ULEB128

front_inside : (bytes : List ℕ) (f : ℕ × ℕ) → uleb128_front bytes ≡ Ok f → (0 < f.1) × (f.1 ≤ length bytes)
front_inside bytes f e =
    tested (prefix_len has_more (take (ULEB128_BYTES - 1) bytes)) (nat_le (length bytes) (prefix_len has_more (take (ULEB128_BYTES - 1) bytes)))
    (prefix_len has_more (take (ULEB128_BYTES - 1) bytes) == ULEB128_BYTES - 1 && nat_lt ULEB128_LAST (slice_index bytes (ULEB128_BYTES - 1))) refl e
  where
    tested : (last : ℕ) (b c : Bool) → nat_le (length bytes) last ≡ b
        → cond b (Err Ends) (cond c (Err TooWide) (Ok (base_128 (take (last + 1) bytes), last + 1))) ≡ Ok f → (0 < f.1) × (f.1 ≤ length bytes)
    tested last true c s e = absurd cc
    tested last false true s e = absurd cc
    tested last false false s e =
        let same : ◌≡◌ {A = ℕ × ℕ} (base_128 (take (last + 1) bytes), last + 1) f = cc in
        let end : last + 1 ≡ f.1 = ap (λ (p : ℕ × ℕ). p.1) same in
        let inside : last < length bytes = grind (arith, nat_tests) in
        (omega arith, omega arith)

placed_inside : (bytes : List ℕ) (at : ℕ) (r : Result (ℕ × ℕ) WordFault) (found : ℕ × ℕ)
    → uleb128_front (drop at bytes) ≡ r → at ≤ length bytes → result_ok (move_place at r) ≡ Some found → (at < found.1) × (found.1 ≤ length bytes)
placed_inside bytes at (Err fault) found is low e = absurd cc
placed_inside bytes at (Ok f) found is low e =
    let same : ◌≡◌ {A = ℕ × ℕ} (f.0, at + f.1) found = cc in
    let end : at + f.1 ≡ found.1 = ap (λ (p : ℕ × ℕ). p.1) same in
    let h = front_inside (drop at bytes) f is in
    let size : length (drop at bytes) ≡ length bytes - at = length-drop at bytes in
    (omega (arith, h.0), omega (arith, h.1))

-- a number is further on than its place, and among the bytes
pub uleb128_inside : (bytes : List ℕ) (at : ℕ) (found : ℕ × ℕ) → uleb128_at bytes at ≡ Some found → (at < found.1) × (found.1 ≤ length bytes)
unfolding uleb128_of
uleb128_inside bytes at found e = tested (nat_le at (length bytes)) refl e
  where
    tested : (b : Bool) → nat_le at (length bytes) ≡ b → cond b (result_ok (move_place at (uleb128_front (drop at bytes)))) None ≡ Some found → (at < found.1) × (found.1 ≤ length bytes)
    tested true s e = placed_inside bytes at (uleb128_front (drop at bytes)) found refl (grind (arith, nat_tests)) e
    tested false s e = absurd cc

-- a word that is there lies among the bytes
pub room : (bytes : List ℕ) (place word : ℕ) → number_at 4 bytes place ≡ Some word → place + 4 ≤ length bytes
unfolding number_at
room bytes place word e = tested (nat_le (place + 4) (length bytes)) refl e
  where
    tested : (b : Bool) → nat_le (place + 4) (length bytes) ≡ b → cond b (Some (little_number 4 (drop place bytes))) None ≡ Some word → place + 4 ≤ length bytes
    tested true s e = grind (arith, nat_tests)
    tested false s e = absurd cc
