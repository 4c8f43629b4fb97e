-- Numbers that stand in bytes, and words that lead to addresses.
use Rattle.std.proofs.Common.{◌≡◌, ℕ, zero, suc, ◌+◌, ◌*◌, ◌%◌, ◌^◌, ◌≤◌, ◌<◌, Bool, true, false, cond, List, [], ◌∷◌, ◌++◌, length, drop, get_or, Some, None, refl, sym, ap, ◌∙◌, arith, nat_le, length-append}
use Rattle.std.proofs.Math.Seq.{drop-append_seam}
use Rattle.std.proofs.lemmas.Bool.Decides.{nat_tests}
use Rattle.std.proofs.lemmas.List.{get_or-drop}
use Rattle.byteorder.specs.Endian.{little_number, little_from}
use Rattle.eh_word.specs.Words.{prel31_of, number_at}
use Rattle.elf_write.specs.Layout.{word, half}
use Rattle.elf_write.proofs.Pieces.{word_back, half_back, drop_more}
use Rattle.eh_link.proofs.Holding.{word_length, half_length}

-- a number of n bytes stands at an offset
pub record Reads (n : ℕ) (bytes : List ℕ) (at x : ℕ) : Type 0 where
  pub inside : at + n ≤ length bytes
  pub is : little_number n (drop at bytes) ≡ x

pub number_is : (n : ℕ) (bytes : List ℕ) (at x : ℕ) → Reads n bytes at x → number_at n bytes at ≡ Some x
unfolding number_at
number_is n bytes at x r = tested (nat_le (at + n) (length bytes)) refl
  where
    tested : (b : Bool) → b ≡ nat_le (at + n) (length bytes) → cond b (Some (little_number n (drop at bytes))) None ≡ Some x
    tested true e = ap Some r.is
    tested false e = absurd (grind (arith, nat_tests, r.inside))

pub number_reads : (n : ℕ) (bytes : List ℕ) (at x : ℕ) → number_at n bytes at ≡ Some x → Reads n bytes at x
unfolding number_at
number_reads n bytes at x h = tested (nat_le (at + n) (length bytes)) refl h
  where
    tested : (b : Bool) → b ≡ nat_le (at + n) (length bytes) → cond b (Some (little_number n (drop at bytes))) None ≡ Some x → Reads n bytes at x
    tested true e h = record { inside = grind (arith, nat_tests); is = cc }
    tested false e h = absurd cc

pub word_reads : (x : ℕ) (rest : List ℕ) → x < 2 ^ 32 → Reads 4 (word x ++ rest) 0 x
word_reads x rest h = record { inside = omega (arith, length-append (word x) rest, word_length x); is = word_back x rest h }

pub half_reads : (x : ℕ) (rest : List ℕ) → x < 2 ^ 16 → Reads 2 (half x ++ rest) 0 x
half_reads x rest h = record { inside = omega (arith, length-append (half x) rest, half_length x); is = half_back x rest h }

pub reads_after : (n k at j x : ℕ) (front rest : List ℕ) → length front ≡ k → j ≡ k + at → Reads n rest at x → Reads n (front ++ rest) j x
reads_after n k at j x front rest e f r = record {
  inside = omega (arith, length-append front rest, r.inside, e, f);
  is = rw (f, ← e, drop_more (length front) at (front ++ rest), drop-append_seam front rest) r.is;
}

same_from : (i n : ℕ) (xs ys : List ℕ) → ((k : ℕ) → i ≤ k → k < i + n → get_or xs k 0 ≡ get_or ys k 0) → little_from i n xs ≡ little_from i n ys
same_from i zero xs ys h = refl
same_from i (suc n) xs ys h = rw (h i (omega arith) (omega arith), same_from (suc i) n xs ys (λ k a b. h k (omega arith) (omega arith))) refl

-- bytes that are alike there
pub reads_same : (n at x : ℕ) (xs ys : List ℕ) → length xs ≡ length ys → ((k : ℕ) → at ≤ k → k < at + n → get_or xs k 0 ≡ get_or ys k 0) → Reads n ys at x → Reads n xs at x
reads_same n at x xs ys e h r = record {
  inside = omega (arith, r.inside, e);
  is = same_from 0 n (drop at xs) (drop at ys) (λ k a b. get_or-drop at xs k 0 ∙ h (at + k) (omega arith) (omega arith) ∙ sym (get_or-drop at ys k 0)) ∙ r.is;
}

four : (a b c d e f g h : ℕ) → a ≡ e → b ≡ f → c ≡ g → d ≡ h → a ∷ b ∷ c ∷ d ∷ [] ≡ e ∷ f ∷ g ∷ h ∷ []
four a b c d e f g h p q r s = rw (p, q, r, s) refl

-- a word of two halfwords
pub word_halves : (first second : ℕ) → first < 2 ^ 16 → word (first + second * 2 ^ 16) ≡ half first ++ half second
unfolding word half
word_halves first second h = four _ _ _ _ _ _ _ _ (omega arith) (omega arith) (omega arith) (omega arith)

-- ---- 31-bit relative words

-- bit 31 is not looked at
pub seen_same : (place one two : ℕ) → one % 2 ^ 31 ≡ two % 2 ^ 31 → prel31_of place one ≡ prel31_of place two
unfolding prel31_of
seen_same place one two e = rw e refl
