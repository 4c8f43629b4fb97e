-- The code bytes of an entry's words, by the bytes of these words.
use Rattle.std.proofs.Common.{◌≡◌, ℕ, zero, suc, ◌-◌, ◌*◌, ◌/◌, ◌%◌, ◌^◌, ◌<◌, ◌≤◌, ◌==◌, true, false, cond, List, [], ◌∷◌, ◌++◌, length, take, drop, get_or, refl, arith, ◌∙◌, ap, sym, append-nil}
use Rattle.std.specs.Prelude.{flat_map, nat_lt, Ok, Err}
use Rattle.std.proofs.lemmas.Bool.Decides.{nat_tests}
use Rattle.std.proofs.lemmas.Grind.{common_steps}
use Rattle.byteorder.specs.Endian.{little_number}
use Rattle.eh_codes.specs.declared.words.TheConstants.{COMPACT_MARK, COMPACT_TOP}
use Rattle.eh_codes.specs.Words.{bytes_of_word, personality_of_word, code_words_after, code_in_first, code_of_words}
use Rattle.eh_bytecode.specs.declared.codes.CodesFault.TheVariants.{Short, Generic, Reserved}
use Rattle.eh_bytecode.specs.Codes.{words_in, swap_word_bytes, is_reserved, table_codes}

-- each number is a byte
abbrev pub AreBytes : List ℕ → Type 0
AreBytes xs = (i : ℕ) → get_or xs i 0 < 2 ^ 8

abbrev pub word_of : ℕ → ℕ → ℕ → ℕ → ℕ
word_of a b c d = little_number 4 (a ∷ b ∷ c ∷ d ∷ [])

pub word_bytes : (a b c d : ℕ) → a < 2 ^ 8 → b < 2 ^ 8 → c < 2 ^ 8 → d < 2 ^ 8 → bytes_of_word (word_of a b c d) ≡ d ∷ c ∷ b ∷ a ∷ []
word_bytes a b c d ha hb hc hd =
    let first : word_of a b c d / 2 ^ 24 ≡ d = omega arith in
    let second : word_of a b c d / 2 ^ 16 % 2 ^ 8 ≡ c = omega arith in
    let third : word_of a b c d / 2 ^ 8 % 2 ^ 8 ≡ b = omega arith in
    let fourth : word_of a b c d % 2 ^ 8 ≡ a = omega arith in
    cc

pub length-words_in : (xs : List ℕ) → length (words_in xs) ≡ length xs / 4
length-words_in [] = refl
length-words_in (a ∷ []) = refl
length-words_in (a ∷ b ∷ []) = refl
length-words_in (a ∷ b ∷ c ∷ []) = refl
length-words_in (a ∷ b ∷ c ∷ d ∷ more) = omega (arith, length-words_in more)

pub length-turned : (xs : List ℕ) → length (swap_word_bytes xs) ≡ length xs / 4 * 4
length-turned [] = refl
length-turned (a ∷ []) = refl
length-turned (a ∷ b ∷ []) = refl
length-turned (a ∷ b ∷ c ∷ []) = refl
length-turned (a ∷ b ∷ c ∷ d ∷ more) = omega (arith, length-turned more)

four_more : (n : ℕ) (xs : List ℕ) {ys : List ℕ} → ys ≡ swap_word_bytes (take (suc (suc (suc (suc (4 * n))))) xs) → ys ≡ swap_word_bytes (take (4 * suc n) xs)
four_more n xs e = e ∙ ap (λ k. swap_word_bytes (take k xs)) (let four : suc (suc (suc (suc (4 * n)))) ≡ 4 * suc n = omega arith in four)

-- the bytes of the first n words
pub turned_words : (n : ℕ) (xs : List ℕ) → AreBytes xs → flat_map bytes_of_word (take n (words_in xs)) ≡ swap_word_bytes (take (4 * n) xs)
turned_words zero xs h = refl
turned_words (suc n) [] h = four_more n [] refl
turned_words (suc n) (a ∷ []) h = four_more n (a ∷ []) refl
turned_words (suc n) (a ∷ b ∷ []) h = four_more n (a ∷ b ∷ []) refl
turned_words (suc n) (a ∷ b ∷ c ∷ []) h = four_more n (a ∷ b ∷ c ∷ []) refl
turned_words (suc n) (a ∷ b ∷ c ∷ d ∷ more) h =
    ap (λ l. l ++ flat_map bytes_of_word (take n (words_in more))) (word_bytes a b c d (h 0) (h 1) (h 2) (h 3))
    ∙ ap (λ (l : List ℕ). d ∷ c ∷ b ∷ a ∷ l) (turned_words n more (λ i. h (suc (suc (suc (suc i))))))
    ∙ four_more n (a ∷ b ∷ c ∷ d ∷ more) refl

-- ---- the first word

pub record FirstWord (a b c d : ℕ) : Type 0 where
  pub small_a : a < 2 ^ 8
  pub small_b : b < 2 ^ 8
  pub small_c : c < 2 ^ 8
  pub small_d : d < 2 ^ 8

pub generic_first : (a b c d : ℕ) (more : List ℕ) → FirstWord a b c d → d < COMPACT_TOP → table_codes (a ∷ b ∷ c ∷ d ∷ more) ≡ Err Generic
unfolding table_codes
generic_first a b c d more s h =
    let ha : a < 2 ^ 8 = s.small_a in
    let hb : b < 2 ^ 8 = s.small_b in
    let hc : c < 2 ^ 8 = s.small_c in
    let low : nat_lt (word_of a b c d) COMPACT_MARK ≡ true = grind (arith, nat_tests) in
    rw low refl

high : (a b c d : ℕ) → FirstWord a b c d → COMPACT_TOP ≤ d → nat_lt (word_of a b c d) COMPACT_MARK ≡ false
high a b c d s h = grind (arith, nat_tests)

reserved_test : (first top : ℕ) → first / 2 ^ 24 ≡ top → 0x82 < top → top < 2 ^ 8 → is_reserved first ≡ true
reserved_test first top e l h = grind (arith, nat_tests)

kept_test : (first top : ℕ) → first / 2 ^ 24 ≡ top → COMPACT_TOP ≤ top → top ≤ 0x82 → is_reserved first ≡ false
kept_test first top e l h = grind (arith, nat_tests)

pub reserved_first : (a b c d : ℕ) (more : List ℕ) → FirstWord a b c d → 0x82 < d → table_codes (a ∷ b ∷ c ∷ d ∷ more) ≡ Err Reserved
unfolding table_codes
reserved_first a b c d more s h =
    let ha : a < 2 ^ 8 = s.small_a in
    let hb : b < 2 ^ 8 = s.small_b in
    let hc : c < 2 ^ 8 = s.small_c in
    let top : word_of a b c d / 2 ^ 24 ≡ d = omega arith in
    rw (high a b c d s (omega arith), reserved_test (word_of a b c d) d top h s.small_d) refl

-- personality 0
pub short_first : (a b c d : ℕ) (more : List ℕ) → FirstWord a b c d → d ≡ COMPACT_TOP → table_codes (a ∷ b ∷ c ∷ d ∷ more) ≡ Ok (c ∷ b ∷ a ∷ [])
unfolding table_codes
short_first a b c d more s h =
    let w : ℕ = word_of a b c d in
    let ha : a < 2 ^ 8 = s.small_a in
    let hb : b < 2 ^ 8 = s.small_b in
    let hc : c < 2 ^ 8 = s.small_c in
    let top : w / 2 ^ 24 ≡ d = omega arith in
    let none : (personality_of_word w == 0) ≡ true = grind (arith, nat_tests) in
    let bytes : bytes_of_word w ≡ d ∷ c ∷ b ∷ a ∷ [] = word_bytes a b c d ha hb hc s.small_d in
    let first : code_in_first w ≡ c ∷ b ∷ a ∷ [] = ap (λ t. drop (cond t 1 2) (bytes_of_word w)) none ∙ ap (drop 1) bytes in
    let after : code_words_after w ≡ 0 = ap (λ t. cond t 0 (w / 2 ^ 16 % 2 ^ 8)) none in
    rw (high a b c d s (omega arith), kept_test w d top (omega arith) (omega arith)) (short_cases w more (c ∷ b ∷ a ∷ []) first after)
  where
    short_cases : (w : ℕ) (more own : List ℕ) → code_in_first w ≡ own → code_words_after w ≡ 0 →
        cond (nat_lt (length (words_in more)) (code_words_after w)) (Err Short) (Ok (code_of_words (w ∷ words_in more))) ≡ Ok own
    short_cases w more own first after =
        ap (λ n. cond (nat_lt (length (words_in more)) n) (Err Short) (Ok (code_in_first w ++ flat_map bytes_of_word (take n (words_in more))))) after
        ∙ rw (let e : nat_lt (length (words_in more)) 0 ≡ false = grind (arith, nat_tests) in e) (ap Ok (append-nil (code_in_first w) ∙ first))

long_words : (a b c d : ℕ) → FirstWord a b c d → 0x81 ≤ d → d ≤ 0x82 → (code_in_first (word_of a b c d) ≡ b ∷ a ∷ []) × (code_words_after (word_of a b c d) ≡ c)
long_words a b c d s l h =
    let w : ℕ = word_of a b c d in
    let ha : a < 2 ^ 8 = s.small_a in
    let hb : b < 2 ^ 8 = s.small_b in
    let hc : c < 2 ^ 8 = s.small_c in
    let top : w / 2 ^ 24 ≡ d = omega arith in
    let count : w / 2 ^ 16 % 2 ^ 8 ≡ c = omega arith in
    let none : (personality_of_word w == 0) ≡ false = grind (arith, nat_tests) in
    let bytes : bytes_of_word w ≡ d ∷ c ∷ b ∷ a ∷ [] = word_bytes a b c d ha hb hc s.small_d in
    (ap (λ t. drop (cond t 1 2) (bytes_of_word w)) none ∙ ap (drop 2) bytes, ap (λ t. cond t 0 (w / 2 ^ 16 % 2 ^ 8)) none ∙ count)

long_kept : (a b c d : ℕ) (more : List ℕ) → FirstWord a b c d → 0x81 ≤ d → d ≤ 0x82 →
    table_codes (a ∷ b ∷ c ∷ d ∷ more) ≡ cond (nat_lt (length (words_in more)) c) (Err Short) (Ok (b ∷ a ∷ flat_map bytes_of_word (take c (words_in more))))
unfolding table_codes
long_kept a b c d more s l h =
    let w : ℕ = word_of a b c d in
    let ha : a < 2 ^ 8 = s.small_a in
    let hb : b < 2 ^ 8 = s.small_b in
    let hc : c < 2 ^ 8 = s.small_c in
    let top : w / 2 ^ 24 ≡ d = omega arith in
    let own = long_words a b c d s l h in
    rw (high a b c d s (omega arith), kept_test w d top (omega arith) h)
    (ap (λ n. cond (nat_lt (length (words_in more)) n) (Err Short) (Ok (code_in_first w ++ flat_map bytes_of_word (take n (words_in more))))) own.1
    ∙ ap (λ l. cond (nat_lt (length (words_in more)) c) (Err Short) (Ok (l ++ flat_map bytes_of_word (take c (words_in more))))) own.0)

pub long_short : (a b c d : ℕ) (more : List ℕ) → FirstWord a b c d → 0x81 ≤ d → d ≤ 0x82 → length more < 4 * c → table_codes (a ∷ b ∷ c ∷ d ∷ more) ≡ Err Short
long_short a b c d more s l h few =
    let count : length (words_in more) ≡ length more / 4 = length-words_in more in
    let short : nat_lt (length (words_in more)) c ≡ true = grind (arith, nat_tests) in
    long_kept a b c d more s l h ∙ rw short refl

pub long_first : (a b c d : ℕ) (more : List ℕ) → FirstWord a b c d → 0x81 ≤ d → d ≤ 0x82 → 4 * c ≤ length more → AreBytes more → table_codes (a ∷ b ∷ c ∷ d ∷ more) ≡ Ok (b ∷ a ∷ swap_word_bytes (take (4 * c) more))
long_first a b c d more s l h room small =
    let count : length (words_in more) ≡ length more / 4 = length-words_in more in
    let short : nat_lt (length (words_in more)) c ≡ false = grind (arith, nat_tests) in
    long_kept a b c d more s l h ∙ rw short (ap (λ l. Ok (b ∷ a ∷ l)) (turned_words c more small))

-- ---- a list of at least four

pub record IsFour (bytes : List ℕ) (a b c d : ℕ) (more : List ℕ) : Type 0 where
  pub is : bytes ≡ a ∷ b ∷ c ∷ d ∷ more
  pub first : FirstWord a b c d
  pub small : AreBytes more

pub four : (bytes : List ℕ) → 4 ≤ length bytes → AreBytes bytes →
    IsFour bytes (get_or bytes 0 0) (get_or bytes 1 0) (get_or bytes 2 0) (get_or bytes 3 0) (take (length bytes - 4) (drop 4 bytes))
four [] h small = absurd (omega arith)
four (a ∷ []) h small = absurd (omega arith)
four (a ∷ b ∷ []) h small = absurd (omega arith)
four (a ∷ b ∷ c ∷ []) h small = absurd (omega arith)
four (a ∷ b ∷ c ∷ d ∷ more) h small =
    let whole : take (suc (suc (suc (suc (length more)))) - 4) more ≡ more = grind (arith, common_steps) in
    record {
      is = ap (λ (l : List ℕ). a ∷ b ∷ c ∷ d ∷ l) (sym whole);
      first = record { small_a = small 0; small_b = small 1; small_c = small 2; small_d = small 3 };
      small = rw whole (λ i. small (suc (suc (suc (suc i)))));
    }

pub few : (bytes : List ℕ) → length bytes < 4 → table_codes bytes ≡ Err Short
unfolding table_codes
few [] h = refl
few (a ∷ []) h = refl
few (a ∷ b ∷ []) h = refl
few (a ∷ b ∷ c ∷ []) h = refl
few (a ∷ b ∷ c ∷ d ∷ more) h = absurd (omega arith)
