-- The bytes that are read out of an entry.
use Rattle.std.proofs.Common.{inl, inr, ◌≡◌, ℕ, zero, suc, ◌+◌, ◌-◌, ◌*◌, ◌/◌, ◌%◌, ◌^◌, ◌<◌, ◌≤◌, Bool, true, false, cond, List, [], ◌∷◌, ◌++◌, map, ap, sym, ◌∙◌, refl, get_or, take, drop, length, replicate, arith, append-nil, append_assoc, length-append}
use Rattle.std.specs.Prelude.{◌==◌, ◌||◌, ◌&&◌, not, flat_map, All}
use Rattle.std.specs.List.{range_with_len}
use Rattle.std.proofs.lemmas.Bool.{cases_lt}
use Rattle.std.proofs.lemmas.Grind.{flat_map-append}
use Rattle.std.proofs.lemmas.List.{length-replicate, get_or_past, take_at, drop_at}
use Rattle.std.proofs.lemmas.List.FromFn.{map-range_with_len_more, fill_by_all, length-map-range_with_len}
use Rattle.asm_unwind.specs.declared.entry.EntryWords.TheVariants.{Table}
use Rattle.asm_unwind.specs.declared.entry.TheConstants.{SHORT_ROOM, LONG_ROOM}
use Rattle.asm_unwind.specs.Entries.{code_byte, word, word_at, further_words, short_entry, long_entry, entry_of}
use Rattle.asm_unwind.specs.EntryLaw.{HoldsCode, EntriesHoldTheirCode}
use Rattle.eh_codes.specs.declared.words.TheConstants.{COMPACT_TOP, MOST_PERSONALITY}
use Rattle.eh_codes.specs.declared.code.TheConstants.{FINISH}
use Rattle.eh_codes.specs.Words.{bytes_of_word, personality_of_word, code_words_after, code_in_first, code_of_words, words_after_code}

-- a word of bytes has these bytes
bytes_of_word-word : (a b c d : ℕ) → b < 2 ^ 8 → c < 2 ^ 8 → d < 2 ^ 8 → bytes_of_word (word a b c d) ≡ a ∷ b ∷ c ∷ d ∷ []
bytes_of_word-word a b c d small_b small_c small_d =
    let first : word a b c d / 2 ^ 24 ≡ a = omega arith in
    let second : word a b c d / 2 ^ 16 % 2 ^ 8 ≡ b = omega arith in
    let third : word a b c d / 2 ^ 8 % 2 ^ 8 ≡ c = omega arith in
    let fourth : word a b c d % 2 ^ 8 ≡ d = omega arith in
    cc

-- a byte of bytecode, or of what fills it up
code_byte_small : (bytes : List ℕ) (at : ℕ) → All (λ b. b < 2 ^ 8) bytes → code_byte bytes at < 2 ^ 8
code_byte_small bytes at small =
    elim (cases_lt at (length bytes)) as (λ _. code_byte bytes at < 2 ^ 8) [
      | inl here ↦ small at FINISH here
      | inr past ↦ rw (get_or_past bytes at FINISH past) (omega arith)
    ]

-- reading past the end of a list and reading what fills it up are one
get_or-filled : (bytes : List ℕ) (fill at : ℕ) → get_or (bytes ++ replicate fill FINISH) at FINISH ≡ get_or bytes at FINISH
get_or-filled [] zero at = refl
get_or-filled [] (suc fill) zero = refl
get_or-filled [] (suc fill) (suc at) = get_or-filled [] fill at
get_or-filled (b ∷ bytes) fill zero = refl
get_or-filled (b ∷ bytes) fill (suc at) = get_or-filled bytes fill at

-- the bytes at the first places are the bytecode and what fills it up
filled : (bytes : List ℕ) (size : ℕ) → length bytes ≤ size →
    map (code_byte bytes) (range_with_len 0 size) ≡ bytes ++ replicate (size - length bytes) FINISH
filled bytes size short =
    let fill : ℕ = size - length bytes in
    let long : length (bytes ++ replicate fill FINISH) ≡ size = length-append bytes (replicate fill FINISH) ∙ ap (λ n. length bytes + n) (length-replicate fill FINISH) ∙ omega arith in
    sym (fill_by_all (code_byte bytes) (bytes ++ replicate fill FINISH) size FINISH long (λ k h. get_or-filled bytes fill k))

more_at : (f : ℕ → ℕ) (n m : ℕ) → m ≡ n + 1 → map f (range_with_len 0 m) ≡ map f (range_with_len 0 n) ++ f n ∷ []
more_at f n m e = ap (λ k. map f (range_with_len 0 k)) e ∙ map-range_with_len_more f 0 n n (omega arith)

four_more : (f : ℕ → ℕ) (n m : ℕ) → m ≡ n + 4 → map f (range_with_len 0 m) ≡ map f (range_with_len 0 n) ++ (f n ∷ f (n + 1) ∷ f (n + 2) ∷ f (n + 3) ∷ [])
four_more f n m e =
    rw (more_at f (n + 3) m (omega arith), more_at f (n + 2) (n + 3) (omega arith), more_at f (n + 1) (n + 2) (omega arith), more_at f n (n + 1) refl)
    (simp append_assoc)

word_bytes : (bytes : List ℕ) (at : ℕ) → All (λ b. b < 2 ^ 8) bytes →
    bytes_of_word (word_at bytes at) ≡ code_byte bytes at ∷ code_byte bytes (at + 1) ∷ code_byte bytes (at + 2) ∷ code_byte bytes (at + 3) ∷ []
unfolding word_at
word_bytes bytes at small =
    bytes_of_word-word (code_byte bytes at) (code_byte bytes (at + 1)) (code_byte bytes (at + 2)) (code_byte bytes (at + 3))
    (code_byte_small bytes (at + 1) small) (code_byte_small bytes (at + 2) small) (code_byte_small bytes (at + 3) small)

-- two bytes and the bytes of further words are the bytes at the first places
further_bytes : (bytes : List ℕ) (n : ℕ) → All (λ b. b < 2 ^ 8) bytes →
    code_byte bytes 0 ∷ code_byte bytes 1 ∷ flat_map bytes_of_word (map (λ k. word_at bytes (2 + 4 * k)) (range_with_len 0 n))
    ≡ map (code_byte bytes) (range_with_len 0 (2 + 4 * n))
further_bytes bytes zero small = refl
further_bytes bytes (suc n) small =
    let words : ℕ → ℕ = λ k. word_at bytes (2 + 4 * k) in
    let before : List ℕ = flat_map bytes_of_word (map words (range_with_len 0 n)) in
    let last : List ℕ = bytes_of_word (words n) in
    let split : flat_map bytes_of_word (map words (range_with_len 0 (suc n))) ≡ before ++ last =
    ap (flat_map bytes_of_word) (more_at words n (suc n) (omega arith)) ∙ flat_map-append bytes_of_word (map words (range_with_len 0 n)) (words n ∷ []) ∙ ap (λ l. before ++ l) (append-nil last) in
    ap (λ (l : List ℕ). code_byte bytes 0 ∷ code_byte bytes 1 ∷ l) split
    ∙ ap (λ l. l ++ last) (further_bytes bytes n small)
    ∙ ap (λ l. map (code_byte bytes) (range_with_len 0 (2 + 4 * n)) ++ l) (word_bytes bytes (2 + 4 * n) small)
    ∙ sym (four_more (code_byte bytes) (2 + 4 * n) (2 + 4 * suc n) (omega arith))

-- personality 0: one word, in the index row or alone in its table
short_word : (bytes : List ℕ) → length bytes ≤ SHORT_ROOM → All (λ b. b < 2 ^ 8) bytes → bytes_of_word (short_entry bytes) ≡ COMPACT_TOP ∷ map (code_byte bytes) (range_with_len 0 3)
unfolding short_entry
short_word bytes short small =
    bytes_of_word-word COMPACT_TOP (code_byte bytes 0) (code_byte bytes 1) (code_byte bytes 2) (code_byte_small bytes 0 small) (code_byte_small bytes 1 small) (code_byte_small bytes 2 small)

short_top : (bytes : List ℕ) → All (λ b. b < 2 ^ 8) bytes → short_entry bytes / 2 ^ 24 ≡ COMPACT_TOP
unfolding short_entry
short_top bytes small =
    let first : code_byte bytes 0 < 2 ^ 8 = code_byte_small bytes 0 small in
    let second : code_byte bytes 1 < 2 ^ 8 = code_byte_small bytes 1 small in
    let third : code_byte bytes 2 < 2 ^ 8 = code_byte_small bytes 2 small in
    omega arith

short_code : (bytes : List ℕ) → length bytes ≤ SHORT_ROOM → All (λ b. b < 2 ^ 8) bytes → code_in_first (short_entry bytes) ≡ bytes ++ replicate (SHORT_ROOM - length bytes) FINISH
short_code bytes short small =
    let personality : personality_of_word (short_entry bytes) ≡ 0 = ap (λ (top : ℕ). top % 16) (short_top bytes small) in
    ap (λ (n : ℕ). drop (cond (n == 0) 1 2) (bytes_of_word (short_entry bytes))) personality ∙ ap (drop 1) (short_word bytes short small) ∙ filled bytes SHORT_ROOM short

short_after : (bytes : List ℕ) → All (λ b. b < 2 ^ 8) bytes → code_words_after (short_entry bytes) ≡ 0
short_after bytes small =
    let personality : personality_of_word (short_entry bytes) ≡ 0 = ap (λ (top : ℕ). top % 16) (short_top bytes small) in
    rw personality refl

short_whole : (bytes : List ℕ) → All (λ b. b < 2 ^ 8) bytes → code_words_after (short_entry bytes) ≤ 0
short_whole bytes small = omega (arith, short_after bytes small)

short_all : (bytes : List ℕ) → length bytes ≤ SHORT_ROOM → All (λ b. b < 2 ^ 8) bytes → code_of_words (short_entry bytes ∷ []) ≡ bytes ++ replicate (SHORT_ROOM - length bytes) FINISH
short_all bytes short small = rw (short_after bytes small) (append-nil (code_in_first (short_entry bytes)) ∙ short_code bytes short small)

short_none : (bytes : List ℕ) → All (λ b. b < 2 ^ 8) bytes → words_after_code (short_entry bytes ∷ []) ≡ []
short_none bytes small = rw (short_after bytes small) refl

short_holds : (handler_data : Bool) (bytes : List ℕ) → length bytes ≤ SHORT_ROOM → All (λ b. b < 2 ^ 8) bytes → HoldsCode (entry_of 0 handler_data bytes) 0 handler_data bytes
unfolding entry_of
short_holds false bytes short small = record {
  top = short_top bytes small;
  whole = short_whole bytes small;
  fill = SHORT_ROOM - length bytes;
  fill_is_short = omega arith;
  code = short_all bytes short small;
  after = short_none bytes small;
  place = refl;
}
short_holds true bytes short small = record {
  top = short_top bytes small;
  whole = short_whole bytes small;
  fill = SHORT_ROOM - length bytes;
  fill_is_short = omega arith;
  code = short_all bytes short small;
  after = short_none bytes small;
  place = refl;
}

-- a table whose first word counts the words of its code
words_counted : (first index a b : ℕ) (words : List ℕ) → bytes_of_word first ≡ (COMPACT_TOP + index) ∷ length words ∷ a ∷ b ∷ [] → (personality_of_word first == 0) ≡ false →
    code_words_after first ≡ length words
words_counted first index a b words is other =
    let count : first / 2 ^ 16 % 2 ^ 8 ≡ length words = cc in
    ap (λ t. cond t 0 (first / 2 ^ 16 % 2 ^ 8)) other ∙ count

table_code : (first index a b : ℕ) (words closing : List ℕ) → bytes_of_word first ≡ (COMPACT_TOP + index) ∷ length words ∷ a ∷ b ∷ [] → (personality_of_word first == 0) ≡ false →
    code_of_words (first ∷ words ++ closing) ≡ a ∷ b ∷ flat_map bytes_of_word words
table_code first index a b words closing is other =
    let two : code_in_first first ≡ a ∷ b ∷ [] = ap (λ t. drop (cond t 1 2) (bytes_of_word first)) other ∙ ap (drop 2) is in
    ap (λ l. l ++ flat_map bytes_of_word (take (code_words_after first) (words ++ closing))) two
    ∙ ap (λ (n : ℕ). a ∷ b ∷ flat_map bytes_of_word (take n (words ++ closing))) (words_counted first index a b words is other)
    ∙ ap (λ (l : List ℕ). a ∷ b ∷ flat_map bytes_of_word l) (take_at words closing (length words) refl)

table_after : (first index a b : ℕ) (words closing : List ℕ) → bytes_of_word first ≡ (COMPACT_TOP + index) ∷ length words ∷ a ∷ b ∷ [] → (personality_of_word first == 0) ≡ false →
    words_after_code (first ∷ words ++ closing) ≡ closing
table_after first index a b words closing is other =
    ap (λ (n : ℕ). drop n (words ++ closing)) (words_counted first index a b words is other) ∙ drop_at words closing (length words) refl

counted_words : (first index a b : ℕ) (words closing : List ℕ) → bytes_of_word first ≡ (COMPACT_TOP + index) ∷ length words ∷ a ∷ b ∷ [] → (personality_of_word first == 0) ≡ false →
    code_words_after first ≤ length (words ++ closing)
counted_words first index a b words closing is other = omega (arith, words_counted first index a b words is other, length-append words closing)

-- the words of code of personality 1 and 2, as long_entry has them after the first one
words_of : List ℕ → List ℕ
words_of bytes = map (λ k. word_at bytes (2 + 4 * k)) (range_with_len 0 (further_words bytes))

long_first : ℕ → List ℕ → ℕ
long_first index bytes = word (COMPACT_TOP + index) (further_words bytes) (code_byte bytes 0) (code_byte bytes 1)

long_bytes : (index : ℕ) (bytes : List ℕ) → length bytes ≤ LONG_ROOM → All (λ b. b < 2 ^ 8) bytes →
    bytes_of_word (long_first index bytes) ≡ (COMPACT_TOP + index) ∷ length (words_of bytes) ∷ code_byte bytes 0 ∷ code_byte bytes 1 ∷ []
unfolding words_of long_first
long_bytes index bytes short small =
    let count : length (words_of bytes) ≡ further_words bytes = length-map-range_with_len (λ k. word_at bytes (2 + 4 * k)) 0 (further_words bytes) in
    let few : further_words bytes < 2 ^ 8 = omega arith in
    bytes_of_word-word (COMPACT_TOP + index) (further_words bytes) (code_byte bytes 0) (code_byte bytes 1) few (code_byte_small bytes 0 small) (code_byte_small bytes 1 small)
    ∙ ap (λ (n : ℕ). (COMPACT_TOP + index) ∷ n ∷ code_byte bytes 0 ∷ code_byte bytes 1 ∷ []) (sym count)

closed : (handler_data none : Bool) → none ≡ false → cond {A = List ℕ} handler_data [] (0 ∷ []) ≡ cond {A = List ℕ} (handler_data || none) [] (0 ∷ [])
closed true none other = refl
closed false none other = rw other refl

no_place : (handler_data none : Bool) → none ≡ false → false ≡ (not handler_data && none)
no_place true none other = refl
no_place false none other = sym other

-- an entry of personality 1 or 2 whose table ends with these words
long_holds : (index : ℕ) (handler_data : Bool) (bytes closing : List ℕ) → (index == 0) ≡ false → index ≤ MOST_PERSONALITY → length bytes ≤ LONG_ROOM → All (λ b. b < 2 ^ 8) bytes →
    closing ≡ (cond handler_data [] (0 ∷ [])) →
    HoldsCode (Table (long_entry index bytes ++ closing)) index handler_data bytes
unfolding long_entry words_of long_first
long_holds index handler_data bytes closing other low short small ends =
    let is : bytes_of_word (long_first index bytes) ≡ (COMPACT_TOP + index) ∷ length (words_of bytes) ∷ code_byte bytes 0 ∷ code_byte bytes 1 ∷ [] = long_bytes index bytes short small in
    let top : long_first index bytes / 2 ^ 24 ≡ COMPACT_TOP + index = cc in
    let number : (personality_of_word (long_first index bytes) == 0) ≡ false =
    ap (λ (n : ℕ). n % 16 == 0) top ∙ ap (λ (n : ℕ). n == 0) (let e : (COMPACT_TOP + index) % 16 ≡ index = omega arith in e) ∙ other in
    record {
      top = top;
      whole = counted_words (long_first index bytes) index (code_byte bytes 0) (code_byte bytes 1) (words_of bytes) closing is number;
      fill = 2 + 4 * further_words bytes - length bytes;
      fill_is_short = omega arith;
      code = table_code (long_first index bytes) index (code_byte bytes 0) (code_byte bytes 1) (words_of bytes) closing is number ∙ further_bytes bytes (further_words bytes) small ∙ filled bytes (2 + 4 * further_words bytes) (omega arith);
      after = table_after (long_first index bytes) index (code_byte bytes 0) (code_byte bytes 1) (words_of bytes) closing is number ∙ ends ∙ closed handler_data (index == 0) other;
      place = no_place handler_data (index == 0) other;
    }

pub law_of_entries : EntriesHoldTheirCode
unfolding entry_of
law_of_entries zero handler_data bytes low short small = short_holds handler_data bytes short small
law_of_entries (suc zero) handler_data bytes low short small = long_holds 1 handler_data bytes (cond handler_data [] (0 ∷ [])) refl low short small refl
law_of_entries (suc (suc zero)) handler_data bytes low short small = long_holds 2 handler_data bytes (cond handler_data [] (0 ∷ [])) refl low short small refl
law_of_entries (suc (suc (suc index))) handler_data bytes low short small = absurd (omega arith)
