-- Where the words of a type stand, and that no others are asked for.
use Rattle.std.proofs.Common.{◌≡◌, ◌≢◌, ℕ, zero, suc, ◌+◌, ◌-◌, ◌*◌, ◌<◌, ◌==◌, ◌&&◌, Bool, true, false, cond, List, [], ◌∷◌, ◌++◌, length, take, drop, Some, None, refl, ap, sym, subst, ◌∙◌, arith, ne_eqb, length-append}
use Rattle.std.specs.Prelude.{nat_le, nat_lt, nat_eq, All, Any, find, position, option_map, slice_index_or}
use Rattle.std.specs.List.{position_or_len}
use Rattle.std.proofs.Math.Seq.{drop-append_seam, take-append_seam}
use Rattle.std.proofs.lemmas.Bool.Decides.{nat_tests}
use Rattle.std.proofs.lemmas.Bool.{false≢true, lt-ltb, le-ltb}
use Rattle.std.proofs.lemmas.List.Folds.{Any-from_list_any, list_any-from_Any, list_any_none, list_any_at}
use Rattle.byteorder.specs.Endian.{little_number}
use Rattle.elf_image.specs.Segments.{Segment}
use Rattle.eh_types.specs.Words.{has_bytes_at, word, number_in, is_word, is_written, words_from, text_of, name_in, name_from_segment, name_at}
use Rattle.eh_types.specs.Types.{type_at, kind_at, row_named, word_count}
use Rattle.eh_types.specs.Laws.{IsNamed}
use Rattle.eh_types.specs.declared.types.TheConstants.{NAME_LIMIT}
use Rattle.eh_types.proofs.Written.{words_are_fixed}
use Rattle.eh_phase_laws.specs.Types.{HasWord, IsFixed, WordsAreThere, NoOthersAreAsked, WordsAreFourBytes, OtherWordsAreZero}
use Rattle.eh_phase_laws.proofs.Worded.{count_is}

-- ---- a word in a segment

both : (a b : Bool) → a && b ≡ true → (a ≡ true) × (b ≡ true)
both true true e = (refl, refl)
both true false e = absurd (false≢true e)
both false b e = absurd (false≢true e)

has_from : (a : ℕ) (s : Segment) → has_bytes_at 4 a s ≡ true → HasWord a s
has_from a s e =
    let p = both (nat_le s.start a) (nat_le (a + 4) (s.start + length s.bytes)) e in
    let x : nat_le s.start a ≡ true = p.0 in
    let y : nat_le (a + 4) (s.start + length s.bytes) ≡ true = p.1 in
    record { from = grind (arith, nat_tests); to = grind (arith, nat_tests) }

has_to : (a : ℕ) (s : Segment) → HasWord a s → has_bytes_at 4 a s ≡ true
has_to a s h =
    let x : nat_le s.start a ≡ true = grind (arith, nat_tests, h.from) in
    let y : nat_le (a + 4) (s.start + length s.bytes) ≡ true = grind (arith, nat_tests, h.to) in
    rw (x, y) refl

has_not : (a : ℕ) (s : Segment) → ¬ (HasWord a s) → has_bytes_at 4 a s ≡ false
has_not a s h = go (has_bytes_at 4 a s) refl
  where
    go : (b : Bool) → has_bytes_at 4 a s ≡ b → b ≡ false
    go true e = absurd (h (has_from a s e))
    go false e = refl

-- ---- fixed words

there : (segments : List Segment) (a : ℕ) → Any (HasWord a) segments → is_word segments a ≡ true
there segments a h = list_any-from_Any (has_bytes_at 4 a) segments (h.0, h.1, h.2, h.3, has_to a h.1 h.4)

unwritten : (segments : List Segment) (a : ℕ) → All (λ s. HasWord a s → s.write ≡ false) segments → is_written segments a ≡ false
unwritten segments a h = list_any_none (λ s. has_bytes_at 4 a s && s.write) segments (λ k d inside. none (slice_index_or segments k d) (h k d inside))
  where
    none : (s : Segment) → (HasWord a s → s.write ≡ false) → (has_bytes_at 4 a s && s.write) ≡ false
    none s w = go (has_bytes_at 4 a s) refl
      where
        go : (b : Bool) → has_bytes_at 4 a s ≡ b → (b && s.write) ≡ false
        go true e = w (has_from a s e)
        go false e = refl

fixed : (segments : List Segment) (a : ℕ) → is_word segments a ≡ true → is_written segments a ≡ false → IsFixed segments a
fixed segments a w f = let h = Any-from_list_any (has_bytes_at 4 a) segments w in record {
  there = (h.0, h.1, h.2, h.3, has_from a h.1 h.4);
  fixed = λ k d inside held. closed k d inside held (slice_index_or segments k d).write refl;
}
  where
    closed : (k : ℕ) (d : Segment) → k < length segments → HasWord a (slice_index_or segments k d) → (b : Bool) → (slice_index_or segments k d).write ≡ b → b ≡ false
    closed k d inside held true e =
        let hit : (has_bytes_at 4 a (slice_index_or segments k d) && (slice_index_or segments k d).write) ≡ true = ap (λ c. c && (slice_index_or segments k d).write) (has_to a (slice_index_or segments k d) held) ∙ e in
        sym (list_any_at (λ s. has_bytes_at 4 a s && s.write) segments k d inside hit) ∙ f
    closed k d inside held false e = refl

pub words_are_there : WordsAreThere
words_are_there image a k r h inside =
    let w = words_are_fixed image a k r h (subst (λ n. k < n) (count_is image a r.kind) inside) in
    fixed image.segments (a + 4 * k) w.0 w.1

-- ---- no others

fixed_words : (segments : List Segment) (a count : ℕ) → ((k : ℕ) → k < count → IsFixed segments (a + 4 * k)) → words_from segments a count ≡ Some false
unfolding words_from
fixed_words segments a zero h = refl
fixed_words segments a (suc count) h =
    let here = subst (IsFixed segments) (let e : a + 4 * 0 ≡ a = omega arith in e) (h 0 (omega arith)) in
    let w : is_word segments a ≡ true = there segments a here.there in
    let f : is_written segments a ≡ false = unwritten segments a here.fixed in
    let more : words_from segments (a + 4) count ≡ Some false =
    fixed_words segments (a + 4) count (λ k b. subst (IsFixed segments) (let e : a + 4 * suc k ≡ a + 4 + 4 * k = omega arith in e) (h (suc k) (omega (arith, b)))) in
    rw (w, f, more) refl

before_zero : (name rest : List ℕ) → All (λ b. b ≢ 0) name → position_or_len (λ b. nat_eq b 0) (name ++ 0 ∷ rest) ≡ length name
before_zero [] rest plain = refl
before_zero (b ∷ name) rest plain =
    let e : nat_eq b 0 ≡ false = ne_eqb b 0 (plain 0 b (omega arith)) in
    let more : position_or_len (λ b. nat_eq b 0) (name ++ 0 ∷ rest) ≡ length name = before_zero name rest (λ k d inside. plain (suc k) d (omega (arith, inside))) in
    rw (e, more) (let z : 1 + length name ≡ suc (length name) = omega arith in z)

text_there : (bytes name rest : List ℕ) → bytes ≡ name ++ 0 ∷ rest → All (λ b. b ≢ 0) name → text_of bytes ≡ Some name
unfolding text_of
text_there bytes name rest e plain = subst (λ (l : List ℕ). option_map (λ (end : ℕ). take end l) (position (λ b. b == 0) l) ≡ Some name) (sym e)
    (rw (before_zero name rest plain, inside) (ap Some (take-append_seam name (0 ∷ rest))))
  where
    inside : nat_lt (length name) (length (name ++ 0 ∷ rest)) ≡ true
    inside = lt-ltb _ _ (omega (arith, length-append name (0 ∷ rest)))

found_passes : (p : Segment → Bool) (xs : List Segment) (s : Segment) → find p xs ≡ Some s → p s ≡ true
found_passes p [] s h = absurd cc
found_passes p (x ∷ xs) s h = go (p x) refl h (found_passes p xs s)
  where
    go : (b : Bool) → p x ≡ b → cond b (Some x) (find p xs) ≡ Some s → (find p xs ≡ Some s → p s ≡ true) → p s ≡ true
    go true e f more = let same : x ≡ s = cc in subst (λ (t : Segment). p t ≡ true) same e
    go false e f more = more f

name_there : (segments : List Segment) (a : ℕ) (name : List ℕ) → IsNamed segments a name → name_at segments a ≡ Some (name, false)
unfolding name_at name_in
name_there segments a name n =
    let h : has_bytes_at 1 a n.segment ≡ true = found_passes (has_bytes_at 1 a) segments n.segment n.found in
    ap (name_from_segment a) n.found
    ∙ ap (λ b. cond b (option_map (λ text. (text, n.segment.write)) (text_of (drop (a - n.segment.start) n.segment.bytes))) None) h
    ∙ ap (λ o. option_map (λ text. (text, n.segment.write)) o) (text_there (drop (a - n.segment.start) n.segment.bytes) name n.rest n.place n.plain)
    ∙ ap (λ w. Some (name, w)) n.read_only

pub no_others_are_asked : NoOthersAreAsked
unfolding type_at row_named
no_others_are_asked image a name words name_from_segment =
    let w : words_from image.segments a (word_count image.segments a (kind_at image a)) ≡ Some false =
    fixed_words image.segments a (word_count image.segments a (kind_at image a)) (λ k b. words k (subst (λ n. k < n) (sym (count_is image a (kind_at image a))) b)) in
    let n : name_at image.segments (word image.segments (a + 4)) ≡ Some (name, false) = name_there image.segments (word image.segments (a + 4)) name name_from_segment in
    let short : nat_lt NAME_LIMIT (length name) ≡ false = le-ltb NAME_LIMIT (length name) name_from_segment.short in
    record { row = row_named image a name; read = rw (w, n, short) refl; named = refl }

-- ---- four bytes

passed : (p : Segment → Bool) (before after : List Segment) (s : Segment) → ((k : ℕ) (d : Segment) → k < length before → p (slice_index_or before k d) ≡ false) → p s ≡ true
    → find p (before ++ s ∷ after) ≡ Some s
passed p [] after s none h = ap (λ b. cond b (Some s) (find p after)) h
passed p (x ∷ before) after s none h =
    ap (λ b. cond b (Some x) (find p (before ++ s ∷ after))) (none 0 x (omega arith)) ∙ passed p before after s (λ k d inside. none (suc k) d (omega (arith, inside))) h

pub words_are_four_bytes : WordsAreFourBytes
unfolding word
words_are_four_bytes segments a b0 b1 b2 b3 w =
    let long : length w.segment.bytes ≡ length w.low + (4 + length w.rest) = ap length w.bytes ∙ length-append w.low (b0 ∷ b1 ∷ b2 ∷ b3 ∷ w.rest) ∙ (let z : length w.low + length (b0 ∷ b1 ∷ b2 ∷ b3 ∷ w.rest) ≡ length w.low + (4 + length w.rest) = omega arith in z) in
    let held : has_bytes_at 4 a w.segment ≡ true = has_to a w.segment (record { from = omega (arith, w.at); to = omega (arith, w.at, long) }) in
    let found : find (has_bytes_at 4 a) segments ≡ Some w.segment =
    ap (find (has_bytes_at 4 a)) w.is ∙ passed (has_bytes_at 4 a) w.before w.after w.segment (λ k d inside. has_not a (slice_index_or w.before k d) (w.first k d inside)) held in
    let skip : a - w.segment.start ≡ length w.low = omega (arith, w.at) in
    let bytes : drop (a - w.segment.start) w.segment.bytes ≡ b0 ∷ b1 ∷ b2 ∷ b3 ∷ w.rest =
    ap (λ n. drop n w.segment.bytes) skip ∙ ap (drop (length w.low)) w.bytes ∙ drop-append_seam w.low (b0 ∷ b1 ∷ b2 ∷ b3 ∷ w.rest) in
    ap (number_in a) found ∙ ap (little_number 4) bytes ∙ (let z : little_number 4 (b0 ∷ b1 ∷ b2 ∷ b3 ∷ w.rest) ≡ b0 + 256 * b1 + 65536 * b2 + 16777216 * b3 = omega arith in z)

none_found : (p : Segment → Bool) (xs : List Segment) → ((k : ℕ) (d : Segment) → k < length xs → p (slice_index_or xs k d) ≡ false) → find p xs ≡ None
none_found p [] none = refl
none_found p (x ∷ xs) none =
    ap (λ b. cond b (Some x) (find p xs)) (none 0 x (omega arith)) ∙ none_found p xs (λ k d inside. none (suc k) d (omega (arith, inside)))

pub other_words_are_zero : OtherWordsAreZero
unfolding word
other_words_are_zero segments a none = ap (number_in a) (none_found (has_bytes_at 4 a) segments (λ k d inside. has_not a (slice_index_or segments k d) (none k d inside)))
