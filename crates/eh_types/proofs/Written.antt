-- What the words of a type that is read say of it.
use Rattle.std.proofs.Common.{◌≡◌, ◌≢◌, ℕ, zero, suc, ◌+◌, ◌-◌, ◌*◌, ◌/◌, ◌%◌, ◌^◌, ◌<◌, ◌≤◌, Bool, true, false, not, cond, nat_eq, nat_lt, ℤ, pos, negsuc, List, [], ◌∷◌, ◌++◌, length, take, drop, All, Option, Some, None, option_map, Ok, Err, refl, ◌∙◌, ap, arith, add-zero}
use Rattle.std.proofs.lemmas.Bool.Decides.{nat_tests}
use Rattle.std.proofs.lemmas.List.Elements.{All-nil, All-cons}
use Rattle.std.specs.List.{find, position_or_len}
use Rattle.elf_image.specs.Segments.{Segment}
use Rattle.elf_image.specs.Image.{Image}
use Rattle.eh_types.specs.declared.kind.Base.{Base}
use Rattle.eh_types.specs.declared.fault.TypeFault.TheVariants.{NameTooLong}
use Rattle.eh_types.specs.Graph.{Row}
use Rattle.eh_types.specs.Words.{has_bytes_at, word, is_word, is_written, any_writable, words_from, text_of, name_in, name_from_segment, name_at}
use Rattle.eh_types.specs.Types.{base_by, offset_in, kind_at, word_count, type_or_fault, row_named, type_at}
use Rattle.eh_types.specs.Laws.{IsOffset, high_bits, bit, base_flags, IsNamed}
use Rattle.eh_types.proofs.Steps.{row_is}
use Rattle.eh_types.specs.declared.types.TheConstants.{NAME_LIMIT}

-- ---- bases

bit_small : (b : Bool) → bit b ≤ 1
bit_small true = omega arith
bit_small false = omega arith

virtual_bit : (h : ℕ) (p v : Bool) → nat_eq ((h * 256 + (2 * bit p + bit v)) % 2) 1 ≡ v
virtual_bit h p true = let e : (h * 256 + (2 * bit p + 1)) % 2 ≡ 1 = omega arith in rw e refl
virtual_bit h p false = let e : (h * 256 + (2 * bit p + 0)) % 2 ≡ 0 = omega arith in rw e refl

public_bit : (h : ℕ) (p v : Bool) → nat_eq ((h * 256 + (2 * bit p + bit v)) / 2 % 2) 1 ≡ p
public_bit h true v = let e : (h * 256 + (2 * 1 + bit v)) / 2 % 2 ≡ 1 = (let s = bit_small v in omega arith) in rw e refl
public_bit h false v = let e : (h * 256 + (2 * 0 + bit v)) / 2 % 2 ≡ 0 = (let s = bit_small v in omega arith) in rw e refl

high_part : (h m : ℕ) → m < 256 → (h * 256 + m) / 256 ≡ h
high_part h m small = omega arith

lt_true : (x y : ℕ) → x < y → nat_lt x y ≡ true
lt_true x y h = grind (arith, nat_tests)

lt_false : (x y : ℕ) → y ≤ x → nat_lt x y ≡ false
lt_false x y h = grind (arith, nat_tests)

offset_back : (o : ℤ) (m : ℕ) → m < 256 → IsOffset o → offset_in (high_bits o * 256 + m) ≡ o
offset_back (pos n) m small fits = rw (high_part n m small, lt_true n (2 ^ 23) fits) refl
offset_back (negsuc n) m small fits = rw (high_part (2 ^ 24 - (n + 1)) m small, lt_false (2 ^ 24 - (n + 1)) (2 ^ 23) (omega arith), lt_true (2 ^ 24 - (n + 1)) (2 ^ 24) (omega arith))
    (ap negsuc (let e : 2 ^ 24 - suc (2 ^ 24 - (n + 1)) ≡ n = omega arith in e))

pub bases_are_read : (b : Base) → IsOffset b.offset → base_by b.ty (base_flags b) ≡ b
unfolding base_by
bases_are_read b fits =
    rw (
      offset_back b.offset (2 * bit b.is_public + bit b.is_virtual) (omega (arith, bit_small b.is_public, bit_small b.is_virtual)) fits,
      virtual_bit (high_bits b.offset) b.is_public b.is_virtual,
      public_bit (high_bits b.offset) b.is_public b.is_virtual,
    ) refl

-- ---- words and names

record Read (image : Image) (a : ℕ) (r : Row) : Type 0 where
  pub words : words_from image.segments a (word_count image.segments a (kind_at image a)) ≡ Some false
  pub name : name_at image.segments (word image.segments (a + 4)) ≡ Some (r.name, false)
  pub short : length r.name ≤ NAME_LIMIT

not_less : (x y : ℕ) → nat_lt x y ≡ false → y ≤ x
not_less x y h = grind (arith, nat_tests)

paired : Bool → List ℕ → List ℕ × Bool
paired write text = (text, write)

record Judged (words : Option Bool) (name : Option (List ℕ × Bool)) (r : Row) : Type 0 where
  pub words_read : words ≡ Some false
  pub name_read : name ≡ Some (r.name, false)
  pub short : length r.name ≤ NAME_LIMIT

judged_read : (image : Image) (a : ℕ) (words : Option Bool) (name : Option (List ℕ × Bool)) (r : Row) → type_or_fault image a words name ≡ Ok r → Judged words name r
unfolding row_named
judged_read image a None name r e = absurd cc
judged_read image a (Some w) None r e = absurd cc
judged_read image a (Some true) (Some (text, v)) r e = absurd cc
judged_read image a (Some false) (Some (text, true)) r e = absurd cc
judged_read image a (Some false) (Some (text, false)) r e = by_length (nat_lt NAME_LIMIT (length text)) refl e
  where
    by_length : (b : Bool) → nat_lt NAME_LIMIT (length text) ≡ b → cond b (Err (NameTooLong a)) (Ok (row_named image a text)) ≡ Ok r
        → Judged (Some false) (Some (text, false)) r
    by_length true t f = absurd cc
    by_length false t f = let same : row_named image a text ≡ r = cc in rw (← same) (record { words_read = refl; name_read = refl; short = not_less NAME_LIMIT (length text) t })

read_of : (image : Image) (a : ℕ) (r : Row) → type_at image a ≡ Ok r → Read image a r
unfolding type_at
read_of image a r e =
    let j = judged_read image a (words_from image.segments a (word_count image.segments a (kind_at image a))) (name_at image.segments (word image.segments (a + 4))) r e in
    record { words = j.words_read; name = j.name_read; short = j.short }

joined_false : (b : Bool) (o : Option Bool) → any_writable b o ≡ Some false → (b ≡ false) × (o ≡ Some false)
joined_false b None e = absurd cc
joined_false true (Some w) e = absurd cc
joined_false false (Some w) e = (refl, e)

words_fixed : (segments : List Segment) (a count k : ℕ) → words_from segments a count ≡ Some false → k < count → (is_word segments (a + 4 * k) ≡ true) × (is_written segments (a + 4 * k) ≡ false)
unfolding words_from
words_fixed segments a zero k e h = absurd (omega arith)
words_fixed segments a (suc count) k e h = by_word (is_word segments a) refl e k h (words_fixed segments (a + 4) count)
  where
    by_word : (b : Bool) → is_word segments a ≡ b → cond b (any_writable (is_written segments a) (words_from segments (a + 4) count)) None ≡ Some false → (k : ℕ) → k < suc count
        → ((k : ℕ) → words_from segments (a + 4) count ≡ Some false → k < count → (is_word segments (a + 4 + 4 * k) ≡ true) × (is_written segments (a + 4 + 4 * k) ≡ false))
        → (is_word segments (a + 4 * k) ≡ true) × (is_written segments (a + 4 * k) ≡ false)
    by_word true w f zero h rest = let first = joined_false (is_written segments a) (words_from segments (a + 4) count) f in rw add-zero (w, first.0)
    by_word true w f (suc k) h rest =
        let later = joined_false (is_written segments a) (words_from segments (a + 4) count) f in
        let place : a + 4 + 4 * k ≡ a + 4 * suc k = omega arith in
        rw (← place) (rest k later.1 (omega arith))
    by_word false w f k h rest = absurd cc

pub words_are_fixed : (image : Image) (a k : ℕ) (r : Row) → type_at image a ≡ Ok r → k < word_count image.segments a r.kind
    → (is_word image.segments (a + 4 * k) ≡ true) × (is_written image.segments (a + 4 * k) ≡ false)
words_are_fixed image a k r e h =
    let read = read_of image a r e in
    words_fixed image.segments a (word_count image.segments a (kind_at image a)) k read.words (rw (row_is image a r e).1 at h)

-- ---- names

-- up to the first zero byte
record Split (bytes text : List ℕ) : Type 0 where
  pub rest : List ℕ
  pub place : bytes ≡ text ++ 0 ∷ rest
  pub plain : All (λ b. b ≢ 0) text

zero_from : (b : ℕ) → nat_eq b 0 ≡ true → b ≡ 0
zero_from b h = grind (arith, nat_tests)

some_from : (b : ℕ) → nat_eq b 0 ≡ false → b ≢ 0
some_from b h = λ e. grind (arith, nat_tests)

split_at : (bytes : List ℕ) → position_or_len (λ b. nat_eq b 0) bytes < length bytes → Split bytes (take (position_or_len (λ b. nat_eq b 0) bytes) bytes)
split_at [] h = absurd (omega arith)
split_at (b ∷ bytes) h = by_test (nat_eq b 0) refl h (split_at bytes)
  where
    by_test : (t : Bool) → nat_eq b 0 ≡ t → cond (not t) (1 + position_or_len (λ b. nat_eq b 0) bytes) 0 < length (b ∷ bytes)
        → (position_or_len (λ b. nat_eq b 0) bytes < length bytes → Split bytes (take (position_or_len (λ b. nat_eq b 0) bytes) bytes))
        → Split (b ∷ bytes) (take (cond (not t) (1 + position_or_len (λ b. nat_eq b 0) bytes) 0) (b ∷ bytes))
    by_test true e f more = record { rest = bytes; place = ap (λ (x : ℕ). x ∷ bytes) (zero_from b e); plain = All-nil (λ b. b ≢ 0) }
    by_test false e f more =
        let next : 1 + position_or_len (λ b. nat_eq b 0) bytes ≡ suc (position_or_len (λ b. nat_eq b 0) bytes) = omega arith in
        let s = more (omega arith) in
        rw next (record { rest = s.rest; place = ap (λ (xs : List ℕ). b ∷ xs) s.place; plain = All-cons (λ b. b ≢ 0) b _ (some_from b e) s.plain })

less_from : (x y : ℕ) → nat_lt x y ≡ true → x < y
less_from x y h = grind (arith, nat_tests)

text_split : (bytes text : List ℕ) → text_of bytes ≡ Some text → Split bytes text
unfolding text_of
text_split bytes text e = by_test (nat_lt (position_or_len (λ b. nat_eq b 0) bytes) (length bytes)) refl e
  where
    by_test : (t : Bool) → nat_lt (position_or_len (λ b. nat_eq b 0) bytes) (length bytes) ≡ t
        → option_map (λ (end : ℕ). take end bytes) (cond t (Some (position_or_len (λ b. nat_eq b 0) bytes)) None) ≡ Some text → Split bytes text
    by_test true t f =
        let same : take (position_or_len (λ b. nat_eq b 0) bytes) bytes ≡ text = cc in
        rw (← same) (split_at bytes (less_from _ (length bytes) t))
    by_test false t f = absurd cc

record Found (a : ℕ) (s : Segment) (name : List ℕ) : Type 0 where
  pub text : text_of (drop (a - s.start) s.bytes) ≡ Some name
  pub read_only : s.write ≡ false

named_text : (a : ℕ) (s : Segment) (name : List ℕ) → name_in a s ≡ Some (name, false) → Found a s name
unfolding name_in paired
named_text a s name e = by_has (has_bytes_at 1 a s) e
  where
    by_text : (o : Option (List ℕ)) → text_of (drop (a - s.start) s.bytes) ≡ o → option_map (paired s.write) o ≡ Some (name, false) → Found a s name
    by_text None t f = absurd cc
    by_text (Some text) t f = let both : (text, s.write) ≡ (name, false) = cc in record { text = t ∙ ap (λ (p : List ℕ × Bool). Some p.0) both; read_only = ap (λ (p : List ℕ × Bool). p.1) both }

    by_has : (b : Bool) → cond b (option_map (paired s.write) (text_of (drop (a - s.start) s.bytes))) None ≡ Some (name, false) → Found a s name
    by_has true f = by_text (text_of (drop (a - s.start) s.bytes)) refl f
    by_has false f = absurd cc

named_in : (segments : List Segment) (a : ℕ) (name : List ℕ) (o : Option Segment) → find (has_bytes_at 1 a) segments ≡ o → name_from_segment a o ≡ Some (name, false) → length name ≤ NAME_LIMIT → IsNamed segments a name
named_in segments a name None f e short = absurd cc
named_in segments a name (Some s) f e short =
    let found = named_text a s name e in
    let split = text_split (drop (a - s.start) s.bytes) name found.text in
    record { segment = s; found = f; read_only = found.read_only; rest = split.rest; place = split.place; plain = split.plain; short = short }

pub names_are_ended : (image : Image) (a : ℕ) (r : Row) → type_at image a ≡ Ok r → IsNamed image.segments (word image.segments (a + 4)) r.name
unfolding name_at
names_are_ended image a r e =
    let read = read_of image a r e in
    named_in image.segments (word image.segments (a + 4)) r.name (find (has_bytes_at 1 (word image.segments (a + 4))) image.segments) refl read.name read.short
