-- The bytes of words: where a word of a line ends, and that its bytes may stand in a source.
use Rattle.std.proofs.Common.{◌≡◌, ℕ, ◌+◌, ◌==◌, ◌&&◌, not, Bool, true, false, cond, if◌then◌else◌, List, [], ◌∷◌, ◌++◌, length, refl, ap, sym, ◌∙◌, arith}
use Rattle.std.proofs.lemmas.Bool.{ne_eqb}
use Rattle.std.proofs.lemmas.Bool.Decides.{nat_tests}
use Rattle.std.specs.List.{prefix_len, list_all}
use Rattle.asm_read.specs.declared.token.TokenKind.TheVariants.{Word, End}
use Rattle.asm_read.specs.Tokens.{is_blank, is_digit, is_name_byte, front, front_of, quoted_front, closing, character_front, run_front, minus_front}
use Rattle.asm_read.specs.Plans.{not_plain}
use Rattle.asm_line_laws.specs.Written.{is_name}

pub and_left : (a b : Bool) → (a && b) ≡ true → a ≡ true
and_left true b h = refl
and_left false b h = h

pub and_right : (a b : Bool) → (a && b) ≡ true → b ≡ true
and_right true b h = h
and_right false b h = cc

pub both : (a b : Bool) → a ≡ true → b ≡ true → (a && b) ≡ true
both a b h k = rw (h, k) refl

-- no name goes on here
abbrev pub Stops : List ℕ → Type 0
Stops rest = prefix_len is_name_byte rest ≡ 0

pub name_run : (w rest : List ℕ) → list_all is_name_byte w ≡ true → Stops rest → prefix_len is_name_byte (w ++ rest) ≡ length w
name_run [] rest h s = s
name_run (b ∷ bs) rest h s =
    let more = name_run bs rest (and_right (is_name_byte b) (list_all is_name_byte bs) h) s in
    ap (λ t. cond t (1 + prefix_len is_name_byte (bs ++ rest)) 0) (and_left (is_name_byte b) (list_all is_name_byte bs) h) ∙ omega arith

-- bytes that a test tells apart are different
pub differ : (p : ℕ → Bool) (b k : ℕ) → p b ≡ true → p k ≡ false → (b == k) ≡ false
differ p b k h n = ne_eqb b k (λ e. let f : true ≡ false = sym h ∙ ap p e ∙ n in cc)

sixth : {A : Type 0} (a b c d e f : Bool) (x y z u v w t : A) → a ≡ false → b ≡ false → c ≡ false → d ≡ false → e ≡ false → f ≡ true → (if a then x else if b then y else if c then z else if d then u else if e then v else if f then w else t) ≡ w
sixth a b c d e f x y z u v w t ha hb hc hd he hf = rw (ha, hb, hc, hd, he, hf) refl

pub not_true : (b : Bool) → not b ≡ true → b ≡ false
not_true true h = cc
not_true false h = refl

-- a name in front of what goes on no name
pub front_of_name : (w rest : List ℕ) → is_name w ≡ true → Stops rest → front_of (w ++ rest) ≡ front Word (length w)
unfolding front_of
front_of_name [] rest h s = cc
front_of_name (b ∷ bs) rest h s =
    let digit = not_true (is_digit b) (and_left (not (is_digit b)) (list_all is_name_byte (b ∷ bs)) h) in
    let all = and_right (not (is_digit b)) (list_all is_name_byte (b ∷ bs)) h in
    let named = and_left (is_name_byte b) (list_all is_name_byte bs) all in
    sixth (b == 64) (b == 34) (b == 39) (is_digit b) (b == 45) (is_name_byte b) (front End 0) (quoted_front (closing false (bs ++ rest))) (character_front false (b ∷ (bs ++ rest))) (run_front false (b ∷ (bs ++ rest))) (minus_front (bs ++ rest)) (front Word (prefix_len is_name_byte (b ∷ (bs ++ rest)))) _
    (differ is_name_byte b 64 named refl) (differ is_name_byte b 34 named refl) (differ is_name_byte b 39 named refl) digit (differ is_name_byte b 45 named refl) named
    ∙ ap (front Word) (name_run (b ∷ bs) rest all s)

-- no blank in front
pub not_blank : (b : ℕ) → is_name_byte b ≡ true → is_blank b ≡ false
not_blank b h = rw (differ is_name_byte b 32 h refl, differ is_name_byte b 9 h refl, differ is_name_byte b 13 h refl) refl

pub blank_of_name : (w rest : List ℕ) → is_name w ≡ true → prefix_len is_blank (w ++ rest) ≡ 0
blank_of_name [] rest h = cc
blank_of_name (b ∷ bs) rest h =
    let all = and_right (not (is_digit b)) (list_all is_name_byte (b ∷ bs)) h in
    ap (λ t. cond t (1 + prefix_len is_blank (bs ++ rest)) 0) (not_blank b (and_left (is_name_byte b) (list_all is_name_byte bs) all))

-- bytes that may stand in a source
abbrev pub plain : List ℕ → Bool
plain bs = list_all (λ b. not (not_plain b)) bs

name_byte_plain : (b : ℕ) → is_name_byte b ≡ true → not (not_plain b) ≡ true
name_byte_plain b h = grind (arith, nat_tests)

pub name_plain : (w : List ℕ) → is_name w ≡ true → plain w ≡ true
name_plain [] h = refl
name_plain (b ∷ bs) h = all_named (b ∷ bs) (and_right (not (is_digit b)) (list_all is_name_byte (b ∷ bs)) h)
  where
    all_named : (w : List ℕ) → list_all is_name_byte w ≡ true → plain w ≡ true
    all_named [] k = refl
    all_named (c ∷ cs) k = both (not (not_plain c)) (plain cs) (name_byte_plain c (and_left (is_name_byte c) (list_all is_name_byte cs) k)) (all_named cs (and_right (is_name_byte c) (list_all is_name_byte cs) k))
