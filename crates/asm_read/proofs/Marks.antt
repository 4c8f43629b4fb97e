-- Marks are told by their first byte, and a line's end by its place.
use Rattle.std.proofs.Common.{◌≡◌, ℕ, ◌+◌, ◌==◌, Bool, true, false, List, [], ◌∷◌, length, take, drop, Option, Some, None, if◌then◌else◌, refl, ap, sym, ◌∙◌, arith}
use Rattle.std.specs.List.{prefix_len}
use Rattle.std.proofs.lemmas.Bool.{cond_both, cond-false, cond-true}
use Rattle.std.proofs.lemmas.Bool.Decides.{nat_tests}
use Rattle.std.proofs.lemmas.List.{drop_all}
use Rattle.asm_read.specs.declared.token.Front.{Front}
use Rattle.asm_read.specs.declared.token.TokenKind.{TokenKind}
use Rattle.asm_read.specs.declared.token.TokenKind.TheVariants.{Mark, End, Bad}
use Rattle.asm_read.specs.Tokens.{is_blank, is_digit, is_name_byte, is_mark, kind_of_number, number_of, closing, character_front, quoted_front, after_minus, minus_front, front_of, place_token, token_at}
use Rattle.asm_read.specs.Operands.{is_mark_of}
use Rattle.asm_read.specs.Marks.{is_lone_mark, begins_with, mark_after}

-- a number is no mark
no_number : (m : ℕ) (negative : Bool) (n : Option ℕ) → is_mark_of m (kind_of_number negative n) ≡ false
no_number m negative None = refl
no_number m true (Some n) = grind arith
no_number m false (Some n) = grind arith

no_character : (m : ℕ) (negative : Bool) (bs : List ℕ) → is_mark_of m (character_front negative bs).kind ≡ false
no_character m negative bs = grind (arith, no_number m negative)

no_text : (m : ℕ) (n : Option ℕ) → is_mark_of m (quoted_front n).kind ≡ false
no_text m None = refl
no_text m (Some n) = refl

no_sign : (m len : ℕ) (kind : TokenKind) → (45 == m) ≡ false → is_mark_of m kind ≡ false → is_mark_of m (after_minus len kind).kind ≡ false
no_sign m len Bad h k = grind (arith, nat_tests)
no_sign m len _ h k = k

no_minus : (m : ℕ) (bs : List ℕ) → (45 == m) ≡ false → is_mark_of m (minus_front bs).kind ≡ false
no_minus m bs h = grind (arith, no_sign m, no_character m true, no_number m true)

-- a token that begins with another byte
other_front : (m b : ℕ) (bs : List ℕ) → (b == m) ≡ false → is_mark_of m (front_of (b ∷ bs)).kind ≡ false
unfolding front_of
other_front m b bs h =
    let none : Front → Type 0 = λ f. is_mark_of m f.kind ≡ false in
    cond_both (b == 64) _ _ none (λ _. refl) (λ _.
    cond_both (b == 34) _ _ none (λ _. no_text m (closing false bs)) (λ _.
    cond_both (b == 39) _ _ none (λ _. no_character m false (b ∷ bs)) (λ _.
    cond_both (is_digit b) _ _ none (λ _. no_number m false (number_of (take (prefix_len is_name_byte (b ∷ bs)) (b ∷ bs)))) (λ _.
    cond_both (b == 45) _ _ none (λ e. no_minus m bs (grind (arith, nat_tests))) (λ _.
    cond_both (is_name_byte b) _ _ none (λ _. refl) (λ _.
    cond_both (is_mark b) _ _ none (λ _. grind (arith, nat_tests)) (λ _. refl)))))))

-- a mark is none of the bytes that other tokens begin with
module _ (b : ℕ) (h : is_lone_mark b ≡ true) where
  no_comment : (b == 64) ≡ false
  no_comment = grind (arith, nat_tests)

  no_quote : (b == 34) ≡ false
  no_quote = grind (arith, nat_tests)

  no_single : (b == 39) ≡ false
  no_single = grind (arith, nat_tests)

  no_digit : is_digit b ≡ false
  no_digit = grind (arith, nat_tests)

  no_dash : (b == 45) ≡ false
  no_dash = grind (arith, nat_tests)

  no_name : is_name_byte b ≡ false
  no_name = grind (arith, nat_tests)

  a_mark : is_mark b ≡ true
  a_mark = grind (arith, nat_tests)

-- a token that begins with a mark
mark_front : (b : ℕ) (bs : List ℕ) → is_lone_mark b ≡ true → front_of (b ∷ bs) ≡ record { kind = Mark b; len = 1 }
unfolding front_of
mark_front b bs h =
    cond-false (b == 64) _ _ (no_comment b h) ∙ cond-false (b == 34) _ _ (no_quote b h) ∙ cond-false (b == 39) _ _ (no_single b h)
    ∙ cond-false (is_digit b) _ _ (no_digit b h) ∙ cond-false (b == 45) _ _ (no_dash b h) ∙ cond-false (is_name_byte b) _ _ (no_name b h)
    ∙ cond-true (is_mark b) _ _ (a_mark b h)

placed_kind : (from start len : ℕ) (kind : TokenKind) → (place_token from start len kind).kind ≡ kind
placed_kind from start len End = refl
placed_kind from start len _ = refl

abbrev start_of : List ℕ → ℕ → ℕ
start_of line from = from + prefix_len is_blank (drop from line)

not_front : (m : ℕ) (xs : List ℕ) → begins_with m xs ≡ false → is_mark_of m (front_of xs).kind ≡ false
unfolding front_of
not_front m [] h = refl
not_front m (b ∷ bs) h = other_front m b bs (grind (arith, nat_tests))

lone_front : (m : ℕ) (xs : List ℕ) → is_lone_mark m ≡ true → begins_with m xs ≡ true → front_of xs ≡ record { kind = Mark m; len = 1 }
lone_front m [] h e = grind arith
lone_front m (b ∷ bs) h e =
    let is : b ≡ m = grind (arith, nat_tests) in
    rw is (mark_front m bs h)

pub no_mark : (m : ℕ) (line : List ℕ) (from blanks : ℕ) → blanks ≡ prefix_len is_blank (drop from line) → false ≡ begins_with m (drop (from + blanks) line) → None ≡ mark_after m line from
unfolding token_at
no_mark m line from blanks e h =
    let f = front_of (drop (start_of line from) line) in
    let kind = placed_kind from (start_of line from) f.len f.kind in
    let no = not_front m (drop (start_of line from) line) (sym (h ∙ ap (λ n. begins_with m (drop (from + n) line)) e)) in
    sym (cond-false (is_mark_of m (token_at line from).kind) _ _ (ap (is_mark_of m) kind ∙ no))

pub lone_mark : (m : ℕ) (line : List ℕ) (from blanks : ℕ) → blanks ≡ prefix_len is_blank (drop from line) → true ≡ is_lone_mark m → true ≡ begins_with m (drop (from + blanks) line) → Some (from + blanks + 1) ≡ mark_after m line from
unfolding token_at
lone_mark m line from blanks e h b =
    let start = start_of line from in
    let front = lone_front m (drop start line) (sym h) (sym (b ∙ ap (λ n. begins_with m (drop (from + n) line)) e)) in
    ap (λ n. Some (from + n + 1)) e
    ∙ sym (ap (λ (f : Front). let t = place_token from start f.len f.kind in if is_mark_of m t.kind then Some t.end else None) front
    ∙ cond-true (m == m) _ _ (grind (arith, nat_tests)))

-- at the line's last place stands its end
pub end_token : (line : List ℕ) (from : ℕ) → from ≡ length line → (token_at line from).kind ≡ End
unfolding token_at front_of
end_token line from h =
    let start = start_of line from in
    let f = front_of (drop start line) in
    placed_kind from start f.len f.kind ∙ ap (λ xs. (front_of xs).kind) (drop_all start line (omega (arith, h)))
