-- The registers that codes pop, as lists of a mask.
use Rattle.std.proofs.Common.{◌≡◌, ℕ, zero, suc, ◌+◌, ◌-◌, ◌*◌, ◌/◌, ◌%◌, ◌^◌, ◌<◌, ◌==◌, ◌&&◌, ◌||◌, Bool, true, false, cond, List, [], ◌∷◌, ◌++◌, refl, arith, ◌∙◌, ap, sym, append-nil}
use Rattle.std.specs.Prelude.{filter}
use Rattle.std.specs.Int.{bit_at}
use Rattle.std.specs.List.{range_with_len, list_any, AllByRecursion}
use Rattle.std.proofs.lemmas.Bool.{eqb-true}
use Rattle.std.proofs.lemmas.List.Elements.{filter-append}
use Rattle.thumb_core.specs.Words.{registers_of_list, numbers}
use Rattle.thumb_core.specs.Registers.{word_in}
use Rattle.eh_codes.specs.Meaning.{registers_of_mask}

-- a register that isn't the stack pointer takes the whole word
pub plain_word : (list k x : ℕ) → bit_at list 13 ≡ 0 → bit_at list k ≡ 1 → x < 2 ^ 32 → word_in k x ≡ x
plain_word list k x none some small = word_cases (k == 13) refl
  where
    word_cases : (sp : Bool) → (k == 13) ≡ sp → cond sp (x % 2 ^ 32 - x % 2 ^ 32 % 4) (x % 2 ^ 32) ≡ x
    word_cases true e =
        let zeros : bit_at list k ≡ 0 = ap (bit_at list) (eqb-true k 13 e) ∙ none in
        absurd (omega (arith, zeros, some))
    word_cases false e = omega arith

-- ---- masks

same_tests : (p q : ℕ → Bool) (xs : List ℕ) → AllByRecursion (λ x. p x ≡ q x) xs → filter p xs ≡ filter q xs
same_tests p q [] h = refl
same_tests p q (x ∷ xs) h = rw (h.0, same_tests p q xs h.1) refl

none_pass : (p : ℕ → Bool) (xs : List ℕ) → AllByRecursion (λ x. p x ≡ false) xs → filter p xs ≡ []
none_pass p [] h = refl
none_pass p (x ∷ xs) h = rw (h.0, none_pass p xs h.1) refl

bit_same : (a b : ℕ) → a ≡ b → (a == 1) ≡ (b == 1)
bit_same a b e = ap (λ (n : ℕ). n == 1) e

bit_none : (a : ℕ) → a ≡ 0 → (a == 1) ≡ false
bit_none a e = ap (λ (n : ℕ). n == 1) e

low_four : List ℕ
low_four = 0 ∷ 1 ∷ 2 ∷ 3 ∷ []

high_twelve : List ℕ
high_twelve = 4 ∷ 5 ∷ 6 ∷ 7 ∷ 8 ∷ 9 ∷ 10 ∷ 11 ∷ 12 ∷ 13 ∷ 14 ∷ 15 ∷ []

pub mask_listed : (mask : ℕ) → registers_of_mask 4 12 mask ≡ registers_of_list (16 * mask)
unfolding registers_of_list low_four high_twelve
mask_listed mask =
    let q : ℕ → Bool = λ k. bit_at (16 * mask) k == 1 in
    let p : ℕ → Bool = λ register. bit_at mask (register - 4) == 1 in
    sym (filter-append q low_four high_twelve
    ∙ ap (λ l. l ++ filter q high_twelve) (none_pass q low_four
    (bit_none (bit_at (16 * mask) 0) (omega arith), (bit_none (bit_at (16 * mask) 1) (omega arith), (bit_none (bit_at (16 * mask) 2) (omega arith), (bit_none (bit_at (16 * mask) 3) (omega arith), tt)))))
    ∙ same_tests q p high_twelve (
      bit_same (bit_at (16 * mask) 4) (bit_at mask 0) (omega arith),
      (
        bit_same (bit_at (16 * mask) 5) (bit_at mask 1) (omega arith),
        (
          bit_same (bit_at (16 * mask) 6) (bit_at mask 2) (omega arith),
          (
            bit_same (bit_at (16 * mask) 7) (bit_at mask 3) (omega arith),
            (
              bit_same (bit_at (16 * mask) 8) (bit_at mask 4) (omega arith),
              (
                bit_same (bit_at (16 * mask) 9) (bit_at mask 5) (omega arith),
                (
                  bit_same (bit_at (16 * mask) 10) (bit_at mask 6) (omega arith),
                  (
                    bit_same (bit_at (16 * mask) 11) (bit_at mask 7) (omega arith),
                    (
                      bit_same (bit_at (16 * mask) 12) (bit_at mask 8) (omega arith),
                      (bit_same (bit_at (16 * mask) 13) (bit_at mask 9) (omega arith), (bit_same (bit_at (16 * mask) 14) (bit_at mask 10) (omega arith), (bit_same (bit_at (16 * mask) 15) (bit_at mask 11) (omega arith), tt))),
                    ),
                  ),
                ),
              ),
            ),
          ),
        ),
      ),
    ))

pub low_listed : (mask : ℕ) → mask < 16 → registers_of_mask 0 4 mask ≡ registers_of_list mask
unfolding registers_of_list low_four high_twelve
low_listed mask small =
    let q : ℕ → Bool = λ k. bit_at mask k == 1 in
    let p : ℕ → Bool = λ register. bit_at mask (register - 0) == 1 in
    sym (filter-append q low_four high_twelve
    ∙ ap (λ l. filter q low_four ++ l) (none_pass q high_twelve (
      bit_none (bit_at mask 4) (omega arith),
      (
        bit_none (bit_at mask 5) (omega arith),
        (
          bit_none (bit_at mask 6) (omega arith),
          (
            bit_none (bit_at mask 7) (omega arith),
            (
              bit_none (bit_at mask 8) (omega arith),
              (
                bit_none (bit_at mask 9) (omega arith),
                (
                  bit_none (bit_at mask 10) (omega arith),
                  (
                    bit_none (bit_at mask 11) (omega arith),
                    (bit_none (bit_at mask 12) (omega arith), (bit_none (bit_at mask 13) (omega arith), (bit_none (bit_at mask 14) (omega arith), (bit_none (bit_at mask 15) (omega arith), tt)))),
                  ),
                ),
              ),
            ),
          ),
        ),
      ),
    ))
    ∙ append-nil (filter q low_four) ∙ refl)

-- ---- ranges

abbrev pub range_mask : ℕ → ℕ
range_mask last = 16 * (2 ^ (last + 1) - 1)

-- a fact of each number below 8
eight : (P : ℕ → Type 0) → P 0 → P 1 → P 2 → P 3 → P 4 → P 5 → P 6 → P 7 → (n : ℕ) → n < 8 → P n
eight P a b c d e f g h zero l = a
eight P a b c d e f g h (suc zero) l = b
eight P a b c d e f g h (suc (suc zero)) l = c
eight P a b c d e f g h (suc (suc (suc zero))) l = d
eight P a b c d e f g h (suc (suc (suc (suc zero)))) l = e
eight P a b c d e f g h (suc (suc (suc (suc (suc zero))))) l = f
eight P a b c d e f g h (suc (suc (suc (suc (suc (suc zero)))))) l = g
eight P a b c d e f g h (suc (suc (suc (suc (suc (suc (suc zero))))))) l = h
eight P a b c d e f g h (suc (suc (suc (suc (suc (suc (suc (suc n)))))))) l = absurd (omega arith)

pub range_listed : (last : ℕ) → last < 8 → range_with_len 4 (last + 1) ≡ registers_of_list (range_mask last)
unfolding registers_of_list
range_listed = eight (λ n. range_with_len 4 (n + 1) ≡ registers_of_list (range_mask n)) refl refl refl refl refl refl refl refl

pub range_and_lr_listed : (last : ℕ) → last < 8 → range_with_len 4 (last + 1) ++ 14 ∷ [] ≡ registers_of_list (range_mask last + 0x4000)
unfolding registers_of_list
range_and_lr_listed = eight (λ n. range_with_len 4 (n + 1) ++ 14 ∷ [] ≡ registers_of_list (range_mask n + 0x4000)) refl refl refl refl refl refl refl refl

pub range_shift : (last : ℕ) → last < 8 → (2 * 2 ^ last % 65536 - 1) * 16 ≡ range_mask last
range_shift = eight (λ n. (2 * 2 ^ n % 65536 - 1) * 16 ≡ range_mask n) refl refl refl refl refl refl refl refl

pub range_small : (last : ℕ) → last < 8 → range_mask last < 0x1000
range_small = eight (λ n. range_mask n < 0x1000) (omega arith) (omega arith) (omega arith) (omega arith) (omega arith) (omega arith) (omega arith) (omega arith)

pub range_no_sp : (last : ℕ) → last < 8 → bit_at (range_mask last) 13 ≡ 0
range_no_sp = eight (λ n. bit_at (range_mask n) 13 ≡ 0) refl refl refl refl refl refl refl refl

pub range_and_lr_no_sp : (last : ℕ) → last < 8 → bit_at (range_mask last + 0x4000) 13 ≡ 0
range_and_lr_no_sp = eight (λ n. bit_at (range_mask n + 0x4000) 13 ≡ 0) refl refl refl refl refl refl refl refl

-- ---- pc

and_false : (b : Bool) → (b && false) ≡ false
and_false true = refl
and_false false = refl

combine : (keep pc last rest any : Bool) → rest ≡ (any && last) → (pc ≡ true → keep ≡ last) → cond keep (pc || rest) rest ≡ ((pc || any) && last)
combine true true last rest any h f = f refl
combine false true last rest any h f = h ∙ ap (λ b. any && b) (sym (f refl)) ∙ and_false any ∙ f refl
combine true false last rest any h f = h
combine false false last rest any h f = h

any_of_cond : (p : ℕ → Bool) (b : Bool) (xs ys : List ℕ) → list_any p (cond b xs ys) ≡ cond b (list_any p xs) (list_any p ys)
any_of_cond p true xs ys = refl
any_of_cond p false xs ys = refl

any_filter : (q : ℕ → Bool) (xs : List ℕ) → list_any (λ k. k == 15) (filter q xs) ≡ (list_any (λ k. k == 15) xs && q 15)
any_filter q [] = refl
any_filter q (x ∷ xs) =
    any_of_cond (λ k. k == 15) (q x) (x ∷ filter q xs) (filter q xs)
    ∙ combine (q x) (x == 15) (q 15) (list_any (λ k. k == 15) (filter q xs)) (list_any (λ k. k == 15) xs) (any_filter q xs) (λ e. ap q (eqb-true x 15 e))

pub pc_popped : (list : ℕ) → list < 2 ^ 16 → list_any (λ k. k == 15) (registers_of_list list) ≡ (list / 2 ^ 15 == 1)
unfolding registers_of_list
pc_popped list small = any_filter (λ k. bit_at list k == 1) numbers ∙ ap (λ (n : ℕ). n == 1) (let e : bit_at list 15 ≡ list / 2 ^ 15 = omega arith in e)
