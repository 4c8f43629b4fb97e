-- The text of a register list: its registers are those that the list has.
use Rattle.std.proofs.Common.{◌≡◌, ℕ, zero, suc, ◌+◌, ◌-◌, ◌*◌, ◌/◌, ◌%◌, ◌^◌, ◌<◌, ◌≤◌, ◌==◌, Bool, true, false, if◌then◌else◌, List, [], ◌∷◌, ◌++◌, length, bit_or, refl, ap, ◌∙◌, arith}
use Rattle.std.proofs.lemmas.Nat.{or_comm, or_shifted}
use Rattle.std.proofs.lemmas.Bool.Decides.{nat_tests}
use Rattle.asm_read.specs.Tokens.{front_of}
use Rattle.asm_read.specs.Operands.{has_register, register_mask}
use Rattle.asm_line_laws.specs.Written.{register, registers_from, list_rest_text, list_in_braces}
use Rattle.asm_line_laws.proofs.Toks.{sign, spelled, Ends, AllEnd}
use Rattle.asm_line_laws.proofs.Lists.{list_toks, masked}
use Rattle.asm_line_laws.proofs.Standing.{cost, costs}

-- registers, each of 16
abbrev pub AreRegisters : List ℕ → Type 0
AreRegisters [] = Unit {0}
AreRegisters (r ∷ rs) = (r < 16) × AreRegisters rs

if_registers : (b : Bool) (r : ℕ) (rs : List ℕ) → r < 16 → AreRegisters rs → AreRegisters (if b then r ∷ rs else rs)
if_registers true r rs h k = (h, k)
if_registers false r rs h k = k

pub are_registers : (list n : ℕ) → AreRegisters (registers_from list n)
unfolding registers_from
are_registers list zero = tt
are_registers list (suc n) = if_registers (has_register list (15 - n)) (15 - n) (registers_from list n) (omega arith) (are_registers list n)

if_few : (b : Bool) (r n : ℕ) (rs : List ℕ) → length rs ≤ n → length (if b then r ∷ rs else rs) ≤ suc n
if_few true r n rs h = omega arith
if_few false r n rs h = omega arith

pub few_registers : (list n : ℕ) → length (registers_from list n) ≤ n
unfolding registers_from
few_registers list zero = omega arith
few_registers list (suc n) = if_few (has_register list (15 - n)) (15 - n) n (registers_from list n) (few_registers list n)

step_of : (list n : ℕ) → registers_from list (suc n) ≡ (if has_register list (15 - n) then (15 - n) ∷ registers_from list n else registers_from list n)
unfolding registers_from
step_of list n = refl

bit_by : (list low next r : ℕ) (rs : List ℕ) (b : Bool) → (b ≡ true → bit_or low (register_mask r r) ≡ next) → (b ≡ false → low ≡ next) → masked low (if b then r ∷ rs else rs) ≡ masked next rs
bit_by list low next r rs true h k = ap (λ x. masked x rs) (h refl)
bit_by list low next r rs false h k = ap (λ x. masked x rs) (k refl)

bit_step : (list q next n r : ℕ) → 15 - n ≡ r → (has_register list r ≡ true → bit_or (list % q) (register_mask r r) ≡ list % next) → (has_register list r ≡ false → list % q ≡ list % next) → masked (list % q) (registers_from list (suc n)) ≡ masked (list % next) (registers_from list n)
bit_step list q next n r e h k =
    ap (masked (list % q)) (step_of list n ∙ ap (λ x. if has_register list x then x ∷ registers_from list n else registers_from list n) e)
    ∙ bit_by list (list % q) (list % next) r (registers_from list n) (has_register list r) h k

odd_is : (m : ℕ) → (m % 2 == 1) ≡ true → m % 2 ≡ 1
odd_is m h = grind (arith, nat_tests)

even_is : (m : ℕ) → (m % 2 == 1) ≡ false → m % 2 ≡ 0
even_is m h = grind (arith, nat_tests)

bit_0 : (list : ℕ) → masked (list % 1) (registers_from list 16) ≡ masked (list % 2) (registers_from list 15)
bit_0 list = bit_step list 1 2 15 0 refl (λ e. or_comm (list % 1) 1 ∙ or_shifted 1 0 (list % 1) (omega arith) ∙ (let odd : list / 1 % 2 ≡ 1 = odd_is (list / 1) e in omega arith)) (λ e. let even : list / 1 % 2 ≡ 0 = even_is (list / 1) e in omega arith)

bit_1 : (list : ℕ) → masked (list % 2) (registers_from list 15) ≡ masked (list % 4) (registers_from list 14)
bit_1 list = bit_step list 2 4 14 1 refl (λ e. or_comm (list % 2) 2 ∙ or_shifted 1 1 (list % 2) (omega arith) ∙ (let odd : list / 2 % 2 ≡ 1 = odd_is (list / 2) e in omega arith)) (λ e. let even : list / 2 % 2 ≡ 0 = even_is (list / 2) e in omega arith)

bit_2 : (list : ℕ) → masked (list % 4) (registers_from list 14) ≡ masked (list % 8) (registers_from list 13)
bit_2 list = bit_step list 4 8 13 2 refl (λ e. or_comm (list % 4) 4 ∙ or_shifted 1 2 (list % 4) (omega arith) ∙ (let odd : list / 4 % 2 ≡ 1 = odd_is (list / 4) e in omega arith)) (λ e. let even : list / 4 % 2 ≡ 0 = even_is (list / 4) e in omega arith)

bit_3 : (list : ℕ) → masked (list % 8) (registers_from list 13) ≡ masked (list % 16) (registers_from list 12)
bit_3 list = bit_step list 8 16 12 3 refl (λ e. or_comm (list % 8) 8 ∙ or_shifted 1 3 (list % 8) (omega arith) ∙ (let odd : list / 8 % 2 ≡ 1 = odd_is (list / 8) e in omega arith)) (λ e. let even : list / 8 % 2 ≡ 0 = even_is (list / 8) e in omega arith)

bit_4 : (list : ℕ) → masked (list % 16) (registers_from list 12) ≡ masked (list % 32) (registers_from list 11)
bit_4 list = bit_step list 16 32 11 4 refl (λ e. or_comm (list % 16) 16 ∙ or_shifted 1 4 (list % 16) (omega arith) ∙ (let odd : list / 16 % 2 ≡ 1 = odd_is (list / 16) e in omega arith)) (λ e. let even : list / 16 % 2 ≡ 0 = even_is (list / 16) e in omega arith)

bit_5 : (list : ℕ) → masked (list % 32) (registers_from list 11) ≡ masked (list % 64) (registers_from list 10)
bit_5 list = bit_step list 32 64 10 5 refl (λ e. or_comm (list % 32) 32 ∙ or_shifted 1 5 (list % 32) (omega arith) ∙ (let odd : list / 32 % 2 ≡ 1 = odd_is (list / 32) e in omega arith)) (λ e. let even : list / 32 % 2 ≡ 0 = even_is (list / 32) e in omega arith)

bit_6 : (list : ℕ) → masked (list % 64) (registers_from list 10) ≡ masked (list % 128) (registers_from list 9)
bit_6 list = bit_step list 64 128 9 6 refl (λ e. or_comm (list % 64) 64 ∙ or_shifted 1 6 (list % 64) (omega arith) ∙ (let odd : list / 64 % 2 ≡ 1 = odd_is (list / 64) e in omega arith)) (λ e. let even : list / 64 % 2 ≡ 0 = even_is (list / 64) e in omega arith)

bit_7 : (list : ℕ) → masked (list % 128) (registers_from list 9) ≡ masked (list % 256) (registers_from list 8)
bit_7 list = bit_step list 128 256 8 7 refl (λ e. or_comm (list % 128) 128 ∙ or_shifted 1 7 (list % 128) (omega arith) ∙ (let odd : list / 128 % 2 ≡ 1 = odd_is (list / 128) e in omega arith)) (λ e. let even : list / 128 % 2 ≡ 0 = even_is (list / 128) e in omega arith)

bit_8 : (list : ℕ) → masked (list % 256) (registers_from list 8) ≡ masked (list % 512) (registers_from list 7)
bit_8 list = bit_step list 256 512 7 8 refl (λ e. or_comm (list % 256) 256 ∙ or_shifted 1 8 (list % 256) (omega arith) ∙ (let odd : list / 256 % 2 ≡ 1 = odd_is (list / 256) e in omega arith)) (λ e. let even : list / 256 % 2 ≡ 0 = even_is (list / 256) e in omega arith)

bit_9 : (list : ℕ) → masked (list % 512) (registers_from list 7) ≡ masked (list % 1024) (registers_from list 6)
bit_9 list = bit_step list 512 1024 6 9 refl (λ e. or_comm (list % 512) 512 ∙ or_shifted 1 9 (list % 512) (omega arith) ∙ (let odd : list / 512 % 2 ≡ 1 = odd_is (list / 512) e in omega arith)) (λ e. let even : list / 512 % 2 ≡ 0 = even_is (list / 512) e in omega arith)

bit_10 : (list : ℕ) → masked (list % 1024) (registers_from list 6) ≡ masked (list % 2048) (registers_from list 5)
bit_10 list = bit_step list 1024 2048 5 10 refl (λ e. or_comm (list % 1024) 1024 ∙ or_shifted 1 10 (list % 1024) (omega arith) ∙ (let odd : list / 1024 % 2 ≡ 1 = odd_is (list / 1024) e in omega arith)) (λ e. let even : list / 1024 % 2 ≡ 0 = even_is (list / 1024) e in omega arith)

bit_11 : (list : ℕ) → masked (list % 2048) (registers_from list 5) ≡ masked (list % 4096) (registers_from list 4)
bit_11 list = bit_step list 2048 4096 4 11 refl (λ e. or_comm (list % 2048) 2048 ∙ or_shifted 1 11 (list % 2048) (omega arith) ∙ (let odd : list / 2048 % 2 ≡ 1 = odd_is (list / 2048) e in omega arith)) (λ e. let even : list / 2048 % 2 ≡ 0 = even_is (list / 2048) e in omega arith)

bit_12 : (list : ℕ) → masked (list % 4096) (registers_from list 4) ≡ masked (list % 8192) (registers_from list 3)
bit_12 list = bit_step list 4096 8192 3 12 refl (λ e. or_comm (list % 4096) 4096 ∙ or_shifted 1 12 (list % 4096) (omega arith) ∙ (let odd : list / 4096 % 2 ≡ 1 = odd_is (list / 4096) e in omega arith)) (λ e. let even : list / 4096 % 2 ≡ 0 = even_is (list / 4096) e in omega arith)

bit_13 : (list : ℕ) → masked (list % 8192) (registers_from list 3) ≡ masked (list % 16384) (registers_from list 2)
bit_13 list = bit_step list 8192 16384 2 13 refl (λ e. or_comm (list % 8192) 8192 ∙ or_shifted 1 13 (list % 8192) (omega arith) ∙ (let odd : list / 8192 % 2 ≡ 1 = odd_is (list / 8192) e in omega arith)) (λ e. let even : list / 8192 % 2 ≡ 0 = even_is (list / 8192) e in omega arith)

bit_14 : (list : ℕ) → masked (list % 16384) (registers_from list 2) ≡ masked (list % 32768) (registers_from list 1)
bit_14 list = bit_step list 16384 32768 1 14 refl (λ e. or_comm (list % 16384) 16384 ∙ or_shifted 1 14 (list % 16384) (omega arith) ∙ (let odd : list / 16384 % 2 ≡ 1 = odd_is (list / 16384) e in omega arith)) (λ e. let even : list / 16384 % 2 ≡ 0 = even_is (list / 16384) e in omega arith)

bit_15 : (list : ℕ) → masked (list % 32768) (registers_from list 1) ≡ masked (list % 2 ^ 16) (registers_from list 0)
bit_15 list = bit_step list 32768 (2 ^ 16) 0 15 refl (λ e. or_comm (list % 32768) 32768 ∙ or_shifted 1 15 (list % 32768) (omega arith) ∙ (let odd : list / 32768 % 2 ≡ 1 = odd_is (list / 32768) e in omega arith)) (λ e. let even : list / 32768 % 2 ≡ 0 = even_is (list / 32768) e in omega arith)

none_left : (list all : ℕ) → masked all (registers_from list 0) ≡ all
unfolding registers_from
none_left list all = refl

-- the registers of a list are that list
pub registers_are : (list : ℕ) → list < 2 ^ 16 → masked 0 (registers_from list 16) ≡ list
registers_are list h =
    ap (λ x. masked x (registers_from list 16)) (let e : 0 ≡ list % 1 = omega arith in e)
    ∙ bit_0 list ∙ bit_1 list ∙ bit_2 list ∙ bit_3 list ∙ bit_4 list ∙ bit_5 list ∙ bit_6 list ∙ bit_7 list ∙ bit_8 list ∙ bit_9 list ∙ bit_10 list ∙ bit_11 list ∙ bit_12 list ∙ bit_13 list ∙ bit_14 list ∙ bit_15 list
    ∙ none_left list (list % 2 ^ 16)
    ∙ (let e : list % 2 ^ 16 ≡ list = omega arith in e)

-- ---- as tokens

pub closed_is : (rs : List ℕ) → spelled (list_toks rs []) ≡ list_rest_text rs
closed_is [] = refl
closed_is (r ∷ []) = refl
closed_is (r ∷ s ∷ []) = refl
closed_is (r ∷ s ∷ q ∷ rs) = ap (λ x. register r ++ (44 ∷ 32 ∷ x)) (closed_is (s ∷ q ∷ rs))

pub close_all_ends : (rs : List ℕ) → AreRegisters rs → AllEnd (list_toks rs [])
unfolding front_of
close_all_ends [] h = ((refl, refl, refl), tt)
close_all_ends (r ∷ []) h = ((h.0, refl), ((refl, refl, refl), tt))
close_all_ends (r ∷ s ∷ []) h = ((h.0, refl), ((refl, refl, refl), close_all_ends (s ∷ []) h.1))
close_all_ends (r ∷ s ∷ q ∷ rs) h = ((h.0, refl), ((refl, refl, refl), close_all_ends (s ∷ q ∷ rs) h.1))

pub list_costs : (rs : List ℕ) → costs (list_toks rs []) ≤ 5 * length rs + 2
unfolding cost costs
list_costs [] = omega arith
list_costs (r ∷ []) = omega arith
list_costs (r ∷ s ∷ rs) = omega (arith, list_costs (s ∷ rs))

pub brace_ends : (rest : List ℕ) → Ends (sign 123) rest
unfolding front_of
brace_ends rest = (refl, refl, refl)

pub exclamation_ends : (rest : List ℕ) → Ends (sign 33) rest
unfolding front_of
exclamation_ends rest = (refl, refl, refl)

pub braced_is : (list : ℕ) → spelled (sign 123 ∷ list_toks (registers_from list 16) []) ≡ list_in_braces list
unfolding list_in_braces
braced_is list = opened_is (registers_from list 16)
  where
    opened_is : (rs : List ℕ) → spelled (sign 123 ∷ list_toks rs []) ≡ 123 ∷ list_rest_text rs
    opened_is [] = refl
    opened_is (r ∷ []) = refl
    opened_is (r ∷ s ∷ rs) = ap (λ x. 123 ∷ x) (closed_is (r ∷ s ∷ rs))
