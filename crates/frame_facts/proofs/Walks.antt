-- Loops over registers and saves, one step more.
use Rattle.std.proofs.Common.{ℕ, ◌≡◌, ◌≢◌, ◌<◌, ◌≤◌, ◌+◌, ◌-◌, ◌/◌, ◌^◌, ◌==◌, ◌&&◌, zero, suc, Bool, true, false, cond, List, [], ◌∷◌, length, Some, None, sym, ◌∙◌, ap, refl, arith, get_or, drop, drop-cons, add-one, pos}
use Rattle.std.specs.Int.{bit_at}
use Rattle.std.specs.Int.Bits.{bit_and}
use Rattle.std.specs.List.{find, list_all}
use Rattle.std.proofs.lemmas.Nat.Bits.{shr_and_one, bit_at-lt}
use Rattle.thumb_core.specs.Words.{registers_of_list, numbers}
use Rattle.thumb_core.proofs.Listed.{numbers_from, listed_from, listed_all, listed_none, listed_more}
use Rattle.frame_facts.specs.declared.facts.Source.{Source}
use Rattle.frame_facts.specs.declared.facts.Source.TheVariants.{Other}
use Rattle.frame_facts.specs.declared.facts.Fact.{Fact}
use Rattle.frame_facts.specs.declared.saves.Prologue.{Prologue}
use Rattle.frame_facts.specs.Facts.{with_source, forget_registers}
use Rattle.frame_facts.specs.Saves.{stack_word}
use Rattle.frame_facts.specs.Lists.{load_registers}
use Rattle.frame_facts.specs.Branches.{holds_own}

-- ---- the registers of a mask

pub one_more : (k list : ℕ) → k < 16 → bit_and (list / 2 ^ k) 1 ≡ 1 → listed_from k list ≡ k ∷ listed_from (k + 1) list
one_more k list low is =
    let one : bit_at list k ≡ 1 = sym (shr_and_one list k) ∙ is in
    listed_more k list low ∙ ap (λ b. cond b (k ∷ listed_from (k + 1) list) (listed_from (k + 1) list)) (ap (λ (n : ℕ). n == 1) one)

pub one_less : (k list : ℕ) → k < 16 → bit_and (list / 2 ^ k) 1 ≢ 1 → listed_from k list ≡ listed_from (k + 1) list
one_less k list low clear =
    let two : bit_at list k < 2 = bit_at-lt list k in
    let one : bit_at list k ≢ 1 = λ e. clear (shr_and_one list k ∙ e) in
    let none : bit_at list k ≡ 0 = omega arith in
    listed_more k list low ∙ ap (λ b. cond b (k ∷ listed_from (k + 1) list) (listed_from (k + 1) list)) (ap (λ (n : ℕ). n == 1) none)

pub clobber_start : (list : ℕ) (f left : Fact) → left ≡ f → forget_registers (listed_from 0 list) left ≡ forget_registers (registers_of_list list) f
clobber_start list f left e = ap (λ l. forget_registers l left) (sym (listed_all list)) ∙ ap (forget_registers (registers_of_list list)) e

pub clobber_next : (k list : ℕ) (left new : Fact) → k < 16 → bit_and (list / 2 ^ k) 1 ≡ 1 → new ≡ with_source left k Other → forget_registers (listed_from (k + 1) list) new ≡ forget_registers (listed_from k list) left
clobber_next k list left new low is e = ap (forget_registers (listed_from (k + 1) list)) e ∙ sym (ap (λ l. forget_registers l left) (one_more k list low is))

pub clobber_past : (k list : ℕ) (left new : Fact) → k < 16 → bit_and (list / 2 ^ k) 1 ≢ 1 → new ≡ left → forget_registers (listed_from (k + 1) list) new ≡ forget_registers (listed_from k list) left
clobber_past k list left new low is e = ap (forget_registers (listed_from (k + 1) list)) e ∙ sym (ap (λ l. forget_registers l left) (one_less k list low is))

pub clobber_end : (k list : ℕ) (left all : Fact) → k ≡ 16 → forget_registers (listed_from k list) left ≡ all → left ≡ all
clobber_end k list left all last e = sym (ap (λ n. forget_registers (listed_from n list) left) last ∙ ap (λ l. forget_registers l left) (listed_none list)) ∙ e

pub load_start : (p : Prologue) (f : Fact) (list : ℕ) → load_registers p f 0 (listed_from 0 list) f ≡ load_registers p f 0 (registers_of_list list) f
load_start p f list = ap (λ l. load_registers p f 0 l f) (sym (listed_all list))

pub load_next : (p : Prologue) (f : Fact) (at next k list : ℕ) (left new : Fact) (s : Source) → k < 16 → bit_and (list / 2 ^ k) 1 ≡ 1 → s ≡ stack_word p f (pos at) → new ≡ with_source left k s → next ≡ at + 4
    → load_registers p f next (listed_from (k + 1) list) new ≡ load_registers p f at (listed_from k list) left
load_next p f at next k list left new s low is w e n =
    ap (λ m. load_registers p f m (listed_from (k + 1) list) new) n ∙ ap (load_registers p f (at + 4) (listed_from (k + 1) list)) (e ∙ ap (with_source left k) w) ∙ sym (ap (λ l. load_registers p f at l left) (one_more k list low is))

pub load_past : (p : Prologue) (f : Fact) (at next k list : ℕ) (left new : Fact) → k < 16 → bit_and (list / 2 ^ k) 1 ≢ 1 → new ≡ left → next ≡ at
    → load_registers p f next (listed_from (k + 1) list) new ≡ load_registers p f at (listed_from k list) left
load_past p f at next k list left new low is e n =
    ap (λ m. load_registers p f m (listed_from (k + 1) list) new) n ∙ ap (load_registers p f at (listed_from (k + 1) list)) e ∙ sym (ap (λ l. load_registers p f at l left) (one_less k list low is))

pub load_end : (p : Prologue) (f : Fact) (at k list : ℕ) (left all : Fact) → k ≡ 16 → load_registers p f at (listed_from k list) left ≡ all → left ≡ all
load_end p f at k list left all last e = sym (ap (λ n. load_registers p f at (listed_from n list) left) last ∙ ap (λ l. load_registers p f at l left) (listed_none list)) ∙ e

pub length_more : (k list : ℕ) → k < 16 → bit_and (list / 2 ^ k) 1 ≡ 1 → length (listed_from k list) ≡ length (listed_from (k + 1) list) + 1
length_more k list low is = ap length (one_more k list low is) ∙ sym (add-one (length (listed_from (k + 1) list)))

pub length_less : (k list : ℕ) → k < 16 → bit_and (list / 2 ^ k) 1 ≢ 1 → length (listed_from k list) ≡ length (listed_from (k + 1) list)
length_less k list low is = ap length (one_less k list low is)

pub length_start : (list : ℕ) → length (listed_from 0 list) ≡ length (registers_of_list list)
length_start list = ap length (sym (listed_all list))

pub length_end : (k list : ℕ) → k ≡ 16 → length (listed_from k list) ≡ 0
length_end k list last = ap (λ n. length (listed_from n list)) last ∙ ap length (listed_none list)

-- ---- a search

pub find_next : {X : Type 0} (q : X → Bool) (xs : List X) (i : ℕ) (d : X) → i < length xs → q (get_or xs i d) ≡ false → find q (drop (i + 1) xs) ≡ find q (drop i xs)
find_next q xs i d l e = rw add-one (sym (ap (find q) (drop-cons xs i d l) ∙ ap (λ b. cond b (Some (get_or xs i d)) (find q (drop (suc i) xs))) e))

pub find_stop : {X : Type 0} (q : X → Bool) (xs : List X) (i : ℕ) (d : X) → i < length xs → q (get_or xs i d) ≡ true → find q (drop i xs) ≡ Some (get_or xs i d)
find_stop q xs i d l e = ap (find q) (drop-cons xs i d l) ∙ ap (λ b. cond b (Some (get_or xs i d)) (find q (drop (suc i) xs))) e

pub find_over : {X : Type 0} (q : X → Bool) (xs : List X) (i : ℕ) → length xs ≤ i → find q (drop i xs) ≡ None
find_over q [] zero l = refl
find_over q [] (suc i) l = refl
find_over q (x ∷ xs) zero l = absurd (omega (arith, l))
find_over q (x ∷ xs) (suc i) l = find_over q xs i (omega (arith, l))

-- ---- registers one by one

numbers_next : (n k : ℕ) → k < n → numbers_from (n - k) k ≡ k ∷ numbers_from (n - (k + 1)) (k + 1)
numbers_next n k l = let e : n - k ≡ suc (n - (k + 1)) = omega arith in ap (λ m. numbers_from m k) e

pub reg_start : (q : ℕ → Bool) → find q (numbers_from (16 - 0) 0) ≡ find q numbers
reg_start q = refl

pub reg_next : (q : ℕ → Bool) (k : ℕ) → k < 16 → q k ≡ false → find q (numbers_from (16 - (k + 1)) (k + 1)) ≡ find q (numbers_from (16 - k) k)
reg_next q k l e = sym (ap (find q) (numbers_next 16 k l) ∙ ap (λ b. cond b (Some k) (find q (numbers_from (16 - (k + 1)) (k + 1)))) e)

pub reg_stop : (q : ℕ → Bool) (k : ℕ) → k < 16 → q k ≡ true → find q (numbers_from (16 - k) k) ≡ Some k
reg_stop q k l e = ap (find q) (numbers_next 16 k l) ∙ ap (λ b. cond b (Some k) (find q (numbers_from (16 - (k + 1)) (k + 1)))) e

pub reg_end : (q : ℕ → Bool) (k : ℕ) → k ≡ 16 → find q (numbers_from (16 - k) k) ≡ None
reg_end q k last = ap (λ n. find q (numbers_from (16 - n) n)) last

pub own_next : (f : Fact) (k : ℕ) → k < 12 → holds_own f k ≡ true → list_all (holds_own f) (numbers_from (12 - (k + 1)) (k + 1)) ≡ list_all (holds_own f) (numbers_from (12 - k) k)
own_next f k l e = sym (ap (list_all (holds_own f)) (numbers_next 12 k l) ∙ ap (λ b. b && list_all (holds_own f) (numbers_from (12 - (k + 1)) (k + 1))) e)

pub own_stop : (f : Fact) (k : ℕ) → k < 12 → holds_own f k ≡ false → list_all (holds_own f) (numbers_from (12 - k) k) ≡ false
own_stop f k l e = ap (list_all (holds_own f)) (numbers_next 12 k l) ∙ ap (λ b. b && list_all (holds_own f) (numbers_from (12 - (k + 1)) (k + 1))) e

pub own_end : (f : Fact) (k : ℕ) → k ≡ 12 → list_all (holds_own f) (numbers_from (12 - k) k) ≡ true
own_end f k last = ap (λ n. list_all (holds_own f) (numbers_from (12 - n) n)) last
