-- Registers that are marked one by one, and lists that have none twice.
use Rattle.std.proofs.Common.{◌≡◌, ℕ, zero, suc, replicate, ◌+◌, ◌-◌, ◌/◌, ◌^◌, ◌<◌, ◌≢◌, ◌≤◌, ◌↔◌, ◌==◌, ◌&&◌, ◌||◌, not, Bool, true, false, cond, List, [], ◌∷◌, ◌++◌, length, Option, Some, None, IsTrue, refl, arith, ◌∙◌, ap, sym, subst, ⊎_elim, ◌⊎◌, inl, inr, set, get_or, drop, length-drop}
use Rattle.std.specs.Int.{bit_at}
use Rattle.std.specs.Int.Bits.{bit_and}
use Rattle.std.specs.List.{IsDistinct, AllByRecursion}
use Rattle.std.proofs.lemmas.Bool.{cases_eq, eqb-true, eq-eqb, and_parts, true≢false, false≢true}
use Rattle.std.proofs.lemmas.List.{get_or-set_same, get_or-set_other}
use Rattle.std.proofs.lemmas.Nat.Bits.{bit_at-lt, shr_and_one}
use Rattle.thumb_core.specs.Words.{registers_of_list}
use Rattle.thumb_core.proofs.Listed.{listed_from, listed_all, listed_none, listed_more}
use Rattle.eh_codes.specs.declared.code.UnwindCode.{UnwindCode}
use Rattle.eh_codes.specs.declared.code.UnwindCode.TheVariants.{Raise, Lower, RaiseLong, Restore}
use Rattle.eh_codes.specs.Cut.{Item, split_codes, split_codes_from}
use Rattle.eh_codes.specs.Meaning.{effect, Pops}
use Rattle.eh_bytecode.specs.Codes.{first_code}
use Rattle.eh_bytecode.specs.Once.{popped_registers, with_popped_first, PopsOnce}
use Rattle.eh_bytecode.specs.Marks.{with_popped_list, with_popped, are_fresh, Marks, MarksRegisters}
use Rattle.eh_bytecode.proofs.Unwinds.{front_bounds, cut_code, cut_none, cut_empty}

-- ---- one list of registers

-- the registers before k are marked, those from k on are to be marked
abbrev pub Going : List Bool → List Bool → ℕ → ℕ → Type 0
Going old seen k list = (before : ℕ → Bool) (more : List ℕ) → Marks old before
    → (after : ℕ → Bool) × Marks seen after × (are_fresh before (registers_of_list list ++ more) ≡ are_fresh after (listed_from k list ++ more))

pub going_start : (seen : List Bool) (list : ℕ) → Going seen seen 0 list
going_start seen list before more m = (before, m, ap (λ l. are_fresh before (l ++ more)) (listed_all list))

one_more : (k list : ℕ) → k < 16 → bit_and (list / 2 ^ k) 1 ≡ 1 → listed_from k list ≡ k ∷ listed_from (k + 1) list
one_more k list low is =
    let one : bit_at list k ≡ 1 = sym (shr_and_one list k) ∙ is in
    listed_more k list low ∙ ap (λ b. cond b (k ∷ listed_from (k + 1) list) (listed_from (k + 1) list)) (ap (λ (n : ℕ). n == 1) one)

pub going_past : (old seen new : List Bool) (k list : ℕ) → k < 16 → bit_and (list / 2 ^ k) 1 ≢ 1 → new ≡ seen → Going old seen k list → Going old new (k + 1) list
going_past old seen new k list low clear is go before more m =
    let w = go before more m in
    let two : bit_at list k < 2 = bit_at-lt list k in
    let one : bit_at list k ≢ 1 = λ e. clear (shr_and_one list k ∙ e) in
    let none : bit_at list k ≡ 0 = omega arith in
    let less : listed_from k list ≡ listed_from (k + 1) list = listed_more k list low ∙ ap (λ b. cond b (k ∷ listed_from (k + 1) list) (listed_from (k + 1) list)) (ap (λ (n : ℕ). n == 1) none) in
    (w.0, subst (λ s. Marks s w.0) (sym is) w.1, w.2 ∙ ap (λ l. are_fresh w.0 (l ++ more)) less)

marks_more : (seen : List Bool) (before : ℕ → Bool) (k : ℕ) → k < length seen → Marks seen before → Marks (set seen k true) (with_popped before k)
marks_more seen before k l m j low = ⊎_elim
    (λ (same : j ≡ k). ap (λ b. before j || b) (eq-eqb k j (sym same)) ∙ or_true (before j) ∙ sym (ap (λ i. get_or (set seen k true) i false) same ∙ get_or-set_same seen k true false l))
    (λ (other : j ≡ k → ⊥). ap (λ b. before j || b) (differs k j (λ e. other (sym e))) ∙ or_false (before j) ∙ m j low ∙ sym (get_or-set_other seen k j true false other))
    (cases_eq j k)
  where
    or_true : (b : Bool) → (b || true) ≡ true
    or_true true = refl
    or_true false = refl

    or_false : (b : Bool) → (b || false) ≡ b
    or_false true = refl
    or_false false = refl

    differs : (a b : ℕ) → (a ≡ b → ⊥) → (a == b) ≡ false
    differs a b n = elim (a == b) as (λ t. (a == b) ≡ t → (a == b) ≡ false) [ true ↦ (λ e. absurd (n (eqb-true a b e))) | false ↦ (λ e. e) ] refl

pub going_mark : (old seen new : List Bool) (k list : ℕ) → k < 16 → k < length seen → bit_and (list / 2 ^ k) 1 ≡ 1 → get_or seen k false ≡ false → new ≡ set seen k true → Going old seen k list → Going old new (k + 1) list
going_mark old seen new k list low l set_bit free is go before more m =
    let w = go before more m in
    let fresh : w.0 k ≡ false = w.1 k low ∙ free in (
      with_popped w.0 k,
      subst (λ s. Marks s (with_popped w.0 k)) (sym is) (marks_more seen w.0 k l w.1),
      w.2 ∙ ap (λ l. are_fresh w.0 (l ++ more)) (one_more k list low set_bit) ∙ ap (λ b. not b && are_fresh (with_popped w.0 k) (listed_from (k + 1) list ++ more)) fresh,
    )

pub going_stop : (old seen new : List Bool) (k list : ℕ) → k < 16 → bit_and (list / 2 ^ k) 1 ≡ 1 → get_or seen k false ≡ true → Going old seen k list → MarksRegisters old new (registers_of_list list) false
going_stop old seen new k list low set_bit taken go before more m =
    let w = go before more m in
    let stale : w.0 k ≡ true = w.1 k low ∙ taken in
    w.2 ∙ ap (λ l. are_fresh w.0 (l ++ more)) (one_more k list low set_bit) ∙ ap (λ b. not b && are_fresh (with_popped w.0 k) (listed_from (k + 1) list ++ more)) stale

pub going_end : (old seen new : List Bool) (k list : ℕ) → k ≡ 16 → new ≡ seen → Going old seen k list → MarksRegisters old new (registers_of_list list) true
going_end old seen new k list last is go before more m =
    let w = go before more m in
    (w.0, subst (λ s. Marks s w.0) (sym is) w.1, w.2 ∙ ap (λ n. are_fresh w.0 (listed_from n list ++ more)) last ∙ ap (λ l. are_fresh w.0 (l ++ more)) (listed_none list))

-- ---- lists that have none twice

fresh_split : (p : ℕ → Bool) (x : ℕ) (xs : List ℕ) → AllByRecursion (λ y. with_popped p x y ≡ false) xs → AllByRecursion (λ y. p y ≡ false) xs × AllByRecursion (λ y. (x == y) ≡ false) xs
fresh_split p x [] h = (tt, tt)
fresh_split p x (y ∷ ys) h = let w = fresh_split p x ys h.1 in let o = neither (p y) (x == y) h.0 in ((o.0, w.0), (o.1, w.1))
  where
    neither : (a b : Bool) → (a || b) ≡ false → (a ≡ false) × (b ≡ false)
    neither true b h = absurd (true≢false h)
    neither false b h = (refl, h)

fresh_join : (p : ℕ → Bool) (x : ℕ) (xs : List ℕ) → AllByRecursion (λ y. p y ≡ false) xs → AllByRecursion (λ y. (x == y) ≡ false) xs → AllByRecursion (λ y. with_popped p x y ≡ false) xs
fresh_join p x [] g h = tt
fresh_join p x (y ∷ ys) g h = (ap (λ b. b || (x == y)) g.0 ∙ h.0, fresh_join p x ys g.1 h.1)

clear_of : (b : Bool) → not b ≡ true → b ≡ false
clear_of true h = absurd (false≢true h)
clear_of false h = refl

fresh_distinct : (p : ℕ → Bool) (xs : List ℕ) → are_fresh p xs ≡ true → AllByRecursion (λ y. p y ≡ false) xs × IsDistinct (λ j k. j == k) xs
unfolding IsDistinct
fresh_distinct p [] h = (tt, tt)
fresh_distinct p (x ∷ xs) h =
    let w = and_parts (not (p x)) (are_fresh (with_popped p x) xs) h in
    let d = fresh_distinct (with_popped p x) xs w.1 in
    let s = fresh_split p x xs d.0 in
    ((clear_of (p x) w.0, s.0), (s.1, d.1))

distinct_fresh : (p : ℕ → Bool) (xs : List ℕ) → AllByRecursion (λ y. p y ≡ false) xs → IsDistinct (λ j k. j == k) xs → are_fresh p xs ≡ true
unfolding IsDistinct
distinct_fresh p [] h d = refl
distinct_fresh p (x ∷ xs) h d = ap (λ b. not b && are_fresh (with_popped p x) xs) h.0 ∙ distinct_fresh (with_popped p x) xs (fresh_join p x xs h.1 d.0) d.1

none_before : (xs : List ℕ) → AllByRecursion (λ y. false ≡ false) xs
none_before [] = tt
none_before (x ∷ xs) = (refl, none_before xs)

fresh_is : (items : List Item) (b : Bool) → b ≡ are_fresh (λ k. false) (popped_registers items) → IsTrue b ↔ PopsOnce items
fresh_is items true e = ((λ t. (fresh_distinct (λ k. false) (popped_registers items) (sym e)).1), (λ d. refl))
fresh_is items false e = ((λ t. absurd (false≢true t)), (λ d. absurd (false≢true (e ∙ distinct_fresh (λ k. false) (popped_registers items) (none_before (popped_registers items)) d))))

-- ---- the codes

-- what is left decides
abbrev pub Left : List ℕ → List Bool → List Item → Type 0
Left codes seen items = (before : ℕ → Bool) × Marks seen before × (are_fresh before (popped_registers items) ≡ are_fresh (λ k. false) (popped_registers (split_codes codes)))

pub left_start : (codes left : List ℕ) (seen : List Bool) → ((k : ℕ) → k < 16 → get_or seen k false ≡ false) → left ≡ codes → Left codes seen (split_codes_from (length codes - length left) left)
left_start codes left seen none is =
    let nothing : length codes - length left ≡ 0 = omega (arith, ap length is) in
    ((λ k. false), (λ k l. sym (none k l)), ap (λ n. are_fresh (λ k. false) (popped_registers (split_codes_from n left))) nothing ∙ ap (λ l. are_fresh (λ k. false) (popped_registers (split_codes_from 0 l))) is)

popped_code : (place : ℕ) (left : List ℕ) (code : UnwindCode) (size : ℕ) → Some (code, size) ≡ first_code left → popped_registers (split_codes_from place left) ≡ with_popped_first (effect code) (popped_registers (split_codes_from (place + size) (drop size left)))
popped_code place left code size is = ap popped_registers (cut_code place left code size is)

pub left_none : (codes left : List ℕ) (seen : List Bool) (items : List Item) (b : Bool) → popped_registers items ≡ [] → b ≡ true → Left codes seen items → IsTrue b ↔ PopsOnce (split_codes codes)
left_none codes left seen items b none is w = fresh_is (split_codes codes) b (is ∙ ap (λ l. are_fresh w.0 l) (sym none) ∙ w.2)

pub left_bad : (codes left : List ℕ) (seen : List Bool) (place : ℕ) (b : Bool) → None ≡ first_code left → 0 < length left → b ≡ true → Left codes seen (split_codes_from place left) → IsTrue b ↔ PopsOnce (split_codes codes)
left_bad codes left seen place b none some is w = left_none codes left seen (split_codes_from place left) b (ap popped_registers (cut_none place left none some)) is w

pub left_empty : (codes left : List ℕ) (seen : List Bool) (place : ℕ) (b : Bool) → length left ≡ 0 → b ≡ true → Left codes seen (split_codes_from place left) → IsTrue b ↔ PopsOnce (split_codes codes)
left_empty codes left seen place b none is w = left_none codes left seen (split_codes_from place left) b (ap popped_registers (cut_empty place left none)) is w

pub left_over : (codes left : List ℕ) (seen : List Bool) (place : ℕ) (code : UnwindCode) (size : ℕ) (o : Option ℕ) (b : Bool) → Some (code, size) ≡ first_code left
    → ((more : List ℕ) → with_popped_first (effect code) more ≡ with_popped_list o more) → o ≡ None → b ≡ true → Left codes seen (split_codes_from place left) → IsTrue b ↔ PopsOnce (split_codes codes)
left_over codes left seen place code size o b is lists none t w =
    left_none codes left seen (split_codes_from place left) b (popped_code place left code size is ∙ lists (popped_registers (split_codes_from (place + size) (drop size left))) ∙ ap (λ p. with_popped_list p (popped_registers (split_codes_from (place + size) (drop size left)))) none) t w

pub left_twice : (codes left : List ℕ) (seen new : List Bool) (place : ℕ) (code : UnwindCode) (size : ℕ) (o : Option ℕ) (list : ℕ) (m b : Bool) → Some (code, size) ≡ first_code left
    → ((more : List ℕ) → with_popped_first (effect code) more ≡ with_popped_list o more) → o ≡ Some list → MarksRegisters seen new (registers_of_list list) m → m ≡ false → b ≡ false → Left codes seen (split_codes_from place left) → IsTrue b ↔ PopsOnce (split_codes codes)
left_twice codes left seen new place code size o list m b is lists some marked out f w =
    let rest = popped_registers (split_codes_from (place + size) (drop size left)) in
    let e : popped_registers (split_codes_from place left) ≡ registers_of_list list ++ rest = popped_code place left code size is ∙ lists rest ∙ ap (λ p. with_popped_list p rest) some in
    let k : MarksRegisters seen new (registers_of_list list) false = subst (λ x. MarksRegisters seen new (registers_of_list list) x) out marked in
    fresh_is (split_codes codes) b (f ∙ sym (k w.0 rest w.1) ∙ ap (are_fresh w.0) (sym e) ∙ w.2)

pub left_on : (codes left following : List ℕ) (seen new : List Bool) (place : ℕ) (code : UnwindCode) (size : ℕ) (o : Option ℕ) (list : ℕ) (m : Bool) → Some (code, size) ≡ first_code left
    → ((more : List ℕ) → with_popped_first (effect code) more ≡ with_popped_list o more) → o ≡ Some list → MarksRegisters seen new (registers_of_list list) m → m ≡ true → following ≡ drop size left → length left ≤ length codes → place ≡ length codes - length left
    → Left codes seen (split_codes_from place left) → Left codes new (split_codes_from (length codes - length following) following)
left_on codes left following seen new place code size o list m is lists some marked well past fits at w =
    let rest = popped_registers (split_codes_from (place + size) (drop size left)) in
    let e : popped_registers (split_codes_from place left) ≡ registers_of_list list ++ rest = popped_code place left code size is ∙ lists rest ∙ ap (λ p. with_popped_list p rest) some in
    let k : MarksRegisters seen new (registers_of_list list) true = subst (λ x. MarksRegisters seen new (registers_of_list list) x) well marked in
    let v = k w.0 rest w.1 in
    let bounds = front_bounds left code size is in
    let short : length following ≡ length left - size = ap length past ∙ length-drop size left in
    let there : length codes - length following ≡ place + size = omega (arith, bounds.0, bounds.1) in
    (v.0, v.1, ap (λ n. are_fresh v.0 (popped_registers (split_codes_from n following))) there ∙ ap (λ l. are_fresh v.0 (popped_registers (split_codes_from (place + size) l))) past ∙ sym v.2 ∙ ap (are_fresh w.0) (sym e) ∙ w.2)

-- what a code pops is a list
pub first_list : (code : UnwindCode) (xs : List ℕ) (list : ℕ) → effect code ≡ Pops xs → xs ≡ registers_of_list list → (more : List ℕ) → with_popped_first (effect code) more ≡ with_popped_list (Some list) more
first_list code xs list is e more = ap (λ s. with_popped_first s more) is ∙ ap (λ l. l ++ more) e

abbrev pub clear_marks : List Bool
clear_marks = false ∷ false ∷ false ∷ false ∷ false ∷ false ∷ false ∷ false ∷ false ∷ false ∷ false ∷ false ∷ false ∷ false ∷ false ∷ false ∷ []

pub all_clear : (k : ℕ) → k < 16 → get_or clear_marks k false ≡ false
all_clear k low = clear 16 k
  where
    clear : (n k : ℕ) → get_or (replicate n false) k false ≡ false
    clear zero k = refl
    clear (suc n) zero = refl
    clear (suc n) (suc k) = clear n k

-- the list of no register
pub first_nothing : (more : List ℕ) → more ≡ with_popped_list (Some 0) more
unfolding registers_of_list
first_nothing more = refl

-- codes that pop nothing
pub first_empty : (code : UnwindCode) → ((x : ℕ) × (code ≡ Raise x)) ⊎ (((x : ℕ) × (code ≡ Lower x)) ⊎ (((x : ℕ) × (code ≡ RaiseLong x)) ⊎ ((x : ℕ) × (code ≡ Restore x)))) → (more : List ℕ) → with_popped_first (effect code) more ≡ with_popped_list (Some 0) more
first_empty code (inl is) more = ap (λ c. with_popped_first (effect c) more) is.1 ∙ first_nothing more
first_empty code (inr (inl is)) more = ap (λ c. with_popped_first (effect c) more) is.1 ∙ first_nothing more
first_empty code (inr (inr (inl is))) more = ap (λ c. with_popped_first (effect c) more) is.1 ∙ first_nothing more
first_empty code (inr (inr (inr is))) more = ap (λ c. with_popped_first (effect c) more) is.1 ∙ first_nothing more
