-- Words of zeros, and the first slot that passes a test.
use Rattle.std.proofs.Common.{◌≡◌, ◌≢◌, ℕ, zero, suc, ◌+◌, ◌^◌, ◌<◌, ◌≤◌, Bool, true, false, ◌==◌, ◌&&◌, cond, List, [], ◌∷◌, ◌++◌, Option, Some, None, refl, sym, ap, ◌∙◌, arith, add-one}
use Rattle.std.proofs.lemmas.Bool.Decides.{nat_tests}
use Rattle.eh_bus.specs.Memory.{Memory}
use Rattle.eh_cxa.specs.declared.layout.TheConstants.{SLOTS, SLOT_WORDS}
use Rattle.eh_cxa.specs.Words.{Pool, Write, write, set_slot_word, with_word, with_all, set_slot_words}
use Rattle.eh_cxa.specs.Allocate.{zeros, first_from, first_slot}
use Rattle.eh_cxa.proofs.Pools.{AllFit}
use Rattle.eh_cxa.proofs.Showing.{AllAt}

pub put_append : (xs ys : List Write) (m : Memory) → set_slot_words (xs ++ ys) m ≡ set_slot_words ys (set_slot_words xs m)
put_append [] ys m = refl
put_append (x ∷ xs) ys m = put_append xs ys (set_slot_word m x.slot x.place x.value)

pub with_append : (xs ys : List Write) (w : Pool) → with_all (xs ++ ys) w ≡ with_all ys (with_all xs w)
with_append [] ys w = refl
with_append (x ∷ xs) ys w = with_append xs ys (with_word w x)

pub zeros_more : (s n : ℕ) (m : Memory) → set_slot_words (zeros s (n + 1)) m ≡ set_slot_word (set_slot_words (zeros s n) m) s n 0
unfolding zeros
zeros_more s n m = rw add-one (put_append (zeros s n) (write s n 0 ∷ []) m)

pub all_append : (xs ys : List Write) → AllFit xs → AllFit ys → AllFit (xs ++ ys)
all_append [] ys f g = g
all_append (x ∷ xs) ys f g = (f.0, all_append xs ys f.1 g)

pub at_append : (s : ℕ) (xs ys : List Write) → AllAt s xs → AllAt s ys → AllAt s (xs ++ ys)
at_append s [] ys f g = g
at_append s (x ∷ xs) ys f g = (f.0, at_append s xs ys f.1 g)

pub zeros_fit : (s n : ℕ) → s < SLOTS → n ≤ SLOT_WORDS → AllFit (zeros s n)
unfolding zeros
zeros_fit s zero h i = tt
zeros_fit s (suc n) h i = all_append (zeros s n) _ (zeros_fit s n h (omega arith)) ((h, omega arith, omega arith), tt)

pub zeros_at : (s n : ℕ) → AllAt s (zeros s n)
unfolding zeros
zeros_at s zero = tt
zeros_at s (suc n) = at_append s (zeros s n) _ (zeros_at s n) (refl, tt)

-- the words are 0 then
pub zeroed : (s n : ℕ) (w : Pool) (k : ℕ) → k < n → with_all (zeros s n) w s k ≡ 0
unfolding zeros
zeroed s zero w k h = absurd (omega arith)
zeroed s (suc n) w k h = rw (with_append (zeros s n) (write s n 0 ∷ []) w) (by_cases (k == n) refl (s == s) (Rattle.std.proofs.Common.eq-eqb s s refl) (zeroed s n w k))
  where
    by_cases : (b : Bool) → (k == n) ≡ b → (c : Bool) → c ≡ true → (k < n → with_all (zeros s n) w s k ≡ 0) → cond (b && c) 0 (with_all (zeros s n) w s k) ≡ 0
    by_cases true p true q next = refl
    by_cases true p false q next = cc
    by_cases false p c q next = next (grind (arith, nat_tests))

-- ---- the first slot

from_is : (p : ℕ → Bool) (n s t : ℕ) → s ≤ t → t < s + n → ((k : ℕ) → k < t → p k ≡ false) → p t ≡ true → first_from p n s ≡ Some t
unfolding first_from
from_is p zero s t h i fails passes = absurd (omega arith)
from_is p (suc n) s t h i fails passes = by_cases (t == s) refl (from_is p n (suc s) t)
  where
    by_cases : (b : Bool) → (t == s) ≡ b → (suc s ≤ t → t < suc s + n → ((k : ℕ) → k < t → p k ≡ false) → p t ≡ true → first_from p n (suc s) ≡ Some t)
        → cond (p s) (Some s) (first_from p n (suc s)) ≡ Some t
    by_cases true q next = let e : s ≡ t = grind (arith, nat_tests) in rw (e, passes) refl
    by_cases false q next = let n : t ≢ s = grind (arith, nat_tests) in rw (fails s (omega arith)) (next (omega arith) (omega arith) fails passes)

pub first_is : (p : ℕ → Bool) (t : ℕ) → t < SLOTS → ((k : ℕ) → k < t → p k ≡ false) → p t ≡ true → first_slot p ≡ Some t
unfolding first_slot
first_is p t h fails passes = from_is p SLOTS 0 t (omega arith) (omega arith) fails passes

from_none : (p : ℕ → Bool) (n s : ℕ) → ((k : ℕ) → k < s + n → p k ≡ false) → first_from p n s ≡ None
unfolding first_from
from_none p zero s fails = refl
from_none p (suc n) s fails = rw (fails s (omega arith)) (from_none p n (suc s) (λ k h. fails k (omega arith)))

pub first_none : (p : ℕ → Bool) → ((k : ℕ) → k < SLOTS → p k ≡ false) → first_slot p ≡ None
unfolding first_slot
first_none p fails = from_none p SLOTS 0 fails

from_same : (p q : ℕ → Bool) (n s : ℕ) → ((k : ℕ) → k < s + n → p k ≡ q k) → first_from p n s ≡ first_from q n s
unfolding first_from
from_same p q zero s e = refl
from_same p q (suc n) s e = rw (e s (omega arith), from_same p q n (suc s) (λ k h. e k (omega arith))) refl

pub first_same : (p q : ℕ → Bool) → ((k : ℕ) → k < SLOTS → p k ≡ q k) → first_slot p ≡ first_slot q
unfolding first_slot
first_same p q e = from_same p q SLOTS 0 e

from_passes : (p : ℕ → Bool) (n s t : ℕ) → first_from p n s ≡ Some t → (t < s + n) × (p t ≡ true)
unfolding first_from
from_passes p zero s t e = cc
from_passes p (suc n) s t e = by_cases (p s) refl (from_passes p n (suc s) t) e
  where
    by_cases : (b : Bool) → p s ≡ b → (first_from p n (suc s) ≡ Some t → (t < suc s + n) × (p t ≡ true)) → cond b (Some s) (first_from p n (suc s)) ≡ Some t → (t < s + suc n) × (p t ≡ true)
    by_cases true q next e = let f : s ≡ t = cc in (omega arith, rw f at q)
    by_cases false q next e = let r = next e in (omega (arith, r.0), r.1)

pub first_passes : (p : ℕ → Bool) (t : ℕ) → first_slot p ≡ Some t → (t < SLOTS) × (p t ≡ true)
unfolding first_slot
first_passes p t e = from_passes p SLOTS 0 t e

-- and it is the lowest

from_lowest : (p : ℕ → Bool) (n s t : ℕ) → first_from p n s ≡ Some t → (k : ℕ) → s ≤ k → p k ≡ true → t ≤ k
unfolding first_from
from_lowest p zero s t e k h passes = cc
from_lowest p (suc n) s t e k h passes = by_cases (p s) refl (k == s) refl (from_lowest p n (suc s) t) e
  where
    by_cases : (b : Bool) → p s ≡ b → (c : Bool) → (k == s) ≡ c → (first_from p n (suc s) ≡ Some t → (k : ℕ) → suc s ≤ k → p k ≡ true → t ≤ k)
        → cond b (Some s) (first_from p n (suc s)) ≡ Some t → t ≤ k
    by_cases true q c r next e = let f : s ≡ t = cc in omega arith
    by_cases false q true r next e = let f : k ≡ s = grind (arith, nat_tests) in let a : false ≡ true = sym q ∙ (ap p (sym f) ∙ passes) in cc
    by_cases false q false r next e = let n : k ≢ s = grind (arith, nat_tests) in next e k (omega arith) passes

pub first_lowest : (p : ℕ → Bool) (t : ℕ) → first_slot p ≡ Some t → (k : ℕ) → p k ≡ true → t ≤ k
unfolding first_slot
first_lowest p t e k passes = from_lowest p SLOTS 0 t e k (omega arith) passes

from_all : (p : ℕ → Bool) (n s : ℕ) → first_from p n s ≡ None → (k : ℕ) → s ≤ k → k < s + n → p k ≡ true → ⊥
unfolding first_from
from_all p zero s e k h i passes = omega arith
from_all p (suc n) s e k h i passes = by_cases (p s) refl (k == s) refl (from_all p n (suc s)) e
  where
    by_cases : (b : Bool) → p s ≡ b → (c : Bool) → (k == s) ≡ c → (first_from p n (suc s) ≡ None → (k : ℕ) → suc s ≤ k → k < suc s + n → p k ≡ true → ⊥)
        → cond b (Some s) (first_from p n (suc s)) ≡ None → ⊥
    by_cases true q c r next e = cc
    by_cases false q true r next e = let f : k ≡ s = grind (arith, nat_tests) in let a : false ≡ true = sym q ∙ (ap p (sym f) ∙ passes) in cc
    by_cases false q false r next e = let n : k ≢ s = grind (arith, nat_tests) in next e k (omega arith) (omega arith) passes

pub first_all : (p : ℕ → Bool) → first_slot p ≡ None → (k : ℕ) → k < SLOTS → p k ≡ true → ⊥
unfolding first_slot
first_all p e k h passes = from_all p SLOTS 0 e k (omega arith) (omega arith) passes
