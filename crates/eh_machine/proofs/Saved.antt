-- The saves of a push, word by word from the last.
use Rattle.std.proofs.Common.{◌≡◌, ℕ, suc, ◌+◌, ◌-◌, ◌*◌, ◌<◌, ◌≤◌, ◌==◌, Bool, true, false, List, [], ◌∷◌, map, cond, refl, sym, ap, ◌∙◌, arith}
use Rattle.eh_bus.specs.Memory.{Memory, with_guard, guard_all}
use Rattle.std.specs.List.{range_with_len, filter}
use Rattle.std.specs.Int.{bit_at}
use Rattle.eh_machine.specs.Guarded.{saved_words_from}
use Rattle.sim_machines.specs.Machine.{saved_words}

pub saved_all : (saves count sp : ℕ) → saved_words saves count sp ≡ saved_words_from saves 0 count sp
unfolding saved_words_from
saved_all saves count sp = let e : count - 0 ≡ count = omega arith in rw e refl

pub saved_none : (saves count sp : ℕ) → saved_words_from saves count count sp ≡ []
unfolding saved_words_from
saved_none saves count sp = let e : count - count ≡ 0 = omega arith in rw e refl

pub saved_more : (saves k count sp : ℕ) → k < count → saved_words_from saves k count sp
    ≡ cond (bit_at saves k == 1) ((sp + 4 * k) ∷ saved_words_from saves (k + 1) count sp) (saved_words_from saves (k + 1) count sp)
unfolding saved_words_from
saved_more saves k count sp h =
    let e : count - k ≡ suc (count - (k + 1)) = omega arith in
    rw e (go (bit_at saves k == 1) (range_with_len (k + 1) (count - (k + 1))))
  where
    go : (b : Bool) (rest : List ℕ)
        → map (λ j. sp + 4 * j) (cond b (k ∷ filter (λ j. bit_at saves j == 1) rest) (filter (λ j. bit_at saves j == 1) rest))
        ≡ cond b ((sp + 4 * k) ∷ map (λ j. sp + 4 * j) (filter (λ j. bit_at saves j == 1) rest)) (map (λ j. sp + 4 * j) (filter (λ j. bit_at saves j == 1) rest))
    go true rest = refl
    go false rest = refl

-- ---- a turn of the loop, which guards from the last word on

above : (k : ℕ) → 0 < k → k - 1 + 1 ≡ k
above k h = omega (arith, h)

pub guard_one : (saves k count sp : ℕ) (m m0 new : Memory) → 0 < k → k ≤ count → (bit_at saves (k - 1) == 1) ≡ true
    → m ≡ guard_all (saved_words_from saves k count sp) m0 → new ≡ with_guard m (sp + 4 * (k - 1)) → new ≡ guard_all (saved_words_from saves (k - 1) count sp) m0
guard_one saves k count sp m m0 new some within bit so_far e =
    rw (saved_more saves (k - 1) count sp (omega (arith, some, within)), bit, above k some)
    (e ∙ ap (λ (x : Memory). with_guard x (sp + 4 * (k - 1))) so_far)

pub guard_not : (saves k count sp : ℕ) (m m0 : Memory) → 0 < k → k ≤ count → (bit_at saves (k - 1) == 1) ≡ false
    → m ≡ guard_all (saved_words_from saves k count sp) m0 → m ≡ guard_all (saved_words_from saves (k - 1) count sp) m0
guard_not saves k count sp m m0 some within bit so_far =
    rw (saved_more saves (k - 1) count sp (omega (arith, some, within)), bit, above k some) so_far

pub guard_end : (saves k count sp : ℕ) (m m0 : Memory) → k ≡ 0 → m ≡ guard_all (saved_words_from saves k count sp) m0 → m ≡ guard_all (saved_words saves count sp) m0
guard_end saves k count sp m m0 e so_far =
    so_far ∙ ap (λ (n : ℕ). guard_all (saved_words_from saves n count sp) m0) e ∙ ap (λ (xs : List ℕ). guard_all xs m0) (sym (saved_all saves count sp))

-- where no word was pushed
pub guard_none : (saves count sp : ℕ) (m : Memory) → count ≡ 0 → m ≡ guard_all (saved_words saves count sp) m
guard_none saves count sp m e = ap (λ (n : ℕ). guard_all (saved_words saves n sp) m) (sym e)
