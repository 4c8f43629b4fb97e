-- The words that a PUSH saves are slots, and guarded.
use Rattle.std.proofs.Common.{ℕ, ◌+◌, ◌*◌, ◌==◌, List, map, filter, ◌≡◌, zero, suc, ◌<◌, ◌≤◌, inl, inr, Bool, true, false, cond, ◌∷◌, sym, arith, ◌⊎◌, refl, ap, subst, ◌%◌, [], ◌++◌}
use Rattle.std.specs.Int.{bit_at}
use Rattle.std.specs.List.{range_with_len}
use Rattle.std.proofs.lemmas.Bool.{cases_eq}
use Rattle.eh_bus.specs.Lists.{Has}
use Rattle.sim_machines.specs.Machine.{saved_words}
use Rattle.eh_bus.specs.Map.{IsMap}
use Rattle.eh_bus.specs.Memory.{Memory, guard_all}
use Rattle.eh_bus.specs.declared.map.TheConstants.{STACK_START, STACK_END}
use Rattle.eh_bus.proofs.MapLaws.{guarded_is_map}

-- ---- the words that are saved

abbrev words_from : ℕ → ℕ → ℕ → ℕ → List ℕ
words_from saves from len sp = map (λ k. sp + 4 * k) (filter (λ k. bit_at saves k == 1) (range_with_len from len))

in_words : (saves from len sp g : ℕ) → Has (words_from saves from len sp) g → (j : ℕ) × (from ≤ j) × (j < from + len) × (g ≡ sp + 4 * j)
in_words saves from zero sp g h = absurd h
in_words saves from (suc len) sp g h = go (bit_at saves from == 1) h (λ i. in_words saves (from + 1) len sp g i)
  where
    further : (j : ℕ) × (from + 1 ≤ j) × (j < from + 1 + len) × (g ≡ sp + 4 * j) → (j : ℕ) × (from ≤ j) × (j < from + suc len) × (g ≡ sp + 4 * j)
    further w = (w.0, omega (arith, w.1), omega (arith, w.2), w.3)

    go : (b : Bool) → Has (map (λ k. sp + 4 * k) (cond b (from ∷ filter (λ k. bit_at saves k == 1) (range_with_len (from + 1) len)) (filter (λ k. bit_at saves k == 1) (range_with_len (from + 1) len)))) g
        → (Has (words_from saves (from + 1) len sp) g → (j : ℕ) × (from + 1 ≤ j) × (j < from + 1 + len) × (g ≡ sp + 4 * j)) → (j : ℕ) × (from ≤ j) × (j < from + suc len) × (g ≡ sp + 4 * j)
    go true (inl e) later = (from, omega arith, omega arith, sym e)
    go true (inr i) later = further (later i)
    go false i later = further (later i)

has_word : (saves from len sp j : ℕ) → from ≤ j → j < from + len → bit_at saves j ≡ 1 → Has (words_from saves from len sp) (sp + 4 * j)
has_word saves from zero sp j l h b = absurd (omega (arith, l, h))
has_word saves from (suc len) sp j l h b = go (bit_at saves from == 1) refl (cases_eq j from) (λ m. has_word saves (from + 1) len sp j m (omega (arith, h)) b)
  where
    go : (c : Bool) → (bit_at saves from == 1) ≡ c → (j ≡ from) ⊎ (j ≡ from → ⊥) → (from + 1 ≤ j → Has (words_from saves (from + 1) len sp) (sp + 4 * j))
        → Has (map (λ k. sp + 4 * k) (cond c (from ∷ filter (λ k. bit_at saves k == 1) (range_with_len (from + 1) len)) (filter (λ k. bit_at saves k == 1) (range_with_len (from + 1) len)))) (sp + 4 * j)
    go true is (inl e) later = inl (ap (λ n. sp + 4 * n) (sym e))
    go true is (inr n) later = inr (later (omega (arith, l, n)))
    go false is (inl e) later = absurd (let one : bit_at saves from ≡ 1 = subst (λ n. bit_at saves n ≡ 1) e b in let t = ap (λ n. n == 1) one in cc)
    go false is (inr n) later = later (omega (arith, l, n))

pub in_saved : (saves count sp g : ℕ) → Has (saved_words saves count sp) g → (j : ℕ) × (j < count) × (g ≡ sp + 4 * j)
in_saved saves count sp g h = let w = in_words saves 0 count sp g h in (w.0, omega (arith, w.2), w.3)

pub has_saved : (saves count sp j : ℕ) → j < count → bit_at saves j ≡ 1 → Has (saved_words saves count sp) (sp + 4 * j)
has_saved saves count sp j l b = has_word saves 0 count sp j (omega arith) (omega (arith, l)) b

pub all_guarded : (ws : List ℕ) (m : Memory) → ((g : ℕ) → Has ws g → (g % 4 ≡ 0) × (STACK_START ≤ g) × (g < STACK_END)) → IsMap m → IsMap (guard_all ws m)
all_guarded [] m h x = x
all_guarded (g ∷ more) m h x = let w = h g (inl refl) in guarded_is_map (guard_all more m) g w.0 w.1 w.2 (all_guarded more m (λ v i. h v (inr i)) x)

pub has_either : (xs ys : List ℕ) (g : ℕ) → Has (xs ++ ys) g → Has xs g ⊎ Has ys g
has_either [] ys g h = inr h
has_either (v ∷ more) ys g (inl e) = inl (inl e)
has_either (v ∷ more) ys g (inr h) = elim (has_either more ys g h) [ inl i ↦ inl (inr i) | inr i ↦ inr i ]

pub has_old : (xs ys : List ℕ) (g : ℕ) → Has ys g → Has (xs ++ ys) g
has_old [] ys g h = h
has_old (v ∷ more) ys g h = inr (has_old more ys g h)

pub has_new : (xs ys : List ℕ) (g : ℕ) → Has xs g → Has (xs ++ ys) g
has_new [] ys g h = absurd h
has_new (v ∷ more) ys g (inl e) = inl e
has_new (v ∷ more) ys g (inr h) = inr (has_new more ys g h)
