-- What a landing clobbers: r0 to r3, r12 and lr always, sp never.
use Rattle.std.proofs.Common.{◌≡◌, ℕ, ◌==◌, ◌||◌, Bool, true, false, cond, List, [], ◌∷◌, filter, refl, sym, ap, ◌∙◌, ◌*◌, ◌<◌, zero, suc, ◌+◌, ◌^◌, ◌≤◌, ◌⊎◌, inl, inr, subst, arith}
use Rattle.std.specs.List.{list_any}
use Rattle.std.proofs.lemmas.Bool.{eqb-true}
use Rattle.std.specs.Int.{bit_at}
use Rattle.thumb_core.specs.Words.{registers_of_list, numbers}
use Rattle.thumb_core.specs.declared.calls.TheConstants.{CALL_CHANGES}
use Rattle.frame_entries.specs.declared.unwinding.EntrySummary.{EntrySummary}
use Rattle.frame_entries.specs.Unwinding.{changes_register, change_bit, resume_changes, landing_changes}

any_kept : (t : ℕ → Bool) (k : ℕ) (xs : List ℕ) → t k ≡ true → list_any (λ (j : ℕ). j == k) xs ≡ true → list_any (λ (j : ℕ). j == k) (filter t xs) ≡ true
any_kept t k [] h e = absurd cc
any_kept t k (x ∷ xs) h e = go (x == k) (t x) refl refl e (any_kept t k xs h)
  where
    go : (b c : Bool) → (x == k) ≡ b → t x ≡ c → (b || list_any (λ (j : ℕ). j == k) xs) ≡ true → (list_any (λ (j : ℕ). j == k) xs ≡ true → list_any (λ (j : ℕ). j == k) (filter t xs) ≡ true)
        → list_any (λ (j : ℕ). j == k) (cond c (x ∷ filter t xs) (filter t xs)) ≡ true
    go true true i j e later = ap (λ b. b || list_any (λ (j : ℕ). j == k) (filter t xs)) i
    go true false i j e later = absurd (let clash : true ≡ false = sym h ∙ ap t (sym (eqb-true x k i)) ∙ j in cc)
    go false true i j e later = ap (λ b. b || list_any (λ (j : ℕ). j == k) (filter t xs)) i ∙ later e
    go false false i j e later = later e

none_kept : (t : ℕ → Bool) (k : ℕ) (xs : List ℕ) → t k ≡ false → list_any (λ (j : ℕ). j == k) (filter t xs) ≡ false
none_kept t k [] h = refl
none_kept t k (x ∷ xs) h = go (x == k) (t x) refl refl (none_kept t k xs h)
  where
    go : (b c : Bool) → (x == k) ≡ b → t x ≡ c → list_any (λ (j : ℕ). j == k) (filter t xs) ≡ false → list_any (λ (j : ℕ). j == k) (cond c (x ∷ filter t xs) (filter t xs)) ≡ false
    go true true i j later = absurd (let clash : true ≡ false = sym j ∙ ap t (eqb-true x k i) ∙ h in cc)
    go b false i j later = later
    go false true i j later = ap (λ b. b || list_any (λ (j : ℕ). j == k) (filter t xs)) i ∙ later

-- what a mask lists
pub has_bit : (mask k : ℕ) → list_any (λ (j : ℕ). j == k) numbers ≡ true → bit_at mask k ≡ 1 → list_any (λ (j : ℕ). j == k) (registers_of_list mask) ≡ true
unfolding registers_of_list
has_bit mask k n e = any_kept (λ j. bit_at mask j == 1) k numbers (ap (λ v. v == 1) e) n

pub has_no_bit : (mask k : ℕ) → bit_at mask k ≡ 0 → list_any (λ (j : ℕ). j == k) (registers_of_list mask) ≡ false
unfolding registers_of_list
has_no_bit mask k e = none_kept (λ j. bit_at mask j == 1) k numbers (ap (λ v. v == 1) e)

-- ---- a landing

-- beside those only r4 to r11
pub record Between (n : ℕ) : Type 0 where
  pub count : ℕ
  pub small : count < 256
  pub is : n ≡ 16 * count

module _ (u : EntrySummary) where
  one : (reg : ℕ) → (change_bit u reg ≡ 0) ⊎ (change_bit u reg ≡ 2 ^ reg)
  one reg = go (changes_register u reg)
    where
      go : (b : Bool) → (cond b (2 ^ reg) 0 ≡ 0) ⊎ (cond b (2 ^ reg) 0 ≡ 2 ^ reg)
      go true = inr refl
      go false = inl refl

  bit : (reg p : ℕ) → 2 ^ reg ≡ p → (v : ℕ) × (v ≤ 1) × (change_bit u reg ≡ p * v)
  bit reg p e = elim (one reg) [
    | inl z ↦ (0, omega arith, z ∙ (let n : 0 ≡ p * 0 = grind arith in n))
    | inr o ↦ (1, omega arith, o ∙ e ∙ (let n : p ≡ p * 1 = grind arith in n))
  ]

  resumed_between : Between (resume_changes u)
  resumed_between =
      let a = bit 4 16 refl in
      let b = bit 5 32 refl in
      let c = bit 6 64 refl in
      let d = bit 7 128 refl in
      let e = bit 8 256 refl in
      let f = bit 9 512 refl in
      let g = bit 10 1024 refl in
      let h = bit 11 2048 refl in
      record {
        count = a.0 + 2 * b.0 + 4 * c.0 + 8 * d.0 + 16 * e.0 + 32 * f.0 + 64 * g.0 + 128 * h.0;
        small = omega (arith, a.1, b.1, c.1, d.1, e.1, f.1, g.1, h.1);
        is = omega (arith, a.2, b.2, c.2, d.2, e.2, f.2, g.2, h.2);
      }

  landing_between : (resumed : Bool) → (n : ℕ) × (n < 256) × (landing_changes u resumed ≡ CALL_CHANGES + 16 * n)
  landing_between true = let w = resumed_between in (w.count, w.small, ap (λ n. CALL_CHANGES + n) w.is)
  landing_between false = (0, omega arith, refl)

  pub landing_keeps_sp : (resumed : Bool) → list_any (λ (j : ℕ). j == 13) (registers_of_list (landing_changes u resumed)) ≡ false
  landing_keeps_sp resumed = let w = landing_between resumed in let l = w.1 in let e = w.2 in has_no_bit (landing_changes u resumed) 13 (omega (arith, l, e))

  pub landing_clobbers : (resumed : Bool) (k : ℕ) → (k < 4) ⊎ ((k ≡ 12) ⊎ (k ≡ 14)) → list_any (λ (j : ℕ). j == k) (registers_of_list (landing_changes u resumed)) ≡ true
  landing_clobbers resumed k h = go (landing_between resumed) k h
    where
      go : (n : ℕ) × (n < 256) × (landing_changes u resumed ≡ CALL_CHANGES + 16 * n) → (k : ℕ) → (k < 4) ⊎ ((k ≡ 12) ⊎ (k ≡ 14)) → list_any (λ (j : ℕ). j == k) (registers_of_list (landing_changes u resumed)) ≡ true
      go w zero h = let l = w.1 in let e = w.2 in has_bit (landing_changes u resumed) 0 refl (omega (arith, l, e))
      go w (suc zero) h = let l = w.1 in let e = w.2 in has_bit (landing_changes u resumed) 1 refl (omega (arith, l, e))
      go w (suc (suc zero)) h = let l = w.1 in let e = w.2 in has_bit (landing_changes u resumed) 2 refl (omega (arith, l, e))
      go w (suc (suc (suc zero))) h = let l = w.1 in let e = w.2 in has_bit (landing_changes u resumed) 3 refl (omega (arith, l, e))
      go w k (inr (inl s)) = let l = w.1 in let e = w.2 in subst (λ (k : ℕ). list_any (λ (j : ℕ). j == k) (registers_of_list (landing_changes u resumed)) ≡ true) (sym s) (has_bit (landing_changes u resumed) 12 refl (omega (arith, l, e)))
      go w k (inr (inr s)) = let l = w.1 in let e = w.2 in subst (λ (k : ℕ). list_any (λ (j : ℕ). j == k) (registers_of_list (landing_changes u resumed)) ≡ true) (sym s) (has_bit (landing_changes u resumed) 14 refl (omega (arith, l, e)))
      go w (suc (suc (suc (suc k)))) (inl s) = absurd (omega (arith, s))
