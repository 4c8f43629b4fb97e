-- A register that a resume may change is clobbered at a pad after a cleanup.
use Rattle.std.proofs.Common.{◌≡◌, ℕ, zero, suc, ◌*◌, ◌^◌, ◌<◌, ◌≤◌, ◌==◌, ◌⊎◌, inl, inr, Bool, true, false, cond, refl, ap, ◌∙◌, arith}
use Rattle.std.specs.List.{list_any}
use Rattle.thumb_core.specs.Words.{registers_of_list}
use Rattle.frame_entries.specs.declared.unwinding.EntrySummary.{EntrySummary}
use Rattle.frame_entries.specs.Unwinding.{changes_register, change_bit, landing_changes}
use Rattle.sim_throws.proofs.sim_frames.Clobbers.{has_bit}

module _ (u : EntrySummary) where
  either : (reg : ℕ) → (change_bit u reg ≡ 0) ⊎ (change_bit u reg ≡ 2 ^ reg)
  either reg = go (changes_register u reg)
    where
      go : (b : Bool) → (cond b (2 ^ reg) 0 ≡ 0) ⊎ (cond b (2 ^ reg) 0 ≡ 2 ^ reg)
      go true = inr refl
      go false = inl refl

  bit : (reg p : ℕ) → 2 ^ reg ≡ p → (v : ℕ) × (v ≤ 1) × (change_bit u reg ≡ p * v)
  bit reg p e = elim (either reg) [
    | inl z ↦ (0, omega arith, z ∙ (let n : 0 ≡ p * 0 = grind arith in n))
    | inr o ↦ (1, omega arith, o ∙ e ∙ (let n : p ≡ p * 1 = grind arith in n))
  ]

  set : (reg : ℕ) → changes_register u reg ≡ true → change_bit u reg ≡ 2 ^ reg
  set reg e = ap (λ (b : Bool). cond b (2 ^ reg) 0) e

  -- the bits of r4 to r11
  record Bits : Type 0 where
    pub r4 : (v : ℕ) × (v ≤ 1) × (change_bit u 4 ≡ 16 * v)
    pub r5 : (v : ℕ) × (v ≤ 1) × (change_bit u 5 ≡ 32 * v)
    pub r6 : (v : ℕ) × (v ≤ 1) × (change_bit u 6 ≡ 64 * v)
    pub r7 : (v : ℕ) × (v ≤ 1) × (change_bit u 7 ≡ 128 * v)
    pub r8 : (v : ℕ) × (v ≤ 1) × (change_bit u 8 ≡ 256 * v)
    pub r9 : (v : ℕ) × (v ≤ 1) × (change_bit u 9 ≡ 512 * v)
    pub r10 : (v : ℕ) × (v ≤ 1) × (change_bit u 10 ≡ 1024 * v)
    pub r11 : (v : ℕ) × (v ≤ 1) × (change_bit u 11 ≡ 2048 * v)

  bits : Bits
  bits = record { r4 = bit 4 16 refl; r5 = bit 5 32 refl; r6 = bit 6 64 refl; r7 = bit 7 128 refl; r8 = bit 8 256 refl; r9 = bit 9 512 refl; r10 = bit 10 1024 refl; r11 = bit 11 2048 refl }

  pub changes_clobber : (k : ℕ) → 4 ≤ k → k < 12 → changes_register u k ≡ true → list_any (λ (j : ℕ). j == k) (registers_of_list (landing_changes u true)) ≡ true
  changes_clobber = go bits
    where
      go : Bits → (k : ℕ) → 4 ≤ k → k < 12 → changes_register u k ≡ true → list_any (λ (j : ℕ). j == k) (registers_of_list (landing_changes u true)) ≡ true
      go b zero low high e = absurd (omega (arith, low))
      go b (suc zero) low high e = absurd (omega (arith, low))
      go b (suc (suc zero)) low high e = absurd (omega (arith, low))
      go b (suc (suc (suc zero))) low high e = absurd (omega (arith, low))
      go b (suc (suc (suc (suc zero)))) low high e =
          let w = set 4 e in has_bit (landing_changes u true) 4 refl (omega (arith, w, b.r5.2, b.r6.2, b.r7.2, b.r8.2, b.r9.2, b.r10.2, b.r11.2))
      go b (suc (suc (suc (suc (suc zero))))) low high e =
          let w = set 5 e in has_bit (landing_changes u true) 5 refl (omega (arith, w, b.r4.1, b.r4.2, b.r6.2, b.r7.2, b.r8.2, b.r9.2, b.r10.2, b.r11.2))
      go b (suc (suc (suc (suc (suc (suc zero)))))) low high e =
          let w = set 6 e in has_bit (landing_changes u true) 6 refl (omega (arith, w, b.r4.1, b.r4.2, b.r5.1, b.r5.2, b.r7.2, b.r8.2, b.r9.2, b.r10.2, b.r11.2))
      go b (suc (suc (suc (suc (suc (suc (suc zero))))))) low high e =
          let w = set 7 e in has_bit (landing_changes u true) 7 refl (omega (arith, w, b.r4.1, b.r4.2, b.r5.1, b.r5.2, b.r6.1, b.r6.2, b.r8.2, b.r9.2, b.r10.2, b.r11.2))
      go b (suc (suc (suc (suc (suc (suc (suc (suc zero)))))))) low high e =
          let w = set 8 e in
          has_bit (landing_changes u true) 8 refl (omega (arith, w, b.r4.1, b.r4.2, b.r5.1, b.r5.2, b.r6.1, b.r6.2, b.r7.1, b.r7.2, b.r9.2, b.r10.2, b.r11.2))
      go b (suc (suc (suc (suc (suc (suc (suc (suc (suc zero))))))))) low high e =
          let w = set 9 e in
          has_bit (landing_changes u true) 9 refl (omega (arith, w, b.r4.1, b.r4.2, b.r5.1, b.r5.2, b.r6.1, b.r6.2, b.r7.1, b.r7.2, b.r8.1, b.r8.2, b.r10.2, b.r11.2))
      go b (suc (suc (suc (suc (suc (suc (suc (suc (suc (suc zero)))))))))) low high e =
          let w = set 10 e in
          has_bit (landing_changes u true) 10 refl (omega (arith, w, b.r4.1, b.r4.2, b.r5.1, b.r5.2, b.r6.1, b.r6.2, b.r7.1, b.r7.2, b.r8.1, b.r8.2, b.r9.1, b.r9.2, b.r11.2))
      go b (suc (suc (suc (suc (suc (suc (suc (suc (suc (suc (suc zero))))))))))) low high e =
          let w = set 11 e in
          has_bit (landing_changes u true) 11 refl (omega (arith, w, b.r4.1, b.r4.2, b.r5.1, b.r5.2, b.r6.1, b.r6.2, b.r7.1, b.r7.2, b.r8.1, b.r8.2, b.r9.1, b.r9.2, b.r10.1, b.r10.2))
      go b (suc (suc (suc (suc (suc (suc (suc (suc (suc (suc (suc (suc k)))))))))))) low high e = absurd (omega (arith, high))
