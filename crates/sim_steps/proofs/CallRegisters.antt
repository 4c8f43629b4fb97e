-- The registers that a caller records are those that a call keeps.
use Rattle.std.proofs.Common.{◌≡◌, ℕ, suc, ◌<◌, [], ◌∷◌, length, slice_index, arith, zero, ◌≤◌, ◌==◌, true, false, subst, refl, ◌+◌, inl, inr, sym, ap, ◌∙◌}
use Rattle.std.proofs.lemmas.List.{get_or_append_left, get_or-append_right, get_or_past, length-append}
use Rattle.std.specs.List.{list_any}
use Rattle.std.proofs.lemmas.Bool.{cases_eq, cases_lt}
use Rattle.thumb_core.specs.Registers.{reg}
use Rattle.sim_machines.specs.Activations.{Caller}
use Rattle.thumb_core.specs.declared.regs.TheConstants.{SP}
use Rattle.thumb_core.specs.Words.{registers_of_list}
use Rattle.frame_facts.specs.Branches.{call_changes}
use Rattle.thumb_core.specs.declared.regs.Regs.{Regs}
use Rattle.sim_relation.specs.Chain.{regs_at}

at_saved : (c : Caller) (j : ℕ) → length c.saved ≡ 8 → j < 8 → reg (regs_at c) (suc (suc (suc (suc j)))) ≡ slice_index c.saved j
at_saved c j count h = get_or_append_left c.saved (0 ∷ c.sp ∷ 0 ∷ []) 0 j (let l : j < length c.saved = omega (arith, h, count) in l)

pub at_sp : (c : Caller) → length c.saved ≡ 8 → reg (regs_at c) SP ≡ c.sp
at_sp c count = get_or-append_right c.saved (0 ∷ c.sp ∷ 0 ∷ []) 8 9 0 count (omega arith)

-- what isn't changed by a call
not_changed : (k : ℕ) → list_any (λ (j : ℕ). j == k) call_changes ≡ false → (4 ≤ k) × (k ≡ 12 → ⊥) × (k ≡ 14 → ⊥)
unfolding registers_of_list
not_changed zero h = absurd cc
not_changed (suc zero) h = absurd cc
not_changed (suc (suc zero)) h = absurd cc
not_changed (suc (suc (suc zero))) h = absurd cc
not_changed (suc (suc (suc (suc j)))) h = (
  omega arith,
  (λ e. absurd (let t : true ≡ false = subst (λ n. list_any (λ (i : ℕ). i == n) call_changes ≡ false) e h in cc)),
  (λ e. absurd (let t : true ≡ false = subst (λ n. list_any (λ (i : ℕ). i == n) call_changes ≡ false) e h in cc)),
)

pub sp_stays : list_any (λ (j : ℕ). j == 13) call_changes ≡ false
unfolding registers_of_list
sp_stays = refl

-- the registers that a caller records are those that a call keeps
pub recorded_regs : (c : Caller) (regs : Regs) → length c.saved ≡ 8 → length regs.r ≡ 15 → ((j : ℕ) → j < 8 → slice_index c.saved j ≡ slice_index regs.r (j + 4)) → c.sp ≡ reg regs SP
    → (k : ℕ) → list_any (λ (j : ℕ). j == k) call_changes ≡ false → reg (regs_at c) k ≡ reg regs k
recorded_regs c regs count fifteen saved sp k kept = go k (not_changed k kept)
  where
    above : (j : ℕ) → (suc (suc (suc (suc j))) ≡ 12 → ⊥) → (suc (suc (suc (suc j))) ≡ 14 → ⊥) → reg (regs_at c) (suc (suc (suc (suc j)))) ≡ reg regs (suc (suc (suc (suc j))))
    above j a b = elim (cases_lt j 8) [
      | inl low ↦ at_saved c j count low ∙ saved j low ∙ ap (λ n. slice_index regs.r n) (let n : j + 4 ≡ suc (suc (suc (suc j))) = omega arith in n)
      | inr high ↦ elim (cases_eq j 9) [
        | inl nine ↦ ap (λ n. reg (regs_at c) (suc (suc (suc (suc n))))) nine ∙ at_sp c count ∙ sp ∙ sym (ap (λ n. reg regs (suc (suc (suc (suc n))))) nine)
        | inr other ↦
            let eight : j ≡ 8 → ⊥ = λ e. a (omega (arith, e)) in
            let ten : j ≡ 10 → ⊥ = λ e. b (omega (arith, e)) in
            let far : 11 ≤ j = beyond j high eight other ten in
            let all : length (regs_at c).r ≤ suc (suc (suc (suc j))) = omega (arith, far, length-append c.saved (0 ∷ c.sp ∷ 0 ∷ []), count) in
            get_or_past (regs_at c).r (suc (suc (suc (suc j)))) 0 all ∙ sym (get_or_past regs.r (suc (suc (suc (suc j)))) 0 (let l : length regs.r ≤ suc (suc (suc (suc j))) = omega (arith, fifteen, far) in l))
      ]
    ]
      where
        beyond : (n : ℕ) → 8 ≤ n → (n ≡ 8 → ⊥) → (n ≡ 9 → ⊥) → (n ≡ 10 → ⊥) → 11 ≤ n
        beyond n h a b c = elim (cases_eq n 8) [
          | inl e ↦ absurd (a e)
          | inr x ↦ elim (cases_eq n 9) [
            | inl e ↦ absurd (b e)
            | inr y ↦ elim (cases_eq n 10) [
              | inl e ↦ absurd (c e)
              | inr z ↦ omega (arith, h, x, y, z)
            ]
          ]
        ]

    go : (n : ℕ) → (4 ≤ n) × (n ≡ 12 → ⊥) × (n ≡ 14 → ⊥) → reg (regs_at c) n ≡ reg regs n
    go zero w = absurd (omega (arith, w.0))
    go (suc zero) w = absurd (omega (arith, w.0))
    go (suc (suc zero)) w = absurd (omega (arith, w.0))
    go (suc (suc (suc zero))) w = absurd (omega (arith, w.0))
    go (suc (suc (suc (suc j)))) w = above j w.1 w.2
