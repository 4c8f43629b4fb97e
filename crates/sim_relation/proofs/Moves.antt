-- A fact that holds of registers holds of others that differ only where it says nothing; and what a fact clobbers it says nothing of.
use Rattle.std.proofs.Common.{◌≡◌, ℕ, ◌⊎◌, inl, inr, List, sym, subst, arith, length, get_or, ap, ◌∙◌, [], ◌∷◌, ◌==◌, ◌||◌, Bool, true, false, refl, zero, suc, ◌<◌, slice_index, ◌+◌, ◌≤◌}
use Rattle.std.proofs.lemmas.Bool.{cases_lt, cases_eq, eqb-true}
use Rattle.std.proofs.lemmas.List.{get_or-set_same, get_or_past, length-set, get_or-set_other, get_or_append_left, get_or-append_right, length-append}
use Rattle.std.specs.List.{list_any}
use Rattle.eh_bus.specs.Segment.{Segment}
use Rattle.thumb_core.specs.Registers.{reg}
use Rattle.thumb_core.specs.declared.regs.TheConstants.{SP}
use Rattle.thumb_core.specs.declared.regs.Regs.{Regs}
use Rattle.frame_facts.specs.declared.facts.Fact.{Fact}
use Rattle.frame_facts.specs.declared.facts.Source.{Source}
use Rattle.frame_facts.specs.declared.facts.Source.TheVariants.{Other}
use Rattle.frame_facts.specs.declared.saves.Prologue.{Prologue}
use Rattle.frame_facts.specs.Facts.{source, slot, forget_register, forget_registers}
use Rattle.frame_facts.specs.Machine.{Means}
use Rattle.sim_machines.specs.Activations.{Activation, Caller}
use Rattle.thumb_core.specs.Words.{registers_of_list}
use Rattle.frame_facts.specs.Branches.{call_changes}
use Rattle.sim_relation.specs.Holds.{Holds}
use Rattle.sim_relation.specs.Chain.{regs_at}

-- ---- other registers

pub moved_holds : (p : Prologue) (f : Fact) (a : Activation) (segments : List Segment) (regs new : Regs) → Holds p f a segments regs
    → ((k : ℕ) → (source f k ≡ Other) ⊎ (reg new k ≡ reg regs k)) → reg new SP ≡ reg regs SP → Holds p f a segments new
moved_holds p f a segments regs new h same sp = record {
  entry = h.entry;
  saved = h.saved;
  link = h.link;
  describes = record {
    long = h.describes.long;
    sources = λ k. elim (same k) [
      | inl none ↦ subst (λ (s : Source). Means h.entry a.caller.sp s (reg new k)) (sym none) tt
      | inr e ↦ subst (λ v. Means h.entry a.caller.sp (source f k) v) (sym e) (h.describes.sources k)
    ];
    sp = λ b. omega (arith, h.describes.sp b, sp);
  };
  lower = omega (arith, h.lower, sp);
  saves = h.saves;
}

-- ---- forgetting

pub lost_here : (r : ℕ) (f : Fact) (k : ℕ) → slot k ≡ slot r → source (forget_register r f) k ≡ Other
lost_here r f k e = ap (λ j. get_or (forget_register r f).regs j Other) e ∙ elim (cases_lt (slot r) (length f.regs)) [
  | inl l ↦ get_or-set_same f.regs (slot r) Other Other l
  | inr l ↦ get_or_past (forget_register r f).regs (slot r) Other (omega (arith, length-set f.regs (slot r) Other, l))
]

lost_other : (r : ℕ) (f : Fact) (k : ℕ) → source f k ≡ Other → source (forget_register r f) k ≡ Other
lost_other r f k e = elim (cases_eq (slot k) (slot r)) [
  | inl same ↦ lost_here r f k same
  | inr differs ↦ get_or-set_other f.regs (slot r) (slot k) Other Other differs ∙ e
]

clobbered_other : (xs : List ℕ) (f : Fact) (k : ℕ) → source f k ≡ Other → source (forget_registers xs f) k ≡ Other
clobbered_other [] f k e = e
clobbered_other (r ∷ xs) f k e = clobbered_other xs (forget_register r f) k (lost_other r f k e)

pub clobbered_here : (xs : List ℕ) (f : Fact) (k : ℕ) → list_any (λ (j : ℕ). j == k) xs ≡ true → source (forget_registers xs f) k ≡ Other
clobbered_here [] f k e = absurd cc
clobbered_here (r ∷ xs) f k e = go (r == k) refl e (clobbered_here xs (forget_register r f) k)
  where
    go : (b : Bool) → (r == k) ≡ b → (b || list_any (λ (j : ℕ). j == k) xs) ≡ true → (list_any (λ (j : ℕ). j == k) xs ≡ true → source (forget_registers xs (forget_register r f)) k ≡ Other)
        → source (forget_registers xs (forget_register r f)) k ≡ Other
    go true is h later = clobbered_other xs (forget_register r f) k (lost_here r f k (ap slot (sym (eqb-true r k is))))
    go false is h later = later h

-- what a call leaves known is r4 to r11
calls_change : (k : ℕ) → (k < 4) ⊎ ((k ≡ 12) ⊎ (k ≡ 14)) → list_any (λ (j : ℕ). j == k) call_changes ≡ true
unfolding registers_of_list
calls_change zero h = refl
calls_change (suc zero) h = refl
calls_change (suc (suc zero)) h = refl
calls_change (suc (suc (suc zero))) h = refl
calls_change k (inr (inl e)) = subst (λ n. list_any (λ (j : ℕ). j == n) call_changes ≡ true) (sym e) refl
calls_change k (inr (inr e)) = subst (λ n. list_any (λ (j : ℕ). j == n) call_changes ≡ true) (sym e) refl
calls_change (suc (suc (suc (suc k)))) (inl l) = absurd (omega (arith, l))

-- ---- after a call

-- the registers that a caller recorded, at r4 to r11 and sp
at_saved : (c : Caller) (j : ℕ) → length c.saved ≡ 8 → j < 8 → reg (regs_at c) (suc (suc (suc (suc j)))) ≡ slice_index c.saved j
at_saved c j count h = get_or_append_left c.saved (0 ∷ c.sp ∷ 0 ∷ []) 0 j (let l : j < length c.saved = omega (arith, h, count) in l)

pub at_sp : (c : Caller) → length c.saved ≡ 8 → reg (regs_at c) SP ≡ c.sp
at_sp c count = get_or-append_right c.saved (0 ∷ c.sp ∷ 0 ∷ []) 8 9 0 count (omega arith)

-- registers with r4 to r11 and sp as recorded are as the fact after the call says
pub after_call : (p : Prologue) (f : Fact) (a : Activation) (segments : List Segment) (c : Caller) (new : Regs) → length c.saved ≡ 8 → length new.r ≡ 15
    → Holds p (forget_registers call_changes f) a segments (regs_at c) → ((j : ℕ) → j < 8 → slice_index new.r (j + 4) ≡ slice_index c.saved j) → reg new SP ≡ c.sp
    → Holds p (forget_registers call_changes f) a segments new
after_call p f a segments c new count fifteen h saved sp =
    moved_holds p (forget_registers call_changes f) a segments (regs_at c) new h each (sp ∙ sym (at_sp c count))
  where
    clobbers : (k : ℕ) → (k < 4) ⊎ ((k ≡ 12) ⊎ (k ≡ 14)) → source (forget_registers call_changes f) k ≡ Other
    clobbers k e = clobbered_here call_changes f k (calls_change k e)

    past : (k : ℕ) → 15 ≤ k → reg new k ≡ reg (regs_at c) k
    past k l =
        let all : length (regs_at c).r ≤ k = omega (arith, l, length-append c.saved (0 ∷ c.sp ∷ 0 ∷ []), count) in
        get_or_past new.r k 0 (let h : length new.r ≤ k = omega (arith, fifteen, l) in h) ∙ sym (get_or_past (regs_at c).r k 0 all)

    above : (j : ℕ) → (source (forget_registers call_changes f) (suc (suc (suc (suc j)))) ≡ Other) ⊎ (reg new (suc (suc (suc (suc j)))) ≡ reg (regs_at c) (suc (suc (suc (suc j)))))
    above j = elim (cases_lt j 8) [
      | inl low ↦ inr (ap (λ n. slice_index new.r n) (let n : suc (suc (suc (suc j))) ≡ j + 4 = omega arith in n) ∙ saved j low ∙ sym (at_saved c j count low))
      | inr high ↦ elim (cases_lt j 11) [
        | inl within ↦ elim (cases_eq j 9) [
          | inl nine ↦ inr (ap (λ n. reg new (suc (suc (suc (suc n))))) nine ∙ sp ∙ sym (at_sp c count) ∙ sym (ap (λ n. reg (regs_at c) (suc (suc (suc (suc n))))) nine))
          | inr other ↦ inl (clobbers (suc (suc (suc (suc j)))) (inr (elim (cases_eq j 8) [
            | inl eight ↦ inl (omega (arith, eight))
            | inr rest ↦ inr (omega (arith, rest, other, high, within))
          ])))
        ]
        | inr far ↦ inr (past (suc (suc (suc (suc j)))) (omega (arith, far)))
      ]
    ]

    each : (k : ℕ) → (source (forget_registers call_changes f) k ≡ Other) ⊎ (reg new k ≡ reg (regs_at c) k)
    each zero = inl (clobbers zero (inl (omega arith)))
    each (suc zero) = inl (clobbers (suc zero) (inl (omega arith)))
    each (suc (suc zero)) = inl (clobbers (suc (suc zero)) (inl (omega arith)))
    each (suc (suc (suc zero))) = inl (clobbers (suc (suc (suc zero))) (inl (omega arith)))
    each (suc (suc (suc (suc j)))) = above j

pub clobbered_frame : (xs : List ℕ) (f : Fact) → ((forget_registers xs f).depth ≡ f.depth) × ((forget_registers xs f).kept ≡ f.kept) × ((forget_registers xs f).below ≡ f.below)
clobbered_frame [] f = (refl, refl, refl)
clobbered_frame (r ∷ xs) f = clobbered_frame xs (forget_register r f)
