-- What an instruction of the data group does, and what its fact says: one register is written, and both sp and memory stay.
use Rattle.std.proofs.Common.{◌≡◌, ℕ, Bool, cond, List, true, false, [], Some, None, Err, refl, sym, ap, ◌∙◌, subst, Option, pos, negsuc}
use Rattle.std.specs.Prelude.{slice_set, ◌==◌, ◌&&◌, ◌||◌}
use Rattle.std.proofs.lemmas.Option.{same_Some, none-some}
use Rattle.frame_facts.specs.declared.facts.Fact.{Fact}
use Rattle.eh_bus.specs.Memory.{Memory}
use Rattle.thumb_isa.specs.declared.instr.Instr.{Instr}
use Rattle.thumb_core.specs.Registers.{with_next, reg}
use Rattle.thumb_core.specs.Data.{data_effect, with_value}
use Rattle.thumb_core.specs.Step.{effect as done_by}
use Rattle.thumb_core.specs.declared.regs.Regs.{Regs}
use Rattle.thumb_core.specs.declared.regs.Stepped.TheVariants.{Done}
use Rattle.thumb_ahead.specs.Ahead.{nature_branches, nature_pushed_registers, branches, pushed_registers}
use Rattle.frame_facts.specs.After.{nature_effect, after_of, effect, effect_result}
use Rattle.frame_facts.specs.Branches.{nature_is_indirect, nature_returns_to}
use Rattle.frame_facts.specs.declared.cause.FrameCause.TheVariants.{IndirectBranch}
use Rattle.frame_facts.specs.declared.saves.Prologue.{Prologue}
use Rattle.frame_code.specs.Branches.{nature_reaches_next, reaches_next}
use Rattle.thumb_isa.specs.declared.instr.Instr.TheVariants.{ShiftImm, AddSubImm3, Imm8, Alu, AddRdSp}
use Rattle.thumb_isa.specs.Nature.{Derivation, Shifts, AddsThree, AddsEight, Combines, AddsToSp, Nature, Works, Derives, nature}
use Rattle.thumb_isa.proofs.Natures.{derived_instr, derived_is}
use Rattle.thumb_core.proofs.Natures.{work}
use Rattle.frame_facts.specs.Facts.{source, with_source, forget_register, sp_plus}
use Rattle.frame_facts.specs.Shifts.{shift_imm}
use Rattle.frame_facts.specs.Data.{add_sub_imm3, imm8, alu}
use Rattle.thumb_core.specs.Alu.{alu_of}
use Rattle.frame_facts.specs.Machine.{written_register, nature_works_on, works_on}

-- ---- what such an instruction is

-- the registers, or one of them written
pub record Writes (d : ℕ) (old new : List ℕ) : Type 0 where
  pub does : Bool
  pub value : ℕ
  pub is : new ≡ cond does (slice_set old d value) old

-- a fact with the same depth and kept saves
abbrev pub SameFrame : Fact → Fact → Type 0
SameFrame f g = (g.depth ≡ f.depth) × (g.kept ≡ f.kept)

same_either : (f : Fact) (b : Bool) (g h : Fact) → SameFrame f g → SameFrame f h → SameFrame f (cond b g h)
same_either f true g h x y = x
same_either f false g h x y = y

-- it goes on, takes no branch, pushes nothing, shows no cause but by its effect, which leaves depth and kept saves, and is done on registers
pub record IsData (i : Instr) (d : ℕ) : Type 0 where
  pub on : reaches_next i ≡ true
  pub taken : (regs : Regs) → branches i regs ≡ false
  pub pushes : pushed_registers i ≡ []
  pub plain : (p : Prologue) (lowers : Bool) (at : ℕ) (f : Fact) → after_of p lowers at i f ≡ effect_result None (effect p lowers at i f)
  pub frame : (p : Prologue) (lowers : Bool) (at : ℕ) (f g : Fact) → effect p lowers at i f ≡ Some g → SameFrame f g
  pub does : (size : ℕ) (regs : Regs) (m : Memory) → done_by i size regs m ≡ (Done, with_next size (data_effect i regs), m)
  pub stays : (regs : Regs) → (data_effect i regs).pc ≡ regs.pc
  pub writes : (regs : Regs) → Writes d regs.r (data_effect i regs).r

written : (d value : ℕ) (old : List ℕ) → Writes d old (slice_set old d value)
written d value old = record { does = true; value = value; is = refl }

as_was : (d : ℕ) (old : List ℕ) → Writes d old old
as_was d old = record { does = false; value = 0; is = refl }

either : (d : ℕ) (old : List ℕ) (b : Bool) (x y : Regs) → Writes d old x.r → Writes d old y.r → Writes d old (cond b x y).r
either d old true x y p q = p
either d old false x y p q = q

either_pc : (pc : ℕ) (b : Bool) (x y : Regs) → x.pc ≡ pc → y.pc ≡ pc → (cond b x y).pc ≡ pc
either_pc pc true x y p q = p
either_pc pc false x y p q = q

either_list : (d : ℕ) (old : List ℕ) (b : Bool) (x y : List ℕ) → Writes d old x → Writes d old y → Writes d old (cond b x y)
either_list d old true x y p q = p
either_list d old false x y p q = q

same_of : (f g h : Fact) → SameFrame f h → Some h ≡ Some g → SameFrame f g
same_of f g h x e = subst (SameFrame f) (same_Some h g e) x

to_d : (i : Instr) (e d : ℕ) → (let o : Option ℕ = Some e in o) ≡ Some d → IsData i e → IsData i d
to_d i e d h x = subst (IsData i) (same_Some e d h) x

derived_data : (v : Derivation) (d : ℕ) → written_register v ≡ Some d → IsData (derived_instr v) d
derived_data (Shifts op e m n) d h = to_d (ShiftImm op e m n) e d h (record {
  on = refl;
  taken = λ regs. refl;
  pushes = refl;
  plain = λ p l a f. refl;
  frame = λ p l a f g k. same_of f g (shift_imm op e m n f) (same_either f ((op == 0) && (n == 0)) (with_source f e (source f m)) (forget_register e f) (refl, refl) (refl, refl)) k;
  does = λ size regs m. refl;
  stays = λ regs. refl;
  writes = λ regs. written e _ regs.r;
})
derived_data (AddsThree sub e n imm) d h = to_d (AddSubImm3 sub e n imm) e d h (record {
  on = refl;
  taken = λ regs. refl;
  pushes = refl;
  plain = λ p l a f. refl;
  frame = λ p l a f g k. same_of f g (add_sub_imm3 sub e n imm f) (refl, refl) k;
  does = λ size regs m. refl;
  stays = λ regs. refl;
  writes = λ regs. written e _ regs.r;
})
derived_data (AddsEight op e imm) d h = to_d (Imm8 op e imm) e d h (record {
  on = refl;
  taken = λ regs. refl;
  pushes = refl;
  plain = λ p l a f. refl;
  frame = λ p l a f g k. same_of f g (imm8 op e imm f) (same_either f (op == 0) (forget_register e f) _ (refl, refl) (same_either f (op == 1) f _ (refl, refl) (refl, refl))) k;
  does = λ size regs m. refl;
  stays = λ regs. either_pc regs.pc (op == 0) (with_value e imm regs) _ refl (either_pc regs.pc (op == 1) _ _ refl (either_pc regs.pc (op == 2) _ _ refl refl));
  writes = λ regs. either e regs.r (op == 0) (with_value e imm regs) _ (written e _ regs.r) (either e regs.r (op == 1) _ _ (as_was e regs.r) (either e regs.r (op == 2) _ _ (written e _ regs.r) (written e _ regs.r)));
})
derived_data (Combines op e m) d h = to_d (Alu op e m) e d h (record {
  on = refl;
  taken = λ regs. refl;
  pushes = refl;
  plain = λ p l a f. refl;
  frame = λ p l a f g k. same_of f g (alu op e f) (same_either f ((op == 8) || (op == 10) || (op == 11)) f (forget_register e f) (refl, refl) (refl, refl)) k;
  does = λ size regs m. refl;
  stays = λ regs. refl;
  writes = λ regs. either_list e regs.r (alu_of op (reg regs e) (reg regs m) regs).written _ _ (written e _ regs.r) (as_was e regs.r);
})
derived_data (AddsToSp e (pos off)) d h = to_d (AddRdSp e (pos off)) e d h (record {
  on = refl;
  taken = λ regs. refl;
  pushes = refl;
  plain = λ p l a f. refl;
  frame = λ p l a f g k. same_of f g (with_source f e (sp_plus f (pos off))) (refl, refl) k;
  does = λ size regs m. refl;
  stays = λ regs. refl;
  writes = λ regs. written e _ regs.r;
})
derived_data (AddsToSp e (negsuc off)) d h = absurd (none-some d h)

works_data : (i : Instr) (d : ℕ) → nature i ≡ Works d → IsData i d
works_data i d s =
    let w = work i d s in
    record {
      on = ap nature_reaches_next s;
      taken = λ regs. ap (λ n. nature_branches n regs) s;
      pushes = ap nature_pushed_registers s;
      plain = λ p l a f. subst (λ n. cond (nature_is_indirect n f) (Err IndirectBranch) (effect_result (nature_returns_to p n f) (nature_effect p l a n f)) ≡ effect_result None (nature_effect p l a n f)) (sym s) refl;
      frame = λ p l a f g k. same_of f g (forget_register d f) (refl, refl) (sym (ap (λ n. nature_effect p l a n f) s) ∙ k);
      does = w.does;
      stays = w.stays;
      writes = λ regs. subst (Writes d regs.r) (sym (w.writes regs)) (written d _ regs.r);
    }

pub data_is : (i : Instr) (d : ℕ) → works_on i ≡ Some d → IsData i d
data_is i d h = by_nature (nature i) refl h
  where
    by_nature : (n : Nature) → nature i ≡ n → nature_works_on n ≡ Some d → IsData i d
    by_nature (Works e) s h = to_d i e d h (works_data i e s)
    by_nature (Derives v) s h = subst (λ j. IsData j d) (sym (derived_is i v s)) (derived_data v d h)
    by_nature n s h = absurd (none-some d h)
