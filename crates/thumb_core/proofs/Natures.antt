-- The table of what instructions are fits the effects, instruction by instruction.
use Rattle.std.proofs.Common.{◌≡◌, ℕ, ℤ, None, ◌+◌, ◌-◌, ◌*◌, ◌%◌, ◌^◌, ◌==◌, Bool, true, false, cond, List, refl, ap, subst, Err, Ok, Result, inl, inr}
use Rattle.eh_bus.specs.Memory.{Memory, load, store, store_run}
use Rattle.eh_bus.specs.declared.fault.BusFault.{BusFault}
use Rattle.thumb_isa.specs.declared.instr.Instr.{Instr}
use Rattle.thumb_isa.specs.declared.instr.Instr.TheVariants.{ShiftImm, AddSubReg, AddSubImm3, Imm8, Alu, AddHigh, CmpHigh, MovHigh, Bx, Blx, LdrLit, MemReg, MemImm, MemSp, Adr, AddRdSp, AddSp, SubSp, Extend, Rev, Push, Pop, Hint, Stm, Ldm, BCond, Svc, B, Bl, Barrier, Cbz, BWide, MovW, MovT, Div}
use Rattle.thumb_core.specs.declared.alu.Answer.{Answer}
use Rattle.thumb_core.specs.declared.regs.TheConstants.{SP}
use Rattle.thumb_core.specs.declared.regs.Regs.{Regs}
use Rattle.thumb_isa.specs.Nature.{Works, nature, is_access}
use Rattle.thumb_core.specs.declared.regs.Stepped.{Stepped}
use Rattle.thumb_core.specs.declared.regs.Stepped.TheVariants.{Done}
use Rattle.thumb_core.specs.Registers.{reg, write_register, with_reg, with_next, with_flags, operand, base}
use Rattle.thumb_core.specs.Arith.{sum_of, difference_of, sum_or_difference}
use Rattle.thumb_core.specs.Shift.{shift_of}
use Rattle.thumb_core.specs.Alu.{alu_of, with_answer}
use Rattle.thumb_core.specs.Data.{forward, backward, with_value, with_sum, imm8, extension_of, reversal_of, quotient, data_effect}
use Rattle.thumb_core.specs.Outcome.{Outcome, with_memory}
use Rattle.thumb_core.specs.Access.{store_end, load_result, store_reg, mem_reg, mem_imm, mem_sp}
use Rattle.thumb_core.specs.Lists.{words_of, bytes_of, load_list, ldm_end}
use Rattle.thumb_core.specs.Branch.{register_effect}
use Rattle.thumb_core.specs.Step.{effect}
use Rattle.thumb_core.specs.Stores.{stores_of}
use Rattle.thumb_core.specs.NatureLaws.{UnlessTrap, GoesOn, Stays, Puts, PutsAtMost, Fits, NaturesFit}
use Rattle.thumb_core.proofs.Follows.{either}

-- a value in a register, and nothing written
put_one : (d value size : ℕ) (regs after : Regs) (m : Memory) → after.pc ≡ regs.pc → after.r ≡ write_register regs.r d value → Puts d size regs (Done, with_next size after, m)
put_one d value size regs after m pc r = record { value = value; on = record { done = refl; pc = ap (λ (a : ℕ). (with_next size (record regs { pc = a })).pc) pc; registers = r } }

stay : (size : ℕ) (regs after : Regs) (m : Memory) → after.pc ≡ regs.pc → after.r ≡ regs.r → Stays size regs (Done, with_next size after, m)
stay size regs after m pc r = record { done = refl; pc = ap (λ (a : ℕ). (with_next size (record regs { pc = a })).pc) pc; registers = r }

imm8_fits : (op d imm size : ℕ) (regs : Regs) (m : Memory) → PutsAtMost d size regs (Done, with_next size (imm8 op d imm regs), m)
imm8_fits op d imm size regs m =
    let P : Regs → Type 0 = λ after. PutsAtMost d size regs (Done, with_next size after, m) in
    let sum = sum_of (reg regs d) imm 0 in
    let difference = difference_of (reg regs d) imm in
    either P (op == 0) _ _ (inl (put_one d imm size regs (with_value d imm regs) m refl refl)) (
    either P (op == 1) _ _ (inr (stay size regs (with_flags regs difference) m refl refl)) (
    either P (op == 2) _ _ (inl (put_one d sum.value size regs (with_sum d sum regs) m refl refl))
    (inl (put_one d difference.value size regs (with_sum d difference regs) m refl refl))))

answer_fits : (a : Answer) (d size : ℕ) (regs : Regs) (m : Memory) → PutsAtMost d size regs (Done, with_next size (with_answer a d regs), m)
answer_fits a d size regs m = go a.written refl
  where
    go : (b : Bool) → a.written ≡ b → PutsAtMost d size regs (Done, with_next size (with_answer a d regs), m)
    go true e = inl (put_one d a.value size regs (with_answer a d regs) m refl (ap (λ (b : Bool). cond b (write_register regs.r d a.value) regs.r) e))
    go false e = inr (stay size regs (with_answer a d regs) m refl (ap (λ (b : Bool). cond b (write_register regs.r d a.value) regs.r) e))

-- ---- loads and stores

abbrev AccessFits : ℕ → ℕ → Regs → Outcome → Type 0
AccessFits t size regs o = UnlessTrap o.0 (PutsAtMost t size regs o)

load_fits : (answer : Result ℕ BusFault) (t size : ℕ) (regs : Regs) (m : Memory) → AccessFits t size regs (with_memory (load_result answer t size regs) m)
load_fits (Ok x) t size regs m = inl (put_one t x size regs (with_reg regs t x) m refl refl)
load_fits (Err fault) t size regs m = tt

store_fits : (answer : Result (Unit {0}) BusFault × Memory) (t size : ℕ) (regs : Regs) → AccessFits t size regs (store_end answer size regs regs)
store_fits (Ok u, new) t size regs = inr (stay size regs regs new refl refl)
store_fits (Err fault, new) t size regs = tt

reg_fits : (w t a size : ℕ) (regs : Regs) (m : Memory) → AccessFits t size regs (store_reg w t a size regs m)
reg_fits w t a size regs m = store_fits (store w m a (reg regs t % 256 ^ w)) t size regs

mem_reg_fits : (op t n k size : ℕ) (regs : Regs) (m : Memory) → AccessFits t size regs (mem_reg op t n k size regs m)
mem_reg_fits op t n k size regs m =
    let P : Outcome → Type 0 = λ o. AccessFits t size regs o in
    let a = (reg regs n + reg regs k) % 2 ^ 32 in
    either P (op == 0) _ _ (reg_fits 4 t a size regs m) (
    either P (op == 1) _ _ (reg_fits 2 t a size regs m) (
    either P (op == 2) _ _ (reg_fits 1 t a size regs m) (
    either P (op == 3) _ _ (load_fits _ t size regs m) (
    either P (op == 4) _ _ (load_fits _ t size regs m) (
    either P (op == 5) _ _ (load_fits _ t size regs m) (
    either P (op == 6) _ _ (load_fits _ t size regs m) (load_fits _ t size regs m)))))))

mem_imm_fits : (op t n size : ℕ) (off : ℤ) (regs : Regs) (m : Memory) → AccessFits t size regs (mem_imm op t n off size regs m)
mem_imm_fits op t n size off regs m =
    let P : Outcome → Type 0 = λ o. AccessFits t size regs o in
    let a = forward (reg regs n) off in
    either P (op == 0) _ _ (reg_fits 4 t a size regs m) (
    either P (op == 1) _ _ (load_fits _ t size regs m) (
    either P (op == 2) _ _ (reg_fits 1 t a size regs m) (
    either P (op == 3) _ _ (load_fits _ t size regs m) (
    either P (op == 4) _ _ (reg_fits 2 t a size regs m) (load_fits _ t size regs m)))))

mem_sp_fits : (is_load : Bool) (t size : ℕ) (off : ℤ) (regs : Regs) (m : Memory) → AccessFits t size regs (mem_sp is_load t off size regs m)
mem_sp_fits true t size off regs m = load_fits _ t size regs m
mem_sp_fits false t size off regs m = reg_fits 4 t (forward (reg regs SP) off) size regs m

list_fits : (answer : Result (Unit {0}) BusFault × Memory) (size : ℕ) (regs : Regs) (k x : ℕ)
    → (let o = store_end answer size regs (with_reg regs k x) in UnlessTrap o.0 (GoesOn (write_register regs.r k x) size regs o))
list_fits (Ok u, new) size regs k x = record { done = refl; pc = refl; registers = refl }
list_fits (Err fault, new) size regs k x = tt

ldm_fits : (answer : Result (List ℕ) BusFault) (n list size : ℕ) (regs : Regs) (m : Memory)
    → (let o = ldm_end answer n list size regs m in UnlessTrap o.0 (GoesOn o.1.r size regs o))
ldm_fits (Ok r) n list size regs m = record { done = refl; pc = refl; registers = refl }
ldm_fits (Err fault) n list size regs m = tt

-- ---- every instruction

pub fits : (i : Instr) (size : ℕ) (regs : Regs) (m : Memory) → Fits (nature i) size regs (effect i size regs m)
fits (ShiftImm op d k n) size regs m = inl (put_one d (shift_of op (reg regs k) n regs.c).0 size regs _ m refl refl)
fits (AddSubReg sub d n k) size regs m = put_one d (sum_or_difference sub (reg regs n) (reg regs k)).value size regs _ m refl refl
fits (AddSubImm3 sub d n imm) size regs m = inl (put_one d (sum_or_difference sub (reg regs n) imm).value size regs _ m refl refl)
fits (Imm8 op d imm) size regs m = imm8_fits op d imm size regs m
fits (Alu op d k) size regs m = answer_fits (alu_of op (reg regs d) (reg regs k) regs) d size regs m
fits (AddHigh d k) size regs m = record { value = operand regs d + operand regs k; done = refl; leaves = refl }
fits (CmpHigh n k) size regs m = stay size regs _ m refl refl
fits (MovHigh d k) size regs m = record { value = operand regs k; done = refl; leaves = refl }
fits (Bx k) size regs m = tt
fits (Blx k) size regs m = tt
fits (LdrLit t off) size regs m = load_fits (load 4 m (forward (base regs) off)) t size regs m
fits (MemReg op t n k) size regs m = mem_reg_fits op t n k size regs m
fits (MemImm op t n off) size regs m = mem_imm_fits op t n size off regs m
fits (MemSp is_load t off) size regs m = mem_sp_fits is_load t size off regs m
fits (Adr d off) size regs m = put_one d (forward (base regs) off) size regs _ m refl refl
fits (AddRdSp d off) size regs m = inl (put_one d (forward (reg regs SP) off) size regs _ m refl refl)
fits (AddSp off) size regs m = put_one SP (forward (reg regs SP) off) size regs _ m refl refl
fits (SubSp off) size regs m = put_one SP (backward (reg regs SP) off) size regs _ m refl refl
fits (Extend op d k) size regs m = put_one d (extension_of op (reg regs k)) size regs _ m refl refl
fits (Rev op d k) size regs m = put_one d (reversal_of op (reg regs k)) size regs _ m refl refl
fits (Push list) size regs m =
    let a = (reg regs SP + (2 ^ 32 - bytes_of list)) % 2 ^ 32 in
    list_fits (store_run m a (words_of list regs)) size regs SP a
fits (Pop list) size regs m = tt
fits (Hint n) size regs m = stay size regs regs m refl refl
fits (Stm n list) size regs m = list_fits (store_run m (reg regs n) (words_of list regs)) size regs n (reg regs n + bytes_of list)
fits (Ldm n list) size regs m = ldm_fits (load_list list (reg regs n) regs m) n list size regs m
fits (BCond c off) size regs m = record { done = refl; leaves = refl }
fits (Svc imm) size regs m = tt
fits (B off) size regs m = record { done = refl; leaves = refl }
fits (Bl off) size regs m = tt
fits (Barrier op option) size regs m = stay size regs regs m refl refl
fits (Cbz nonzero n off) size regs m = record { done = refl; leaves = refl }
fits (BWide off) size regs m = record { done = refl; leaves = refl }
fits (MovW d imm) size regs m = put_one d imm size regs _ m refl refl
fits (MovT d imm) size regs m = put_one d (imm * 2 ^ 16 + reg regs d % 2 ^ 16) size regs _ m refl refl
fits (Div is_signed d n k) size regs m = put_one d (quotient is_signed (reg regs n) (reg regs k)) size regs _ m refl refl

-- ---- what works on a register, by the group of the data

pub record IsWork (i : Instr) (d : ℕ) : Type 0 where
  pub does : (size : ℕ) (regs : Regs) (m : Memory) → effect i size regs m ≡ (Done, with_next size (data_effect i regs), m)
  pub value : Regs → ℕ
  pub writes : (regs : Regs) → (data_effect i regs).r ≡ write_register regs.r d (value regs)
  pub stays : (regs : Regs) → (data_effect i regs).pc ≡ regs.pc

same_register : (d k : ℕ) → Works d ≡ Works k → d ≡ k
same_register d k e = cc

work_on : (i : Instr) (d k : ℕ) → Works d ≡ Works k → IsWork i d → IsWork i k
work_on i d k e w = subst (IsWork i) (same_register d k e) w

pub work : (i : Instr) (d : ℕ) → nature i ≡ Works d → IsWork i d
work (AddSubReg sub d n k) r e =
    work_on (AddSubReg sub d n k) d r e (record { does = λ size regs m. refl; value = λ regs. (sum_or_difference sub (reg regs n) (reg regs k)).value; writes = λ regs. refl; stays = λ regs. refl })
work (Adr d off) r e = work_on (Adr d off) d r e (record { does = λ size regs m. refl; value = λ regs. forward (base regs) off; writes = λ regs. refl; stays = λ regs. refl })
work (Extend op d k) r e = work_on (Extend op d k) d r e (record { does = λ size regs m. refl; value = λ regs. extension_of op (reg regs k); writes = λ regs. refl; stays = λ regs. refl })
work (Rev op d k) r e = work_on (Rev op d k) d r e (record { does = λ size regs m. refl; value = λ regs. reversal_of op (reg regs k); writes = λ regs. refl; stays = λ regs. refl })
work (MovW d imm) r e = work_on (MovW d imm) d r e (record { does = λ size regs m. refl; value = λ regs. imm; writes = λ regs. refl; stays = λ regs. refl })
work (MovT d imm) r e = work_on (MovT d imm) d r e (record { does = λ size regs m. refl; value = λ regs. imm * 2 ^ 16 + reg regs d % 2 ^ 16; writes = λ regs. refl; stays = λ regs. refl })
work (Div is_signed d n k) r e =
    work_on (Div is_signed d n k) d r e (record { does = λ size regs m. refl; value = λ regs. quotient is_signed (reg regs n) (reg regs k); writes = λ regs. refl; stays = λ regs. refl })
work i r e = absurd cc

-- ---- the memory

same_memory : (o : Stepped × Regs) (m : Memory) → (with_memory o m).2 ≡ m
same_memory (what, after) m = refl

memory_fits : (i : Instr) (size : ℕ) (regs : Regs) (m : Memory) → is_access (nature i) ≡ false → (effect i size regs m).2 ≡ m
memory_fits (LdrLit t off) size regs m e = absurd cc
memory_fits (MemReg op t n k) size regs m e = absurd cc
memory_fits (MemImm op t n off) size regs m e = absurd cc
memory_fits (MemSp is_load t off) size regs m e = absurd cc
memory_fits (Push list) size regs m e = absurd cc
memory_fits (Pop list) size regs m e = absurd cc
memory_fits (Stm n list) size regs m e = absurd cc
memory_fits (Ldm n list) size regs m e = absurd cc
memory_fits i size regs m e = same_memory (register_effect i size regs) m

stores_fit : (i : Instr) (regs : Regs) → is_access (nature i) ≡ false → stores_of i regs ≡ None
stores_fit (MemReg op t n k) regs e = absurd cc
stores_fit (MemImm op t n off) regs e = absurd cc
stores_fit (MemSp is_load t off) regs e = absurd cc
stores_fit (Push list) regs e = absurd cc
stores_fit (Stm n list) regs e = absurd cc
stores_fit i regs e = refl

pub natures_fit : NaturesFit
natures_fit = record { registers = fits; memory = memory_fits; stores = stores_fit }
