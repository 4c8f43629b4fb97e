-- What holds of every step, by the groups of instructions.
use Rattle.std.proofs.Common.{◌≡◌, ℕ, ℤ, ◌+◌, ◌-◌, ◌*◌, ◌%◌, ◌^◌, ◌==◌, nat_le, Bool, true, false, List, cond, refl, ap, ◌∙◌, arith, Err, Ok, Result, Option, Some, None, length, get_or, slice_index, inl, inr}
use Rattle.std.specs.Int.{bit_at}
use Rattle.std.proofs.lemmas.Bool.Decides.{nat_tests}
use Rattle.std.proofs.lemmas.Grind.{get_or-set_at}
use Rattle.eh_bus.specs.Segment.{Segment}
use Rattle.eh_bus.specs.Memory.{Memory, load, store, store_run, fetch, fault_in, store_fault, run_fault, store_number, store_words, unless_fault}
use Rattle.eh_bus.specs.declared.fault.BusFault.{BusFault}
use Rattle.thumb_isa.specs.declared.instr.Instr.{Instr}
use Rattle.thumb_isa.specs.declared.instr.Instr.TheVariants.{ShiftImm, AddSubReg, AddSubImm3, Imm8, Alu, AddHigh, MovHigh, Bx, Blx, LdrLit, MemReg, MemImm, MemSp, Adr, AddRdSp, AddSp, SubSp, Extend, Rev, Push, Pop, Stm, Ldm, BCond, Svc, B, Bl, Cbz, BWide, MovW, MovT, Div}
use Rattle.thumb_isa.specs.declared.instr.Decoded.{Decoded}
use Rattle.thumb_isa.specs.declared.instr.Decoded.TheVariants.{Is, Undefined, Unpredictable, NotInProfile}
use Rattle.thumb_isa.specs.declared.profile.Profile.{Profile}
use Rattle.thumb_isa.specs.Rows.{decode_result_for}
use Rattle.thumb_core.specs.declared.regs.TheConstants.{SP, LR, PC}
use Rattle.thumb_core.specs.declared.regs.Regs.{Regs}
use Rattle.thumb_core.specs.declared.regs.CoreTrap.{CoreTrap}
use Rattle.thumb_core.specs.declared.regs.CoreTrap.TheVariants.{EvenTarget}
use Rattle.thumb_core.specs.declared.regs.Stepped.{Stepped}
use Rattle.thumb_core.specs.declared.regs.Stepped.TheVariants.{Done, Gate, Trap}
use Rattle.thumb_core.specs.declared.alu.Answer.{Answer}
use Rattle.thumb_core.specs.Arith.{sum_of, difference_of, sum_or_difference}
use Rattle.thumb_core.specs.Shift.{shift_of}
use Rattle.thumb_core.specs.Registers.{write_register, word_in, even, reg, operand, base, all_of, with_all, with_reg, with_pc, with_next}
use Rattle.thumb_core.specs.Alu.{alu_of, with_answer}
use Rattle.thumb_core.specs.Data.{forward, backward, extension_of, reversal_of, quotient, imm8, data_effect}
use Rattle.thumb_core.specs.Words.{registers_of_list, loads_from}
use Rattle.thumb_core.specs.Outcome.{plain_outcome, with_memory}
use Rattle.thumb_core.specs.Access.{store_end, load_result, sign_extend_result, store_reg, load_reg, load_reg_signed, mem_reg, mem_imm, mem_sp}
use Rattle.thumb_core.specs.Branch.{passes_condition, takes_branch, target_of, branch, branch_if, compare_branch, write_high, link_of, call_to, return_to, if_odd, register_effect}
use Rattle.thumb_core.specs.Lists.{words_of, bytes_of, load_list, ldm_end, pop_to, pop_end}
use Rattle.thumb_core.specs.Step.{effect, outcome_of, with_second, with_first, step_for}
use Rattle.thumb_core.specs.Laws.{AreWords, AreSound, KeepsMap, Follows}
use Rattle.eh_bus.proofs.AccessLaws.{store_keeps, run_keeps}
use Rattle.eh_bus.proofs.MapLaws.{map_refl, store_map, run_map}
use Rattle.thumb_core.proofs.StoreLaws.{IsWidth, store_closed, run_closed}
use Rattle.thumb_core.proofs.Sound.{words_put, words_load, words_all, words_take, sound_pc}

-- what holds of both values holds of the one that a test chooses
pub either : {A : Type 0} (P : A → Type 0) (b : Bool) (x y : A) → P x → P y → P (cond b x y)
either P true x y px py = px
either P false x y px py = py

even_next : (x : ℕ) → even (x % 2 ^ 32) % 2 ≡ 0
even_next x = omega arith

same : (m : Memory) → KeepsMap m m
same m = record { map = map_refl m.segments; guards = refl; home = refl; guarded = λ g h. refl; closed = λ a l c. refl }

-- ---- the ways in which an instruction ends

trap_follows : (trap : CoreTrap) (regs : Regs) (m : Memory) → Follows regs m (Trap trap, regs, m)
trap_follows trap regs m = record { trap = (refl, refl); stands = λ _. tt; sound = λ s. s; memory = same m }

done_follows : (regs after : Regs) (m : Memory) → after.pc % 2 ≡ 0 → (AreSound regs.r regs.pc → AreSound after.r after.pc) → Follows regs m (Done, after, m)
done_follows regs after m is_even keeps = record { trap = tt; stands = λ _. is_even; sound = keeps; memory = same m }

plain_follows : (size : ℕ) (regs after : Regs) (m new : Memory) → KeepsMap m new → (AreSound regs.r regs.pc → AreWords 15 after.r) → Follows regs m (plain_outcome size after new)
plain_follows size regs after m new memory keeps = record {
  trap = tt;
  stands = λ _. even_next (after.pc + size);
  sound = λ s. sound_pc after.r (after.pc + size) (keeps s);
  memory = memory;
}

gate_follows : (number size : ℕ) (regs : Regs) (m : Memory) → Follows regs m (Gate number, with_next size regs, m)
gate_follows number size regs m = record {
  trap = tt;
  stands = λ _. even_next (regs.pc + size);
  sound = λ s. sound_pc regs.r (regs.pc + size) s.words;
  memory = same m;
}

-- ---- calls and returns

odd_word : (x : ℕ) → x % 2 ≡ 1 → even (x % 2 ^ 32) + 1 ≡ x % 2 ^ 32
odd_word x o = omega arith

odd_low : (x : ℕ) → x % 2 ≡ 1 → x % 2 ^ 32 % 2 ≡ 1
odd_low x o = omega arith

even_even : (x : ℕ) → even x % 2 ≡ 0
even_even x = omega arith

link_odd : (size : ℕ) (regs : Regs) → link_of size regs % 2 ≡ 1
link_odd size regs = omega arith

link_word : (size : ℕ) (regs : Regs) → word_in LR (link_of size regs) ≡ link_of size regs
link_word size regs = omega arith

link_read : (size : ℕ) (regs : Regs) → length regs.r ≡ 15 → get_or (write_register regs.r LR (link_of size regs)) 14 0 ≡ link_of size regs
link_read size regs count =
    get_or-set_at regs.r 14 14 (word_in LR (link_of size regs)) 0 refl (omega arith) ∙ link_word size regs

call_follows : (target size : ℕ) (regs : Regs) (m : Memory) → Follows regs m (with_memory (call_to target size regs) m)
call_follows target size regs m = record {
  trap = tt;
  stands = λ count. (refl, even_even (target % 2 ^ 32), link_read size regs count, link_odd size regs);
  sound = λ s. sound_pc (write_register regs.r LR (link_of size regs)) target (words_put 15 regs.r LR (link_of size regs) s.words);
  memory = same m;
}

return_follows : (target : ℕ) (regs after : Regs) (m : Memory) → (AreSound regs.r regs.pc → AreWords 15 after.r)
    → target % 2 ≡ 1 → Follows regs m (with_memory (return_to target after) m)
return_follows target regs after m keeps odd = record {
  trap = tt;
  stands = λ _. (odd_word target odd, odd_low target odd);
  sound = λ s. sound_pc after.r target (keeps s);
  memory = same m;
}

is_odd : (x : ℕ) → (x % 2 == 0) ≡ false → x % 2 ≡ 1
is_odd x e = grind (arith, nat_tests)

odd_follows : (target : ℕ) (regs : Regs) (p : Stepped × Regs) (m : Memory) → (target % 2 ≡ 1 → Follows regs m (with_memory p m)) → Follows regs m (with_memory (if_odd target regs p) m)
odd_follows target regs p m f = go (target % 2 == 0) refl
  where
    go : (b : Bool) → (target % 2 == 0) ≡ b → Follows regs m (with_memory (cond b (Trap (EvenTarget target), regs) p) m)
    go true e = trap_follows (EvenTarget target) regs m
    go false e = f (is_odd target e)

-- ---- instructions that leave the memory

sum_words : (d x : ℕ) (regs : Regs) → AreSound regs.r regs.pc → AreWords 15 (write_register regs.r d x)
sum_words d x regs s = words_put 15 regs.r d x s.words

answer_words : (a : Answer) (d : ℕ) (regs : Regs) → AreSound regs.r regs.pc → AreWords 15 (with_answer a d regs).r
answer_words a d regs s = either (λ r. AreWords 15 r) a.written (write_register regs.r d a.value) regs.r (sum_words d a.value regs s) s.words

imm8_words : (op d imm : ℕ) (regs : Regs) → AreSound regs.r regs.pc → AreWords 15 (imm8 op d imm regs).r
imm8_words op d imm regs s =
    either (λ (a : Regs). AreWords 15 a.r) (op == 0) _ _ (sum_words d imm regs s) (
    either (λ (a : Regs). AreWords 15 a.r) (op == 1) _ _ s.words (
    either (λ (a : Regs). AreWords 15 a.r) (op == 2) _ _ (sum_words d (sum_of (reg regs d) imm 0).value regs s)
    (sum_words d (difference_of (reg regs d) imm).value regs s)))

data_words : (i : Instr) (regs : Regs) → AreSound regs.r regs.pc → AreWords 15 (data_effect i regs).r
data_words (ShiftImm op d k n) regs s = sum_words d (shift_of op (reg regs k) n regs.c).0 regs s
data_words (AddSubReg sub d n k) regs s = sum_words d (sum_or_difference sub (reg regs n) (reg regs k)).value regs s
data_words (AddSubImm3 sub d n imm) regs s = sum_words d (sum_or_difference sub (reg regs n) imm).value regs s
data_words (Imm8 op d imm) regs s = imm8_words op d imm regs s
data_words (Alu op d k) regs s = answer_words (alu_of op (reg regs d) (reg regs k) regs) d regs s
data_words (Adr d off) regs s = sum_words d (forward (base regs) off) regs s
data_words (AddRdSp d off) regs s = sum_words d (forward (reg regs SP) off) regs s
data_words (AddSp off) regs s = sum_words SP (forward (reg regs SP) off) regs s
data_words (SubSp off) regs s = sum_words SP (backward (reg regs SP) off) regs s
data_words (Extend op d k) regs s = sum_words d (extension_of op (reg regs k)) regs s
data_words (Rev op d k) regs s = sum_words d (reversal_of op (reg regs k)) regs s
data_words (MovW d imm) regs s = sum_words d imm regs s
data_words (MovT d imm) regs s = sum_words d (imm * 2 ^ 16 + reg regs d % 2 ^ 16) regs s
data_words (Div is_signed d n k) regs s = sum_words d (quotient is_signed (reg regs n) (reg regs k)) regs s
data_words i regs s = s.words

high_sound : (d x size : ℕ) (regs : Regs) → AreSound regs.r regs.pc → AreSound (write_high d x size regs).r (write_high d x size regs).pc
high_sound d x size regs s =
    either (λ (a : Regs). AreSound a.r a.pc) (d == PC) (with_pc regs x) (with_next size (with_reg regs d x))
    (sound_pc regs.r x s.words)
    (sound_pc (write_register regs.r d x) (regs.pc + size) (sum_words d x regs s))

branch_sound : (off : ℤ) (regs : Regs) → AreSound regs.r regs.pc → AreSound (branch off regs).r (branch off regs).pc
branch_sound off regs s = sound_pc regs.r (target_of off regs) s.words

branch_if_sound : (cond : ℕ) (off : ℤ) (size : ℕ) (regs : Regs) → AreSound regs.r regs.pc → AreSound (branch_if cond off size regs).r (branch_if cond off size regs).pc
branch_if_sound condition off size regs s =
    either (λ (a : Regs). AreSound a.r a.pc) (passes_condition condition regs) (branch off regs) (with_next size regs)
    (branch_sound off regs s) (sound_pc regs.r (regs.pc + size) s.words)

compare_sound : (nonzero : Bool) (n : ℕ) (off : ℤ) (size : ℕ) (regs : Regs) → AreSound regs.r regs.pc
    → AreSound (compare_branch nonzero n off size regs).r (compare_branch nonzero n off size regs).pc
compare_sound nonzero n off size regs s =
    either (λ (a : Regs). AreSound a.r a.pc) (takes_branch nonzero (reg regs n)) (branch off regs) (with_next size regs)
    (branch_sound off regs s) (sound_pc regs.r (regs.pc + size) s.words)

high_even : (d x size : ℕ) (regs : Regs) → (write_high d x size regs).pc % 2 ≡ 0
high_even d x size regs =
    either (λ (a : Regs). a.pc % 2 ≡ 0) (d == PC) (with_pc regs x) (with_next size (with_reg regs d x)) (even_next x) (even_next (regs.pc + size))

branch_if_even : (condition : ℕ) (off : ℤ) (size : ℕ) (regs : Regs) → (branch_if condition off size regs).pc % 2 ≡ 0
branch_if_even condition off size regs =
    either (λ (a : Regs). a.pc % 2 ≡ 0) (passes_condition condition regs) (branch off regs) (with_next size regs) (even_next (target_of off regs)) (even_next (regs.pc + size))

compare_even : (nonzero : Bool) (n : ℕ) (off : ℤ) (size : ℕ) (regs : Regs) → (compare_branch nonzero n off size regs).pc % 2 ≡ 0
compare_even nonzero n off size regs =
    either (λ (a : Regs). a.pc % 2 ≡ 0) (takes_branch nonzero (reg regs n)) (branch off regs) (with_next size regs) (even_next (target_of off regs)) (even_next (regs.pc + size))

register_follows : (i : Instr) (size : ℕ) (regs : Regs) (m : Memory) → Follows regs m (with_memory (register_effect i size regs) m)
register_follows (AddHigh d k) size regs m =
    let x = operand regs d + operand regs k in
    done_follows regs (write_high d x size regs) m (high_even d x size regs) (λ s. high_sound d x size regs s)
register_follows (MovHigh d k) size regs m =
    let x = operand regs k in
    done_follows regs (write_high d x size regs) m (high_even d x size regs) (λ s. high_sound d x size regs s)
register_follows (BCond condition off) size regs m =
    done_follows regs (branch_if condition off size regs) m (branch_if_even condition off size regs) (λ s. branch_if_sound condition off size regs s)
register_follows (B off) size regs m = done_follows regs (branch off regs) m (even_next (target_of off regs)) (λ s. branch_sound off regs s)
register_follows (Bl off) size regs m = call_follows (target_of off regs) size regs m
register_follows (Blx k) size regs m =
    odd_follows (operand regs k) regs (call_to (operand regs k) size regs) m (λ odd. call_follows (operand regs k) size regs m)
register_follows (Bx k) size regs m =
    odd_follows (operand regs k) regs (return_to (operand regs k) regs) m (λ odd. return_follows (operand regs k) regs regs m (λ s. s.words) odd)
register_follows (Cbz nonzero n off) size regs m =
    done_follows regs (compare_branch nonzero n off size regs) m (compare_even nonzero n off size regs) (λ s. compare_sound nonzero n off size regs s)
register_follows (BWide off) size regs m = done_follows regs (branch off regs) m (even_next (target_of off regs)) (λ s. branch_sound off regs s)
register_follows (Svc imm) size regs m = gate_follows imm size regs m
register_follows i size regs m = plain_follows size regs (data_effect i regs) m m (same m) (λ s. data_words i regs s)

-- ---- loads and stores

load_follows : (answer : Result ℕ BusFault) (t size : ℕ) (regs : Regs) (m : Memory) → Follows regs m (with_memory (load_result answer t size regs) m)
load_follows (Ok x) t size regs m = plain_follows size regs (with_reg regs t x) m m (same m) (λ s. words_put 15 regs.r t x s.words)
load_follows (Err fault) t size regs m = trap_follows _ regs m

-- a store that is done keeps the map
store_follows :
    (fault : Option BusFault) (segments : List Segment) (size : ℕ) (regs after : Regs) (m : Memory)
    → (fault ≡ None → KeepsMap m (record m { segments = segments }))
    → (AreSound regs.r regs.pc → AreWords 15 after.r)
    → Follows regs m (store_end (unless_fault fault m (record m { segments = segments })) size regs after)
store_follows (Some fault) segments size regs after m memory keeps = trap_follows _ regs m
store_follows None segments size regs after m memory keeps =
    plain_follows size regs after m (record m { segments = segments }) (memory refl) keeps

store_memory :
    (n a v : ℕ) (m : Memory)
    → IsWidth n
    → fault_in (λ s. store_fault n m.guards s a) n m.segments a ≡ None
    → KeepsMap m (record m { segments = store_number n m.segments a v })
store_memory n a v m w none =
    let new : Memory = record m { segments = store_number n m.segments a v } in
    let done : store n m a v ≡ (Ok tt, new) = ap (λ f. unless_fault f m new) none in
    record {
      map = store_map n m a v new done;
      guards = refl;
      home = refl;
      guarded = λ g h. store_keeps n m a v new g done h;
      closed = λ g l c. store_closed n m a v new g w done l c;
    }

run_memory :
    (a : ℕ) (words : List ℕ) (m : Memory)
    → run_fault m.guards m.segments a words ≡ None
    → KeepsMap m (record m { segments = store_words m.segments a words })
run_memory a words m none =
    let new : Memory = record m { segments = store_words m.segments a words } in
    let done : store_run m a words ≡ (Ok tt, new) = ap (λ f. unless_fault f m new) none in
    record {
      map = run_map m a words new done;
      guards = refl;
      home = refl;
      guarded = λ g h. run_keeps m a words new g done h;
      closed = λ g l c. run_closed m a words new g done l c;
    }

reg_follows : (n t a size : ℕ) (regs : Regs) (m : Memory) → IsWidth n → Follows regs m (store_reg n t a size regs m)
reg_follows n t a size regs m w = store_follows _ _ size regs regs m (store_memory n a (reg regs t % 256 ^ n) m w) (λ s. s.words)

load_reg_follows : (n t a size : ℕ) (regs : Regs) (m : Memory) → Follows regs m (load_reg n t a size regs m)
load_reg_follows n t a size regs m = load_follows (load n m a) t size regs m

load_signed_follows : (n t a size : ℕ) (regs : Regs) (m : Memory) → Follows regs m (load_reg_signed n t a size regs m)
load_signed_follows n t a size regs m = load_follows (sign_extend_result n (load n m a)) t size regs m

mem_reg_follows : (op t n k size : ℕ) (regs : Regs) (m : Memory) → Follows regs m (mem_reg op t n k size regs m)
mem_reg_follows op t n k size regs m =
    let a = (reg regs n + reg regs k) % 2 ^ 32 in
    either (λ o. Follows regs m o) (op == 0) _ _ (reg_follows 4 t a size regs m (inr (inr refl))) (
    either (λ o. Follows regs m o) (op == 1) _ _ (reg_follows 2 t a size regs m (inr (inl refl))) (
    either (λ o. Follows regs m o) (op == 2) _ _ (reg_follows 1 t a size regs m (inl refl)) (
    either (λ o. Follows regs m o) (op == 3) _ _ (load_signed_follows 1 t a size regs m) (
    either (λ o. Follows regs m o) (op == 4) _ _ (load_reg_follows 4 t a size regs m) (
    either (λ o. Follows regs m o) (op == 5) _ _ (load_reg_follows 2 t a size regs m) (
    either (λ o. Follows regs m o) (op == 6) _ _ (load_reg_follows 1 t a size regs m)
    (load_signed_follows 2 t a size regs m)))))))

mem_imm_follows : (op t n : ℕ) (off : ℤ) (size : ℕ) (regs : Regs) (m : Memory) → Follows regs m (mem_imm op t n off size regs m)
mem_imm_follows op t n off size regs m =
    let a = forward (reg regs n) off in
    either (λ o. Follows regs m o) (op == 0) _ _ (reg_follows 4 t a size regs m (inr (inr refl))) (
    either (λ o. Follows regs m o) (op == 1) _ _ (load_reg_follows 4 t a size regs m) (
    either (λ o. Follows regs m o) (op == 2) _ _ (reg_follows 1 t a size regs m (inl refl)) (
    either (λ o. Follows regs m o) (op == 3) _ _ (load_reg_follows 1 t a size regs m) (
    either (λ o. Follows regs m o) (op == 4) _ _ (reg_follows 2 t a size regs m (inr (inl refl)))
    (load_reg_follows 2 t a size regs m)))))

mem_sp_follows : (is_load : Bool) (t : ℕ) (off : ℤ) (size : ℕ) (regs : Regs) (m : Memory) → Follows regs m (mem_sp is_load t off size regs m)
mem_sp_follows is_load t off size regs m =
    let a = forward (reg regs SP) off in
    either (λ o. Follows regs m o) is_load _ _ (load_reg_follows 4 t a size regs m) (reg_follows 4 t a size regs m (inr (inr refl)))

-- ---- lists

list_words : (mask a : ℕ) (regs : Regs) (m : Memory) (r : List ℕ) → load_list mask a regs m ≡ Ok r → AreSound regs.r regs.pc → AreWords 16 r
list_words mask a regs m r e s = words_load 16 m.segments a (loads_from 0 (registers_of_list mask)) (all_of regs) r e (words_all regs.r regs.pc s)

ldm_follows : (n mask a size : ℕ) (regs : Regs) (m : Memory) (answer : Result (List ℕ) BusFault) → load_list mask a regs m ≡ answer → Follows regs m (ldm_end answer n mask size regs m)
ldm_follows n mask a size regs m (Ok r) e =
    let x = reg regs n + bytes_of mask in
    plain_follows size regs (with_all regs (cond (bit_at mask n == 1) r (write_register r n x))) m m (same m)
    (λ s. words_take (cond (bit_at mask n == 1) r (write_register r n x))
    (either (λ l. AreWords 16 l) (bit_at mask n == 1) r (write_register r n x) (list_words mask a regs m r e s) (words_put 16 r n x (list_words mask a regs m r e s))))
ldm_follows n mask a size regs m (Err fault) e = trap_follows _ regs m

pop_to_follows : (b : Bool) (target size : ℕ) (regs after : Regs) (m : Memory) → (AreSound regs.r regs.pc → AreWords 15 after.r)
    → Follows regs m (with_memory (pop_to b target size regs after) m)
pop_to_follows true target size regs after m keeps = odd_follows target regs (return_to target after) m (λ odd. return_follows target regs after m keeps odd)
pop_to_follows false target size regs after m keeps = plain_follows size regs after m m (same m) keeps

pop_follows : (mask a size : ℕ) (regs : Regs) (m : Memory) (answer : Result (List ℕ) BusFault) → load_list mask a regs m ≡ answer → Follows regs m (pop_end answer mask size regs m)
pop_follows mask a size regs m (Ok r) e =
    let x = reg regs SP + bytes_of mask in
    pop_to_follows (bit_at mask PC == 1) (slice_index r PC) size regs (with_all regs (write_register r SP x)) m
    (λ s. words_take (write_register r SP x) (words_put 16 r SP x (list_words mask a regs m r e s)))
pop_follows mask a size regs m (Err fault) e = trap_follows _ regs m

-- ---- a step

pub effect_follows : (i : Instr) (size : ℕ) (regs : Regs) (m : Memory) → Follows regs m (effect i size regs m)
effect_follows (LdrLit t off) size regs m = load_reg_follows 4 t (forward (base regs) off) size regs m
effect_follows (MemReg op t n k) size regs m = mem_reg_follows op t n k size regs m
effect_follows (MemImm op t n off) size regs m = mem_imm_follows op t n off size regs m
effect_follows (MemSp is_load t off) size regs m = mem_sp_follows is_load t off size regs m
effect_follows (Push list) size regs m =
    let a = (reg regs SP + (2 ^ 32 - bytes_of list)) % 2 ^ 32 in
    store_follows _ _ size regs (with_reg regs SP a) m (run_memory a (words_of list regs) m) (λ s. words_put 15 regs.r SP a s.words)
effect_follows (Pop list) size regs m = pop_follows list (reg regs SP) size regs m (load_list list (reg regs SP) regs m) refl
effect_follows (Stm n list) size regs m =
    let x = reg regs n + bytes_of list in
    store_follows _ _ size regs (with_reg regs n x) m (run_memory (reg regs n) (words_of list regs) m) (λ s. words_put 15 regs.r n x s.words)
effect_follows (Ldm n list) size regs m = ldm_follows n list (reg regs n) size regs m (load_list list (reg regs n) regs m) refl
effect_follows i size regs m = register_follows i size regs m

outcome_follows : (d : Decoded) (first : ℕ) (regs : Regs) (m : Memory) → Follows regs m (outcome_of d first regs m)
outcome_follows (Is i size) first regs m = effect_follows i size regs m
outcome_follows Undefined first regs m = trap_follows _ regs m
outcome_follows Unpredictable first regs m = trap_follows _ regs m
outcome_follows NotInProfile first regs m = trap_follows _ regs m

second_follows : (p : Profile) (half : Result ℕ BusFault) (first : ℕ) (regs : Regs) (m : Memory) → Follows regs m (with_second p half first regs m)
second_follows p (Ok second) first regs m = outcome_follows (decode_result_for p first second) first regs m
second_follows p (Err fault) first regs m = trap_follows _ regs m

first_follows : (p : Profile) (half : Result ℕ BusFault) (regs : Regs) (m : Memory) → Follows regs m (with_first p half regs m)
first_follows p (Ok first) regs m =
    either (λ o. Follows regs m o) (nat_le 0xe800 first) _ _
    (second_follows p (fetch m ((regs.pc + 2) % 2 ^ 32)) first regs m)
    (outcome_follows (decode_result_for p first 0) first regs m)
first_follows p (Err fault) regs m = trap_follows _ regs m

pub step_follows : (p : Profile) (regs : Regs) (m : Memory) → Follows regs m (step_for p regs m)
step_follows p regs m = first_follows p (fetch m regs.pc) regs m
