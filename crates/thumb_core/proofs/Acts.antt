-- What the instruction at pc leaves: the bytes apart from those that it stores to, and the registers after all but `Done`.
use Rattle.std.proofs.Common.{◌≡◌, ℕ, ℤ, ◌+◌, ◌-◌, ◌*◌, ◌%◌, ◌^◌, ◌<◌, ◌==◌, nat_le, Bool, true, false, List, length, [], ◌∷◌, suc, cond, refl, subst, ap, arith, Err, Ok, Result, Option, Some, None, slice_index, inl, inr}
use Rattle.std.specs.Int.{bit_at}
use Rattle.std.proofs.lemmas.Bool.Decides.{nat_tests}
use Rattle.eh_bus.specs.Segment.{Segment}
use Rattle.eh_bus.specs.Memory.{Memory, store, store_run, fetch, fault_in, store_fault, run_fault, store_number, store_words, unless_fault}
use Rattle.eh_bus.specs.declared.fault.BusFault.{BusFault}
use Rattle.thumb_isa.specs.declared.instr.Instr.{Instr}
use Rattle.thumb_isa.specs.declared.instr.Instr.TheVariants.{Bx, Blx, LdrLit, MemReg, MemImm, MemSp, Push, Pop, Stm, Ldm, Svc, Bl}
use Rattle.thumb_isa.specs.declared.instr.Decoded.{Decoded}
use Rattle.thumb_isa.specs.declared.instr.Decoded.TheVariants.{Is, Undefined, Unpredictable, NotInProfile}
use Rattle.thumb_isa.specs.declared.profile.Profile.{Profile}
use Rattle.thumb_isa.specs.Rows.{decode_result_for}
use Rattle.thumb_core.specs.declared.regs.TheConstants.{SP, LR, PC}
use Rattle.thumb_core.specs.declared.regs.Regs.{Regs}
use Rattle.thumb_core.specs.declared.regs.CoreTrap.{CoreTrap}
use Rattle.thumb_core.specs.declared.regs.CoreTrap.TheVariants.{EvenTarget}
use Rattle.thumb_core.specs.declared.regs.Stepped.{Stepped}
use Rattle.thumb_core.specs.declared.regs.Stepped.TheVariants.{Done, Trap}
use Rattle.thumb_core.specs.Registers.{write_register, even, reg, operand, with_all, with_reg, with_pc}
use Rattle.thumb_core.specs.Data.{forward}
use Rattle.thumb_core.specs.Words.{registers_of_list, words_in}
use Rattle.thumb_core.specs.Outcome.{Outcome, with_memory}
use Rattle.thumb_core.specs.Access.{store_end, load_result, store_reg, mem_reg, mem_imm, mem_sp}
use Rattle.thumb_core.specs.Branch.{target_of, link_of, call_to, return_to, if_odd, register_effect}
use Rattle.thumb_core.specs.Lists.{words_of, bytes_of, load_list, ldm_end, pop_to, pop_end}
use Rattle.thumb_core.specs.Step.{effect, outcome_of, with_second, with_first, step_for, instr_of, instr_of_second, instr_of_first, instr_for}
use Rattle.thumb_core.specs.Stores.{Span, span, SameApart, KeepsApart, stores_of, stores_of_some}
use Rattle.thumb_core.specs.Laws.{PopsIntoPc, Acts}
use Rattle.thumb_core.proofs.PopLaws.{last_word, sp_after, kept_register}
use Rattle.thumb_core.proofs.Follows.{either}
use Rattle.thumb_core.proofs.StoreLaws.{IsWidth, store_same, run_same}

-- fifteen words
pub record AreRegisters (regs : Regs) : Type 0 where
  pub count : length regs.r ≡ 15
  pub words : (k : ℕ) → slice_index regs.r k < 2 ^ 32

-- an instruction and its size, or none
abbrev At : Type 0
At = Option (Instr × ℕ)

keeps_apart : (stores : Option Span) (m : Memory) → KeepsApart stores m m
keeps_apart None m = refl
keeps_apart (Some s) m = record { loads = λ n a q miss. refl; fetches = λ a miss. refl }

-- ---- the ways in which an instruction ends

trap_acts : (at : At) (stores : Option Span) (trap : CoreTrap) (regs : Regs) (m : Memory) → Acts at stores regs m (Trap trap, regs, m)
trap_acts at stores trap regs m = record { apart = keeps_apart stores m; leaves = refl; memory = refl }

done_acts : (at : At) (stores : Option Span) (regs after : Regs) (m new : Memory) → KeepsApart stores m new → Acts at stores regs m (Done, after, new)
done_acts at stores regs after m new apart = record { apart = apart; leaves = tt; memory = tt }

call_acts : (at : At) (target size : ℕ) (regs : Regs) (m : Memory) → Acts at None regs m (with_memory (call_to target size regs) m)
call_acts at target size regs m =
    let same : even (target % 2 ^ 32) ≡ even (even (target % 2 ^ 32) % 2 ^ 32) = omega arith in
    record {
      apart = refl;
      leaves = ap (λ (x : ℕ). record (with_reg regs LR (link_of size regs)) { pc = x }) same;
      memory = refl;
    }

-- pc takes a word, whole or the remainder
word_pc : (regs : Regs) (x : ℕ) → with_pc regs x ≡ with_pc regs (x % 2 ^ 32)
word_pc regs x = let same : even (x % 2 ^ 32) ≡ even (x % 2 ^ 32 % 2 ^ 32) = omega arith in ap (λ (y : ℕ). record regs { pc = y }) same

odd_acts : (at : At) (target : ℕ) (regs : Regs) (p : Stepped × Regs) (m : Memory) → Acts at None regs m (with_memory p m) → Acts at None regs m (with_memory (if_odd target regs p) m)
odd_acts at target regs p m f = go (target % 2 == 0)
  where
    go : (b : Bool) → Acts at None regs m (with_memory (cond b (Trap (EvenTarget target), regs) p) m)
    go true = trap_acts at None (EvenTarget target) regs m
    go false = f

-- what holds of both of two pairs holds of the ones that a test chooses
both : {A : Type 0} {C : Type 0} (P : A → C → Type 0) (b : Bool) (x y : A) (v w : C) → P x v → P y w → P (cond b x y) (cond b v w)
both P true x y v w px py = px
both P false x y v w px py = py

-- ---- instructions that leave the memory

register_acts : (i : Instr) (size : ℕ) (regs : Regs) (m : Memory) → Acts (Some (i, size)) None regs m (with_memory (register_effect i size regs) m)
register_acts (Bl off) size regs m = call_acts _ (target_of off regs) size regs m
register_acts (Blx k) size regs m = odd_acts _ (operand regs k) regs (call_to (operand regs k) size regs) m (call_acts _ (operand regs k) size regs m)
register_acts (Bx k) size regs m =
    odd_acts _ (operand regs k) regs (return_to (operand regs k) regs) m
    (record { apart = refl; leaves = inl (k, size, refl, refl, word_pc regs (operand regs k)); memory = refl })
register_acts (Svc imm) size regs m = record { apart = refl; leaves = (size, refl, refl); memory = refl }
register_acts i size regs m = record { apart = refl; leaves = tt; memory = tt }

-- ---- loads and stores

load_acts : (at : At) (answer : Result ℕ BusFault) (t size : ℕ) (regs : Regs) (m : Memory) → Acts at None regs m (with_memory (load_result answer t size regs) m)
load_acts at (Ok x) t size regs m = record { apart = refl; leaves = tt; memory = tt }
load_acts at (Err fault) t size regs m = trap_acts at None _ regs m

store_acts :
    (at : At) (s : Span) (fault : Option BusFault) (segments : List Segment) (size : ℕ) (regs after : Regs) (m : Memory)
    → (fault ≡ None → SameApart s m (record m { segments = segments }))
    → Acts at (Some s) regs m (store_end (unless_fault fault m (record m { segments = segments })) size regs after)
store_acts at s (Some fault) segments size regs after m apart = trap_acts at (Some s) _ regs m
store_acts at s None segments size regs after m apart = record { apart = apart refl; leaves = tt; memory = tt }

words_count : (r ks : List ℕ) → length (words_in r ks) ≡ length ks
words_count r [] = refl
words_count r (k ∷ more) = ap suc (words_count r more)

forward_word : (a : ℕ) (off : ℤ) → forward a off < 2 ^ 32
forward_word a off = omega arith

reg_acts : (at : At) (n t a size : ℕ) (regs : Regs) (m : Memory) → IsWidth n → a < 2 ^ 32 → Acts at (span a n) regs m (store_reg n t a size regs m)
reg_acts at n t a size regs m w l =
    let v = reg regs t % 256 ^ n in
    let new : Memory = record m { segments = store_number n m.segments a v } in
    store_acts at (record { start = a; size = n }) (fault_in (λ s. store_fault n m.guards s a) n m.segments a) (store_number n m.segments a v) size regs regs m
    (λ none. let done : store n m a v ≡ (Ok tt, new) = ap (λ f. unless_fault f m new) none in store_same n m a v new w l done)

run_acts : (at : At) (a mask size : ℕ) (regs after : Regs) (m : Memory) → a < 2 ^ 32 → Acts at (span a (bytes_of mask)) regs m (store_end (store_run m a (words_of mask regs)) size regs after)
run_acts at a mask size regs after m l =
    let words = words_of mask regs in
    let new : Memory = record m { segments = store_words m.segments a words } in
    store_acts at (record { start = a; size = bytes_of mask }) (run_fault m.guards m.segments a words) (store_words m.segments a words) size regs after m
    (λ none. let done : store_run m a words ≡ (Ok tt, new) = ap (λ f. unless_fault f m new) none in
    subst (λ n. SameApart (record { start = a; size = 4 * n }) m new) (words_count regs.r (registers_of_list mask)) (run_same m a words new l done))

low_sum : (a b : ℕ) → (a + b) % 2 ^ 32 < 2 ^ 32
low_sum a b = omega arith

mem_reg_acts : (at : At) (op t n k size : ℕ) (regs : Regs) (m : Memory) → Acts at (stores_of (MemReg op t n k) regs) regs m (mem_reg op t n k size regs m)
mem_reg_acts at op t n k size regs m =
    let a = (reg regs n + reg regs k) % 2 ^ 32 in
    let P : Option Span → Outcome → Type 0 = λ s o. Acts at s regs m o in
    let l : a < 2 ^ 32 = low_sum (reg regs n) (reg regs k) in
    both P (op == 0) _ _ _ _ (reg_acts at 4 t a size regs m (inr (inr refl)) l) (
    both P (op == 1) _ _ _ _ (reg_acts at 2 t a size regs m (inr (inl refl)) l) (
    both P (op == 2) _ _ _ _ (reg_acts at 1 t a size regs m (inl refl) l) (
    either (P None) (op == 3) _ _ (load_acts at _ t size regs m) (
    either (P None) (op == 4) _ _ (load_acts at _ t size regs m) (
    either (P None) (op == 5) _ _ (load_acts at _ t size regs m) (
    either (P None) (op == 6) _ _ (load_acts at _ t size regs m) (load_acts at _ t size regs m)))))))

mem_imm_acts : (at : At) (op t n : ℕ) (off : ℤ) (size : ℕ) (regs : Regs) (m : Memory) → Acts at (stores_of (MemImm op t n off) regs) regs m (mem_imm op t n off size regs m)
mem_imm_acts at op t n off size regs m =
    let a = forward (reg regs n) off in
    let P : Option Span → Outcome → Type 0 = λ s o. Acts at s regs m o in
    let l : a < 2 ^ 32 = forward_word (reg regs n) off in
    both P (op == 0) _ _ _ _ (reg_acts at 4 t a size regs m (inr (inr refl)) l) (
    both P (op == 1) _ _ _ _ (load_acts at _ t size regs m) (
    both P (op == 2) _ _ _ _ (reg_acts at 1 t a size regs m (inl refl) l) (
    both P (op == 3) _ _ _ _ (load_acts at _ t size regs m) (
    both P (op == 4) _ _ _ _ (reg_acts at 2 t a size regs m (inr (inl refl)) l) (load_acts at _ t size regs m)))))

mem_sp_acts : (at : At) (is_load : Bool) (t : ℕ) (off : ℤ) (size : ℕ) (regs : Regs) (m : Memory) → Acts at (stores_of (MemSp is_load t off) regs) regs m (mem_sp is_load t off size regs m)
mem_sp_acts at true t off size regs m = load_acts at _ t size regs m
mem_sp_acts at false t off size regs m = reg_acts at 4 t (forward (reg regs SP) off) size regs m (inr (inr refl)) (forward_word (reg regs SP) off)

-- ---- lists

ldm_acts : (at : At) (answer : Result (List ℕ) BusFault) (n mask size : ℕ) (regs : Regs) (m : Memory) → Acts at None regs m (ldm_end answer n mask size regs m)
ldm_acts at (Ok r) n mask size regs m = record { apart = refl; leaves = tt; memory = tt }
ldm_acts at (Err fault) n mask size regs m = trap_acts at None _ regs m

bit_set : (mask : ℕ) → (bit_at mask PC == 1) ≡ true → bit_at mask PC ≡ 1
bit_set mask e = grind (arith, nat_tests)

pop_acts : (mask size : ℕ) (regs : Regs) (m : Memory) → length regs.r ≡ 15 → (answer : Result (List ℕ) BusFault) → load_list mask (reg regs SP) regs m ≡ answer → Acts (Some (Pop mask, size)) None regs m (pop_end answer mask size regs m)
pop_acts mask size regs m count (Err fault) e = trap_acts _ None _ regs m
pop_acts mask size regs m count (Ok r) e = go (bit_at mask PC == 1) refl
  where
    returned : (set : bit_at mask PC ≡ 1) → PopsIntoPc mask (slice_index r PC % 2 ^ 32) regs m (with_pc (with_all regs (write_register r SP (reg regs SP + bytes_of mask))) (slice_index r PC))
    returned set =
        let a = reg regs SP in
        let pc = last_word mask a regs m r count set e in
        record {
          takes_pc = set;
          words = r;
          loaded = e;
          leaves = word_pc (with_all regs (write_register r SP (a + bytes_of mask))) (slice_index r PC);
          word = pc.word;
          last = pc.loaded;
          target = rw pc.last (omega arith);
          sp = sp_after mask a (a + bytes_of mask) regs m r count e;
          others = λ k other clear. kept_register mask a k (a + bytes_of mask) regs m r count e other clear;
        }

    go : (b : Bool) → (bit_at mask PC == 1) ≡ b → Acts (Some (Pop mask, size)) None regs m (with_memory (pop_to b (slice_index r PC) size regs (with_all regs (write_register r SP (reg regs SP + bytes_of mask)))) m)
    go false s = record { apart = refl; leaves = tt; memory = tt }
    go true s =
        odd_acts _ (slice_index r PC) regs _ m
        (record { apart = refl; leaves = inr (mask, size, refl, returned (bit_set mask s)); memory = refl })

-- ---- a step

pub effect_acts : (i : Instr) (size : ℕ) (regs : Regs) (m : Memory) → AreRegisters regs → Acts (Some (i, size)) (stores_of i regs) regs m (effect i size regs m)
effect_acts (LdrLit t off) size regs m small = load_acts _ _ t size regs m
effect_acts (MemReg op t n k) size regs m small = mem_reg_acts _ op t n k size regs m
effect_acts (MemImm op t n off) size regs m small = mem_imm_acts _ op t n off size regs m
effect_acts (MemSp is_load t off) size regs m small = mem_sp_acts _ is_load t off size regs m
effect_acts (Push list) size regs m small = run_acts _ ((reg regs SP + (2 ^ 32 - bytes_of list)) % 2 ^ 32) list size regs _ m (low_sum (reg regs SP) (2 ^ 32 - bytes_of list))
effect_acts (Pop list) size regs m small = pop_acts list size regs m small.count (load_list list (reg regs SP) regs m) refl
effect_acts (Stm n list) size regs m small = run_acts _ (reg regs n) list size regs _ m (small.words n)
effect_acts (Ldm n list) size regs m small = ldm_acts _ (load_list list (reg regs n) regs m) n list size regs m
effect_acts i size regs m small = register_acts i size regs m

-- what the instruction that was found does, or a trap
abbrev ActsAt : Regs → Memory → At → Outcome → Type 0
ActsAt regs m at o = Acts at (stores_of_some at regs) regs m o

outcome_acts : (d : Decoded) (first : ℕ) (regs : Regs) (m : Memory) → AreRegisters regs → ActsAt regs m (instr_of d) (outcome_of d first regs m)
outcome_acts (Is i size) first regs m small = effect_acts i size regs m small
outcome_acts Undefined first regs m small = trap_acts None None _ regs m
outcome_acts Unpredictable first regs m small = trap_acts None None _ regs m
outcome_acts NotInProfile first regs m small = trap_acts None None _ regs m

second_acts : (p : Profile) (half : Result ℕ BusFault) (first : ℕ) (regs : Regs) (m : Memory) → AreRegisters regs → ActsAt regs m (instr_of_second p half first) (with_second p half first regs m)
second_acts p (Ok second) first regs m small = outcome_acts (decode_result_for p first second) first regs m small
second_acts p (Err fault) first regs m small = trap_acts None None _ regs m

first_acts : (p : Profile) (half : Result ℕ BusFault) (regs : Regs) (m : Memory) → AreRegisters regs → ActsAt regs m (instr_of_first p half m regs.pc) (with_first p half regs m)
first_acts p (Ok first) regs m small =
    both (λ at o. ActsAt regs m at o) (nat_le 0xe800 first) _ _ _ _
    (second_acts p (fetch m ((regs.pc + 2) % 2 ^ 32)) first regs m small)
    (outcome_acts (decode_result_for p first 0) first regs m small)
first_acts p (Err fault) regs m small = trap_acts None None _ regs m

pub step_acts : (p : Profile) (regs : Regs) (m : Memory) → AreRegisters regs → Acts (instr_for p m regs.pc) (stores_of_some (instr_for p m regs.pc) regs) regs m (step_for p regs m)
step_acts p regs m small = first_acts p (fetch m regs.pc) regs m small
