-- What an instruction that is done has stored, and what it takes to take it back.
use Rattle.std.proofs.Common.{◌≡◌, ℕ, ℤ, zero, suc, ◌+◌, ◌-◌, ◌*◌, ◌%◌, ◌^◌, ◌<◌, ◌≤◌, ◌≢◌, ◌/◌, ◌==◌, nat_le, Bool, true, false, List, length, [], ◌∷◌, cond, refl, sym, subst, ap, ◌∙◌, arith, Err, Ok, Result, Option, Some, None, unwrap_or, slice_index, slice_set, get_or, take, min, ◌⊎◌, inl, inr}
use Rattle.eh_bus.specs.Memory.{Memory, load, store, store_run, fetch, fault_in, load_fault, store_fault, store_number, unless_fault}
use Rattle.eh_bus.specs.Map.{IsMap}
use Rattle.eh_bus.specs.declared.fault.BusFault.{BusFault}
use Rattle.eh_bus.proofs.AccessLaws.{splits, fault_some, passes, stored, loads_done}
use Rattle.eh_bus.proofs.UndoLaws.{store_undoable, run_undoable, fault_top}
use Rattle.thumb_isa.specs.declared.instr.Instr.{Instr}
use Rattle.thumb_isa.specs.declared.instr.Instr.TheVariants.{LdrLit, MemReg, MemImm, MemSp, Push, Pop, Stm, Ldm}
use Rattle.thumb_isa.specs.declared.instr.Decoded.{Decoded}
use Rattle.thumb_isa.specs.declared.instr.Decoded.TheVariants.{Is, Undefined, Unpredictable, NotInProfile}
use Rattle.thumb_isa.specs.declared.profile.Profile.{Profile}
use Rattle.thumb_isa.specs.Rows.{decode_result_for}
use Rattle.thumb_core.specs.declared.regs.TheConstants.{SP, PC}
use Rattle.thumb_core.specs.declared.regs.Regs.{Regs}
use Rattle.thumb_core.specs.declared.regs.CoreTrap.{CoreTrap}
use Rattle.thumb_core.specs.declared.regs.Stepped.{Stepped}
use Rattle.thumb_core.specs.declared.regs.Stepped.TheVariants.{Done, Call, Return, Gate, Trap}
use Rattle.thumb_core.specs.Registers.{write_register, reg, with_all, with_reg, with_next, word_in}
use Rattle.thumb_core.specs.Data.{forward}
use Rattle.thumb_core.specs.Words.{numbers, registers_of_list, words_in}
use Rattle.std.specs.Int.{bit_at}
use Rattle.std.proofs.lemmas.Bool.Decides.{nat_tests}
use Rattle.std.proofs.lemmas.List.{length-take-le, get_or-take, get_or-set_same, get_or-set_other}
use Rattle.std.proofs.lemmas.Bool.{cases_lt}
use Rattle.std.specs.List.{filter}
use Rattle.thumb_core.specs.Outcome.{Outcome, with_memory}
use Rattle.thumb_core.specs.Access.{store_end, load_result, store_reg, mem_reg, mem_imm, mem_sp}
use Rattle.thumb_core.specs.Branch.{register_effect}
use Rattle.thumb_core.specs.Lists.{words_of, bytes_of, load_list, ldm_end, pop_to, pop_end}
use Rattle.thumb_core.specs.Step.{effect, outcome_of, with_second, with_first, step_for, instr_of, instr_of_second, instr_of_first, instr_for}
use Rattle.thumb_core.specs.Stores.{Span, span, stores_of, stores_of_some}
use Rattle.thumb_ahead.specs.declared.undo_record.UndoRecord.{UndoRecord}
use Rattle.thumb_ahead.specs.declared.undo_record.UndoRecord.TheVariants.{Nothing, Byte, Half}
use Rattle.thumb_ahead.specs.declared.undo_record.TheConstants.{MOST}
use Rattle.thumb_ahead.specs.UndoRecord.{restore, Restores, HoldsWords, Records, CanLoad, SoFar, span_of_range, InStack, PushesInStack}
use Rattle.thumb_ahead.specs.Ahead.{pushes_some}

same_ok : (r : Result ℕ BusFault) (v w : ℕ) → r ≡ Ok v → r ≡ Ok w → v ≡ w
same_ok r v w e f = cc

not_both : (r : Result ℕ BusFault) (v : ℕ) (fault : BusFault) → r ≡ Ok v → r ≡ Err fault → ⊥
not_both r v fault e f = cc

-- ---- what was stored

pub data Wrote (s : Span) (m new : Memory) : Type 0 where
  wrote_byte : (v : ℕ) → s.size ≡ 1 → store 1 m s.start v ≡ (Ok tt, new) → Wrote s m new
  wrote_half : (v : ℕ) → s.size ≡ 2 → store 2 m s.start v ≡ (Ok tt, new) → Wrote s m new
  wrote_words : (ws : List ℕ) → s.size ≡ 4 * length ws → length ws ≤ MOST → s.start < 2 ^ 32 → store_run m s.start ws ≡ (Ok tt, new) → Wrote s m new

abbrev pub Stored : Option Span → Memory → Memory → Type 0
Stored None m new = new ≡ m
Stored (Some s) m new = Wrote s m new

-- a fact for what is done alone
abbrev pub OnDone : Stepped → Type 0 → Type 0
OnDone Done P = P
OnDone (Trap trap) P = Unit {0}
OnDone (Call target ret) P = Unit {0}
OnDone (Return to) P = Unit {0}
OnDone (Gate number) P = Unit {0}

-- an outcome stored to these bytes, where it is done
abbrev pub Did : Option Span → Memory → Outcome → Type 0
Did stores m o = OnDone o.0 (Stored stores m o.2)

pub either : {A : Type 0} (P : A → Type 0) (b : Bool) (x y : A) → P x → P y → P (cond b x y)
either P true x y px py = px
either P false x y px py = py

both : {A : Type 0} {C : Type 0} (P : A → C → Type 0) (b : Bool) (x y : A) (v w : C) → P x v → P y w → P (cond b x y) (cond b v w)
both P true x y v w px py = px
both P false x y v w px py = py

-- what leaves the memory
any_same : (what : Stepped) (m : Memory) → OnDone what (m ≡ m)
any_same Done m = refl
any_same (Trap trap) m = tt
any_same (Call target ret) m = tt
any_same (Return to) m = tt
any_same (Gate number) m = tt

same_did : (p : Stepped × Regs) (m : Memory) → Did None m (with_memory p m)
same_did p m = any_same p.0 m

-- one word is a run of one
run_one : (m new : Memory) (a v : ℕ) → store 4 m a v ≡ (Ok tt, new) → store_run m a (v ∷ []) ≡ (Ok tt, new)
run_one m new a v e = go (fault_in (λ s. store_fault 4 m.guards s a) 4 m.segments a) refl e
  where
    after : Memory
    after = record m { segments = store_number 4 m.segments a v }

    go : (o : Option BusFault) → fault_in (λ s. store_fault 4 m.guards s a) 4 m.segments a ≡ o → unless_fault o m (record m { segments = store_number 4 m.segments a v }) ≡ (Ok tt, new)
        → store_run m a (v ∷ []) ≡ (Ok tt, new)
    go None f e = rw f e
    go (Some x) f e = absurd (let p : Err x ≡ Ok tt = ap (λ (p : Result (Unit {0}) BusFault × Memory). p.0) e in cc)

store_did : (stores : Option Span) (answer : Result (Unit {0}) BusFault × Memory) (size : ℕ) (regs after : Regs) (m : Memory)
    → (answer.0 ≡ Ok tt → Stored stores m answer.1) → Did stores m (store_end answer size regs after)
store_did stores (Ok u, new) size regs after m f = f refl
store_did stores (Err fault, new) size regs after m f = tt

-- a pair by its parts
whole : (p : Result (Unit {0}) BusFault × Memory) → p.0 ≡ Ok tt → p ≡ (Ok tt, p.1)
whole (x, m) e = ap (λ (y : Result (Unit {0}) BusFault). (y, m)) e

reg_did1 : (t a size : ℕ) (regs : Regs) (m : Memory) → Did (span a 1) m (store_reg 1 t a size regs m)
reg_did1 t a size regs m =
    let answer = store 1 m a (reg regs t % 256 ^ 1) in
    store_did (span a 1) answer size regs regs m (λ done. wrote_byte (reg regs t % 256 ^ 1) refl (whole answer done))

reg_did2 : (t a size : ℕ) (regs : Regs) (m : Memory) → Did (span a 2) m (store_reg 2 t a size regs m)
reg_did2 t a size regs m =
    let answer = store 2 m a (reg regs t % 256 ^ 2) in
    store_did (span a 2) answer size regs regs m (λ done. wrote_half (reg regs t % 256 ^ 2) refl (whole answer done))

reg_did4 : (t a size : ℕ) (regs : Regs) (m : Memory) → a < 2 ^ 32 → Did (span a 4) m (store_reg 4 t a size regs m)
reg_did4 t a size regs m low =
    let answer = store 4 m a (reg regs t % 256 ^ 4) in
    store_did (span a 4) answer size regs regs m
    (λ done. wrote_words ((reg regs t % 256 ^ 4) ∷ []) refl (omega arith) low (run_one m answer.1 a (reg regs t % 256 ^ 4) (whole answer done)))

words_count : (r ks : List ℕ) → length (words_in r ks) ≡ length ks
words_count r [] = refl
words_count r (k ∷ more) = ap suc (words_count r more)

filter_few : (p : ℕ → Bool) (xs : List ℕ) → length (filter p xs) ≤ length xs
filter_few p [] = omega arith
filter_few p (x ∷ xs) = go (p x) (filter_few p xs)
  where
    go : (b : Bool) → length (filter p xs) ≤ length xs → length (cond b (x ∷ filter p xs) (filter p xs)) ≤ length (x ∷ xs)
    go true h = omega (arith, h)
    go false h = omega (arith, h)

-- a list names no more than the sixteen registers
pub listed_few : (mask : ℕ) → length (registers_of_list mask) ≤ MOST
unfolding registers_of_list
listed_few mask = filter_few (λ k. bit_at mask k == 1) numbers

words_few : (mask : ℕ) (r : List ℕ) → length (words_in r (registers_of_list mask)) ≤ MOST
words_few mask r = let few = listed_few mask in rw (words_count r (registers_of_list mask)) few

run_did : (a mask size : ℕ) (regs after : Regs) (m : Memory) → a < 2 ^ 32 → Did (span a (bytes_of mask)) m (store_end (store_run m a (words_of mask regs)) size regs after)
run_did a mask size regs after m low =
    let answer = store_run m a (words_of mask regs) in
    store_did (span a (bytes_of mask)) answer size regs after m
    (λ done. wrote_words (words_of mask regs) (ap (λ n. 4 * n) (sym (words_count regs.r (registers_of_list mask)))) (words_few mask regs.r) low (whole answer done))

forward_word : (a : ℕ) (off : ℤ) → forward a off < 2 ^ 32
forward_word a off = omega arith

low_sum : (a b : ℕ) → (a + b) % 2 ^ 32 < 2 ^ 32
low_sum a b = omega arith

-- each register is a word
abbrev pub AreWords : Regs → Type 0
AreWords regs = (k : ℕ) → slice_index regs.r k < 2 ^ 32

load_did : (answer : Result ℕ BusFault) (t size : ℕ) (regs : Regs) (m : Memory) → Did None m (with_memory (load_result answer t size regs) m)
load_did answer t size regs m = same_did (load_result answer t size regs) m

mem_reg_did : (op t n k size : ℕ) (regs : Regs) (m : Memory) → Did (stores_of (MemReg op t n k) regs) m (mem_reg op t n k size regs m)
mem_reg_did op t n k size regs m =
    let a = (reg regs n + reg regs k) % 2 ^ 32 in
    let P : Option Span → Outcome → Type 0 = λ s o. Did s m o in
    both P (op == 0) _ _ _ _ (reg_did4 t a size regs m (low_sum (reg regs n) (reg regs k))) (
    both P (op == 1) _ _ _ _ (reg_did2 t a size regs m) (
    both P (op == 2) _ _ _ _ (reg_did1 t a size regs m) (
    either (P None) (op == 3) _ _ (load_did _ t size regs m) (
    either (P None) (op == 4) _ _ (load_did _ t size regs m) (
    either (P None) (op == 5) _ _ (load_did _ t size regs m) (
    either (P None) (op == 6) _ _ (load_did _ t size regs m) (load_did _ t size regs m)))))))

mem_imm_did : (op t n : ℕ) (off : ℤ) (size : ℕ) (regs : Regs) (m : Memory) → Did (stores_of (MemImm op t n off) regs) m (mem_imm op t n off size regs m)
mem_imm_did op t n off size regs m =
    let a = forward (reg regs n) off in
    let P : Option Span → Outcome → Type 0 = λ s o. Did s m o in
    both P (op == 0) _ _ _ _ (reg_did4 t a size regs m (forward_word (reg regs n) off)) (
    both P (op == 1) _ _ _ _ (load_did _ t size regs m) (
    both P (op == 2) _ _ _ _ (reg_did1 t a size regs m) (
    both P (op == 3) _ _ _ _ (load_did _ t size regs m) (
    both P (op == 4) _ _ _ _ (reg_did2 t a size regs m) (load_did _ t size regs m)))))

mem_sp_did : (is_load : Bool) (t : ℕ) (off : ℤ) (size : ℕ) (regs : Regs) (m : Memory) → Did (stores_of (MemSp is_load t off) regs) m (mem_sp is_load t off size regs m)
mem_sp_did true t off size regs m = load_did _ t size regs m
mem_sp_did false t off size regs m = reg_did4 t (forward (reg regs SP) off) size regs m (forward_word (reg regs SP) off)

ldm_did : (answer : Result (List ℕ) BusFault) (n mask size : ℕ) (regs : Regs) (m : Memory) → Did None m (ldm_end answer n mask size regs m)
ldm_did (Ok r) n mask size regs m = refl
ldm_did (Err fault) n mask size regs m = tt

pop_did : (answer : Result (List ℕ) BusFault) (mask size : ℕ) (regs : Regs) (m : Memory) → Did None m (pop_end answer mask size regs m)
pop_did (Ok r) mask size regs m =
    same_did (pop_to (bit_at mask PC == 1) (slice_index r PC) size regs (with_all regs (write_register r SP (reg regs SP + bytes_of mask)))) m
pop_did (Err fault) mask size regs m = tt

effect_did : (i : Instr) (size : ℕ) (regs : Regs) (m : Memory) → AreWords regs → Did (stores_of i regs) m (effect i size regs m)
effect_did (LdrLit t off) size regs m small = load_did _ t size regs m
effect_did (MemReg op t n k) size regs m small = mem_reg_did op t n k size regs m
effect_did (MemImm op t n off) size regs m small = mem_imm_did op t n off size regs m
effect_did (MemSp is_load t off) size regs m small = mem_sp_did is_load t off size regs m
effect_did (Push list) size regs m small =
    run_did ((reg regs SP + (2 ^ 32 - bytes_of list)) % 2 ^ 32) list size regs _ m (low_sum (reg regs SP) (2 ^ 32 - bytes_of list))
effect_did (Pop list) size regs m small = pop_did (load_list list (reg regs SP) regs m) list size regs m
effect_did (Stm n list) size regs m small = run_did (reg regs n) list size regs _ m (small n)
effect_did (Ldm n list) size regs m small = ldm_did (load_list list (reg regs n) regs m) n list size regs m
effect_did i size regs m small = same_did (register_effect i size regs) m

-- ---- at the instruction that stands at pc

-- what holds of every effect of an instruction and of every trap holds of a step
module _ (P : Option (Instr × ℕ) → Outcome → Type 0) (p : Profile) (regs : Regs) (m : Memory)
    (acts : (i : Instr) (size : ℕ) → P (Some (i, size)) (effect i size regs m)) (traps : (trap : CoreTrap) → P None (Trap trap, regs, m)) where
  outcome_at : (d : Decoded) (first : ℕ) → P (instr_of d) (outcome_of d first regs m)
  outcome_at (Is i size) first = acts i size
  outcome_at Undefined first = traps _
  outcome_at Unpredictable first = traps _
  outcome_at NotInProfile first = traps _

  second_at : (half : Result ℕ BusFault) (first : ℕ) → P (instr_of_second p half first) (with_second p half first regs m)
  second_at (Ok second) first = outcome_at (decode_result_for p first second) first
  second_at (Err fault) first = traps _

  first_at : (half : Result ℕ BusFault) → P (instr_of_first p half m regs.pc) (with_first p half regs m)
  first_at (Ok first) =
      both P (nat_le 0xe800 first) _ _ _ _ (second_at (fetch m ((regs.pc + 2) % 2 ^ 32)) first) (outcome_at (decode_result_for p first 0) first)
  first_at (Err fault) = traps _

  pub step_at : P (instr_for p m regs.pc) (step_for p regs m)
  step_at = first_at (fetch m regs.pc)

-- the step of the instruction that stands at pc is its effect
pub step_is : (p : Profile) (regs : Regs) (m : Memory) (i : Instr) (size : ℕ) → instr_for p m regs.pc ≡ Some (i, size) → step_for p regs m ≡ effect i size regs m
step_is p regs m i size e =
    step_at (λ (at : Option (Instr × ℕ)) (o : Outcome). at ≡ Some (i, size) → o ≡ effect i size regs m) p regs m
    (λ j n f. ap (λ (at : Option (Instr × ℕ)). effect (unwrap_or at (i, size)).0 (unwrap_or at (i, size)).1 regs m) f) (λ trap f. absurd (cc)) e

pub step_did : (p : Profile) (regs : Regs) (m : Memory) → AreWords regs → Did (stores_of_some (instr_for p m regs.pc) regs) m (step_for p regs m)
step_did p regs m small = step_at (λ at o. Did (stores_of_some at regs) m o) p regs m (λ i size. effect_did i size regs m small) (λ trap. tt)

-- a step that is done
pub done_stored : (stores : Option Span) (m new : Memory) (after : Regs) (o : Outcome) → o ≡ (Done, after, new) → Did stores m o → Stored stores m new
done_stored stores m new after o e d = subst (λ (v : Outcome). Did stores m v) e d

-- ---- what was kept takes it back

byte_back : (m new : Memory) (a v : ℕ) (undo_record : UndoRecord) → IsMap m → store 1 m a v ≡ (Ok tt, new) → Records m a 1 undo_record → restore undo_record new ≡ m
byte_back m new a v undo_record x e k =
    let u = store_undoable 1 m a v new x e in
    rw (k.byte (u.loads).0 refl (u.loads).1) (ap (λ (p : Result (Unit {0}) BusFault × Memory). p.1) (u.back (u.loads).0 (u.loads).1))

half_back : (m new : Memory) (a v : ℕ) (undo_record : UndoRecord) → IsMap m → store 2 m a v ≡ (Ok tt, new) → Records m a 2 undo_record → restore undo_record new ≡ m
half_back m new a v undo_record x e k =
    let u = store_undoable 2 m a v new x e in
    rw (k.half (u.loads).0 refl (u.loads).1) (ap (λ (p : Result (Unit {0}) BusFault × Memory). p.1) (u.back (u.loads).0 (u.loads).1))

-- words that can be loaded end by the end of the stack
words_low : (m : Memory) (a n : ℕ) → IsMap m → a < 2 ^ 32 → CanLoad m a n → a + 4 * n < 2 ^ 32
words_low m a zero x low can = omega arith
words_low m a (suc n) x low can =
    let l = can n (omega arith) in
    let top = fault_top 4 (a + 4 * n) (λ s. load_fault 4 (a + 4 * n)) m.segments x.segments (loads_done 4 m.segments (a + 4 * n) l.0 l.1) in
    omega arith

words_back : (m new : Memory) (a : ℕ) (ws : List ℕ) (undo_record : UndoRecord) → IsMap m → a < 2 ^ 32 → length ws ≤ MOST → store_run m a ws ≡ (Ok tt, new)
    → Records m a (4 * length ws) undo_record → restore undo_record new ≡ m
words_back m new a ws undo_record x low few e k =
    let u = run_undoable m a ws new low x e in
    let h = k.words (length ws) refl few (words_low m a (length ws) x low u.loads) u.loads in
    let all : min (length ws) MOST ≡ length ws = omega arith in
    let count : length (take (length ws) h.words) ≡ length ws = length-take-le (length ws) h.words (omega (arith, few, h.count)) in
    let same : (i : ℕ) → i < length ws → load 4 m (a + 4 * i) ≡ Ok (get_or (take (length ws) h.words) i 0) =
    λ i l. h.all i l ∙ ap Ok (sym (get_or-take (length ws) h.words i 0 l)) in
    rw h.is (subst (λ (n : ℕ). (store_run new a (take n h.words)).1 ≡ m) (sym all) (ap (λ (p : Result (Unit {0}) BusFault × Memory). p.1) (u.back (take (length ws) h.words) count same)))

wrote_back : (s : Span) (m new : Memory) (undo_record : UndoRecord) → IsMap m → Wrote s m new → Records m s.start s.size undo_record → restore undo_record new ≡ m
wrote_back s m new undo_record x (wrote_byte v size e) k = byte_back m new s.start v undo_record x e (subst (λ n. Records m s.start n undo_record) size k)
wrote_back s m new undo_record x (wrote_half v size e) k = half_back m new s.start v undo_record x e (subst (λ n. Records m s.start n undo_record) size k)
wrote_back s m new undo_record x (wrote_words ws size few low e) k = words_back m new s.start ws undo_record x low few e (subst (λ n. Records m s.start n undo_record) size k)

-- of an instruction that stores to these bytes, if there are any
pub restored : (p : Profile) (undo_record : UndoRecord) (regs : Regs) (m : Memory) (start size : ℕ) → IsMap m → AreWords regs
    → stores_of_some (instr_for p m regs.pc) regs ≡ Some (record { start = start; size = size }) → Records m start size undo_record → Restores p undo_record regs m
restored p undo_record regs m start size x small e k after new done =
    let d = done_stored (stores_of_some (instr_for p m regs.pc) regs) m new after (step_for p regs m) done (step_did p regs m small) in
    wrote_back (record { start = start; size = size }) m new undo_record x (subst (λ (o : Option Span). Stored o m new) e d) k

pub nothing_back : (p : Profile) (regs : Regs) (m : Memory) → AreWords regs → stores_of_some (instr_for p m regs.pc) regs ≡ None → Restores p Nothing regs m
nothing_back p regs m small e after new done =
    let d = done_stored (stores_of_some (instr_for p m regs.pc) regs) m new after (step_for p regs m) done (step_did p regs m small) in
    subst (λ (o : Option Span). Stored o m new) e d

-- ---- a push

-- a fact for what is no trap
abbrev pub OnGo : Stepped → Type 0 → Type 0
OnGo (Trap trap) P = Unit {0}
OnGo Done P = P
OnGo (Call target ret) P = P
OnGo (Return to) P = P
OnGo (Gate number) P = P

pub on_go : (what : Stepped) (P : Type 0) → ((trap : CoreTrap) → what ≡ Trap trap → ⊥) → OnGo what P → P
on_go Done P h p = p
on_go (Call target ret) P h p = p
on_go (Return to) P h p = p
on_go (Gate number) P h p = p
on_go (Trap trap) P h p = absurd (h trap refl)

none_pushed : (P : Type 0) → 0 < 0 → P
none_pushed P h = absurd (omega (arith, h))

-- words that were stored are aligned
run_aligned : (m : Memory) (a w : ℕ) (ws : List ℕ) (new : Memory) → store_run m a (w ∷ ws) ≡ (Ok tt, new) → (a % 4 == 0) ≡ true
run_aligned m a w ws new e =
    let s = splits m a w ws new e in
    let t = stored 4 m a w s.mid s.first in
    fault_some 4 a (λ d. store_fault 4 m.guards d a) m.segments ((a % 4 == 0) ≡ true) (λ d p. (passes 4 m.guards d a p).aligned) t.passed

pushed_words : (m new : Memory) (a size n : ℕ) (ws : List ℕ) (regs : Regs) → IsMap m → length regs.r ≡ 15 → a < 2 ^ 32 → length ws ≡ n → 0 < n
    → store_run m a ws ≡ (Ok tt, new) → InStack n (with_next size (with_reg regs SP a))
pushed_words m new a size n [] regs x count low e some done = absurd (omega arith)
pushed_words m new a size n (w ∷ ws) regs x count low e some done =
    let u = run_undoable m a (w ∷ ws) new low x done in
    let l = (u.loads) (length ws) (omega arith) in
    let top = fault_top 4 (a + 4 * length ws) (λ s. load_fault 4 (a + 4 * length ws)) m.segments x.segments (loads_done 4 m.segments (a + 4 * length ws) l.0 l.1) in
    let ok = run_aligned m a w ws new done in
    let al : a % 4 ≡ 0 = grind (arith, nat_tests) in
    let sp : reg (with_next size (with_reg regs SP a)) SP ≡ word_in SP a = get_or-set_same regs.r 13 (word_in SP a) 0 (omega (arith, count)) in
    let is : word_in SP a ≡ a = omega arith in
    record { aligned = rw (sp, is) al; high = rw (sp, is) (omega arith) }

push_done : (answer : Result (Unit {0}) BusFault × Memory) (size n : ℕ) (regs after : Regs) → (answer.0 ≡ Ok tt → InStack n (with_next size after))
    → OnGo (store_end answer size regs after).0 (InStack n (store_end answer size regs after).1)
push_done (Ok u, new) size n regs after f = f refl
push_done (Err fault, new) size n regs after f = tt

-- an outcome pushed words of the stack, unless it is a trap, if it pushes any
abbrev pub Pushed : Option (Instr × ℕ) → Outcome → Type 0
Pushed at o = 0 < pushes_some at → OnGo o.0 (InStack (pushes_some at) o.1)

pub effect_pushed : (i : Instr) (size : ℕ) (regs : Regs) (m : Memory) → IsMap m → length regs.r ≡ 15 → Pushed (Some (i, size)) (effect i size regs m)
effect_pushed (Push list) size regs m x count some =
    let a = (reg regs SP + (2 ^ 32 - bytes_of list)) % 2 ^ 32 in
    let answer = store_run m a (words_of list regs) in
    push_done answer size (length (registers_of_list list)) regs (with_reg regs SP a)
    (λ done. pushed_words m answer.1 a size (length (registers_of_list list)) (words_of list regs) regs x count (low_sum (reg regs SP) (2 ^ 32 - bytes_of list)) (words_count regs.r (registers_of_list list)) some (whole answer done))
effect_pushed i size regs m x count some = none_pushed _ some

pub step_pushed : (p : Profile) (regs : Regs) (m : Memory) → IsMap m → length regs.r ≡ 15 → PushesInStack p (pushes_some (instr_for p m regs.pc)) regs m
step_pushed p regs m x count what after new done h some =
    let n = pushes_some (instr_for p m regs.pc) in
    let pushed = step_at (λ at o. Pushed at o) p regs m (λ i size. effect_pushed i size regs m x count) (λ trap h. tt) in
    on_go what (InStack n after) h (subst (λ (o : Outcome). OnGo o.0 (InStack n o.1)) done (pushed some))

-- ---- the words of a loop

pub one_more : (m : Memory) (at n k : ℕ) (words : List ℕ) (word : ℕ) → k < length words → k < n → load 4 m ((at + 4 * k) % 2 ^ 32) ≡ Ok word
    → SoFar m at n k words → SoFar m at n (k + 1) (slice_set words k word)
one_more m at n k words word within below e s low i l = go (cases_lt i k)
  where
    same : (at + 4 * k) % 2 ^ 32 ≡ at + 4 * k
    same = omega (arith, low, below)

    go : (i < k) ⊎ (k ≤ i) → load 4 m (at + 4 * i) ≡ Ok (slice_index (slice_set words k word) i)
    go (inl h) = rw (get_or-set_other words k i word 0 (omega (arith, h))) (s low i h)
    go (inr h) =
        let is : i ≡ k = omega (arith, h, l) in
        rw (is, get_or-set_same words k word 0 within) (rw same at e)

pub no_word : (m : Memory) (at n k : ℕ) (fault : BusFault) (P : Type 0) → k < n → load 4 m ((at + 4 * k) % 2 ^ 32) ≡ Err fault → at + 4 * n < 2 ^ 32 → CanLoad m at n → P
no_word m at n k fault P below e low can =
    let same : (at + 4 * k) % 2 ^ 32 ≡ at + 4 * k = omega (arith, low, below) in
    let l = can k below in
    absurd (differ (load 4 m (at + 4 * k)) l.0 fault l.1 (rw same at e))
  where
    differ : (r : Result ℕ BusFault) (v : ℕ) (fault : BusFault) → r ≡ Ok v → r ≡ Err fault → ⊥
    differ r v fault e f = cc

-- what can't be loaded, kept as nothing
pub records_byte : (m : Memory) (at : ℕ) (value : ℕ) → load 1 m at ≡ Ok value → Records m at 1 (Byte at value)
records_byte m at value e = record {
  byte = λ v size l. ap (Byte at) (same_ok (load 1 m at) value v e l);
  half = λ v size l. absurd (omega (arith, size));
  words = λ n size few low can. absurd (omega (arith, size));
}

pub records_no_byte : (m : Memory) (at : ℕ) (fault : BusFault) → load 1 m at ≡ Err fault → Records m at 1 Nothing
records_no_byte m at fault e = record {
  byte = λ v size l. absurd (not_both (load 1 m at) v fault l e);
  half = λ v size l. absurd (omega (arith, size));
  words = λ n size few low can. absurd (omega (arith, size));
}

pub records_half : (m : Memory) (at : ℕ) (value : ℕ) → load 2 m at ≡ Ok value → Records m at 2 (Half at value)
records_half m at value e = record {
  byte = λ v size l. absurd (omega (arith, size));
  half = λ v size l. ap (Half at) (same_ok (load 2 m at) value v e l);
  words = λ n size few low can. absurd (omega (arith, size));
}

pub records_no_half : (m : Memory) (at : ℕ) (fault : BusFault) → load 2 m at ≡ Err fault → Records m at 2 Nothing
records_no_half m at fault e = record {
  byte = λ v size l. absurd (omega (arith, size));
  half = λ v size l. absurd (not_both (load 2 m at) v fault l e);
  words = λ n size few low can. absurd (omega (arith, size));
}

pub records_words : (m : Memory) (at size : ℕ) (undo_record : UndoRecord) → size ≢ 1 → size ≢ 2
    → (at + 4 * (size / 4) < 2 ^ 32 → CanLoad m at (size / 4) → HoldsWords m at (size / 4) undo_record) → Records m at size undo_record
records_words m at size undo_record one two f = record {
  byte = λ v e l. absurd (one e);
  half = λ v e l. absurd (two e);
  words = λ n e few low can.
      let is : n ≡ size / 4 = omega (arith, e) in
      subst (λ (k : ℕ). HoldsWords m at k undo_record) (sym is) (f (rw (sym is) low) (subst (λ (k : ℕ). CanLoad m at k) is can));
}

pub records_none : (m : Memory) (at size : ℕ) → size ≢ 1 → size ≢ 2 → MOST < size / 4 → Records m at size Nothing
records_none m at size one two many = record {
  byte = λ v e l. absurd (one e);
  half = λ v e l. absurd (two e);
  words = λ n e few low can. absurd (omega (arith, e, few, many));
}

-- ---- of the instruction that was found at pc

pub back_from : (p : Profile) (undo_record : UndoRecord) (regs : Regs) (m : Memory) (i : Instr) (n start size : ℕ) → IsMap m → AreWords regs → Some (i, n) ≡ instr_for p m regs.pc
    → span_of_range (Some (start, size)) ≡ stores_of i regs → Records m start size undo_record → Restores p undo_record regs m
back_from p undo_record regs m i n start size x small at e k =
    restored p undo_record regs m start size x small (ap (λ (o : Option (Instr × ℕ)). stores_of_some o regs) (sym at) ∙ sym e) k

pub back_of_none : (p : Profile) (regs : Regs) (m : Memory) (i : Instr) (n : ℕ) → AreWords regs → Some (i, n) ≡ instr_for p m regs.pc → span_of_range None ≡ stores_of i regs
    → Restores p Nothing regs m
back_of_none p regs m i n small at e = nothing_back p regs m small (ap (λ (o : Option (Instr × ℕ)). stores_of_some o regs) (sym at) ∙ sym e)
