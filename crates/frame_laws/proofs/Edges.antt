-- Where the core goes, instruction by instruction.
use Rattle.std.proofs.Common.{◌≡◌, ℕ, ℤ, ◌+◌, ◌-◌, ◌/◌, ◌%◌, ◌^◌, ◌<◌, ◌==◌, nat_lt, not, Bool, true, false, cond, List, None, Result, Ok, Err, inl, inr, refl, sym, ap, ◌∙◌, arith}
use Rattle.std.specs.Int.{bit_at}
use Rattle.std.proofs.lemmas.Bool.{cases_lt, lt-ltb, le-ltb}
use Rattle.std.specs.Prelude.{slice_index}
use Rattle.eh_bus.specs.Memory.{Memory, store, store_run}
use Rattle.eh_bus.specs.declared.fault.BusFault.{BusFault}
use Rattle.thumb_isa.specs.declared.instr.Instr.{Instr}
use Rattle.thumb_isa.specs.declared.instr.Instr.TheVariants.{Imm8, AddHigh, MovHigh, Bx, Blx, LdrLit, MemReg, MemImm, MemSp, Push, Pop, Stm, Ldm, BCond, Svc, B, Bl, Cbz, BWide}
use Rattle.thumb_core.specs.declared.regs.TheConstants.{SP, PC}
use Rattle.thumb_core.specs.declared.regs.Regs.{Regs}
use Rattle.thumb_core.specs.declared.regs.CoreTrap.TheVariants.{EvenTarget}
use Rattle.thumb_core.specs.declared.regs.Stepped.{Stepped}
use Rattle.thumb_core.specs.declared.regs.Stepped.TheVariants.{Done, Trap}
use Rattle.thumb_core.specs.Registers.{reg, operand, write_register, with_reg, with_pc, with_next, with_all}
use Rattle.thumb_core.specs.Data.{forward, data_effect, with_value}
use Rattle.thumb_core.specs.Branch.{passes_condition, takes_branch, branch, write_high, if_odd, call_to, return_to}
use Rattle.thumb_core.specs.Outcome.{Outcome, with_memory}
use Rattle.thumb_core.specs.Access.{store_end, load_result, store_reg, mem_reg, mem_imm}
use Rattle.thumb_core.specs.Lists.{words_of, bytes_of, load_list, ldm_end, pop_to, pop_end}
use Rattle.thumb_core.specs.Step.{effect}
use Rattle.frame_code.specs.Branches.{reaches_next, branch_target}
use Rattle.frame_laws.specs.EdgeLaws.{place_in, Leads, InstructionsFollowEdges}

abbrev Out : Instr → ℕ → Regs → Outcome → Type 0
Out i size regs o = Leads i size regs.pc o.0 o.1.pc

either : {A : Type 0} (P : A → Type 0) (b : Bool) (x y : A) → P x → P y → P (cond b x y)
either P true x y p q = p
either P false x y p q = q

-- ---- on

go_on : (i : Instr) (size : ℕ) (regs after : Regs) → reaches_next i ≡ true → after.pc ≡ regs.pc → Leads i size regs.pc Done (with_next size after).pc
go_on i size regs after on same = inl (record { on = on; pc = ap (λ (a : ℕ). place_in (a + size)) same })

store_leads : (i : Instr) (answer : Result (Unit {0}) BusFault × Memory) (size : ℕ) (regs after : Regs) → reaches_next i ≡ true → after.pc ≡ regs.pc → Out i size regs (store_end answer size regs after)
store_leads i (Ok u, new) size regs after on same = go_on i size regs after on same
store_leads i (Err fault, new) size regs after on same = refl

reg_leads : (i : Instr) (w t a size : ℕ) (regs : Regs) (m : Memory) → reaches_next i ≡ true → Out i size regs (store_reg w t a size regs m)
reg_leads i w t a size regs m on = store_leads i (store w m a (reg regs t % 256 ^ w)) size regs regs on refl

load_leads : (i : Instr) (answer : Result ℕ BusFault) (t size : ℕ) (regs : Regs) (m : Memory) → reaches_next i ≡ true → Out i size regs (with_memory (load_result answer t size regs) m)
load_leads i (Ok x) t size regs m on = go_on i size regs (with_reg regs t x) on refl
load_leads i (Err fault) t size regs m on = refl

mem_reg_leads : (op t n k size : ℕ) (regs : Regs) (m : Memory) → Out (MemReg op t n k) size regs (mem_reg op t n k size regs m)
mem_reg_leads op t n k size regs m =
    let i : Instr = MemReg op t n k in
    let P : Outcome → Type 0 = λ o. Out i size regs o in
    let a = (reg regs n + reg regs k) % 2 ^ 32 in
    either P (op == 0) _ _ (reg_leads i 4 t a size regs m refl) (
    either P (op == 1) _ _ (reg_leads i 2 t a size regs m refl) (
    either P (op == 2) _ _ (reg_leads i 1 t a size regs m refl) (
    either P (op == 3) _ _ (load_leads i _ t size regs m refl) (
    either P (op == 4) _ _ (load_leads i _ t size regs m refl) (
    either P (op == 5) _ _ (load_leads i _ t size regs m refl) (
    either P (op == 6) _ _ (load_leads i _ t size regs m refl) (load_leads i _ t size regs m refl)))))))

mem_imm_leads : (op t n size : ℕ) (off : ℤ) (regs : Regs) (m : Memory) → Out (MemImm op t n off) size regs (mem_imm op t n off size regs m)
mem_imm_leads op t n size off regs m =
    let i : Instr = MemImm op t n off in
    let P : Outcome → Type 0 = λ o. Out i size regs o in
    let a = forward (reg regs n) off in
    either P (op == 0) _ _ (reg_leads i 4 t a size regs m refl) (
    either P (op == 1) _ _ (load_leads i _ t size regs m refl) (
    either P (op == 2) _ _ (reg_leads i 1 t a size regs m refl) (
    either P (op == 3) _ _ (load_leads i _ t size regs m refl) (
    either P (op == 4) _ _ (reg_leads i 2 t a size regs m refl) (load_leads i _ t size regs m refl)))))

ldm_leads : (answer : Result (List ℕ) BusFault) (n list size : ℕ) (regs : Regs) (m : Memory) → Out (Ldm n list) size regs (ldm_end answer n list size regs m)
ldm_leads (Ok r) n list size regs m = inl (record { on = refl; pc = refl })
ldm_leads (Err fault) n list size regs m = refl

data_pc : (i : Instr) (regs : Regs) → (data_effect i regs).pc ≡ regs.pc
data_pc (Imm8 op d imm) regs =
    let P : Regs → Type 0 = λ after. after.pc ≡ regs.pc in
    either P (op == 0) (with_value d imm regs) _ refl (either P (op == 1) _ _ refl (either P (op == 2) _ _ refl refl))
data_pc i regs = refl

-- ---- elsewhere

target_same : (a c : ℕ) → ((a + 4) % 2 ^ 32 + c) % 2 ^ 32 ≡ (a + 4 + c) % 2 ^ 32
target_same a c = omega arith

whole : (a : ℕ) → place_in (a % 2 ^ 32) ≡ place_in a
whole a = let same : a % 2 ^ 32 % 2 ^ 32 ≡ a % 2 ^ 32 = omega arith in ap (λ (x : ℕ). x - x % 2) same

pub branch_to : (off : ℤ) (regs : Regs) → (branch off regs).pc ≡ place_in (forward (regs.pc + 4) off)
branch_to off regs = ap (λ (x : ℕ). place_in x) (target_same regs.pc _)

odd_leads : (i : Instr) (target size : ℕ) (regs : Regs) (p : Stepped × Regs) (m : Memory) → Out i size regs (with_memory p m) → Out i size regs (with_memory (if_odd target regs p) m)
odd_leads i target size regs p m h = go (target % 2 == 0)
  where
    go : (b : Bool) → Out i size regs (with_memory (cond b (Trap (EvenTarget target), regs) p) m)
    go true = refl
    go false = h

-- MOV and ADD into pc
high_leads : (i : Instr) (d x size : ℕ) (regs : Regs) → reaches_next i ≡ not (d == PC) → branch_target regs.pc i ≡ None → Leads i size regs.pc Done (write_high d x size regs).pc
high_leads i d x size regs on none = go (d == PC) on
  where
    go : (b : Bool) → reaches_next i ≡ not b → Leads i size regs.pc Done (cond b (with_pc regs x) (with_next size (with_reg regs d x))).pc
    go true on = inr (inr (record { on = on; target = none }))
    go false on = go_on i size regs (with_reg regs d x) on refl

-- a list has bit 15 exactly where it isn't below it
bit_of : (list : ℕ) → list < 2 ^ 16 → (bit_at list 15 == 1) ≡ not (nat_lt list (2 ^ 15))
bit_of list low = elim (cases_lt list (2 ^ 15)) [
  | inl below ↦ let bit : list / 2 ^ 15 % 2 ≡ 0 = omega (arith, below) in ap (λ (n : ℕ). n == 1) bit ∙ sym (ap not (lt-ltb list (2 ^ 15) below))
  | inr above ↦ let bit : list / 2 ^ 15 % 2 ≡ 1 = omega (arith, above, low) in ap (λ (n : ℕ). n == 1) bit ∙ sym (ap not (le-ltb list (2 ^ 15) above))
]

not_not : (a b : Bool) → a ≡ not b → b ≡ not a
not_not a true e = sym (ap not e)
not_not a false e = sym (ap not e)

pop_leads : (list size : ℕ) (regs : Regs) (m : Memory) → list < 2 ^ 16 → (answer : Result (List ℕ) BusFault) → Out (Pop list) size regs (pop_end answer list size regs m)
pop_leads list size regs m low (Err fault) = refl
pop_leads list size regs m low (Ok r) = go (bit_at list PC == 1) refl
  where
    after : Regs
    after = with_all regs (write_register r SP (reg regs SP + bytes_of list))

    go : (b : Bool) → (bit_at list PC == 1) ≡ b → Out (Pop list) size regs (with_memory (pop_to b (slice_index r PC) size regs (with_all regs (write_register r SP (reg regs SP + bytes_of list)))) m)
    go true e =
        odd_leads (Pop list) (slice_index r PC) size regs (return_to (slice_index r PC) (with_all regs (write_register r SP (reg regs SP + bytes_of list)))) m
        (record { on = not_not (bit_at list PC == 1) (nat_lt list (2 ^ 15)) (bit_of list low) ∙ ap not e; target = refl })
    go false e = inl (record { on = not_not (bit_at list PC == 1) (nat_lt list (2 ^ 15)) (bit_of list low) ∙ ap not e; pc = refl })

bl_leads : (off : ℤ) (size : ℕ) (regs : Regs) (m : Memory) → Out (Bl off) size regs (effect (Bl off) size regs m)
bl_leads off size regs m = record {
  on = refl;
  back = refl;
  target = λ at e. let same : forward (regs.pc + 4) off ≡ at = cc in branch_to off regs ∙ ap (λ (x : ℕ). place_in x) same;
}

blx_leads : (k size : ℕ) (regs : Regs) (m : Memory) → Out (Blx k) size regs (effect (Blx k) size regs m)
blx_leads k size regs m =
    odd_leads (Blx k) (operand regs k) size regs (call_to (operand regs k) size regs) m (record { on = refl; back = refl; target = λ at e. absurd cc })

edges : InstructionsFollowEdges
edges (LdrLit t off) size regs m range = load_leads (LdrLit t off) _ t size regs m refl
edges (MemReg op t n k) size regs m range = mem_reg_leads op t n k size regs m
edges (MemImm op t n off) size regs m range = mem_imm_leads op t n size off regs m
edges (MemSp true t off) size regs m range = load_leads (MemSp true t off) _ t size regs m refl
edges (MemSp false t off) size regs m range = reg_leads (MemSp false t off) 4 t _ size regs m refl
edges (Push list) size regs m range = store_leads (Push list) (store_run m _ (words_of list regs)) size regs _ refl refl
edges (Stm n list) size regs m range = store_leads (Stm n list) (store_run m _ (words_of list regs)) size regs _ refl refl
edges (Ldm n list) size regs m range = ldm_leads (load_list list (reg regs n) regs m) n list size regs m
edges (Pop list) size regs m range = pop_leads list size regs m range.1 (load_list list (reg regs SP) regs m)
edges (AddHigh d k) size regs m range = high_leads (AddHigh d k) d (operand regs d + operand regs k) size regs refl refl
edges (MovHigh d k) size regs m range = high_leads (MovHigh d k) d (operand regs k) size regs refl refl
edges (BCond condition off) size regs m range =
    either (λ (after : Regs). Leads (BCond condition off) size regs.pc Done after.pc) (passes_condition condition regs) (branch off regs) (with_next size regs)
    (inr (inl (record { target = forward (regs.pc + 4) off; is = refl; pc = branch_to off regs })))
    (inl (record { on = refl; pc = refl }))
edges (Cbz nonzero n off) size regs m range =
    either (λ (after : Regs). Leads (Cbz nonzero n off) size regs.pc Done after.pc) (takes_branch nonzero (reg regs n)) (branch off regs) (with_next size regs)
    (inr (inl (record { target = forward (regs.pc + 4) off; is = refl; pc = branch_to off regs })))
    (inl (record { on = refl; pc = refl }))
edges (BWide off) size regs m range = inr (inl (record { target = forward (regs.pc + 4) off; is = refl; pc = branch_to off regs }))
edges (B off) size regs m range = inr (inl (record { target = forward (regs.pc + 4) off; is = refl; pc = branch_to off regs }))
edges (Bl off) size regs m range = bl_leads off size regs m
edges (Blx k) size regs m range = blx_leads k size regs m
edges (Bx k) size regs m range = odd_leads (Bx k) (operand regs k) size regs (return_to (operand regs k) regs) m (record { on = refl; target = refl })
edges (Svc imm) size regs m range = (refl, record { on = refl; pc = refl })
edges i size regs m range = go_on i size regs (data_effect i regs) refl (data_pc i regs)

pub all_edges : InstructionsFollowEdges
all_edges = edges
