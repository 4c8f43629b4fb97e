-- From the start a return too is the same over bytes and with recorded activations.
use Rattle.std.proofs.Common.{◌≡◌, ℕ, zero, suc, ◌+◌, ◌-◌, ◌%◌, ◌^◌, ◌<◌, ◌≤◌, ◌⊎◌, inl, inr, ◌==◌, Bool, true, false, not, cond, List, [], ◌∷◌, ◌++◌, length, filter, slice_index, slice_index_or, Option, Some, None, Ok, refl, sym, ap, subst, ◌∙◌, arith}
use Rattle.std.specs.Prelude.{is_some}
use Rattle.std.proofs.lemmas.Bool.{lt-leb, le-leb}
use Rattle.std.proofs.lemmas.Bool.Decides.{nat_tests}
use Rattle.std.specs.Int.{bit_at}
use Rattle.eh_bus.specs.Memory.{Memory, fault_in, load_fault, fetch_fault, or_fault, load, number_in}
use Rattle.eh_bus.specs.Map.{AreSegments, IsMap}
use Rattle.eh_bus.specs.Segment.{Segment, holds}
use Rattle.eh_bus.specs.declared.fault.BusFault.{BusFault}
use Rattle.eh_bus.specs.declared.fault.BusFault.TheVariants.{Unmapped, Unaligned, NotExecutable}
use Rattle.eh_bus.specs.declared.map.TheConstants.{STACK_END}
use Rattle.run_gates.specs.declared.gates.TheConstants.{NO_CALLER}
use Rattle.frame_check.specs.run_images.Start.{start_regs}
use Rattle.thumb_isa.specs.declared.profile.Profile.{Profile}
use Rattle.thumb_core.specs.Laws.{AreWords, Leaves, ReturnsTo, PcStands}
use Rattle.thumb_core.specs.Lists.{bytes_of, load_list}
use Rattle.thumb_core.specs.Words.{registers_of_list, numbers, loads_from, load_words}
use Rattle.thumb_core.specs.Outcome.{Outcome as Stepping}
use Rattle.thumb_core.specs.Registers.{operand, pc_operand, with_pc, all_of}
use Rattle.thumb_core.specs.Step.{step_for, instr_for, instr_of_first}
use Rattle.thumb_core.proofs.Acts.{step_acts}
use Rattle.thumb_core.proofs.Follows.{step_follows}
use Rattle.thumb_core.specs.declared.regs.TheConstants.{SP, PC}
use Rattle.thumb_core.specs.declared.regs.Regs.{Regs}
use Rattle.thumb_core.specs.declared.regs.Stepped.TheVariants.{Done, Call, Return, Gate, Trap}
use Rattle.sim_machines.specs.Program.{Program, profile_in}
use Rattle.sim_machines.specs.Start.{start_of}
use Rattle.sim_machines.specs.Machine.{machine_event}
use Rattle.sim_machines.specs.Activations.{Activation, Recorded, reg_in, memory_of, recorded_start, no_caller}
use Rattle.sim_machines.specs.ActivationMachine.{recorded_event, caller_registers, registers_after_pop, pops_some, registers_after_return, pops_back}
use Rattle.sim_machines.specs.ActivationLaws.{Matches, IsNoReturn}
use Rattle.sim_machines.specs.RecordedSlots.{FindsCaller, FirstEventsMatch}
use Rattle.sim_machines.proofs.Matching.{start_knows}
use Rattle.sim_machines.proofs.FirstEvent.{start_alike}
use Rattle.sim_machines.proofs.Returning.{returns_match}

-- ---- a halfword is fetched from an even address alone

even_fetch : (ss : List Segment) (a : ℕ) → fault_in (λ (s : Segment). fetch_fault s a) 2 ss a ≡ None → a % 2 ≡ 0
even_fetch [] a e = absurd (cc)
even_fetch (s ∷ more) a e = go (holds s a 2) (a % 2 == 0) refl (even_fetch more a) e
  where
    go : (h b : Bool) → (a % 2 == 0) ≡ b → (fault_in (λ (t : Segment). fetch_fault t a) 2 more a ≡ None → a % 2 ≡ 0)
        → cond h (cond (not b) (Some (Unaligned a)) (cond (not s.exec) (Some (NotExecutable a)) None)) (fault_in (λ (t : Segment). fetch_fault t a) 2 more a) ≡ None → a % 2 ≡ 0
    go true true f i g = grind (arith, nat_tests)
    go true false f i g = absurd (cc)
    go false b f i g = i g

some_even : (p : Profile) (m : Memory) (a : ℕ) → is_some (instr_for p m a) ≡ true → a % 2 ≡ 0
some_even p m a e = go (fault_in (λ (s : Segment). fetch_fault s a) 2 m.segments a) refl e
  where
    go : (o : Option BusFault) → fault_in (λ (s : Segment). fetch_fault s a) 2 m.segments a ≡ o → is_some (instr_of_first p (or_fault o (number_in 2 m.segments a)) m a) ≡ true → a % 2 ≡ 0
    go None f g = even_fetch m.segments a f
    go (Some fault) f g = absurd (cc)

-- ---- of the registers at the start lr alone is odd

abbrev IsEvenOrNobody : ℕ → Type 0
IsEvenOrNobody x = (x % 2 ≡ 0) ⊎ (x ≡ NO_CALLER)

abbrev Each : (ℕ → Type 0) → List ℕ → Type 0
Each P [] = Unit {0}
Each P (x ∷ xs) = P x × Each P xs

each : (xs : List ℕ) (k : ℕ) → Each (λ (x : ℕ). IsEvenOrNobody x) xs → IsEvenOrNobody (slice_index xs k)
each [] k a = inl refl
each (x ∷ xs) zero a = a.0
each (x ∷ xs) (suc k) a = each xs k a.1

start_each : (pc k : ℕ) → IsEvenOrNobody (slice_index (start_regs pc).r k)
start_each pc k =
    each (start_regs pc).r k
    (inl refl, (inl refl, (inl refl, (inl refl, (inl refl, (inl refl, (inl refl, (inl refl, (inl refl, (inl refl, (inl refl, (inl refl, (inl refl, (inl refl, (inr refl, tt)))))))))))))))

odd_is : (x : ℕ) → IsEvenOrNobody x → x % 2 ^ 32 % 2 ≡ 1 → x % 2 ^ 32 ≡ NO_CALLER
odd_is x (inl e) f = absurd (omega (arith, e, f))
odd_is x (inr e) f = rw e refl

-- ---- nothing is mapped above the stack

above : (ss : List Segment) (a : ℕ) → STACK_END ≤ a → ((i : ℕ) (d : Segment) → i < length ss → (slice_index_or ss i d).start + length (slice_index_or ss i d).bytes ≤ STACK_END)
    → (f : Segment → Option BusFault) → fault_in f 4 ss a ≡ Some (Unmapped a)
above [] a h low f = refl
above (s ∷ more) a h low f =
    let one : s.start + length s.bytes ≤ STACK_END = low 0 s (omega arith) in
    let misses : holds s a 4 ≡ false = rw (le-leb s.start a (omega arith), lt-leb (a - s.start + 4) (length s.bytes) (omega arith)) refl in
    rw misses (above more a h (λ i d l. low (suc i) d (omega arith)) f)

all_low : (ss : List Segment) → AreSegments ss → (i : ℕ) (d : Segment) → i < length ss → (slice_index_or ss i d).start + length (slice_index_or ss i d).bytes ≤ STACK_END
all_low ss p zero d h = let t = p.stack d in let a = t.starts in let b = t.sized in omega arith
all_low ss p (suc zero) d h = let t = p.pool d in let a = t.starts in let b = t.sized in omega arith
all_low ss p (suc (suc i)) d h = let t = p.image (suc (suc i)) d (omega arith) h in omega arith

no_load : (m : Memory) (a word : ℕ) → AreSegments m.segments → STACK_END ≤ a → load 4 m a ≡ Ok word → ⊥
no_load m a word p h e =
    let miss = above m.segments a h (all_low m.segments p) (λ (s : Segment). load_fault 4 a) in
    let f = rw miss at e in
    cc

few_pass : (p : ℕ → Bool) (xs : List ℕ) → length (filter p xs) ≤ length xs
few_pass p [] = omega arith
few_pass p (x ∷ xs) = go (p x) (few_pass p xs)
  where
    go : (b : Bool) → length (filter p xs) ≤ length xs → length (cond b (x ∷ filter p xs) (filter p xs)) ≤ length (x ∷ xs)
    go true h = omega arith
    go false h = omega arith

few_listed : (mask : ℕ) → length (registers_of_list mask) ≤ 16
unfolding registers_of_list
few_listed mask = few_pass (λ (k : ℕ). bit_at mask k == 1) numbers

-- ---- nor does a POP into pc load a word there

ends_in : (q : ℕ → Bool) (xs : List ℕ) → q 15 ≡ true → (k : ℕ) × (more : List ℕ) × (filter q (xs ++ (15 ∷ [])) ≡ k ∷ more)
ends_in q [] h = (15, [], rw h refl)
ends_in q (x ∷ xs) h = go (q x) (ends_in q xs h)
  where
    go : (b : Bool) → (k : ℕ) × (more : List ℕ) × (filter q (xs ++ (15 ∷ [])) ≡ k ∷ more)
        → (k : ℕ) × (more : List ℕ) × (cond b (x ∷ filter q (xs ++ (15 ∷ []))) (filter q (xs ++ (15 ∷ []))) ≡ k ∷ more)
    go true r = (x, filter q (xs ++ (15 ∷ [])), refl)
    go false r = r

some_listed : (mask : ℕ) → (bit_at mask PC == 1) ≡ true → (k : ℕ) × (more : List ℕ) × (registers_of_list mask ≡ k ∷ more)
unfolding registers_of_list
some_listed mask h = ends_in (λ k. bit_at mask k == 1) (0 ∷ 1 ∷ 2 ∷ 3 ∷ 4 ∷ 5 ∷ 6 ∷ 7 ∷ 8 ∷ 9 ∷ 10 ∷ 11 ∷ 12 ∷ 13 ∷ 14 ∷ []) h

module _ (p : Program) (map : IsMap (start_of p).memory) where
  abbrev state : Recorded
  state = recorded_start p

  first_load : (list k : ℕ) (more : List ℕ) → registers_after_pop state list (load_words state.segments (reg_in state SP) (loads_from 0 (k ∷ more)) (all_of state.regs)) ≡ None
  first_load list k more = rw (above state.segments STACK_END (omega arith) (all_low state.segments map.segments) (λ (s : Segment). load_fault 4 STACK_END)) refl

  no_pop : pops_back p state ≡ None
  no_pop = go (pops_some (instr_for (profile_in p) (memory_of state) state.regs.pc))
    where
      go : (o : Option ℕ) → registers_after_return state o ≡ None
      go None = refl
      go (Some list) = by_bit (bit_at list PC == 1) refl
        where
          by_bit : (b : Bool) → (bit_at list PC == 1) ≡ b → cond b (registers_after_pop state list (load_list list (reg_in state SP) state.regs (memory_of state))) None ≡ None
          by_bit true e =
              let ks = some_listed list e in
              subst (λ (xs : List ℕ). registers_after_pop state list (load_words state.segments (reg_in state SP) (loads_from 0 xs) (all_of state.regs)) ≡ None) (sym ks.2) (first_load list ks.0 ks.1)
          by_bit false e = refl

-- ---- the first event

module _ (p : Program) (map : IsMap (start_of p).memory) (to : ℕ) (regs : Regs) (m : Memory) (e : step_for (profile_in p) (start_of p).regs (start_of p).memory ≡ (Return to, regs, m)) where
  words : AreWords 15 (start_of p).regs.r
  words = record { count = refl; small = all_small (start_of p).regs.r (omega arith, (omega arith, (omega arith, (omega arith, (omega arith, (omega arith, (omega arith, (omega arith, (omega arith, (omega arith, (omega arith, (omega arith, (omega arith, (omega arith, (omega arith, tt))))))))))))))); aligned = refl }
    where
      all_small : (xs : List ℕ) → Each (λ (x : ℕ). x < 2 ^ 32) xs → (k : ℕ) → slice_index xs k < 2 ^ 32
      all_small [] a k = omega arith
      all_small (x ∷ xs) a zero = a.0
      all_small (x ∷ xs) a (suc k) = all_small xs a.1 k

  acting : ReturnsTo (instr_for (profile_in p) (start_of p).memory (start_of p).regs.pc) to (start_of p).regs (start_of p).memory regs
  acting =
      subst (λ (o : Stepping). Leaves (instr_for (profile_in p) (start_of p).memory (start_of p).regs.pc) o.0 (start_of p).regs (start_of p).memory o.1) e
      (step_acts (profile_in p) (start_of p).regs (start_of p).memory (record { count = words.count; words = words.small })).leaves

  odd : to % 2 ≡ 1
  odd = (subst (λ (o : Stepping). PcStands o.0 o.1) e ((step_follows (profile_in p) (start_of p).regs (start_of p).memory).stands refl)).1

  by_register : (k : ℕ) → is_some (instr_for (profile_in p) (start_of p).memory (start_of p).regs.pc) ≡ true → to ≡ operand (start_of p).regs k % 2 ^ 32 → to ≡ NO_CALLER
  by_register k at is = go (k == PC) refl is
    where
      go : (b : Bool) → (k == PC) ≡ b → to ≡ cond b (pc_operand (start_of p).regs) (slice_index (start_of p).regs.r k) % 2 ^ 32 → to ≡ NO_CALLER
      go true f i =
          let even = some_even (profile_in p) (start_of p).memory (start_of p).regs.pc at in
          let o = odd in
          absurd (omega arith)
      go false f i =
          let o : slice_index (start_of p).regs.r k % 2 ^ 32 % 2 ≡ 1 = ap (λ (x : ℕ). x % 2) (sym i) ∙ odd in
          i ∙ odd_is (slice_index (start_of p).regs.r k) (start_each (start_of p).regs.pc k) o

  nobody : (regs ≡ with_pc (start_of p).regs to) × (to ≡ NO_CALLER)
  nobody = go acting
    where
      go : ReturnsTo (instr_for (profile_in p) (start_of p).memory (start_of p).regs.pc) to (start_of p).regs (start_of p).memory regs → (regs ≡ with_pc (start_of p).regs to) × (to ≡ NO_CALLER)
      go (inl (k, size, at, is, after)) = (after, by_register k (ap is_some at) is)
      go (inr (mask, size, at, registers_after_pop)) =
          let few = few_listed mask in
          absurd (no_load (start_of p).memory ((STACK_END + (bytes_of mask - 4)) % 2 ^ 32) registers_after_pop.word map.segments (omega arith) registers_after_pop.last)

  finds : FindsCaller (recorded_start p) to regs
  finds =
      let is : regs ≡ with_pc (start_of p).regs NO_CALLER = nobody.0 ∙ ap (with_pc (start_of p).regs) nobody.1 in
      record {
        same = ap (caller_registers no_caller) is ∙ sym is;
        last = λ f. nobody.1;
        called = λ a more f n. let g : ◌≡◌ {A = List Activation} [] (a ∷ more) = f in absurd (cc);
        slots = λ g h. absurd h;
      }

pub first_match : FirstEventsMatch
first_match p input map = go (step_for (profile_in p) (start_of p).regs (start_of p).memory) refl
  where
    plain : (o : Stepping) → step_for (profile_in p) (start_of p).regs (start_of p).memory ≡ o → IsNoReturn p (recorded_start p) o.0 → Matches (machine_event p (start_of p) input) (recorded_event p (recorded_start p) input)
    plain o e h = (start_alike p).first input (subst (λ (q : Stepping). IsNoReturn p (recorded_start p) q.0) (sym e) h)

    go : (o : Stepping) → step_for (profile_in p) (start_of p).regs (start_of p).memory ≡ o → Matches (machine_event p (start_of p) input) (recorded_event p (recorded_start p) input)
    go (Done, regs, m) e = plain (Done, regs, m) e tt
    go (Call target ret, regs, m) e = plain (Call target ret, regs, m) e tt
    go (Gate number, regs, m) e = plain (Gate number, regs, m) e tt
    go (Trap trap, regs, m) e = plain (Trap trap, regs, m) e (no_pop p map)
    go (Return to, regs, m) e = returns_match p (recorded_start p) input to regs m (start_knows p) (words p map to regs m e) e (finds p map to regs m e)
