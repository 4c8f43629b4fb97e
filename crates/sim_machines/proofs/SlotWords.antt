-- A return with recorded activations does the same whatever the slots hold.
use Rattle.std.proofs.Common.{◌≡◌, ℕ, ◌+◌, ◌%◌, ◌^◌, ◌<◌, ◌≤◌, ◌⊎◌, inl, inr, ◌==◌, nat_le, Bool, true, false, cond, List, [], ◌∷◌, length, take, slice_index, Option, Some, None, Result, Ok, Err, refl, sym, ap, subst, ◌∙◌, arith}
use Rattle.std.specs.Int.{bit_at}
use Rattle.std.proofs.lemmas.Bool.{cases_eq, cases_lt}
use Rattle.std.proofs.lemmas.List.{get_or-set_other, get_or-set_same, get_or_past, get_or-take, length-set}
use Rattle.run_events.specs.Runs.{Event, Goes, Ends}
use Rattle.eh_bus.specs.Map.{SameMap}
use Rattle.eh_bus.specs.Memory.{Memory, fault_in, number_in, load_fault, load_number, fetch}
use Rattle.eh_bus.specs.Segment.{Segment, holds}
use Rattle.eh_bus.specs.declared.fault.BusFault.{BusFault}
use Rattle.run_gates.specs.Ends.{trap_end}
use Rattle.thumb_ahead.proofs.Stored.{step_is}
use Rattle.thumb_ahead.specs.Ahead.{pushes_some}
use Rattle.thumb_isa.specs.declared.instr.Instr.{Instr}
use Rattle.thumb_isa.specs.declared.instr.Instr.TheVariants.{Bx, Pop}
use Rattle.thumb_core.specs.Branch.{return_to}
use Rattle.thumb_core.specs.Lists.{bytes_of, load_list, pop_end, pop_to}
use Rattle.thumb_core.specs.Outcome.{Outcome as Stepping, with_memory}
use Rattle.thumb_core.specs.Registers.{operand, write_register, word_in, all_of, with_all, with_pc}
use Rattle.thumb_core.specs.Step.{step_for, instr_for, instr_of_first, instr_of_second, instr_of}
use Rattle.thumb_isa.specs.Rows.{decode_result_for}
use Rattle.thumb_core.specs.Words.{Load, registers_of_list, loads_from, load_words}
use Rattle.thumb_core.specs.declared.ends.End.{End}
use Rattle.thumb_core.specs.declared.regs.CoreTrap.TheVariants as trap
use Rattle.thumb_core.specs.declared.regs.Regs.{Regs}
use Rattle.thumb_core.specs.declared.regs.Stepped.TheVariants.{Return, Trap}
use Rattle.thumb_core.specs.declared.regs.TheConstants.{SP, LR, PC}
use Rattle.sim_machines.specs.Program.{Program, profile_in}
use Rattle.sim_machines.specs.Activations.{Activation, Caller, Recorded, reg_in, slots_of, memory_of, with_caller}
use Rattle.sim_machines.specs.ActivationMachine.{caller_registers, activations_after, with_remaining, update_slots, record_step, tests, pass_tests, with_tests, registers_after_pop, registers_after_return, pops_some, pops_back, trap_or_return, pass_step, pass_if_checked, pass_instruction, event_after_pass, recorded_event}
use Rattle.sim_machines.specs.SlotWords.{with_segments, event_over, is_free, LoadNoSlot, DifferInSlots, ReturnsReadNoSlot}

-- ---- loads from both

same_fault : (ss ts : List Segment) (a : ℕ) → SameMap ss ts → fault_in (λ (s : Segment). load_fault 4 a) 4 ts a ≡ fault_in (λ (s : Segment). load_fault 4 a) 4 ss a
same_fault [] [] a m = refl
same_fault [] (t ∷ ts) a m = absurd m
same_fault (s ∷ ss) [] a m = absurd m
same_fault (s ∷ ss) (t ∷ ts) a m =
    let q = m.0 in
    let h : holds t a 4 ≡ holds s a 4 = rw (q.start, q.size) refl in
    rw h (ap (λ (o : Option BusFault). cond (holds s a 4) (load_fault 4 a) o) (same_fault ss ts a m.1))

-- registers that agree where no activation records them
record Alike (r q : List ℕ) : Type 0 where
  size : length r ≡ length q
  same : (k : ℕ) → is_free k ≡ true → slice_index r k ≡ slice_index q k

put_same : (r q : List ℕ) (k x : ℕ) → Alike r q → Alike (write_register r k x) (write_register q k x)
put_same r q k x a = record {
  size = length-set r k (word_in k x) ∙ a.size ∙ sym (length-set q k (word_in k x));
  same = λ j free. go j free (cases_eq j k) (cases_lt k (length r));
}
  where
    go : (j : ℕ) → is_free j ≡ true → (j ≡ k) ⊎ (j ≡ k → ⊥) → (k < length r) ⊎ (length r ≤ k) → slice_index (write_register r k x) j ≡ slice_index (write_register q k x) j
    go j free (inl e) (inl l) =
        subst (λ (n : ℕ). slice_index (write_register r k x) n ≡ slice_index (write_register q k x) n) (sym e)
        (get_or-set_same r k (word_in k x) 0 l ∙ sym (get_or-set_same q k (word_in k x) 0 (let z = a.size in omega (arith, l, z))))
    go j free (inl e) (inr l) =
        let size = length-set r k (word_in k x) in
        let other = length-set q k (word_in k x) in
        let z = a.size in
        get_or_past (write_register r k x) j 0 (omega (arith, e, l, size)) ∙ sym (get_or_past (write_register q k x) j 0 (omega (arith, e, l, other, z)))
    go j free (inr n) l = get_or-set_other r k j (word_in k x) 0 n ∙ a.same j free ∙ sym (get_or-set_other q k j (word_in k x) 0 n)

put_other : (r q : List ℕ) (k x y : ℕ) → is_free k ≡ false → Alike r q → Alike (write_register r k x) (write_register q k y)
put_other r q k x y f a = record {
  size = length-set r k (word_in k x) ∙ a.size ∙ sym (length-set q k (word_in k y));
  same = λ j free.
      let n : j ≡ k → ⊥ = λ e. (let g : true ≡ false = sym free ∙ ap is_free e ∙ f in cc) in
      get_or-set_other r k j (word_in k x) 0 n ∙ a.same j free ∙ sym (get_or-set_other q k j (word_in k y) 0 n);
}

abbrev there : ℕ → Load → ℕ
there base w = (base + w.at) % 2 ^ 32

-- both are loaded, or both meet the same fault
abbrev Both : Result (List ℕ) BusFault → Result (List ℕ) BusFault → Type 0
Both (Ok r) (Ok q) = Alike r q
Both (Err e) (Err f) = e ≡ f
Both (Ok r) (Err f) = ⊥
Both (Err e) (Ok q) = ⊥

module _ (s : Recorded) (segments : List Segment) (d : DifferInSlots s segments) where
  abbrev slots : List ℕ
  slots = slots_of (s.first ∷ s.outer)

  load_both : (base : ℕ) (ws : List Load) (r q : List ℕ) → Alike r q → LoadNoSlot slots base ws → Both (load_words segments base ws r) (load_words s.segments base ws q)
  load_both base [] r q a n = a
  load_both base (w ∷ more) r q a n =
      go (is_free w.reg) refl (fault_in (λ (t : Segment). load_fault 4 (there base w)) 4 s.segments (there base w)) refl (same_fault s.segments segments (there base w) d.map) (λ x y b. load_both base more x y b n.1)
    where
      go : (b : Bool) → is_free w.reg ≡ b → (o : Option BusFault) → fault_in (λ (t : Segment). load_fault 4 (there base w)) 4 s.segments (there base w) ≡ o
          → fault_in (λ (t : Segment). load_fault 4 (there base w)) 4 segments (there base w) ≡ fault_in (λ (t : Segment). load_fault 4 (there base w)) 4 s.segments (there base w)
          → ((x y : List ℕ) → Alike x y → Both (load_words segments base more x) (load_words s.segments base more y))
          → Both (load_words segments base (w ∷ more) r) (load_words s.segments base (w ∷ more) q)
      go b f (Some fault) e same later = rw (same, e) refl
      go true f None e same later =
          let equal : load_number 4 segments (there base w) ≡ load_number 4 s.segments (there base w) = d.others (there base w) (n.0 f) in
          rw (equal, e) (later (write_register r w.reg (number_in 4 s.segments (there base w))) (write_register q w.reg (number_in 4 s.segments (there base w))) (put_same r q w.reg (number_in 4 s.segments (there base w)) a))
      go false f None e same later =
          rw (same, e) (later (write_register r w.reg (number_in 4 segments (there base w))) (write_register q w.reg (number_in 4 s.segments (there base w))) (put_other r q w.reg (number_in 4 segments (there base w)) (number_in 4 s.segments (there base w)) f a))

-- ---- a POP into pc

module _ (p : Program) (u : Recorded) (input : List ℕ) where
  -- a return's target plays no part
  any_target : (a b : ℕ) (regs : Regs) (m : Memory) → event_after_pass p u (with_tests p u (Return a) regs m) input ≡ event_after_pass p u (with_tests p u (Return b) regs m) input
  any_target a b regs m = go (tests p u (Return a) regs)
    where
      go : (o : Option End) → event_after_pass p u (pass_tests p u (Return a) regs m o) input ≡ event_after_pass p u (pass_tests p u (Return b) regs m o) input
      go (Some end) = refl
      go None = refl

  abbrev by_load : ℕ → Result (List ℕ) BusFault → Event Recorded End
  by_load list (Ok words) =
      event_after_pass p u (with_tests p u (Return u.first.caller.back) (caller_registers u.first.caller (with_all u.regs (write_register words SP (reg_in u SP + bytes_of list)))) (memory_of u)) input
  by_load list (Err why) = Ends (trap_end (trap.Memory why) u.regs.pc) u

  module _ (list size : ℕ) (at : instr_for (profile_in p) (memory_of u) u.regs.pc ≡ Some (Pop list, size)) (takes : (bit_at list PC == 1) ≡ true) where
    abbrev loaded : Result (List ℕ) BusFault
    loaded = load_list list (reg_in u SP) u.regs (memory_of u)

    goes_back : (o : Result (List ℕ) BusFault) → loaded ≡ o → pops_back p u ≡ registers_after_pop u list o
    goes_back o e = ap (λ (q : Option (Instr × ℕ)). registers_after_return u (pops_some q)) at ∙ ap (λ (b : Bool). cond b (registers_after_pop u list loaded) None) takes ∙ ap (registers_after_pop u list) e

    abbrev after : List ℕ → Regs
    after words = with_all u.regs (write_register words SP (reg_in u SP + bytes_of list))

    by_end : (o : Result (List ℕ) BusFault) → loaded ≡ o → event_after_pass p u (pass_step p u (pop_end o list size u.regs (memory_of u))) input ≡ by_load list o
    by_end (Err why) e = ap (λ (q : Option Regs). event_after_pass p u (trap_or_return p u (trap.Memory why) q) input) (goes_back (Err why) e)
    by_end (Ok words) e =
        ap (λ (b : Bool). event_after_pass p u (pass_step p u (with_memory (pop_to b (slice_index words PC) size u.regs (after words)) (memory_of u))) input) takes ∙ go ((slice_index words PC) % 2 == 0)
      where
        go : (b : Bool) → event_after_pass p u (pass_step p u (with_memory (cond b (Trap (trap.EvenTarget (slice_index words PC)), u.regs) (return_to (slice_index words PC) (after words))) (memory_of u))) input ≡ by_load list (Ok words)
        go true = ap (λ (q : Option Regs). event_after_pass p u (trap_or_return p u (trap.EvenTarget (slice_index words PC)) q) input) (goes_back (Ok words) e)
        go false = any_target ((slice_index words PC) % 2 ^ 32) u.first.caller.back (caller_registers u.first.caller (after words)) (memory_of u)

    pop_event : event_after_pass p u (pass_step p u (step_for (profile_in p) u.regs (memory_of u))) input ≡ by_load list loaded
    pop_event = ap (λ (o : Stepping). event_after_pass p u (pass_step p u o) input) (step_is (profile_in p) u.regs (memory_of u) (Pop list) size at) ∙ by_end loaded refl

-- ---- the event

module _ (p : Program) (s : Recorded) (segments : List Segment) (input : List ℕ) (d : DifferInSlots s segments) where
  abbrev t : Recorded
  t = with_segments segments s

  same_instr : instr_for (profile_in p) (memory_of t) s.regs.pc ≡ instr_for (profile_in p) (memory_of s) s.regs.pc
  same_instr = ap (λ (o : Result ℕ BusFault). instr_of_first (profile_in p) o (memory_of t) s.regs.pc) (d.code s.regs.pc) ∙ go (fetch (memory_of s) s.regs.pc)
    where
      go : (o : Result ℕ BusFault) → instr_of_first (profile_in p) o (memory_of t) s.regs.pc ≡ instr_of_first (profile_in p) o (memory_of s) s.regs.pc
      go (Ok first) =
          ap (λ (o : Result ℕ BusFault). cond (nat_le 0xe800 first) (instr_of_second (profile_in p) o first) (instr_of (decode_result_for (profile_in p) first 0))) (d.code ((s.regs.pc + 2) % 2 ^ 32))
      go (Err why) = refl

  left_over : (acts : List Activation) (u : Recorded) → with_remaining acts (with_segments segments u) ≡ with_segments segments (with_remaining acts u)
  left_over [] u = refl
  left_over (a ∷ more) u = refl

  moved_same : (to : ℕ) (regs : Regs) → record_step p t (Return to) regs (memory_of t) ≡ with_segments segments (record_step p s (Return to) regs (memory_of s))
  moved_same to regs =
      let base : ℕ → Recorded = λ n. update_slots (p.look s.regs.pc).saves n (reg_in s SP) (slice_index regs.r SP) (record s { regs = regs }) in
      ap (λ (n : ℕ). activations_after (Return to) (with_segments segments (base n))) (ap pushes_some same_instr)
      ∙ left_over (base (pushes_some (instr_for (profile_in p) (memory_of s) s.regs.pc))).outer (base (pushes_some (instr_for (profile_in p) (memory_of s) s.regs.pc)))

  back_same : (to : ℕ) (regs : Regs) → event_after_pass p t (with_tests p t (Return to) regs (memory_of t)) input ≡ event_over segments (event_after_pass p s (with_tests p s (Return to) regs (memory_of s)) input)
  back_same to regs = go (tests p s (Return to) regs)
    where
      go : (o : Option End) → event_after_pass p t (pass_tests p t (Return to) regs (memory_of t) o) input ≡ event_over segments (event_after_pass p s (pass_tests p s (Return to) regs (memory_of s) o) input)
      go (Some end) = refl
      go None = ap (λ (u : Recorded). Goes u [] input) (moved_same to regs)

  abbrev Same : Type 0
  Same = event_after_pass p t (pass_step p t (step_for (profile_in p) s.regs (memory_of t))) input ≡ event_over segments (event_after_pass p s (pass_step p s (step_for (profile_in p) s.regs (memory_of s))) input)

  event_same : Same → recorded_event p t input ≡ event_over segments (recorded_event p s input)
  unfolding recorded_event pass_instruction
  event_same h = go (p.look s.regs.pc).is_instr
    where
      go : (b : Bool) → event_after_pass p t (pass_if_checked p t b) input ≡ event_over segments (event_after_pass p s (pass_if_checked p s b) input)
      go true = h
      go false = refl

  bx_same : (k size : ℕ) → instr_for (profile_in p) (memory_of s) s.regs.pc ≡ Some (Bx k, size) → Same
  bx_same k size e =
      ap (λ (o : Stepping). event_after_pass p t (pass_step p t o) input) (step_is (profile_in p) s.regs (memory_of t) (Bx k) size (same_instr ∙ e))
      ∙ go (operand s.regs k % 2 == 0)
      ∙ ap (λ (o : Stepping). event_over segments (event_after_pass p s (pass_step p s o) input)) (sym (step_is (profile_in p) s.regs (memory_of s) (Bx k) size e))
    where
      no_pop : (u : Recorded) → instr_for (profile_in p) (memory_of u) u.regs.pc ≡ Some (Bx k, size) → pops_back p u ≡ None
      no_pop u f = ap (λ (q : Option (Instr × ℕ)). registers_after_return u (pops_some q)) f

      go : (b : Bool) → event_after_pass p t (pass_step p t (with_memory (cond b (Trap (trap.EvenTarget (operand s.regs k)), s.regs) (return_to (operand s.regs k) s.regs)) (memory_of t))) input
          ≡ event_over segments (event_after_pass p s (pass_step p s (with_memory (cond b (Trap (trap.EvenTarget (operand s.regs k)), s.regs) (return_to (operand s.regs k) s.regs)) (memory_of s))) input)
      go true =
          ap (λ (q : Option Regs). event_after_pass p t (trap_or_return p t (trap.EvenTarget (operand s.regs k)) q) input) (no_pop t (same_instr ∙ e))
          ∙ ap (λ (q : Option Regs). event_over segments (event_after_pass p s (trap_or_return p s (trap.EvenTarget (operand s.regs k)) q) input)) (sym (no_pop s e))
      go false = back_same ((operand s.regs k) % 2 ^ 32) (caller_registers s.first.caller (with_pc s.regs (operand s.regs k)))

  same_after : (c : Caller) (x : ℕ) (r q : List ℕ) → Alike r q → with_caller c (take 15 (write_register r SP x)) ≡ with_caller c (take 15 (write_register q SP x))
  same_after c x r q a =
      let at : (k : ℕ) → k < 15 → is_free k ≡ true → (k ≡ SP → ⊥) → slice_index (take 15 (write_register r SP x)) k ≡ slice_index (take 15 (write_register q SP x)) k =
      λ k low free n. get_or-take 15 (write_register r SP x) k 0 low ∙ get_or-set_other r SP k (word_in SP x) 0 n ∙ a.same k free
      ∙ sym (get_or-set_other q SP k (word_in SP x) 0 n) ∙ sym (get_or-take 15 (write_register q SP x) k 0 low) in
      let e0 = at 0 (omega arith) refl (λ e. absurd (omega (arith, e))) in
      let e1 = at 1 (omega arith) refl (λ e. absurd (omega (arith, e))) in
      let e2 = at 2 (omega arith) refl (λ e. absurd (omega (arith, e))) in
      let e3 = at 3 (omega arith) refl (λ e. absurd (omega (arith, e))) in
      let e12 = at 12 (omega arith) refl (λ e. absurd (omega (arith, e))) in
      let lr = at LR (omega arith) refl (λ e. absurd (omega (arith, e))) in
      rw (e0, e1, e2, e3, e12, lr) refl

  pop_same : (list size : ℕ) → instr_for (profile_in p) (memory_of s) s.regs.pc ≡ Some (Pop list, size) → bit_at list PC ≡ 1 → LoadNoSlot (slots_of (s.first ∷ s.outer)) (reg_in s SP) (loads_from 0 (registers_of_list list)) → Same
  pop_same list size e b n =
      let takes : (bit_at list PC == 1) ≡ true = ap (λ (x : ℕ). x == 1) b in
      pop_event p t input list size (same_instr ∙ e) takes
      ∙ go (load_list list (reg_in s SP) s.regs (memory_of t)) (load_list list (reg_in s SP) s.regs (memory_of s))
      (load_both s segments d (reg_in s SP) (loads_from 0 (registers_of_list list)) (all_of s.regs) (all_of s.regs) (record { size = refl; same = λ k f. refl }) n)
      ∙ ap (event_over segments) (sym (pop_event p s input list size e takes))
    where
      following : List ℕ → List ℕ
      following r = with_caller s.first.caller (take 15 (write_register r SP (reg_in s SP + bytes_of list)))

      go : (o q : Result (List ℕ) BusFault) → Both o q → by_load p t input list o ≡ event_over segments (by_load p s input list q)
      go (Ok r) (Ok w) a =
          ap (λ (rs : List ℕ). event_after_pass p t (with_tests p t (Return s.first.caller.back) (record (caller_registers s.first.caller s.regs) { r = rs }) (memory_of t)) input)
          (same_after s.first.caller (reg_in s SP + bytes_of list) r w a)
          ∙ back_same s.first.caller.back (caller_registers s.first.caller (with_all s.regs (write_register w SP (reg_in s SP + bytes_of list))))
      go (Err f) (Err g) a = ap (λ (why : BusFault). Ends (trap_end (trap.Memory why) s.regs.pc) t) a
      go (Ok r) (Err g) a = absurd a
      go (Err f) (Ok w) a = absurd a

pub reads_no_slot : ReturnsReadNoSlot
reads_no_slot p s segments input d = record {
  bx = λ m size e. event_same p s segments input d (bx_same p s segments input d m size e);
  pop = λ list size e b n. event_same p s segments input d (pop_same p s segments input d list size e b n);
}
