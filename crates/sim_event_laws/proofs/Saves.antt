-- The words that a PUSH guards, and stores of several words that are refused.
use Rattle.std.proofs.Common.{◌≡◌, ◌⊎◌, inl, inr, ℕ, zero, suc, ◌+◌, ◌-◌, ◌*◌, ◌%◌, ◌^◌, ◌<◌, ◌≤◌, ◌==◌, Bool, true, false, List, [], ◌∷◌, map, filter, length, Option, Some, None, Result, Ok, Err, slice_index, refl, sym, ap, ◌∙◌, subst, arith}
use Rattle.std.specs.Prelude.{◌↔◌}
use Rattle.std.specs.Int.{bit_at}
use Rattle.std.specs.List.{range_with_len}
use Rattle.std.proofs.lemmas.Bool.{le-ltb, eqb-true, eq-eqb}
use Rattle.run_events.specs.Runs.{Event, Goes, Ends}
use Rattle.eh_bus.specs.Guards.{insert_all}
use Rattle.eh_bus.specs.Lists.{Has}
use Rattle.eh_bus.specs.Memory.{Memory, store_run}
use Rattle.eh_bus.specs.declared.fault.BusFault.{BusFault}
use Rattle.eh_bus.specs.declared.fault.BusFault.TheVariants.{SavedSlot}
use Rattle.eh_bus.proofs.AccessLaws.{run_done}
use Rattle.eh_bus.proofs.GuardLaws.{has_filter, in_filter, has_inserted, in_inserted, still_inserted, guard_all-is}
use Rattle.thumb_ahead.specs.Ahead.{pushes_some}
use Rattle.thumb_ahead.proofs.Stored.{step_is}
use Rattle.thumb_isa.specs.declared.instr.Instr.TheVariants.{Push, Stm}
use Rattle.thumb_core.specs.Access.{store_end}
use Rattle.thumb_core.specs.Lists.{words_of, bytes_of}
use Rattle.thumb_core.specs.Outcome.{Outcome as Stepping}
use Rattle.thumb_core.specs.Registers.{with_reg, with_next}
use Rattle.thumb_core.specs.Step.{step_for, instr_for}
use Rattle.thumb_core.specs.Words.{registers_of_list}
use Rattle.thumb_core.specs.declared.regs.TheConstants.{SP}
use Rattle.thumb_core.specs.declared.regs.Regs.{Regs}
use Rattle.thumb_core.specs.declared.regs.Stepped.TheVariants.{Done}
use Rattle.thumb_core.specs.declared.ends.TrapKind.TheVariants as kind
use Rattle.thumb_core.specs.declared.ends.End.{End}
use Rattle.thumb_core.specs.declared.ends.End.TheVariants as the_end
use Rattle.eh_gates.specs.State.{State, reg}
use Rattle.sim_machines.specs.Program.{Program, profile_in}
use Rattle.sim_machines.specs.Machine.{saved_words, update_guards, update_guards_at, tests, pass_tests, pass_step, pass_if_checked, pass_instruction, event_after_pass, machine_event}
use Rattle.sim_event_laws.specs.Saves.{IsSave, PushesGuardTheirSaves}
use Rattle.sim_event_laws.specs.Refused.{RefusedStoresEnd}

-- ---- the words that the bits name

in_range : (a n k : ℕ) → a ≤ k → k < a + n → Has (range_with_len a n) k
in_range a zero k low high = absurd (omega arith)
in_range a (suc n) k low high = go (a == k) refl (λ above. in_range (a + 1) n k above (omega arith))
  where
    further : a ≤ k → (a ≡ k → ⊥) → a + 1 ≤ k
    further l differs = omega arith

    go : (b : Bool) → (a == k) ≡ b → (a + 1 ≤ k → Has (range_with_len (a + 1) n) k) → (a ≡ k) ⊎ Has (range_with_len (a + 1) n) k
    go true e next = inl (eqb-true a k e)
    go false e next = inr (next (further low (λ same. absurd (let f : true ≡ false = sym (eq-eqb a k same) ∙ e in cc))))

range_in : (a n k : ℕ) → Has (range_with_len a n) k → (a ≤ k) × (k < a + n)
range_in a zero k h = absurd h
range_in a (suc n) k (inl e) = (omega (arith, e), omega (arith, e))
range_in a (suc n) k (inr h) = let r = range_in (a + 1) n k h in (omega (arith, r.0), omega (arith, r.1))

mapped : (f : ℕ → ℕ) (xs : List ℕ) (g : ℕ) → Has (map f xs) g → (k : ℕ) × Has xs k × (g ≡ f k)
mapped f [] g h = absurd h
mapped f (x ∷ xs) g (inl e) = (x, inl refl, sym e)
mapped f (x ∷ xs) g (inr h) = let r = mapped f xs g h in (r.0, inr r.1, r.2)

in_mapped : (f : ℕ → ℕ) (xs : List ℕ) (k : ℕ) → Has xs k → Has (map f xs) (f k)
in_mapped f [] k h = absurd h
in_mapped f (x ∷ xs) k (inl e) = inl (ap f e)
in_mapped f (x ∷ xs) k (inr h) = inr (in_mapped f xs k h)

words_are : (saves list sp g : ℕ) → Has (saved_words saves (length (registers_of_list list)) sp) g → IsSave saves list sp g
words_are saves list sp g h =
    let count = length (registers_of_list list) in
    let r = mapped (λ k. sp + 4 * k) (filter (λ k. bit_at saves k == 1) (range_with_len 0 count)) g h in
    let f = has_filter (λ k. bit_at saves k == 1) (range_with_len 0 count) r.0 r.1 in
    let q = range_in 0 count r.0 f.0 in
    record { k = r.0; within = omega (arith, q.1); save = eqb-true (bit_at saves r.0) 1 f.1; place = r.2 }

are_words : (saves list sp g : ℕ) → IsSave saves list sp g → Has (saved_words saves (length (registers_of_list list)) sp) g
are_words saves list sp g i =
    let count = length (registers_of_list list) in
    let there = in_filter (λ k. bit_at saves k == 1) (range_with_len 0 count) i.k (in_range 0 count i.k (omega arith) (let w = i.within in omega arith)) (eq-eqb (bit_at saves i.k) 1 i.save) in
    subst (λ (x : ℕ). Has (saved_words saves count sp) x) (sym i.place) (in_mapped (λ k. sp + 4 * k) (filter (λ k. bit_at saves k == 1) (range_with_len 0 count)) i.k there)

-- ---- guarded together

all_in : (xs gs : List ℕ) (g : ℕ) → Has (insert_all xs gs) g → Has gs g ⊎ Has xs g
all_in [] gs g h = inl h
all_in (x ∷ xs) gs g h = elim (has_inserted x g (insert_all xs gs) h) [
  | inl e ↦ inr (inl e)
  | inr k ↦ elim (all_in xs gs g k) [ inl old ↦ inl old | inr new ↦ inr (inr new) ]
]

in_all : (xs gs : List ℕ) (g : ℕ) → Has gs g ⊎ Has xs g → Has (insert_all xs gs) g
in_all [] gs g (inl h) = h
in_all [] gs g (inr h) = absurd h
in_all (x ∷ xs) gs g (inl h) = still_inserted x g (insert_all xs gs) (in_all xs gs g (inl h))
in_all (x ∷ xs) gs g (inr (inl e)) = subst (λ (y : ℕ). Has (insert_all (x ∷ xs) gs) y) e (in_inserted x (insert_all xs gs))
in_all (x ∷ xs) gs g (inr (inr h)) = still_inserted x g (insert_all xs gs) (in_all xs gs g (inr h))

reguarded_guards : (saves list before sp : ℕ) (m : Memory) → sp ≤ before → (g : ℕ)
    → Has (update_guards saves (length (registers_of_list list)) before sp m).guards g ↔ (Has m.guards g ⊎ IsSave saves list sp g)
reguarded_guards saves list before sp m low g =
    let words = saved_words saves (length (registers_of_list list)) sp in
    let is : update_guards saves (length (registers_of_list list)) before sp m ≡ record m { guards = insert_all words m.guards } = rw (le-ltb before sp low) (guard_all-is words m) in
    subst (λ (x : Memory). Has x.guards g ↔ (Has m.guards g ⊎ IsSave saves list sp g)) (sym is) (
      λ h. elim (all_in words m.guards g h) [ inl k ↦ inl k | inr k ↦ inr (words_are saves list sp g k) ],
      λ h. in_all words m.guards g (elim h [ inl k ↦ inl k | inr k ↦ inr (are_words saves list sp g k) ]),
    )

-- ---- the event of a PUSH

module _ (p : Program) (s t : State) (input text left : List ℕ) (list size g : ℕ) (stands : instr_for (profile_in p) s.memory s.regs.pc ≡ Some (Push list, size)) where
  abbrev start : ℕ
  start = (reg s SP + (2 ^ 32 - bytes_of list)) % 2 ^ 32

  abbrev Guarded : State → Type 0
  Guarded u = reg u 13 ≤ reg s 13 → Has u.memory.guards g ↔ (Has s.memory.guards g ⊎ IsSave (p.look s.regs.pc).saves list (reg u 13) g)

  counted : pushes_some (instr_for (profile_in p) s.memory s.regs.pc) ≡ length (registers_of_list list)
  counted = ap pushes_some stands

  guarded : (regs : Regs) (m : Memory) → store_run s.memory start (words_of list s.regs) ≡ (Ok tt, m) → Guarded (record s { regs = regs; memory = update_guards_at p s regs m })
  guarded regs m e low =
      let saves = (p.look s.regs.pc).saves in
      let sp = slice_index regs.r SP in
      let same : m.guards ≡ s.memory.guards = ap (λ (x : Memory). x.guards) (run_done s.memory start (words_of list s.regs) m e) in
      subst (λ (n : ℕ). Has (update_guards saves n (reg s SP) sp m).guards g ↔ (Has s.memory.guards g ⊎ IsSave saves list sp g)) (sym counted)
      (subst (λ (old : List ℕ). Has (update_guards saves (length (registers_of_list list)) (reg s SP) sp m).guards g ↔ (Has old g ⊎ IsSave saves list sp g)) same
      (reguarded_guards saves list (reg s SP) sp m low g))

  from_test : (regs : Regs) (m : Memory) (o : Option End) → store_run s.memory start (words_of list s.regs) ≡ (Ok tt, m)
      → event_after_pass p s (pass_tests p s Done regs m o) input ≡ Goes t text left → Guarded t
  from_test regs m (Some end) e f = absurd (cc)
  from_test regs m None e f =
      let goes : ◌≡◌ {A = Event State End} (Goes (record s { regs = regs; memory = update_guards_at p s regs m }) [] input) (Goes t text left) = f in
      let state : record s { regs = regs; memory = update_guards_at p s regs m } ≡ t = cc in
      subst (λ (u : State). Guarded u) state (guarded regs m e)

  from_store : (r : Result (Unit {0}) BusFault × Memory) → store_run s.memory start (words_of list s.regs) ≡ r
      → event_after_pass p s (pass_step p s (store_end r size s.regs (with_reg s.regs SP start))) input ≡ Goes t text left → Guarded t
  from_store (Ok tt, m) e f = from_test (with_next size (with_reg s.regs SP start)) m (tests p s Done (with_next size (with_reg s.regs SP start))) e f
  from_store (Err fault, m) e f = absurd (cc)

  from_check : (b : Bool) → event_after_pass p s (pass_if_checked p s b) input ≡ Goes t text left → Guarded t
  from_check false f = absurd (cc)
  from_check true f =
      from_store (store_run s.memory start (words_of list s.regs)) refl
      (sym (ap (λ (o : Stepping). event_after_pass p s (pass_step p s o) input) (step_is (profile_in p) s.regs s.memory (Push list) size stands)) ∙ f)

  pub push_guards : machine_event p s input ≡ Goes t text left → Guarded t
  unfolding machine_event pass_instruction
  push_guards f = from_check (p.look s.regs.pc).is_instr f

pub guard_their_saves : PushesGuardTheirSaves
guard_their_saves p s t input text left list size g stands goes low = push_guards p s t input text left list size g stands goes low

-- ---- stores of several words that are refused

module _ (p : Program) (s : State) (input : List ℕ) (g : ℕ) (is : (p.look s.regs.pc).is_instr ≡ true) where
  refused_by : (size : ℕ) (after : Regs) (at : ℕ) (words : List ℕ) → step_for (profile_in p) s.regs s.memory ≡ store_end (store_run s.memory at words) size s.regs after
      → store_run s.memory at words ≡ (Err (SavedSlot g), s.memory) → machine_event p s input ≡ Ends (the_end.Trap kind.SavedSlot g s.regs.pc) s
  unfolding machine_event pass_instruction
  refused_by size after at words step fault =
      ap (λ (b : Bool). event_after_pass p s (pass_if_checked p s b) input) is
      ∙ ap (λ (o : Stepping). event_after_pass p s (pass_step p s o) input) (step ∙ ap (λ (r : Result (Unit {0}) BusFault × Memory). store_end r size s.regs after) fault)

pub refused_end : RefusedStoresEnd
refused_end p s input size list g is = record {
  push = λ stands fault.
      let start = (reg s SP + (2 ^ 32 - bytes_of list)) % 2 ^ 32 in
      refused_by p s input g is size (with_reg s.regs SP start) start (words_of list s.regs) (step_is (profile_in p) s.regs s.memory (Push list) size stands) fault;
  stm = λ n stands fault.
      refused_by p s input g is size (with_reg s.regs n (reg s n + bytes_of list)) (reg s n) (words_of list s.regs) (step_is (profile_in p) s.regs s.memory (Stm n list) size stands) fault;
}
