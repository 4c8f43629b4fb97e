-- POP: without pc it goes on, and into pc it is a return that finds what was recorded.
use Rattle.std.proofs.Common.{◌≡◌, ℕ, ◌+◌, ◌-◌, ◌*◌, ◌%◌, ◌^◌, ◌<◌, ◌≤◌, ◌==◌, ◌⊎◌, inl, inr, min, Bool, true, false, cond, List, [], ◌∷◌, ◌++◌, append-nil, length, set, Option, Some, None, Result, Ok, Err, slice_index, refl, sym, ap, subst, ◌∙◌, arith, ℤ, pos}
use Rattle.std.specs.Prelude.{option_map, ◌-ℤ◌}
use Rattle.std.specs.Int.{bit_at}
use Rattle.std.proofs.lemmas.Bool.{cases_lt, lt-ltb}
use Rattle.std.proofs.lemmas.Bool.Decides.{nat_tests}
use Rattle.std.proofs.lemmas.Int.{ints}
use Rattle.std.proofs.lemmas.Nat.Bits.{bit_at_above}
use Rattle.std.proofs.lemmas.List.{length-append}
use Rattle.eh_bus.specs.Memory.{load_number}
use Rattle.eh_bus.specs.declared.fault.BusFault.{BusFault}
use Rattle.thumb_isa.specs.declared.instr.Instr.TheVariants.{Pop}
use Rattle.thumb_isa.specs.declared.instr.Instr.{Instr}
use Rattle.thumb_core.specs.Branch.{return_to}
use Rattle.thumb_core.specs.Lists.{bytes_of, load_list, pop, pop_end, pop_to}
use Rattle.thumb_core.specs.Outcome.{Outcome as Stepping, fault_outcome, with_memory}
use Rattle.thumb_core.specs.Registers.{reg, write_register, word_in, with_all, with_reg, with_pc, with_next, even}
use Rattle.run_images.specs.Profiles.{profile_of}
use Rattle.thumb_core.specs.Step.{step_for}
use Rattle.thumb_core.specs.Words.{registers_of_list, loads_from, load_words}
use Rattle.thumb_core.specs.declared.regs.CoreTrap.TheVariants.{Memory as MemoryFault, EvenTarget}
use Rattle.thumb_core.specs.declared.regs.TheConstants.{SP, PC}
use Rattle.thumb_core.specs.declared.regs.Regs.{Regs}
use Rattle.thumb_core.specs.declared.regs.Stepped.TheVariants.{Done, Return, Trap}
use Rattle.thumb_core.proofs.Loaded.{listed_low, with_pc_high}
use Rattle.thumb_core.proofs.Popped.{Low, low_bytes, pop_fault, pop_plain, pop_pc_fault, pop_return}
use Rattle.thumb_ahead.specs.Ahead.{pushes_some}
use Rattle.frame_facts.specs.declared.cause.FrameCause.{FrameCause}
use Rattle.frame_facts.specs.declared.cause.FrameCause.TheVariants.{ReturnState}
use Rattle.frame_facts.specs.declared.facts.Fact.{Fact}
use Rattle.frame_facts.specs.declared.facts.Source.{Source}
use Rattle.frame_facts.specs.declared.saves.Prologue.{Prologue}
use Rattle.frame_facts.specs.After.{after_of, effect_result}
use Rattle.frame_facts.specs.Branches.{returns_well}
use Rattle.frame_facts.specs.Facts.{bounded_depth}
use Rattle.frame_facts.specs.Lists.{load_registers, popped_pc}
use Rattle.frame_facts.specs.Machine.{Means}
use Rattle.frame_facts.specs.Saves.{saves_within, fact_at_depth, stack_word}
use Rattle.frame_graph.specs.Places.{address_of}
use Rattle.frame_check.specs.Accepts.{Accepted}
use Rattle.frame_check.specs.Roots.{flow_graph_of}
use Rattle.sim_machines.specs.Activations.{Caller, Recorded, reg_in, memory_of}
use Rattle.sim_machines.specs.Checked.{program_of}
use Rattle.sim_machines.specs.ActivationMachine as acts
use Rattle.sim_prologue.specs.sim_code.Bounds.{Bounds, AreInRange}
use Rattle.sim_relation.specs.Holds.{Holds}
use Rattle.sim_relation.specs.Chain.{code, StandsAt}
use Rattle.sim_relation.specs.Stands.{Keeps, IsProgram, DoesAt, Turns}
use Rattle.sim_accesses.proofs.Accesses.{pc_after, top, load_others, not_listed}
use Rattle.sim_accesses.proofs.Back.{back_turns}
use Rattle.sim_accesses.proofs.Callers.{only_callers, Known, word_known}
use Rattle.sim_relation.proofs.Onward.{IsOn, on_turns, fetch, left}
use Rattle.sim_prologue.proofs.Ordered.{within_pos}
use Rattle.sim_accesses.proofs.Returns.{ReturnsWell, returns_so}
use Rattle.sim_accesses.proofs.Stacks.{sp_holds, order}
use Rattle.sim_accesses.proofs.PoppedWords.{listed_are_low, load_length, loaded_depth, loaded_pc, pops_hold}
use Rattle.sim_accesses.proofs.Trapped.{trap_turns}

module _ (x : Accepted) (is : IsProgram x) (ranges : AreInRange x) (s : Recorded) (k : Keeps x s) (list : ℕ) (does : DoesAt x s (Pop list)) where
  abbrev at : StandsAt x s.first s.segments s.regs s.regs.pc
  at = does.at

  abbrev f : Fact
  f = at.fact

  abbrev P : Prologue
  P = (code x at.function at.marks).prologue

  abbrev lowering : Bool
  lowering = (code x at.function at.marks).lowers at.place

  abbrev place : ℕ
  place = address_of (flow_graph_of x.image at.function) at.place

  abbrev low : List ℕ
  low = registers_of_list (list % 2 ^ 8)

  abbrev sp : ℕ
  sp = reg_in s SP

  range : Bounds (Pop list)
  range = ranges at.function at.place (Pop list) does.size at.of.among does.stands

  abbrev f1 : Fact
  f1 = load_registers P f 0 low f

  high : s.first.caller.sp < 2 ^ 32
  high = top x is s k at (Pop list) does.size does.stands

  -- what holds once the low registers are loaded
  module _ (r : List ℕ) (w : load_words s.segments sp (loads_from 0 low) s.regs.r ≡ Ok r) where
    abbrev regs1 : Regs
    regs1 = record s.regs { r = r }

    loaded_all : Low list sp s.regs (memory_of s) r
    loaded_all = record { count = k.sound.words.count; size = load_length s.segments sp 0 low s.regs.r r w ∙ k.sound.words.count; loaded = w }

    holds1 : Holds P f1 s.first s.segments regs1
    holds1 = pops_hold P f s.first s.segments s.regs at.holds k.whole (only_callers (flow_graph_of x.image at.function) at.marks) high low 0 f s.regs.r r (listed_are_low (list % 2 ^ 8) (omega arith)) k.sound.words.count at.holds w

    same_sp : reg regs1 SP ≡ sp
    same_sp = load_others s.segments sp 0 low s.regs.r r w 13 (not_listed (list % 2 ^ 8) 13 (bit_at_above (list % 2 ^ 8) 8 13 (omega arith) (omega arith)))

    -- and sp stands at another depth
    after : (v d : ℕ) (new : Regs) → new.r ≡ set r 13 v → v + d ≡ sp + f.depth → Holds P (fact_at_depth P d f1) s.first s.segments new
    after v d new put_is sum =
        let depth = loaded_depth P f 0 low f in
        let lower = holds1.lower in
        let same = same_sp in
        sp_holds P f1 s.first s.segments regs1 new d (min f1.kept (saves_within P d)) v f1.below holds1 (order x is ranges s k at (Pop list) does.size does.stands) loaded_all.size put_is
        (omega (arith, sum, depth, lower, same)) (λ b. let exact = holds1.describes.sp b in omega (arith, sum, depth, exact, same)) (omega arith) (omega arith)

  bounds : (sp + f.depth < 2 ^ 32) × (sp % 4 ≡ 0)
  bounds = let lower = at.holds.lower in let h = high in (omega (arith, h, lower), k.sound.words.aligned)

  -- ---- without pc

  module _ (clear : bit_at list 15 ≡ 0) where
    same_list : registers_of_list list ≡ low
    same_list = listed_low list ∙ ap (λ ks. low ++ ks) (with_pc_high list range.2 ∙ ap (λ n. cond (n == 1) (15 ∷ []) []) clear) ∙ append-nil low

    after_pop : (g : Fact) → after_of P lowering place (Pop list) f ≡ Ok g → effect_result None (option_map (λ d. fact_at_depth P d f1) (bounded_depth (pos f.depth -ℤ pos (4 * length low)))) ≡ Ok g
    after_pop g e =
        subst (λ ks. effect_result None (option_map (λ d. fact_at_depth P d (load_registers P f 0 ks f)) (bounded_depth (pos f.depth -ℤ pos (4 * length ks)))) ≡ Ok g) same_list
        (subst (λ o. effect_result o (option_map (λ d. fact_at_depth P d (load_registers P f 0 (registers_of_list list) f)) (bounded_depth (pos f.depth -ℤ pos (4 * length (registers_of_list list))))) ≡ Ok g)
        (ap (λ n. cond (n == 1) (Some (stack_word P f (pos (4 * length (registers_of_list list)) -ℤ pos 4))) None) clear) e)

    pop_holds : (r : List ℕ) → load_words s.segments sp (loads_from 0 low) s.regs.r ≡ Ok r → (g : Fact) → after_of P lowering place (Pop list) f ≡ Ok g
        → Holds P g s.first s.segments (with_next does.size (with_reg (record s.regs { r = r }) SP ((sp + low_bytes list) % 2 ^ 32)))
    pop_holds r w g e = go (bounded_depth (pos f.depth -ℤ pos (4 * length low))) refl (after_pop g e)
      where
        go : (o : Option ℕ) → bounded_depth (pos f.depth -ℤ pos (4 * length low)) ≡ o → effect_result None (option_map (λ d. fact_at_depth P d f1) o) ≡ Ok g
            → Holds P g s.first s.segments (with_next does.size (with_reg (record s.regs { r = r }) SP ((sp + low_bytes list) % 2 ^ 32)))
        go None h q = absurd cc
        go (Some d) h q =
            let v = within_pos (pos f.depth -ℤ pos (4 * length low)) d h in
            let sum : d + 4 * length low ≡ f.depth = omega (arith, ints, v.0) in
            let same : fact_at_depth P d f1 ≡ g = ok_same (fact_at_depth P d f1) g q in
            let b = bounds in
            subst (λ y. Holds P y s.first s.segments (with_next does.size (with_reg (record s.regs { r = r }) SP ((sp + low_bytes list) % 2 ^ 32)))) same
            (after r w (word_in SP ((sp + low_bytes list) % 2 ^ 32)) d (with_next does.size (with_reg (record s.regs { r = r }) SP ((sp + low_bytes list) % 2 ^ 32))) refl (omega (arith, sum, b.0, b.1)))
          where
            ok_same : (y z : Fact) → ◌≡◌ {A = Result Fact FrameCause} (Ok y) (Ok z) → y ≡ z
            ok_same y z q = cc

    pop_on : IsOn x is s k at (Pop list) does.size does.stands (pop list does.size s.regs (memory_of s))
    pop_on = go (load_words s.segments sp (loads_from 0 low) s.regs.r) refl
      where
        go : (o : Result (List ℕ) BusFault) → load_words s.segments sp (loads_from 0 low) s.regs.r ≡ o → IsOn x is s k at (Pop list) does.size does.stands (pop list does.size s.regs (memory_of s))
        go (Err fault) w = subst (IsOn x is s k at (Pop list) does.size does.stands) (sym (pop_fault list does.size s.regs (memory_of s) fault k.sound.words.count w)) tt
        go (Ok r) w = subst (IsOn x is s k at (Pop list) does.size does.stands) (sym (pop_plain list does.size s.regs (memory_of s) r (loaded_all r w) range.2 clear))
            (record { map = k.corresponds.map; pc = pc_after x is s k at (Pop list) does.size does.stands; holds = λ v. pop_holds r w })

  -- ---- into pc

  abbrev put_words : List ℕ → Regs
  put_words words = with_all s.regs (write_register words SP (sp + bytes_of list))

  module _ (set_pc : bit_at list 15 ≡ 1) (input : List ℕ) where
    both_lists : registers_of_list list ≡ low ++ (15 ∷ [])
    both_lists = listed_low list ∙ ap (λ ks. low ++ ks) (with_pc_high list range.2 ∙ ap (λ n. cond (n == 1) (15 ∷ []) []) set_pc)

    abbrev back_source : Source
    back_source = stack_word P f (pos (4 * length low))

    count_is : 4 * length (registers_of_list list) ≡ 4 * length low + 4
    count_is = let l = ap length both_lists ∙ length-append low (15 ∷ []) in omega (arith, l)

    -- the fact after returns well
    well : (d : ℕ) × (d + (4 * length low + 4) ≡ f.depth) × ReturnsWell (fact_at_depth P d f1) back_source
    well = by_after (left x is s k at (Pop list) does.size does.stands).0 (left x is s k at (Pop list) does.size does.stands).1
      where
        by_after : (g : Fact) → after_of P lowering place (Pop list) f ≡ Ok g → (d : ℕ) × (d + (4 * length low + 4) ≡ f.depth) × ReturnsWell (fact_at_depth P d f1) back_source
        by_after g e = go (bounded_depth (pos f.depth -ℤ pos (4 * length low + 4))) refl named
          where
            some_pc : popped_pc P list f ≡ Some back_source
            some_pc = ap (λ n. cond (n == 1) (Some (stack_word P f (pos (4 * length (registers_of_list list)) -ℤ pos 4))) None) set_pc
                ∙ ap (λ (z : ℤ). Some (stack_word P f z)) (let c = count_is in let z : pos (4 * length (registers_of_list list)) -ℤ pos 4 ≡ pos (4 * length low) = omega (arith, ints, c) in z)

            same_loads : load_registers P f 0 (registers_of_list list) f ≡ f1
            same_loads = ap (λ ks. load_registers P f 0 ks f) both_lists ∙ loaded_pc P f 0 low f at.holds.describes.long

            named : effect_result (Some back_source) (option_map (λ d. fact_at_depth P d f1) (bounded_depth (pos f.depth -ℤ pos (4 * length low + 4)))) ≡ Ok g
            named =
                subst (λ n. effect_result (Some back_source) (option_map (λ d. fact_at_depth P d f1) (bounded_depth (pos f.depth -ℤ pos n))) ≡ Ok g) count_is
                (subst (λ y. effect_result (Some back_source) (option_map (λ d. fact_at_depth P d y) (bounded_depth (pos f.depth -ℤ pos (4 * length (registers_of_list list))))) ≡ Ok g) same_loads
                (subst (λ o. effect_result o (option_map (λ d. fact_at_depth P d (load_registers P f 0 (registers_of_list list) f)) (bounded_depth (pos f.depth -ℤ pos (4 * length (registers_of_list list))))) ≡ Ok g) some_pc e))

            go : (o : Option ℕ) → bounded_depth (pos f.depth -ℤ pos (4 * length low + 4)) ≡ o → effect_result (Some back_source) (option_map (λ d. fact_at_depth P d f1) o) ≡ Ok g
                → (d : ℕ) × (d + (4 * length low + 4) ≡ f.depth) × ReturnsWell (fact_at_depth P d f1) back_source
            go None h q = absurd cc
            go (Some d) h q =
                let v = within_pos (pos f.depth -ℤ pos (4 * length low + 4)) d h in
                (d, omega (arith, ints, v.0), returns_so (fact_at_depth P d f1) back_source (by_test (returns_well (fact_at_depth P d f1) back_source) q))
              where
                by_test : (b : Bool) → cond b (Ok (fact_at_depth P d f1)) (Err ReturnState) ≡ Ok g → b ≡ true
                by_test true q = refl
                by_test false q = absurd cc

    abbrev caller : Caller
    caller = s.first.caller

    fetched_step : step_for (profile_of x.image) s.regs (memory_of s) ≡ pop list does.size s.regs (memory_of s)
    fetched_step = (fetch x is s k at (Pop list) does.size does.stands).step

    module _ (r : List ℕ) (w : load_words s.segments sp (loads_from 0 low) s.regs.r ≡ Ok r) (v : ℕ) (e : load_number 4 s.segments ((sp + low_bytes list) % 2 ^ 32) ≡ Ok v) where
      abbrev depth : ℕ
      depth = well.0

      is_well : ReturnsWell (fact_at_depth P depth f1) back_source
      is_well = well.2

      -- the word is the return address
      same_word : v ≡ caller.back
      same_word =
          let known = word_known P f s.first s.segments s.regs at.holds k.whole (only_callers (flow_graph_of x.image at.function) at.marks) high (4 * length low) v e in
          (subst (λ t. Known P f s.first s.segments s.regs at.holds k.whole (only_callers (flow_graph_of x.image at.function) at.marks) high t v) is_well.link known).1

      abbrev to_sp : ℕ
      to_sp = ((sp + low_bytes list) % 2 ^ 32 + 4) % 2 ^ 32

      abbrev regs : Regs
      regs = with_pc (with_reg (record s.regs { r = r }) SP to_sp) caller.back

      step : step_for (profile_of x.image) s.regs (memory_of s) ≡ (Return caller.back, regs, memory_of s)
      step =
          let small = k.whole.back in
          let odd = k.whole.odd in
          let same = same_word in
          fetched_step ∙ subst (λ n. pop list does.size s.regs (memory_of s) ≡ (Return n, with_pc (with_reg (record s.regs { r = r }) SP to_sp) n, memory_of s)) same
          (pop_return list does.size v s.regs (memory_of s) r (loaded_all r w) range.2 set_pc e (omega (arith, same, small)) (omega (arith, same, odd)))

      holds2 : Holds P (fact_at_depth P depth f1) s.first s.segments regs
      holds2 = let b = bounds in let sum = well.1 in after r w (word_in SP to_sp) depth regs refl (omega (arith, sum, b.0, b.1))

      sp_is : slice_index regs.r SP ≡ caller.sp
      sp_is = let exact = holds2.describes.sp is_well.below in let none = is_well.depth in omega (arith, exact, none)

      saved_is : (j : ℕ) → j < 8 → slice_index regs.r (j + 4) ≡ slice_index caller.saved j
      saved_is j h =
          let value : reg regs (j + 4) ≡ holds2.entry (j + 4) = subst (λ (t : Source). Means holds2.entry caller.sp t (reg regs (j + 4))) (is_well.own j h) (holds2.describes.sources (j + 4)) in
          let no_link : (j + 4 == 14) ≡ false = grind (arith, nat_tests) in
          value ∙ holds2.saved (j + 4) (omega arith) (omega (arith, h))
          ∙ ap (λ (b : Bool). cond b caller.back (slice_index caller.saved (j + 4 - 4))) no_link ∙ ap (λ n. slice_index caller.saved n) (let n : j + 4 - 4 ≡ j = omega arith in n)

      returns : Turns x s input
      returns =
          back_turns x is s k at (Pop list) does.size does.stands regs step sp_is saved_is (let small = k.whole.back in let m : caller.back % 2 ^ 32 ≡ caller.back = omega (arith, small) in ap even m)
          (ap pushes_some (fetch x is s k at (Pop list) does.size does.stands).stands) input does.reached

    -- where its words can't be loaded it isn't done with recorded activations either
    no_load : (fault : BusFault) (o : Result (List ℕ) BusFault) → pop_end o list does.size s.regs (memory_of s) ≡ fault_outcome fault s.regs (memory_of s) → acts.registers_after_pop s list o ≡ None
    no_load fault (Err why) e = refl
    no_load fault (Ok words) e = absurd (by_bit (bit_at list PC == 1) e)
      where
        by_odd : (c : Bool) → with_memory (cond c (Trap (EvenTarget (slice_index words PC)), s.regs) (return_to (slice_index words PC) (put_words words))) (memory_of s) ≡ fault_outcome fault s.regs (memory_of s) → ⊥
        by_odd true q = let z : Trap (EvenTarget (slice_index words PC)) ≡ Trap (MemoryFault fault) = ap (λ (w : Stepping). w.0) q in cc
        by_odd false q = let z : Return (slice_index words PC % 2 ^ 32) ≡ Trap (MemoryFault fault) = ap (λ (w : Stepping). w.0) q in cc

        by_bit : (b : Bool) → with_memory (pop_to b (slice_index words PC) does.size s.regs (put_words words)) (memory_of s) ≡ fault_outcome fault s.regs (memory_of s) → ⊥
        by_bit true q = by_odd (slice_index words PC % 2 == 0) q
        by_bit false q = let z : Done ≡ Trap (MemoryFault fault) = ap (λ (w : Stepping). w.0) q in cc

    never_back : (fault : BusFault) → pop list does.size s.regs (memory_of s) ≡ fault_outcome fault s.regs (memory_of s) → acts.pops_back (program_of x) s ≡ None
    never_back fault e =
        ap (λ (q : Option (Instr × ℕ)). acts.registers_after_return s (acts.pops_some q)) (fetch x is s k at (Pop list) does.size does.stands).stands
        ∙ ap (λ n. cond (n == 1) (acts.registers_after_pop s list (load_list list sp s.regs (memory_of s))) None) set_pc ∙ no_load fault (load_list list sp s.regs (memory_of s)) e

    pc_turns : Turns x s input
    pc_turns = by_words (load_words s.segments sp (loads_from 0 low) s.regs.r) refl
      where
        by_last : (r : List ℕ) (w : load_words s.segments sp (loads_from 0 low) s.regs.r ≡ Ok r) (o : Result ℕ BusFault) → load_number 4 s.segments ((sp + low_bytes list) % 2 ^ 32) ≡ o → Turns x s input
        by_last r w (Err fault) e = trap_turns x s k input _ s.regs (memory_of s) (fetched_step ∙ pop_pc_fault list does.size fault s.regs (memory_of s) r (loaded_all r w) range.2 set_pc e)
            (never_back fault (pop_pc_fault list does.size fault s.regs (memory_of s) r (loaded_all r w) range.2 set_pc e)) does.reached
        by_last r w (Ok v) e = returns r w v e

        by_words : (o : Result (List ℕ) BusFault) → load_words s.segments sp (loads_from 0 low) s.regs.r ≡ o → Turns x s input
        by_words (Err fault) w = trap_turns x s k input _ s.regs (memory_of s) (fetched_step ∙ pop_fault list does.size s.regs (memory_of s) fault k.sound.words.count w)
            (never_back fault (pop_fault list does.size s.regs (memory_of s) fault k.sound.words.count w)) does.reached
        by_words (Ok r) w = by_last r w (load_number 4 s.segments ((sp + low_bytes list) % 2 ^ 32)) refl

  -- ---- whole

  pub pop_turns : (input : List ℕ) → Turns x s input
  pop_turns input = go (cases_lt list (2 ^ 15))
    where
      go : (list < 2 ^ 15) ⊎ (2 ^ 15 ≤ list) → Turns x s input
      go (inl l) = let clear : bit_at list 15 ≡ 0 = bit_at_above list 15 15 l (omega arith) in
          on_turns x is s k at (Pop list) does.size does.stands (lt-ltb list (2 ^ 15) l) refl refl
          (ap (λ n. cond (n == 1) (acts.registers_after_pop s list (load_list list sp s.regs (memory_of s))) None) clear) input (pop_on clear) does.reached
      go (inr l) = let top = range.1 in let set_pc : bit_at list 15 ≡ 1 = omega (arith, l, top) in pc_turns set_pc input

-- every POP
pub pops_turn : (x : Accepted) (s : Recorded) (list : ℕ) (input : List ℕ) → IsProgram x → AreInRange x → Keeps x s → DoesAt x s (Pop list) → Turns x s input
pops_turn x s list input is ranges k does = pop_turns x is ranges s k list does input
