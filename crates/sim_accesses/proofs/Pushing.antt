-- PUSH: whatever its new slots are, what every event keeps is kept where the fact after it holds of the words that it stored.
use Rattle.std.proofs.Common.{◌≡◌, ℕ, ◌+◌, ◌-◌, ◌*◌, ◌%◌, ◌^◌, ◌<◌, ◌≤◌, inl, inr, nat_lt, Bool, true, false, cond, List, [], ◌∷◌, ◌++◌, map, filter, length, Option, Some, None, Result, Ok, Err, slice_index, set, refl, sym, ap, subst, ◌∙◌, arith, pos}
use Rattle.std.specs.Prelude.{option_map, ◌+ℤ◌}
use Rattle.std.proofs.lemmas.Bool.{le-ltb}
use Rattle.std.proofs.lemmas.Int.{ints}
use Rattle.std.proofs.lemmas.List.{get_or-set_same}
use Rattle.eh_bus.specs.Guards.{insert_all}
use Rattle.eh_bus.specs.Lists.{Has}
use Rattle.eh_bus.specs.Map.{IsMap}
use Rattle.eh_bus.specs.Memory.{Memory, store_run, guard_all, stays_guarded, without_guards_below}
use Rattle.eh_bus.specs.declared.fault.BusFault.{BusFault}
use Rattle.eh_bus.proofs.MapLaws.{map_trans, run_is_map}
use Rattle.eh_cxa.specs.ListCalls.{innermost_in}
use Rattle.eh_cxa.proofs.Kept.{still_stands}
use Rattle.run_images.specs.Start.{begins_function, image_start}
use Rattle.thumb_isa.specs.declared.instr.Instr.{Instr}
use Rattle.thumb_isa.specs.declared.instr.Instr.TheVariants.{Push}
use Rattle.thumb_core.specs.Access.{store_end}
use Rattle.thumb_core.specs.Laws.{AreSound, KeepsMap}
use Rattle.thumb_core.specs.Lists.{words_of, bytes_of}
use Rattle.thumb_core.specs.Outcome.{Outcome as Stepping}
use Rattle.thumb_core.specs.Registers.{word_in, with_reg, with_next}
use Rattle.run_images.specs.Profiles.{profile_of}
use Rattle.thumb_core.specs.Step.{step_for, instr_for}
use Rattle.thumb_core.specs.Words.{registers_of_list}
use Rattle.thumb_core.proofs.Follows.{step_follows}
use Rattle.thumb_core.specs.declared.regs.TheConstants.{SP}
use Rattle.thumb_core.specs.declared.regs.Regs.{Regs}
use Rattle.thumb_core.specs.declared.regs.Stepped.TheVariants.{Done}
use Rattle.thumb_core.specs.declared.ends.End.{End}
use Rattle.thumb_ahead.specs.Ahead.{branches_some, pushes_some}
use Rattle.frame_facts.specs.declared.facts.Fact.{Fact}
use Rattle.frame_facts.specs.declared.facts.TheConstants.{DEEPEST}
use Rattle.frame_facts.specs.declared.saves.Prologue.{Prologue}
use Rattle.frame_facts.specs.After.{after_of, effect_result}
use Rattle.frame_facts.specs.Facts.{bounded_depth}
use Rattle.frame_facts.specs.Lists.{push_to_depth}
use Rattle.frame_graph.specs.Places.{address_of}
use Rattle.frame_check.specs.Accepts.{Accepted}
use Rattle.frame_check.specs.Roots.{flow_graph_of}
use Rattle.frame_check.specs.Roles.{look}
use Rattle.sim_machines.specs.Machine.{fell_off, sp_end, update_guards, saved_words}
use Rattle.sim_machines.specs.Activations.{Activation, Recorded, reg_in, memory_of, release_raised, staying_words, guarded_words, heads, lists_of, cleanups_in, InProgress}
use Rattle.sim_machines.specs.ActivationLaws.{IsPlain}
use Rattle.sim_machines.specs.ActivationMachine.{update_slots}
use Rattle.sim_machines.specs.Checked.{program_of}
use Rattle.sim_machines.proofs.Beyond.{freed_outside}
use Rattle.sim_machines.proofs.CallEvents.{knows}
use Rattle.sim_machines.proofs.Matching.{plain_match}
use Rattle.sim_machines.proofs.SameSlots.{same_slots}
use Rattle.thumb_core.specs.declared.regs.CoreTrap.TheVariants as trap
use Rattle.thumb_core.specs.declared.ends.End.TheVariants as the_end
use Rattle.thumb_core.specs.declared.ends.TrapKind.TheVariants as kind
use Rattle.sim_machines.specs.ActivationMachine as acts
use Rattle.sim_relation.specs.Holds.{Holds}
use Rattle.sim_relation.specs.Chain.{code, StandsAt}
use Rattle.sim_relation.specs.Cleanups.{IsWithin, AreInProgress}
use Rattle.sim_relation.specs.Stands.{Keeps, IsProgram, OnEvent, DoesAt, Turns}
use Rattle.sim_accesses.proofs.Accesses.{pc_after}
use Rattle.sim_relation.proofs.Goes.{chain_top, next_stands}
use Rattle.sim_relation.proofs.SpTests.{sp_passes}
use Rattle.sim_relation.proofs.Slots.{outer_same, same_slot_words, none_or}
use Rattle.sim_relation.proofs.Onward.{fetch, left}
use Rattle.sim_prologue.proofs.Ordered.{within_pos}
use Rattle.sim_accesses.proofs.Trapped.{trap_turns}
use Rattle.sim_relation.proofs.Written.{Moves, SameWords, SameClosed, with_gs, chain_moves, same_word, linked_small, in_progress}
use Rattle.sim_accesses.proofs.SavedWords.{in_saved, all_guarded, has_either, has_old}

-- ---- the event

module _ (x : Accepted) (is : IsProgram x) (s : Recorded) (k : Keeps x s) (list : ℕ) (does : DoesAt x s (Push list)) where
  abbrev at : StandsAt x s.first s.segments s.regs s.regs.pc
  at = does.at

  abbrev f : Fact
  f = at.fact

  abbrev P : Prologue
  P = (code x at.function at.marks).prologue

  abbrev lowering : Bool
  lowering = (code x at.function at.marks).lowers at.place

  abbrev place : ℕ
  place = address_of (flow_graph_of x.image at.function) at.place

  abbrev n : ℕ
  n = length (registers_of_list list)

  abbrev old : ℕ
  old = reg_in s SP

  -- the depth after it
  pub record After (g : Fact) : Type 0 where
    pub depth : ℕ
    pub sum : depth ≡ f.depth + 4 * n
    pub deep : depth ≤ DEEPEST
    pub gives : g ≡ push_to_depth P place depth f

  pub is_after : (g : Fact) → after_of P lowering place (Push list) f ≡ Ok g → After g
  is_after g e = go (bounded_depth (pos f.depth +ℤ pos (4 * n))) refl e
    where
      go : (o : Option ℕ) → bounded_depth (pos f.depth +ℤ pos (4 * n)) ≡ o → effect_result None (option_map (λ d. push_to_depth P place d f) o) ≡ Ok g → After g
      go None h q = absurd cc
      go (Some d) h q = let v = within_pos (pos f.depth +ℤ pos (4 * n)) d h in record { depth = d; sum = omega (arith, ints, v.0); deep = v.1; gives = cc }

  pub the : After (left x is s k at (Push list) does.size does.stands).0
  the = is_after (left x is s k at (Push list) does.size does.stands).0 (left x is s k at (Push list) does.size does.stands).1

  abbrev pub a : ℕ
  a = (old + (2 ^ 32 - bytes_of list)) % 2 ^ 32

  abbrev pub regs : Regs
  regs = with_next does.size (with_reg s.regs SP a)

  abbrev pub new : ℕ
  new = slice_index regs.r SP

  pub new_is : new ≡ word_in SP a
  new_is = at_sp s.regs.r k.sound.words.count
    where
      at_sp : (r : List ℕ) → length r ≡ 15 → slice_index (set r 13 (word_in SP a)) 13 ≡ word_in SP a
      at_sp r count = get_or-set_same r 13 (word_in SP a) 0 (let l : 13 < length r = omega (arith, count) in l)

  -- sp falls by the words
  pub falls : (new + 4 * n ≡ old) × (new ≡ a) × (new % 4 ≡ 0) × (old < 2 ^ 32)
  falls =
      let home = k.corresponds.map.home in
      let small = k.sound.words.small SP in
      let quad = k.sound.words.aligned in
      let t = the in
      let low = k.low in
      let e = new_is in
      (omega (arith, e, t.sum, t.deep, home.low, low, small, quad), omega (arith, e, t.sum, t.deep, home.low, low, small, quad), omega (arith, e, quad, t.sum), small)

  same_sp : nat_lt old new ≡ false
  same_sp = let w = falls in le-ltb old new (omega (arith, w.0))

  abbrev pub saves : ℕ
  saves = (look x.roles s.regs.pc).saves

  abbrev pub ws : List ℕ
  ws = saved_words saves n new

  abbrev pub gs : List ℕ
  gs = ws ++ s.first.slots

  in_frame : (g : ℕ) → Has ws g → (new ≤ g) × (g + 4 ≤ old) × (g % 4 ≡ 0)
  in_frame g h = let w = in_saved saves n new g h in let q = falls in (omega (arith, w.2), omega (arith, w.1, w.2, q.0), omega (arith, w.2, q.2))

  module _ (m : Memory) (stores : store_run (memory_of s) a (words_of list s.regs) ≡ (Ok tt, m)) where
    abbrev pub u : Recorded
    u = record s { regs = regs; segments = m.segments; first = with_gs s.first gs }

    step : step_for (profile_of x.image) s.regs (memory_of s) ≡ (Done, regs, m)
    step = (fetch x is s k at (Push list) does.size does.stands).step ∙ ap (λ (o : Result (Unit {0}) BusFault × Memory). store_end o does.size s.regs (with_reg s.regs SP a)) stores

    pub keeps : KeepsMap (memory_of s) m
    keeps = subst (λ (o : Stepping). KeepsMap (memory_of s) o.2) step (step_follows (profile_of x.image) s.regs (memory_of s)).memory

    sound : AreSound regs.r regs.pc
    sound = subst (λ (o : Stepping). AreSound o.1.r o.1.pc) step ((step_follows (profile_of x.image) s.regs (memory_of s)).sound k.sound)

    words : SameWords s.segments m.segments (s.first ∷ s.outer)
    words = same_slot_words s m keeps

    pub moves : (low : ℕ) → Moves s.segments m.segments low s.first gs
    moves low g h l = (has_old ws s.first.slots g h, words.0 g h)

    within_frame : (g : ℕ) → Has gs g → (new ≤ g) × (g + 4 ≤ s.first.caller.sp)
    within_frame g h = elim (has_either ws s.first.slots g h) [
      | inl i ↦ (let w = in_frame g i in let top = k.high in (w.0, omega (arith, w.1, top)))
      | inr i ↦ (let w = k.slots g i in let q = falls in (omega (arith, w.0, q.0), w.1))
    ]

    closed : SameClosed (memory_of s) (memory_of u)
    closed b e c = keeps.closed b e c

    high : new ≤ s.first.caller.sp
    high = let q = falls in let top = k.high in omega (arith, q.0, top)

    same_outer : map (λ (b : Activation). release_raised s.home old new b) s.outer ≡ s.outer
    same_outer = outer_same x s.segments s.home old new s.first.caller s.outer k.chain high

    same_beyond : staying_words s.home old new s.beyond ≡ s.beyond
    same_beyond = let top = chain_top x s.segments s.home s.first.caller s.outer k.chain in let h = high in freed_outside s.home old new s.beyond (omega (arith, h, top)) k.beyond

    reguarded_is : update_slots saves n old new (record s { regs = regs; segments = m.segments }) ≡ u
    reguarded_is =
        ap (λ (b : Bool). let r : Recorded = record u { first = with_gs s.first (cond b (filter (stays_guarded s.home new) gs) gs); outer = map (λ (b : Activation). release_raised s.home old new b) s.outer; beyond = staying_words s.home old new s.beyond } in r) same_sp
        ∙ ap (λ (o : List Activation). let r : Recorded = record u { outer = o; beyond = staying_words s.home old new s.beyond } in r) same_outer
        ∙ ap (λ (b : List ℕ). let r : Recorded = record u { beyond = b } in r) same_beyond

    map_left : s.home.0 ≤ new → IsMap (memory_of u)
    map_left low =
        let is_map = run_is_map (memory_of s) a (words_of list s.regs) m stores k.corresponds.map in
        let base_is : IsMap (record { segments = m.segments; guards = insert_all (guarded_words s.beyond (s.first ∷ s.outer)) []; home = s.home }) = record { segments = is_map.segments; guards = k.corresponds.map.guards; home = k.corresponds.map.home } in
        let home = k.corresponds.map.home in
        let above = chain_top x s.segments s.home s.first.caller s.outer k.chain in
        let top = k.high in
        let guarded_all : IsMap (guard_all ws (record { segments = m.segments; guards = insert_all (guarded_words s.beyond (s.first ∷ s.outer)) []; home = s.home })) =
        all_guarded ws (record { segments = m.segments; guards = insert_all (guarded_words s.beyond (s.first ∷ s.outer)) []; home = s.home })
        (λ g h. let w = in_frame g h in (w.2, omega (arith, w.0, low, home.low), omega (arith, w.1, top, above, home.high))) base_is in
        let reguarded_map : IsMap (update_guards saves n old new (record { segments = m.segments; guards = insert_all (guarded_words s.beyond (s.first ∷ s.outer)) []; home = s.home })) =
        subst (λ (b : Bool). IsMap (cond b (without_guards_below (guard_all ws (record { segments = m.segments; guards = insert_all (guarded_words s.beyond (s.first ∷ s.outer)) []; home = s.home })) new)
        (guard_all ws (record { segments = m.segments; guards = insert_all (guarded_words s.beyond (s.first ∷ s.outer)) []; home = s.home })))) (sym same_sp) guarded_all in
        subst (λ (b : List ℕ). IsMap (record { segments = m.segments; guards = insert_all (guarded_words b (with_gs s.first gs ∷ s.outer)) []; home = s.home })) same_beyond
        (subst (λ (o : List Activation). IsMap (record { segments = m.segments; guards = insert_all (guarded_words (staying_words s.home old new s.beyond) (with_gs s.first gs ∷ o)) []; home = s.home })) same_outer
        (subst (λ (b : Bool). IsMap (record { segments = m.segments; guards = insert_all (guarded_words (staying_words s.home old new s.beyond) (with_gs s.first (cond b (filter (stays_guarded s.home new) gs) gs) ∷ map (λ (b : Activation). release_raised s.home old new b) s.outer)) []; home = s.home })) same_sp
        (subst IsMap (same_slots s.home m.segments saves n old new s.first s.outer s.beyond) reguarded_map)))

    push_keeps : (g : Fact) → after_of P lowering place (Push list) f ≡ Ok g → s.home.0 ≤ new → Holds P g (with_gs s.first gs) m.segments regs → begins_function x.image.functions regs.pc ≡ false → Keeps x u
    push_keeps g e low holds fresh = record {
      corresponds = record {
        map = map_left low;
        stands = still_stands (memory_of s) (memory_of u) (heads (lists_of s)) (lists_of s) (same_word (memory_of s) (memory_of u) closed) k.corresponds.stands;
      };
      counted = k.counted;
      image = map_trans (image_start x.image).memory.segments s.segments m.segments k.image keeps.map;
      sound = sound;
      low = low;
      high = high;
      whole = k.whole;
      slots = within_frame;
      first = λ reached. next_stands x is s k at (Push list) does.size does.stands g regs m.segments (with_gs s.first gs) refl refl e (pc_after x is s k at (Push list) does.size does.stands) holds reached fresh;
      beyond = k.beyond;
      chain = chain_moves s.segments m.segments x s.home s.first.caller s.outer words.1 k.chain;
      cleanups = in_progress x s u gs new refl refl closed (moves new) words.1 old new s.cleanups
          (linked_small _ _ (cleanups_in s.cleanups) k.corresponds.stands.shows.cleanups) (omega arith) (at_landing s.cleanups k.cleanups) k.cleanups;
    }
      where
        at_landing : (cs : List InProgress) → AreInProgress x s old cs → IsWithin new (cleanups_in cs)
        at_landing [] h = tt
        at_landing (c ∷ more) h = let q = falls in omega (arith, h.0, q.0)

    module _ (holds : (g : Fact) → after_of P lowering place (Push list) f ≡ Ok g → Holds P g (with_gs s.first gs) m.segments regs) (input : List ℕ) where
      by_tests : (o : Option End) → acts.tests (program_of x) s Done regs ≡ o → OnEvent x (acts.event_after_pass (program_of x) s (acts.pass_tests (program_of x) s Done regs m o) input)
      by_tests (Some end) t = k
      by_tests None t =
          let fetched = fetch x is s k at (Push list) does.size does.stands in
          let count : pushes_some (instr_for (profile_of x.image) (memory_of s) s.regs.pc) ≡ n = ap pushes_some fetched.stands in
          let two = none_or (sp_end (look x.roles s.regs.pc).lowers (innermost_in (cleanups_in s.cleanups)) s.home.0 s.regs.pc old new) (acts.control_flow_trap_of (program_of x) s (branches_some (instr_for (profile_of x.image) (memory_of s) s.regs.pc) s.regs) Done regs) t in
          let straight : branches_some (instr_for (profile_of x.image) (memory_of s) s.regs.pc) s.regs ≡ false = ap (λ (o : Option (Instr × ℕ)). branches_some o s.regs) fetched.stands in
          let fell : fell_off (program_of x) s.regs.pc regs.pc ≡ None = subst (λ (b : Bool). cond b None (fell_off (program_of x) s.regs.pc regs.pc) ≡ None) straight two.1 in
          let passed = sp_passes (look x.roles s.regs.pc).lowers (innermost_in (cleanups_in s.cleanups)) s.home.0 s.regs.pc old new two.0 in
          let l = left x is s k at (Push list) does.size does.stands in
          subst (Keeps x) (sym (ap (λ (c : ℕ). update_slots saves c old new (record s { regs = regs; segments = m.segments })) count ∙ reguarded_is))
          (push_keeps l.0 l.1 passed.in_stack (holds l.0 l.1) (not_start (begins_function x.image.functions regs.pc) fell))
        where
          not_start : (b : Bool) → cond b (Some (the_end.Trap kind.FellOff regs.pc s.regs.pc)) None ≡ None → b ≡ false
          not_start true h = absurd cc
          not_start false h = refl

      keeps_on : OnEvent x (acts.recorded_event (program_of x) s input)
      unfolding acts.recorded_event acts.pass_instruction
      keeps_on = subst (λ (b : Bool). OnEvent x (acts.event_after_pass (program_of x) s (acts.pass_if_checked (program_of x) s b) input)) (sym does.reached)
          (subst (λ (o : Stepping). OnEvent x (acts.event_after_pass (program_of x) s (acts.pass_step (program_of x) s o) input)) (sym step) (by_tests (acts.tests (program_of x) s Done regs) refl))

      stored_turns : Turns x s input
      stored_turns = record {
        same = plain_match (program_of x) s input (knows s k.corresponds) (subst (λ (o : Stepping). IsPlain (program_of x) s o.0) (sym step) tt);
        keeps = keeps_on;
      }

  -- A push whose fact after holds of what it stored is the same in both machines, and keeps.
  pub push_turns : ((m : Memory) → store_run (memory_of s) a (words_of list s.regs) ≡ (Ok tt, m) → (g : Fact) → after_of P lowering place (Push list) f ≡ Ok g → Holds P g (with_gs s.first gs) m.segments regs)
      → (input : List ℕ) → Turns x s input
  push_turns holds input = go (store_run (memory_of s) a (words_of list s.regs)) refl
    where
      go : (o : Result (Unit {0}) BusFault × Memory) → store_run (memory_of s) a (words_of list s.regs) ≡ o → Turns x s input
      go (Err fault, m) e = trap_turns x s k input (trap.Memory fault) s.regs m
          ((fetch x is s k at (Push list) does.size does.stands).step ∙ ap (λ (o : Result (Unit {0}) BusFault × Memory). store_end o does.size s.regs (with_reg s.regs SP a)) e)
          (ap (λ (q : Option (Instr × ℕ)). acts.registers_after_return s (acts.pops_some q)) (fetch x is s k at (Push list) does.size does.stands).stands) does.reached
      go (Ok tt, m) e = stored_turns m e (holds m e) input
