-- Events that stay in the first activation and go on to the next instruction, with any sp, and with memory changed where no slot lies: what every
-- event keeps is kept.
use Rattle.std.proofs.Common.{◌≡◌, ℕ, ◌+◌, ◌%◌, ◌^◌, ◌<◌, ◌≤◌, inl, inr, ◌&&◌, nat_lt, Bool, true, false, cond, List, [], ◌∷◌, filter, length, Option, Some, None, Ok, slice_index, refl, sym, ap, subst, ◌∙◌, arith}
use Rattle.std.proofs.lemmas.Bool.{cases_lt, lt-ltb}
use Rattle.eh_bus.specs.Guards.{insert_all}
use Rattle.eh_bus.specs.Lists.{Has}
use Rattle.eh_bus.specs.Map.{IsMap}
use Rattle.eh_bus.specs.Memory.{Memory, stays_guarded, without_guards_below}
use Rattle.eh_bus.proofs.GuardLaws.{has_filter, in_filter}
use Rattle.eh_bus.proofs.MapLaws.{map_trans, released_is_map}
use Rattle.eh_cxa.specs.ListCalls.{innermost_in}
use Rattle.eh_cxa.proofs.Kept.{still_stands}
use Rattle.run_images.specs.Start.{begins_function, image_start}
use Rattle.thumb_isa.specs.declared.instr.Instr.{Instr}
use Rattle.thumb_core.specs.Laws.{AreSound, KeepsMap}
use Rattle.thumb_core.specs.Outcome.{Outcome as Stepping}
use Rattle.thumb_core.specs.Registers.{reg}
use Rattle.run_images.specs.Profiles.{profile_of}
use Rattle.thumb_core.specs.Step.{step_for, effect as done_by, instr_for}
use Rattle.thumb_core.proofs.Follows.{step_follows}
use Rattle.thumb_core.specs.declared.regs.TheConstants.{SP}
use Rattle.thumb_core.specs.declared.regs.Regs.{Regs}
use Rattle.thumb_core.specs.declared.regs.Stepped.TheVariants.{Done, Call, Return, Gate, Trap}
use Rattle.thumb_core.specs.declared.ends.End.{End}
use Rattle.thumb_ahead.specs.Ahead.{branches, branches_some, pushes_some, pushed_registers}
use Rattle.frame_facts.specs.declared.facts.Fact.{Fact}
use Rattle.frame_facts.specs.declared.saves.Prologue.{Prologue}
use Rattle.frame_facts.specs.After.{after_of}
use Rattle.frame_code.specs.declared.standing.Standing.TheVariants.{Instruction}
use Rattle.sim_machines.specs.frame_graph.Places.{address_of, standing_at}
use Rattle.frame_code.specs.Branches.{reaches_next}
use Rattle.sim_machines.specs.frame_check.Accepts.{Accepted}
use Rattle.sim_machines.specs.frame_check.Judged.{IsPlaced}
use Rattle.sim_machines.specs.frame_check.Roots.{flow_graph_of}
use Rattle.sim_machines.specs.frame_check.Roles.{look}
use Rattle.sim_machines.proofs.frame_check.Wells.{placed_at}
use Rattle.sim_machines.proofs.frame_reach.Stands.{stands_inside, stands_size}
use Rattle.sim_machines.specs.Machine.{fell_off, sp_end, is_raised, leaves_cleanup}
use Rattle.sim_machines.specs.Activations.{Activation, Recorded, reg_in, memory_of, staying_words, guarded_words, heads, lists_of, cleanups_in, InProgress}
use Rattle.sim_machines.specs.ActivationLaws.{IsPlain}
use Rattle.sim_machines.specs.ActivationMachine.{update_slots}
use Rattle.sim_machines.specs.Checked.{program_of}
use Rattle.sim_machines.proofs.CallEvents.{knows}
use Rattle.sim_machines.proofs.Matching.{plain_match}
use Rattle.sim_machines.proofs.Beyond.{freed_outside}
use Rattle.sim_machines.proofs.Released.{where_it_stays}
use Rattle.sim_machines.proofs.SameSlots.{same_slots}
use Rattle.thumb_core.specs.declared.ends.End.TheVariants as the_end
use Rattle.thumb_core.specs.declared.ends.TrapKind.TheVariants as kind
use Rattle.sim_machines.specs.ActivationMachine as acts
use Rattle.sim_relation.specs.Holds.{Holds}
use Rattle.sim_relation.specs.Chain.{code, StandsAt}
use Rattle.sim_relation.specs.Cleanups.{IsWithin, AreInProgress}
use Rattle.sim_relation.specs.Stands.{Keeps, IsProgram, OnEvent, Turns}
use Rattle.sim_code.proofs.Fetch.{fetched, IsFetched}
use Rattle.sim_relation.proofs.Flows.{leaves, none_stands, stands_instruction}
use Rattle.sim_relation.proofs.Goes.{chain_top, next_stands}
use Rattle.sim_relation.proofs.Written.{Moves, SameWords, SameClosed, with_gs, holds_moves, chain_moves, same_word, linked_small, in_progress}
use Rattle.sim_relation.proofs.SpTests.{sp_passes}
use Rattle.sim_relation.proofs.Slots.{stays, outer_same, same_slot_words, first_slots, none_or}

module _ (x : Accepted) (is : IsProgram x) (s : Recorded) (k : Keeps x s) (at : StandsAt x s.first s.segments s.regs s.regs.pc) (i : Instr) (size : ℕ)
    (stands : standing_at (flow_graph_of x.image at.function) at.place ≡ Instruction i size) where
  abbrev p : Prologue
  p = (code x at.function at.marks).prologue

  abbrev place : ℕ
  place = address_of (flow_graph_of x.image at.function) at.place

  abbrev lowering : Bool
  lowering = (code x at.function at.marks).lowers at.place

  pub left : (g : Fact) × (after_of p lowering place i at.fact ≡ Ok g)
  left = leaves (code x at.function at.marks) at.place at.fact (none_stands x at.function at.marks is.sound at.of.among at.of.are) at.state i
      (stands_instruction (flow_graph_of x.image at.function) at.place i size stands)

  module _ (regs : Regs) (m : Memory) (keeps : KeepsMap (memory_of s) m) (map_is : IsMap m) where
    abbrev new : ℕ
    new = reg regs SP

    abbrev gs : List ℕ
    gs = first_slots s (reg_in s SP) new

    abbrev u : Recorded
    u = record s { regs = regs; segments = m.segments; first = with_gs s.first gs }

    words : SameWords s.segments m.segments (s.first ∷ s.outer)
    words = same_slot_words s m keeps

    moves : Moves s.segments m.segments new s.first gs
    moves g h l = (go (nat_lt (reg_in s SP) new), words.0 g h)
      where
        go : (b : Bool) → Has (cond b (filter (stays_guarded s.home new) s.first.slots) s.first.slots) g
        go true = in_filter (stays_guarded s.home new) s.first.slots g h (stays s.home new g l)
        go false = h

    pub within : (g : ℕ) → Has gs g → (new ≤ g) × (g + 4 ≤ s.first.caller.sp)
    within g h = go (nat_lt (reg_in s SP) new) refl h
      where
        go : (b : Bool) → nat_lt (reg_in s SP) new ≡ b → Has (cond b (filter (stays_guarded s.home new) s.first.slots) s.first.slots) g → (new ≤ g) × (g + 4 ≤ s.first.caller.sp)
        go true e i =
            let f = has_filter (stays_guarded s.home new) s.first.slots g i in
            let w = k.slots g f.0 in
            let low = k.low in
            (elim (where_it_stays s.home.0 new g f.1) [ inl l ↦ l | inr l ↦ absurd (omega (arith, l, w.0, low)) ], w.1)
        go false e i =
            let w = k.slots g i in
            (elim (cases_lt (reg_in s SP) new) [ inl l ↦ absurd (let t = lt-ltb (reg_in s SP) new l in cc) | inr l ↦ omega (arith, l, w.0) ], w.1)

    pub closed : SameClosed (memory_of s) (memory_of u)
    closed a e c = keeps.closed a e c

    module _ (high : new ≤ s.first.caller.sp) where
      same_beyond : staying_words s.home (reg_in s SP) new s.beyond ≡ s.beyond
      same_beyond = let top = chain_top x s.segments s.home s.first.caller s.outer k.chain in freed_outside s.home (reg_in s SP) new s.beyond (omega (arith, high, top)) k.beyond

      -- that is what is left of the activations
      pub reguarded_is : (saves : ℕ) → update_slots saves 0 (reg_in s SP) new (record s { regs = regs; segments = m.segments }) ≡ u
      reguarded_is saves =
          ap (λ (o : List Activation). let r : Recorded = record u { outer = o; beyond = staying_words s.home (reg_in s SP) new s.beyond } in r) (outer_same x s.segments s.home (reg_in s SP) new s.first.caller s.outer k.chain high)
          ∙ ap (λ (b : List ℕ). let r : Recorded = record u { beyond = b } in r) same_beyond

      pub map_left : IsMap (memory_of u)
      map_left =
          let base : Memory = record { segments = m.segments; guards = insert_all (guarded_words s.beyond (s.first ∷ s.outer)) []; home = s.home } in
          let base_is : IsMap base = record { segments = map_is.segments; guards = k.corresponds.map.guards; home = k.corresponds.map.home } in
          subst (λ (b : List ℕ). IsMap (record { segments = m.segments; guards = insert_all (guarded_words b (with_gs s.first gs ∷ s.outer)) []; home = s.home })) same_beyond
          (subst (λ (o : List Activation). IsMap (record { segments = m.segments; guards = insert_all (guarded_words (staying_words s.home (reg_in s SP) new s.beyond) (with_gs s.first gs ∷ o)) []; home = s.home }))
          (outer_same x s.segments s.home (reg_in s SP) new s.first.caller s.outer k.chain high)
          (subst IsMap (same_slots s.home m.segments 0 0 (reg_in s SP) new s.first s.outer s.beyond) (go base base_is (nat_lt (reg_in s SP) new))))
        where
          go : (n : Memory) → IsMap n → (b : Bool) → IsMap (cond b (without_guards_below n new) n)
          go n h true = released_is_map n new h
          go n h false = h

      pub on_keeps : (g : Fact) → reaches_next i ≡ true → after_of p lowering place i at.fact ≡ Ok g → regs.pc ≡ s.regs.pc + size → AreSound regs.r regs.pc → s.home.0 ≤ new
          → leaves_cleanup (innermost_in (cleanups_in s.cleanups)) (reg_in s SP) new ≡ false → Holds p g s.first s.segments regs → begins_function x.image.functions regs.pc ≡ false → Keeps x u
      on_keeps g on e pc sound low landing holds fresh = record {
        corresponds = record {
          map = map_left;
          stands = still_stands (memory_of s) (memory_of u) (heads (lists_of s)) (lists_of s) (same_word (memory_of s) (memory_of u) closed) k.corresponds.stands;
        };
        counted = k.counted;
        image = map_trans (image_start x.image).memory.segments s.segments m.segments k.image keeps.map;
        sound = sound;
        low = low;
        high = high;
        whole = k.whole;
        slots = within;
        first = λ reached. next_stands x is s k at i size stands g regs m.segments (with_gs s.first gs) refl on e pc
            (holds_moves s.segments m.segments p g s.first gs regs moves holds) reached fresh;
        beyond = k.beyond;
        chain = chain_moves s.segments m.segments x s.home s.first.caller s.outer words.1 k.chain;
        cleanups = in_progress x s u gs new refl refl closed moves words.1 (reg_in s SP) new s.cleanups
            (linked_small _ _ (cleanups_in s.cleanups) k.corresponds.stands.shows.cleanups) (omega arith) (at_landing s.cleanups k.cleanups landing) k.cleanups;
      }
        where
          at_landing : (cs : List InProgress) → AreInProgress x s (reg_in s SP) cs → leaves_cleanup (innermost_in (cleanups_in cs)) (reg_in s SP) new ≡ false → IsWithin new (cleanups_in cs)
          at_landing [] h l = tt
          at_landing (d ∷ more) h l = go (nat_lt (reg_in s SP) new) refl (nat_lt d.cleanup.sp new) refl l
            where
              go : (a : Bool) → nat_lt (reg_in s SP) new ≡ a → (b : Bool) → nat_lt d.cleanup.sp new ≡ b → (a && b) ≡ false → new ≤ d.cleanup.sp
              go true e true f z = absurd cc
              go true e false f z = elim (cases_lt d.cleanup.sp new) [ inl w ↦ absurd (let t = lt-ltb d.cleanup.sp new w in cc) | inr w ↦ w ]
              go false e b f z = elim (cases_lt (reg_in s SP) new) [ inl w ↦ absurd (let t = lt-ltb (reg_in s SP) new w in cc) | inr w ↦ omega (arith, w, h.0) ]

  -- ---- the event

  -- what an instruction that goes on does: where the tests of sp pass it, its registers hold what the fact after it says, of the words as they were
  pub record DoesOn (regs : Regs) (m : Memory) : Type 0 where
    pub map : IsMap m
    pub pc : regs.pc ≡ s.regs.pc + size
    pub holds : is_raised (look x.roles s.regs.pc).lowers (reg_in s SP) (reg regs SP) ≡ false → (g : Fact) → after_of p lowering place i at.fact ≡ Ok g → Holds p g s.first s.segments regs

  abbrev pub IsOn : Stepping → Type 0
  IsOn (Done, regs, m) = DoesOn regs m
  IsOn (Trap trap, regs, m) = Unit {0}
  IsOn (Call target ret, regs, m) = ⊥
  IsOn (Return to, regs, m) = ⊥
  IsOn (Gate number, regs, m) = ⊥

  pub fetch : IsFetched x.image at.function s.segments is.image at.of.among k.image i size s.regs (memory_of s)
  fetch = fetched x.image at.function s.segments is.image at.of.among k.image at.place i size s.regs (memory_of s) refl at.address stands

  -- pc after it
  pub next_pc : s.regs.pc + size < 2 ^ 32
  next_pc =
      let inside = stands_inside (flow_graph_of x.image at.function) at.place i size stands in
      let placed : IsPlaced at.function = subst IsPlaced at.of.among.2 (placed_at x.image at.of.among.0 at.function is.image at.of.among.1) in
      omega (arith, at.address, inside, placed.low)

  pub next_even : (s.regs.pc + size) % 2 ≡ 0
  next_even = elim (stands_size (flow_graph_of x.image at.function) at.place i size stands) [
    | inl two ↦ omega (arith, k.sound.is_even, two)
    | inr four ↦ omega (arith, k.sound.is_even, four)
  ]

  module _ (on : reaches_next i ≡ true) (taken : branches i s.regs ≡ false) (pushes : pushed_registers i ≡ []) (back : acts.registers_after_return s (acts.popped_mask i) ≡ None) (input : List ℕ) where
    no_pop : acts.pops_back (program_of x) s ≡ None
    no_pop = ap (λ (q : Option (Instr × ℕ)). acts.registers_after_return s (acts.pops_some q)) fetch.stands ∙ back

    by_tests : (regs : Regs) (m : Memory) → step_for (profile_of x.image) s.regs (memory_of s) ≡ (Done, regs, m) → DoesOn regs m → (o : Option End) → acts.tests (program_of x) s Done regs ≡ o
        → OnEvent x (acts.event_after_pass (program_of x) s (acts.pass_tests (program_of x) s Done regs m o) input)
    by_tests regs m e d (Some end) t = k
    by_tests regs m e d None t =
        let follows = step_follows (profile_of x.image) s.regs (memory_of s) in
        let keeps : KeepsMap (memory_of s) m = subst (λ (o : Stepping). KeepsMap (memory_of s) o.2) e follows.memory in
        let sound : AreSound regs.r regs.pc = subst (λ (o : Stepping). AreSound o.1.r o.1.pc) e (follows.sound k.sound) in
        let none : pushes_some (instr_for (profile_of x.image) (memory_of s) s.regs.pc) ≡ 0 = ap pushes_some fetch.stands ∙ ap length pushes in
        let two = none_or (sp_end (look x.roles s.regs.pc).lowers (innermost_in (cleanups_in s.cleanups)) s.home.0 s.regs.pc (reg_in s SP) (slice_index regs.r SP))
        (acts.control_flow_trap_of (program_of x) s (branches_some (instr_for (profile_of x.image) (memory_of s) s.regs.pc) s.regs) Done regs) t in
        let straight : branches_some (instr_for (profile_of x.image) (memory_of s) s.regs.pc) s.regs ≡ false = ap (λ (o : Option (Instr × ℕ)). branches_some o s.regs) fetch.stands ∙ taken in
        let fell : fell_off (program_of x) s.regs.pc regs.pc ≡ None = subst (λ (b : Bool). cond b None (fell_off (program_of x) s.regs.pc regs.pc) ≡ None) straight two.1 in
        let passed = sp_passes (look x.roles s.regs.pc).lowers (innermost_in (cleanups_in s.cleanups)) s.home.0 s.regs.pc (reg_in s SP) (slice_index regs.r SP) two.0 in
        let holds = d.holds passed.lowered left.0 left.1 in
        let lower = holds.lower in
        let high : reg regs SP ≤ s.first.caller.sp = omega (arith, lower) in
        let base : Recorded = record s { regs = regs; segments = m.segments } in
        subst (Keeps x) (sym (ap (λ (n : ℕ). update_slots (look x.roles s.regs.pc).saves n (reg_in s SP) (slice_index regs.r SP) base) none ∙ reguarded_is regs m keeps d.map high (look x.roles s.regs.pc).saves))
        (on_keeps regs m keeps d.map high left.0 on left.1 d.pc sound passed.in_stack passed.landing_stays holds (not_start (begins_function x.image.functions regs.pc) fell))
      where
        not_start : (b : Bool) → cond b (Some (the_end.Trap kind.FellOff regs.pc s.regs.pc)) None ≡ None → b ≡ false
        not_start true h = absurd cc
        not_start false h = refl

    by_step : (o : Stepping) → step_for (profile_of x.image) s.regs (memory_of s) ≡ o → IsOn o → OnEvent x (acts.event_after_pass (program_of x) s (acts.pass_step (program_of x) s o) input)
    by_step (Trap trap, regs, m) e d = subst (λ (q : Option Regs). OnEvent x (acts.event_after_pass (program_of x) s (acts.trap_or_return (program_of x) s trap q) input)) (sym no_pop) k
    by_step (Done, regs, m) e d = by_tests regs m e d (acts.tests (program_of x) s Done regs) refl
    by_step (Call target ret, regs, m) e d = absurd d
    by_step (Return to, regs, m) e d = absurd d
    by_step (Gate number, regs, m) e d = absurd d

    is_plain : (o : Stepping) → IsOn o → IsPlain (program_of x) s o.0
    is_plain (Trap trap, regs, m) d = no_pop
    is_plain (Done, regs, m) d = tt
    is_plain (Call target ret, regs, m) d = absurd d
    is_plain (Return to, regs, m) d = absurd d
    is_plain (Gate number, regs, m) d = absurd d

    keeps_on : IsOn (done_by i size s.regs (memory_of s)) → (look x.roles s.regs.pc).is_instr ≡ true → OnEvent x (acts.recorded_event (program_of x) s input)
    unfolding acts.recorded_event acts.pass_instruction
    keeps_on d reached = subst (λ (b : Bool). OnEvent x (acts.event_after_pass (program_of x) s (acts.pass_if_checked (program_of x) s b) input)) (sym reached)
        (subst (λ (o : Stepping). OnEvent x (acts.event_after_pass (program_of x) s (acts.pass_step (program_of x) s o) input)) (sym fetch.step) (by_step (done_by i size s.regs (memory_of s)) fetch.step d))

    -- Such an event is the same in both machines, and keeps.
    pub on_turns : IsOn (done_by i size s.regs (memory_of s)) → (look x.roles s.regs.pc).is_instr ≡ true → Turns x s input
    on_turns d reached = record {
      same = plain_match (program_of x) s input (knows s k.corresponds) (subst (λ (o : Stepping). IsPlain (program_of x) s o.0) (sym fetch.step) (is_plain (done_by i size s.regs (memory_of s)) d));
      keeps = keeps_on d reached;
    }
