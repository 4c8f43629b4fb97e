-- A gate that walks no frames: both machines do the same, and what every event keeps is kept. Of the registers that a gate may change nothing
-- is known after it, and the words that it writes lie in the pool.
use Rattle.std.proofs.Common.{◌≡◌, ℕ, zero, suc, ◌≤◌, ◌==◌, false, arith, refl, Bool, true, Some, None, ◌+◌, ◌%◌, ◌^◌, ◌<◌, nat_lt, inl, inr, cond, List, [], ◌∷◌, drop, Option, slice_index, sym, ap, subst, ◌∙◌}
use Rattle.std.specs.List.{list_any}
use Rattle.std.specs.Prelude.{if◌then◌else◌, Contains, slice_get, take}
use Rattle.std.proofs.lemmas.Bool.{eqb-true}
use Rattle.thumb_core.specs.Words.{registers_of_list}
use Rattle.frame_facts.specs.Branches.{gate_changes}
use Rattle.thumb_core.specs.declared.ends.End.{End}
use Rattle.run_events.specs.Runs.{Goes, Ends}
use Rattle.eh_bus.specs.Lists.{Has}
use Rattle.eh_bus.specs.Segment.{Segment}
use Rattle.eh_bus.proofs.MapLaws.{map_trans}
use Rattle.eh_cxa.specs.Lists.{slots}
use Rattle.eh_cxa.specs.ListCalls.{innermost_in}
use Rattle.eh_cxa.specs.Words.{set_slot_words}
use Rattle.eh_gates.specs.Resuming.{goal_in}
use Rattle.eh_gates.specs.declared.state.Turned.TheVariants.{Went, Ended}
use Rattle.eh_phase.specs.declared.phase2.Goal.{Goal}
use Rattle.run_gates.specs.declared.gates.TheConstants.{EXIT_GATE, OUTPUT_GATE, INPUT_GATE}
use Rattle.run_gates.specs.Gates.{r0, with_r0, byte_or_end, gate_event}
use Rattle.run_images.specs.Start.{begins_function, image_start}
use Rattle.thumb_isa.specs.declared.instr.Instr.TheVariants.{Svc}
use Rattle.thumb_core.specs.Laws.{AreSound, AreWords}
use Rattle.thumb_core.specs.Outcome.{Outcome as Stepping}
use Rattle.thumb_core.specs.Registers.{with_next}
use Rattle.run_images.specs.Profiles.{profile_of}
use Rattle.thumb_core.specs.Step.{step_for}
use Rattle.thumb_core.proofs.Follows.{step_follows}
use Rattle.thumb_core.specs.declared.regs.TheConstants.{SP}
use Rattle.thumb_core.specs.declared.regs.Regs.{Regs}
use Rattle.thumb_core.specs.declared.regs.Stepped.TheVariants.{Gate}
use Rattle.frame_facts.specs.declared.saves.Prologue.{Prologue}
use Rattle.frame_facts.specs.Facts.{forget_registers}
use Rattle.frame_facts.specs.Saves.{saves_of}
use Rattle.frame_facts.proofs.Described.{clobbering_described}
use Rattle.frame_code.specs.declared.standing.Standing.TheVariants.{Instruction}
use Rattle.frame_graph.specs.Places.{standing_at}
use Rattle.sim_machines.specs.frame_check.Accepts.{Accepted}
use Rattle.sim_machines.specs.frame_check.Roots.{flow_graph_of}
use Rattle.sim_machines.specs.frame_check.Roles.{look}
use Rattle.sim_machines.specs.Program.{program_tables}
use Rattle.sim_machines.specs.Machine.{sp_end, gate_goes_on}
use Rattle.sim_machines.specs.Activations.{Recorded, reg_in, memory_of, lists_of, cleanups_in, InProgress, with_lists}
use Rattle.sim_machines.specs.Corresponds.{Corresponds, WalksNone, IsInPlace}
use Rattle.sim_machines.specs.Checked.{program_of}
use Rattle.sim_machines.proofs.CallEvents.{calls_match}
use Rattle.sim_machines.proofs.CallGates.{gates_match}
use Rattle.sim_machines.proofs.FirstEvent.{segments_alone}
use Rattle.thumb_core.specs.declared.ends.End.TheVariants as the_end
use Rattle.thumb_core.specs.declared.ends.TrapKind.TheVariants as kind
use Rattle.sim_machines.specs.ActivationMachine as acts
use Rattle.sim_relation.specs.Holds.{Holds, SameAt, AllSameAt}
use Rattle.sim_relation.specs.Chain.{code, StandsAt}
use Rattle.sim_relation.specs.Cleanups.{goal_at, IsHeld, IsWithin, AreInProgress}
use Rattle.sim_relation.specs.Stands.{Keeps, IsProgram, OnEvent, Turns, IsCounted, DoesAt}
use Rattle.sim_steps.proofs.Counted.{gate_counts}
use Rattle.sim_relation.proofs.Goes.{next_stands, chain_top}
use Rattle.sim_relation.proofs.SimpleTurns.{fetch, none_or}
use Rattle.sim_steps.proofs.Jumps.{next_pc}
use Rattle.sim_relation.proofs.Moves.{clobbered_frame}
use Rattle.sim_relation.proofs.Moved.{SameWords, LieIn, AllLieIn, same_at, all_same_at, holds_moves, chain_lies, chain_moves, held_moves}
use Rattle.sim_relation.proofs.Tame.{IsKeptByWrites, tame_keeps}
use Rattle.sim_steps.proofs.Gated.{After, Behaves, set_words, set_others}
use Rattle.sim_steps.proofs.Behaving.{gate_behaves}

-- what a gate may change
not_changed : (j : ℕ) → list_any (λ (i : ℕ). i == j) gate_changes ≡ false → 2 ≤ j
unfolding registers_of_list
not_changed zero h = absurd cc
not_changed (suc zero) h = absurd cc
not_changed (suc (suc j)) h = omega arith

sp_stays : list_any (λ (i : ℕ). i == 13) gate_changes ≡ false
unfolding registers_of_list
sp_stays = refl

no_fall : (b : Bool) (end : End) → (if b then Some end else None) ≡ None → b ≡ false
no_fall true end h = absurd cc
no_fall false end h = refl

module _ (x : Accepted) (is : IsProgram x) (s : Recorded) (k : Keeps x s) (at : StandsAt x s.first s.segments s.regs s.regs.pc) (number size : ℕ)
    (stands : standing_at (flow_graph_of x.image at.function) at.place ≡ Instruction (Svc number) size) where
  abbrev p : Prologue
  p = (code x at.function at.marks).prologue

  abbrev regs : Regs
  regs = with_next size s.regs

  stepped : step_for (profile_of x.image) s.regs (memory_of s) ≡ (Gate number, regs, memory_of s)
  stepped = (fetch x is s k at (Svc number) size stands).step

  -- ---- after it

  module _ (t : Recorded) (b : After s regs.pc t) where
    abbrev segments : List Segment
    segments = (set_slot_words b.writes (memory_of s)).segments

    abbrev u : Recorded
    u = record (with_lists b.lists b.writes s) { regs = b.regs }

    kept : IsKeptByWrites (slots (cleanups_in s.cleanups)) (memory_of s) (record (memory_of s) { segments = segments })
    kept = subst (IsKeptByWrites (slots (cleanups_in s.cleanups)) (memory_of s)) (segments_alone b.writes (memory_of s)) (tame_keeps (slots (cleanups_in s.cleanups)) b.writes (memory_of s) k.corresponds.map b.tame)

    same_words : SameWords s.home s.segments segments
    same_words g low high = let home = k.corresponds.map.home in kept.loads g (omega (arith, home.low, low))

    top : s.first.caller.sp ≤ s.home.1
    top = chain_top x s.segments s.home s.first.caller s.outer k.chain

    first_lies : LieIn s.home s.first
    first_lies g h = let w = k.slots g h in let high = top in (omega (arith, w.0, k.low), omega (arith, w.1, high))

    outer_lies : AllLieIn s.home s.outer
    outer_lies = chain_lies x s.segments s.home s.first.caller s.outer (omega (arith, k.low, k.high)) k.chain

    first_same : SameAt s.segments segments s.first
    first_same = same_at s.home s.segments segments s.first same_words first_lies

    outer_same : AllSameAt s.segments segments s.outer
    outer_same = all_same_at s.home s.segments segments s.outer same_words outer_lies

    sp : slice_index b.regs.r SP ≡ reg_in s SP
    sp = b.others SP (omega arith)

    holds : Holds p (forget_registers gate_changes at.fact) s.first segments b.regs
    holds =
        let h = holds_moves s.home s.segments segments p at.fact s.first s.regs first_same at.holds in
        let frame = clobbered_frame gate_changes at.fact in
        record {
          entry = h.entry;
          saved = h.saved;
          link = h.link;
          describes = clobbering_described h.entry s.first.caller.sp gate_changes at.fact s.regs b.regs h.describes (λ j kept_reg. b.others j (not_changed j kept_reg)) sp_stays;
          lower = omega (arith, h.lower, frame.0, sp);
          saves = λ w e. let one = h.saves w (subst (λ n. Contains (take n (saves_of p)) w) frame.1 e) in
              record { low = one.low; deep = omega (arith, one.deep, frame.0); holds = one.holds; slot = one.slot };
        }

    same_goal : (slot : ℕ) → Has (slots (cleanups_in s.cleanups)) slot → goal_at u slot ≡ goal_at s slot
    same_goal slot has = ap goal_in (kept.barriers slot has)

    in_progress : (low : ℕ) (cleanups : List InProgress) → ((slot : ℕ) → Has (slots (cleanups_in cleanups)) slot → goal_at u slot ≡ goal_at s slot) → AreInProgress x s low cleanups
        → AreInProgress x u low cleanups
    in_progress low [] goals q = tt
    in_progress low (c ∷ later) goals q =
        let d = c.cleanup in
        let goal = goals d.slot (inl refl) in (
          q.0,
          subst (λ (g : Goal). IsHeld x segments g c.place d (s.first ∷ s.outer)) (sym goal)
              (held_moves s.home s.segments segments x (goal_at s d.slot) c.place d (s.first ∷ s.outer) (first_same, outer_same) q.1),
          subst (λ (g : Goal). IsWithin g.sp (cleanups_in later)) (sym goal) q.2,
          in_progress d.sp later (λ slot h. goals slot (inr h)) q.3,
        )

    pc : b.regs.pc ≡ s.regs.pc + size
    pc = b.pc ∙ next_pc x is s k at (Svc number) size stands

    sound : AreSound b.regs.r b.regs.pc
    sound =
        let next : AreSound regs.r regs.pc = subst (λ (o : Stepping). AreSound o.1.r o.1.pc) stepped ((step_follows (profile_of x.image) s.regs (memory_of s)).sound k.sound) in
        record { words = b.words; small = subst (λ n. n < 2 ^ 32) (sym b.pc) next.small; is_even = subst (λ n. n % 2 ≡ 0) (sym b.pc) next.is_even }

    after_u : IsCounted b.lists → Corresponds u → begins_function x.image.functions regs.pc ≡ false → Keeps x u
    after_u counted c fresh = record {
      corresponds = c;
      counted = counted;
      image = map_trans (image_start x.image).memory.segments s.segments segments k.image kept.map;
      sound = sound;
      low = subst (λ n. s.home.0 ≤ n) (sym sp) k.low;
      high = subst (λ n. n ≤ s.first.caller.sp) (sym sp) k.high;
      whole = k.whole;
      slots = subst (λ n. (g : ℕ) → Has s.first.slots g → (n ≤ g) × (g + 4 ≤ s.first.caller.sp)) (sym sp) k.slots;
      first = λ reached. next_stands x is s k at (Svc number) size stands (forget_registers gate_changes at.fact) b.regs segments s.first refl refl refl pc holds reached
          (subst (λ n. begins_function x.image.functions n ≡ false) (sym b.pc) fresh);
      beyond = k.beyond;
      chain = chain_moves s.home s.segments segments x s.first.caller s.outer outer_same k.chain;
      cleanups = subst (λ n. AreInProgress x u n s.cleanups) (sym sp) (in_progress (reg_in s SP) s.cleanups same_goal k.cleanups);
    }

    pub after_keeps : IsCounted (lists_of t) → Corresponds t → begins_function x.image.functions regs.pc ≡ false → Keeps x t
    after_keeps counted c fresh = subst (Keeps x) (sym b.is) (after_u (subst (λ (v : Recorded). IsCounted (lists_of v)) b.is counted) (subst Corresponds b.is c) fresh)

  -- ---- the event

  module _ (walks : WalksNone number) (input : List ℕ) (bytes : byte_or_end (slice_get input 0) < 2 ^ 32) where
    abbrev Fresh : Type 0
    Fresh = gate_goes_on number ≡ true → begins_function x.image.functions regs.pc ≡ false

    -- gates of every machine
    plain_after : (after : Regs) → after.pc ≡ regs.pc → AreWords 15 after.r → ((j : ℕ) → 2 ≤ j → slice_index after.r j ≡ slice_index s.regs.r j) → begins_function x.image.functions regs.pc ≡ false
        → Keeps x (record s { regs = after })
    plain_after after pc words others fresh =
        after_keeps (record s { regs = after }) (record { regs = after; lists = lists_of s; writes = []; is = refl; tame = tt; pc = pc; words = words; others = others })
        k.counted (record { map = k.corresponds.map; stands = k.corresponds.stands }) fresh

    low_event : Fresh → OnEvent x (acts.in_state s (gate_event number s.regs regs input))
    low_event fresh = go (number == EXIT_GATE) (number == OUTPUT_GATE) refl (number == INPUT_GATE) refl
      where
        ended : Keeps x (record s { regs = s.regs })
        ended = k

        go : (a b : Bool) → (number == OUTPUT_GATE) ≡ b → (c : Bool) → (number == INPUT_GATE) ≡ c
            → OnEvent x (acts.in_state s (cond a (Ends (the_end.Exit (r0 regs)) s.regs) (cond b (Goes regs (r0 regs % 256 ∷ []) input)
            (cond c (Goes (with_r0 (byte_or_end (slice_get input 0)) regs) [] (drop 1 input)) (Ends (the_end.Trap kind.UnknownGate number s.regs.pc) s.regs)))))
        go true b e c f = ended
        go false true e c f = plain_after regs refl k.sound.words (λ j far. refl) (fresh (subst (λ n. gate_goes_on n ≡ true) (sym (eqb-true number OUTPUT_GATE e)) refl))
        go false false e true f =
            plain_after (with_r0 (byte_or_end (slice_get input 0)) regs) refl (set_words s.regs.r 0 (byte_or_end (slice_get input 0)) (omega arith) bytes k.sound.words)
            (λ j far. set_others s.regs.r 0 (byte_or_end (slice_get input 0)) j (omega arith) far) (fresh (subst (λ n. gate_goes_on n ≡ true) (sym (eqb-true number INPUT_GATE f)) refl))
        go false false e false f = ended

    high_event : (q : acts.Outcome) → Behaves s number regs.pc q → IsCounted (lists_of q.1) → Corresponds q.1 → Fresh → OnEvent x (acts.event_of q input)
    high_event (Went, t) h counted c fresh = after_keeps t h.1 counted c (fresh h.0)
    high_event (Ended end, t) h counted c fresh = subst (Keeps x) (sym h) k

    gated : Fresh → OnEvent x (acts.event_at_gate (program_of x) number s regs input)
    gated fresh = go (nat_lt INPUT_GATE number)
      where
        go : (b : Bool) → OnEvent x (cond b (acts.event_of (acts.gate_of (program_tables (program_of x)) number regs.pc s) input) (acts.in_state s (gate_event number s.regs regs input)))
        go true =
            high_event (acts.gate_of (program_tables (program_of x)) number regs.pc s) (gate_behaves s k.corresponds k.sound.words number regs.pc (program_tables (program_of x)) walks k.counted) (gate_counts (program_tables (program_of x)) s k.counted number regs.pc)
            (gates_match (program_tables (program_of x)) number regs.pc s k.corresponds (k.sound.words.small 0) walks).still fresh
        go false = low_event fresh

    tested : (o : Option End) → acts.tests (program_of x) s (Gate number) regs ≡ o → OnEvent x (acts.event_after_pass (program_of x) s (acts.pass_tests (program_of x) s (Gate number) regs (memory_of s) o) input)
    tested (Some end) e = k
    tested None e =
        let edge = none_or (sp_end (look x.roles s.regs.pc).lowers (innermost_in (cleanups_in s.cleanups)) s.home.0 s.regs.pc (reg_in s SP) (slice_index regs.r SP)) _ e in
        gated (λ on. fresh (gate_goes_on number) on edge)
      where
        fresh : (b : Bool) → b ≡ true → cond b (if begins_function x.image.functions regs.pc then Some (the_end.Trap kind.FellOff regs.pc s.regs.pc) else None) None ≡ None → begins_function x.image.functions regs.pc ≡ false
        fresh true on w = no_fall (begins_function x.image.functions regs.pc) (the_end.Trap kind.FellOff regs.pc s.regs.pc) w
        fresh false on w = absurd cc

    checked : OnEvent x (acts.event_after_pass (program_of x) s (acts.pass_step (program_of x) s (step_for (profile_of x.image) s.regs (memory_of s))) input)
    checked = subst (λ (o : Stepping). OnEvent x (acts.event_after_pass (program_of x) s (acts.pass_step (program_of x) s o) input)) (sym stepped) (tested (acts.tests (program_of x) s (Gate number) regs) refl)

    event : (look x.roles s.regs.pc).is_instr ≡ true → OnEvent x (acts.recorded_event (program_of x) s input)
    unfolding acts.recorded_event acts.pass_instruction
    event reached = subst (λ (b : Bool). OnEvent x (acts.event_after_pass (program_of x) s (acts.pass_if_checked (program_of x) s b) input)) (sym reached) checked

    pub svc_event : (look x.roles s.regs.pc).is_instr ≡ true → Turns x s input
    svc_event reached = record {
      same = calls_match.events (program_of x) s input k.corresponds (k.sound.words.small 0) (subst (λ (o : Stepping). IsInPlace (program_of x) s o.0) (sym stepped) walks);
      keeps = event reached;
    }

-- A gate that is no throw, no rethrow and no end of a cleanup, where the next byte of the input is a word.
pub gate_turns : (x : Accepted) (s : Recorded) (number : ℕ) (input : List ℕ) → IsProgram x → Keeps x s → DoesAt x s (Svc number) → WalksNone number
    → byte_or_end (slice_get input 0) < 2 ^ 32 → Turns x s input
gate_turns x s number input is k does walks bytes = svc_event x is s k does.at number does.size does.stands walks input bytes does.reached
