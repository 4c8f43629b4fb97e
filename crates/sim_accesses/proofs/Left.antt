-- After a return by BX what every event keeps is kept: the caller's activation stands after its call.
use Rattle.std.proofs.Common.{◌≡◌, ℕ, true, false, Ok, refl, ◌+◌, ◌/◌, ◌%◌, ◌<◌, List, length, slice_index, sym, subst, ◌∙◌, inl, [], ◌∷◌, Option, Some, None, ◌≤◌, inr, Bool, cond, ◌++◌, ap, arith}
use Rattle.std.specs.Option.{option_or}
use Rattle.thumb_isa.specs.declared.instr.Instr.{Instr}
use Rattle.thumb_isa.specs.declared.instr.Instr.TheVariants.{Bl, Blx, Bx}
use Rattle.frame_facts.specs.declared.facts.Fact.{Fact}
use Rattle.frame_facts.specs.declared.saves.Prologue.{Prologue}
use Rattle.frame_facts.specs.After.{after_of}
use Rattle.frame_facts.specs.Branches.{call_changes}
use Rattle.frame_facts.specs.Facts.{forget_registers}
use Rattle.frame_code.specs.Branches.{reaches_next}
use Rattle.frame_check.specs.frame_flow.Causes.{is_call}
use Rattle.run_images.specs.Start.{begins_function}
use Rattle.thumb_core.specs.declared.regs.TheConstants.{SP}
use Rattle.thumb_core.specs.declared.regs.Regs.{Regs}
use Rattle.frame_graph.specs.Places.{address_of, standing_at}
use Rattle.frame_check.specs.Accepts.{Accepted, IsInstr}
use Rattle.frame_check.specs.Judged.{IsPlaced}
use Rattle.frame_check.specs.Roots.{flow_graph_of}
use Rattle.frame_check.specs.Roles.{look}
use Rattle.frame_check.proofs.Wells.{placed_at}
use Rattle.sim_machines.specs.Activations.{Caller, Activation, Recorded, reg_in, memory_of, guarded_words, heads, lists_of, cleanups_in, InProgress}
use Rattle.eh_bus.specs.Lists.{Has}
use Rattle.eh_bus.specs.Guards.{insert_all}
use Rattle.eh_bus.specs.Memory.{Memory}
use Rattle.eh_bus.specs.Map.{IsMap}
use Rattle.eh_cxa.specs.Lists.{Cleanup}
use Rattle.eh_cxa.specs.ListCalls.{innermost_in}
use Rattle.eh_cxa.specs.Stands.{Stands}
use Rattle.eh_cxa.specs.Throw.{barrier_of}
use Rattle.eh_cxa.specs.Words.{word}
use Rattle.sim_machines.specs.eh_gates.Resuming.{goal_in}
use Rattle.sim_machines.specs.eh_phase.declared.phase2.Goal.{Goal}
use Rattle.thumb_core.specs.Laws.{AreSound}
use Rattle.thumb_core.specs.Outcome.{Outcome as Stepping}
use Rattle.thumb_core.specs.Registers.{with_pc}
use Rattle.run_images.specs.Profiles.{profile_of}
use Rattle.thumb_core.specs.Step.{step_for, instr_for}
use Rattle.thumb_core.proofs.Follows.{step_follows}
use Rattle.thumb_core.specs.declared.regs.Stepped.TheVariants.{Return}
use Rattle.thumb_core.specs.declared.ends.End.{End}
use Rattle.thumb_ahead.specs.Ahead.{pushes_some}
use Rattle.frame_code.specs.declared.standing.Standing.TheVariants.{Instruction}
use Rattle.frame_reach.proofs.Stands.{stands_inside}
use Rattle.sim_machines.specs.Machine.{sp_end}
use Rattle.sim_machines.specs.Checked.{program_of}
use Rattle.thumb_core.specs.declared.ends.End.TheVariants as the_end
use Rattle.thumb_core.specs.declared.ends.TrapKind.TheVariants as kind
use Rattle.sim_machines.specs.ActivationMachine as acts
use Rattle.sim_relation.specs.Chain.{code, StandsAt, StandsAtCall, Chain}
use Rattle.sim_relation.specs.Stands.{IsProgram, Keeps, OnEvent}
use Rattle.sim_relation.proofs.Flows.{none_stands, goes_straight, stands_instruction}
use Rattle.sim_relation.proofs.Moves.{after_call}
use Rattle.sim_prologue.proofs.sim_code.Places.{next_edge}
use Rattle.sim_relation.specs.Cleanups.{goal_at, IsHeld, IsWithin, AreInProgress}
use Rattle.sim_prologue.proofs.sim_code.Fetch.{fetched}
use Rattle.sim_relation.proofs.Goes.{reguarded_at_one_sp}
use Rattle.sim_accesses.proofs.Returns.{finds, stepped, sp_is, saved_is, same_regs}

-- ---- after a call

-- a call goes on, and leaves what it found but for the registers that it may change
call_leaves : (i : Instr) (p : Prologue) (lowers : Bool) (at : ℕ) (f : Fact) → is_call i ≡ true → (reaches_next i ≡ true) × (after_of p lowers at i f ≡ Ok (forget_registers call_changes f))
call_leaves (Bl off) p lowers at f h = (refl, refl)
call_leaves (Blx m) p lowers at f h = (refl, refl)
call_leaves i p lowers at f h = absurd cc

module _ (x : Accepted) (is : IsProgram x) (segments : List _) (c : Caller) (a : Activation) (out : StandsAtCall x segments c a) where
  abbrev place : ℕ
  place = address_of (flow_graph_of x.image out.function) out.place + out.size

  out_even : out.function.start % 2 ≡ 0
  out_even = (subst IsPlaced out.of.among.2 (placed_at x.image out.of.among.0 out.function is.image out.of.among.1)).even

  -- the caller's activation, with registers as it recorded them and pc at the return address
  pub stands_after : (regs : Regs) → length c.saved ≡ 8 → length regs.r ≡ 15 → ((j : ℕ) → j < 8 → slice_index regs.r (j + 4) ≡ slice_index c.saved j) → slice_index regs.r SP ≡ c.sp
      → regs.pc ≡ place → (look x.roles regs.pc).is_instr ≡ true → begins_function x.image.functions regs.pc ≡ false → StandsAt x a segments regs regs.pc
  stands_after regs count fifteen saved sp pc reached fresh =
      let leaves = call_leaves out.instr (code x out.function out.marks).prologue ((code x out.function out.marks).lowers out.place) (address_of (flow_graph_of x.image out.function) out.place) out.fact out.call in
      let instr : IsInstr x.image x.image.functions place = subst (λ n. IsInstr x.image x.image.functions n) pc ((is.sound.roles.instr regs.pc).0 reached) in
      let fresh_there : begins_function x.image.functions place ≡ false = subst (λ n. begins_function x.image.functions n ≡ false) pc fresh in
      let edge = next_edge x.image out.function out.place out.instr out.size is.image out.of.among out_even out.stands leaves.0 instr fresh_there in
      record {
        function = out.function;
        marks = out.marks;
        of = out.of;
        place = out.place + out.size / 2;
        address = pc ∙ sym edge.1;
        fact = forget_registers call_changes out.fact;
        state = goes_straight (code x out.function out.marks) out.place out.fact (none_stands x out.function out.marks is.sound out.of.among out.of.are) out.state out.instr
            (forget_registers call_changes out.fact) (out.place + out.size / 2) (stands_instruction (flow_graph_of x.image out.function) out.place out.instr out.size out.stands) leaves.1 edge.0;
        holds = after_call (code x out.function out.marks).prologue out.fact a segments c regs count fifteen out.holds saved sp;
      }

-- ---- BX

none_there : (gs : List ℕ) → ((g : ℕ) → Has gs g → ⊥) → gs ≡ []
none_there [] h = refl
none_there (g ∷ more) h = absurd (h g (inl refl))

none_or : {A : Type 0} (a b : Option A) → option_or a b ≡ None → b ≡ None
none_or (Some a) b e = absurd cc
none_or None b e = e

module _ (x : Accepted) (is : IsProgram x) (s : Recorded) (k : Keeps x s) (at : StandsAt x s.first s.segments s.regs s.regs.pc) (m size : ℕ)
    (stands : standing_at (flow_graph_of x.image at.function) at.place ≡ Instruction (Bx m) size) where
  abbrev caller : Caller
  caller = s.first.caller

  abbrev regs : Regs
  regs = with_pc s.regs caller.back

  no_slots : s.first.slots ≡ []
  no_slots = none_there s.first.slots (λ g h. let f = (finds x is s k at m size stands).slots g h in omega (arith, f.1, f.2))

  module _ (a : Activation) (more : List Activation) (out : s.outer ≡ a ∷ more) where
    abbrev t : Recorded
    t = record s { regs = regs; first = a; outer = more }

    same_memory : memory_of s ≡ memory_of t
    same_memory = ap (λ (gs : List ℕ). let n : Memory = record { segments = s.segments; guards = insert_all gs []; home = s.home } in n)
        (ap (λ (gs : List ℕ). gs ++ guarded_words s.beyond s.outer) no_slots ∙ ap (guarded_words s.beyond) out)

    links : StandsAtCall x s.segments caller a × Chain x s.segments s.home a.caller more
    links = let c = subst (Chain x s.segments s.home caller) out k.chain in (c.0, c.1)

    same_goal : (slot : ℕ) → goal_at s slot ≡ goal_at t slot
    same_goal slot = ap (λ (n : Memory). goal_in (barrier_of (word n) (Some slot))) same_memory

    -- a cleanup in progress isn't in the activation that was left
    held : (g : Goal) (n : ℕ) (c : Cleanup) → reg_in s SP ≤ c.sp → IsHeld x s.segments g n c (s.first ∷ s.outer) → IsHeld x s.segments g n c (a ∷ more)
    held g n c low (inl here) = absurd (omega (arith, here.1.below, low, sp_is x is s k at m size stands))
    held g n c low (inr outside) = subst (IsHeld x s.segments g n c) out outside.1

    in_progress : (low : ℕ) (cleanups : List InProgress) → reg_in s SP ≤ low → AreInProgress x s low cleanups → AreInProgress x t low cleanups
    in_progress low [] h p = tt
    in_progress low (d ∷ later) h p =
        let c = d.cleanup in
        let above : reg_in s SP ≤ c.sp = omega (arith, h, p.0) in (
          p.0,
          subst (λ g. IsHeld x s.segments g d.place c (a ∷ more)) (same_goal c.slot) (held (goal_at s c.slot) d.place c above p.1),
          subst (λ (g : Goal). IsWithin g.sp (cleanups_in later)) (same_goal c.slot) p.2,
          in_progress c.sp later above p.3,
        )

    sound : AreSound regs.r regs.pc
    sound = subst (λ (o : Stepping). AreSound o.1.r o.1.pc) (stepped x is s k at m size stands) ((step_follows (profile_of x.image) s.regs (memory_of s)).sound k.sound)

    pc : regs.pc ≡ address_of (flow_graph_of x.image links.0.function) links.0.place + links.0.size
    pc =
        let placed : IsPlaced links.0.function = subst IsPlaced links.0.of.among.2 (placed_at x.image links.0.of.among.0 links.0.function is.image links.0.of.among.1) in
        let inside = stands_inside (flow_graph_of x.image links.0.function) links.0.place links.0.instr links.0.size links.0.stands in
        omega (arith, links.0.back, placed.low, inside, k.whole.odd)

    pub left_keeps : begins_function x.image.functions regs.pc ≡ false → Keeps x t
    left_keeps fresh = record {
      corresponds = record {
        map = subst IsMap same_memory k.corresponds.map;
        stands = subst (λ (n : Memory). Stands (word n) (heads (lists_of s)) (lists_of s)) same_memory k.corresponds.stands;
      };
      counted = k.counted;
      image = k.image;
      sound = sound;
      low = k.low;
      high = omega (arith, links.0.room, sp_is x is s k at m size stands);
      whole = links.0.whole;
      slots = subst (λ n. (g : ℕ) → Has a.slots g → (n ≤ g) × (g + 4 ≤ a.caller.sp)) (sp_is x is s k at m size stands) links.0.slots;
      first = λ reached. stands_after x is s.segments caller a links.0 regs k.whole.count k.sound.words.count (saved_is x is s k at m size stands) (sym (sp_is x is s k at m size stands)) pc reached fresh;
      beyond = k.beyond;
      chain = links.1;
      cleanups = in_progress (reg_in s SP) s.cleanups (omega arith) k.cleanups;
    }

  -- ---- the event

  abbrev base : Recorded
  base = record s { regs = regs }

  none_pushed : pushes_some (instr_for (profile_of x.image) (memory_of s) s.regs.pc) ≡ 0
  none_pushed = ap pushes_some (fetched x.image at.function s.segments is.image at.of.among k.image at.place (Bx m) size s.regs (memory_of s) refl at.address stands).stands

  -- after the tests
  abbrev recorded_after : Recorded
  recorded_after = acts.activations_after (Return caller.back) (acts.update_slots_at (program_of x) s regs base)

  moved_keeps : (outer : List Activation) → s.outer ≡ outer → acts.return_end (program_of x) s.regs.pc outer regs ≡ None → Keeps x recorded_after
  moved_keeps [] e h = absurd cc
  moved_keeps (a ∷ more) e h =
      let fell : begins_function x.image.functions regs.pc ≡ false = go (begins_function x.image.functions regs.pc) h in
      let same_sp : acts.update_slots_at (program_of x) s regs base ≡ base =
      reguarded_at_one_sp (look x.roles s.regs.pc).saves (pushes_some (instr_for (profile_of x.image) (memory_of s) s.regs.pc)) (reg_in s SP) (slice_index regs.r SP) base none_pushed refl in
      subst (Keeps x) (sym (ap (acts.activations_after (Return caller.back)) same_sp ∙ ap (λ (o : List Activation). acts.with_remaining o base) e)) (left_keeps a more e fell)
    where
      go : (b : Bool) → cond b (Some (the_end.Trap kind.FellOff regs.pc s.regs.pc)) None ≡ None → b ≡ false
      go true h = absurd cc
      go false h = refl

  module _ (input : List ℕ) where
    tested : (o : Option End) → acts.tests (program_of x) s (Return caller.back) regs ≡ o
        → OnEvent x (acts.event_after_pass (program_of x) s (acts.pass_tests (program_of x) s (Return caller.back) regs (memory_of s) o) input)
    tested (Some end) e = k
    tested None e =
        moved_keeps s.outer refl
        (none_or (sp_end (look x.roles s.regs.pc).lowers (innermost_in (cleanups_in s.cleanups)) s.home.0 s.regs.pc (reg_in s SP) (slice_index regs.r SP)) (acts.return_end (program_of x) s.regs.pc s.outer regs) e)

    checked : OnEvent x (acts.event_after_pass (program_of x) s (acts.pass_step (program_of x) s (step_for (profile_of x.image) s.regs (memory_of s))) input)
    checked =
        subst (λ (o : Stepping). OnEvent x (acts.event_after_pass (program_of x) s (acts.pass_step (program_of x) s o) input)) (sym (stepped x is s k at m size stands))
        (subst (λ (r : Regs). OnEvent x (acts.event_after_pass (program_of x) s (acts.with_tests (program_of x) s (Return caller.back) r (memory_of s)) input)) (sym (same_regs x is s k at m size stands))
        (tested (acts.tests (program_of x) s (Return caller.back) regs) refl))

    -- An event that is a return by BX keeps what every event keeps.
    pub bx_keeps : (look x.roles s.regs.pc).is_instr ≡ true → OnEvent x (acts.recorded_event (program_of x) s input)
    unfolding acts.recorded_event acts.pass_instruction
    bx_keeps reached = subst (λ (b : Bool). OnEvent x (acts.event_after_pass (program_of x) s (acts.pass_if_checked (program_of x) s b) input)) (sym reached) checked
