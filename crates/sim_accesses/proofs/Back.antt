-- A return, whichever instruction does it: where the registers that it leaves are those that the activation recorded, both machines do the same,
-- and what every event keeps is kept: the caller's activation stands after its call.
use Rattle.std.proofs.Common.{◌≡◌, ℕ, inl, List, [], ◌∷◌, refl, ◌+◌, ◌<◌, ◌≤◌, ◌&&◌, inr, nat_lt, Bool, true, false, cond, ◌++◌, filter, Option, Some, None, slice_index, sym, ap, subst, ◌∙◌, arith}
use Rattle.std.proofs.lemmas.Bool.{cases_lt, lt-ltb}
use Rattle.eh_bus.specs.Lists.{Has}
use Rattle.eh_bus.specs.Guards.{insert_all}
use Rattle.eh_bus.specs.Memory.{Memory, stays_guarded}
use Rattle.eh_bus.specs.Map.{IsMap}
use Rattle.eh_cxa.specs.Lists.{Cleanup}
use Rattle.eh_cxa.specs.ListCalls.{innermost_in}
use Rattle.eh_cxa.proofs.Kept.{still_stands}
use Rattle.sim_machines.specs.eh_phase.declared.phase2.Goal.{Goal}
use Rattle.run_gates.specs.declared.gates.TheConstants.{NO_CALLER}
use Rattle.run_images.specs.Start.{begins_function}
use Rattle.thumb_isa.specs.declared.instr.Instr.{Instr}
use Rattle.thumb_core.specs.Laws.{AreSound, KeepsMap}
use Rattle.thumb_core.specs.Outcome.{Outcome as Stepping}
use Rattle.thumb_core.specs.Registers.{even}
use Rattle.run_images.specs.Profiles.{profile_of}
use Rattle.thumb_core.specs.Step.{step_for, instr_for}
use Rattle.thumb_core.proofs.Follows.{step_follows}
use Rattle.thumb_core.specs.declared.regs.TheConstants.{SP}
use Rattle.thumb_core.specs.declared.regs.Regs.{Regs}
use Rattle.thumb_core.specs.declared.regs.Stepped.TheVariants.{Return}
use Rattle.thumb_core.specs.declared.ends.End.{End}
use Rattle.thumb_ahead.specs.Ahead.{pushes_some}
use Rattle.frame_code.specs.declared.standing.Standing.TheVariants.{Instruction}
use Rattle.frame_graph.specs.Places.{address_of, standing_at}
use Rattle.frame_reach.proofs.Stands.{stands_inside}
use Rattle.frame_check.specs.Accepts.{Accepted}
use Rattle.frame_check.specs.Judged.{IsPlaced}
use Rattle.frame_check.specs.Roots.{flow_graph_of}
use Rattle.frame_check.specs.Roles.{look}
use Rattle.frame_check.proofs.Wells.{placed_at}
use Rattle.sim_machines.specs.Machine.{sp_end, leaves_cleanup}
use Rattle.sim_machines.specs.Activations.{Caller, Activation, Recorded, reg_in, memory_of, guarded_words, heads, lists_of, cleanups_in, InProgress}
use Rattle.sim_machines.specs.ActivationMachine.{update_slots, caller_registers}
use Rattle.sim_machines.specs.RecordedSlots.{FindsCaller}
use Rattle.sim_machines.specs.Checked.{program_of}
use Rattle.sim_machines.proofs.CallEvents.{knows}
use Rattle.sim_machines.proofs.Returning.{returns_match, none_pass, leaves_home}
use Rattle.thumb_core.specs.declared.ends.End.TheVariants as the_end
use Rattle.thumb_core.specs.declared.ends.TrapKind.TheVariants as kind
use Rattle.sim_machines.specs.ActivationMachine as acts
use Rattle.sim_relation.specs.Chain.{StandsAt, StandsAtCall, Chain}
use Rattle.sim_relation.specs.Cleanups.{goal_at, IsHeld, IsWithin, AreInProgress}
use Rattle.sim_relation.specs.Stands.{Keeps, IsProgram, OnEvent, Turns}
use Rattle.sim_accesses.proofs.Left.{stands_after}
use Rattle.sim_relation.proofs.SpTests.{sp_passes}
use Rattle.sim_relation.proofs.Slots.{first_slots, none_or}
use Rattle.sim_relation.proofs.Onward.{reguarded_is, map_left}
use Rattle.sim_accesses.proofs.Returns.{caller_same}
use Rattle.sim_relation.proofs.Written.{SameClosed, AreSmall, with_gs, same_word, same_goal, linked_small, landings_rise}

none_there : (gs : List ℕ) → ((g : ℕ) → Has gs g → ⊥) → gs ≡ []
none_there [] h = refl
none_there (g ∷ more) h = absurd (h g (inl refl))

module _ (x : Accepted) (is : IsProgram x) (s : Recorded) (k : Keeps x s) (at : StandsAt x s.first s.segments s.regs s.regs.pc) (i : Instr) (size : ℕ)
    (stands : standing_at (flow_graph_of x.image at.function) at.place ≡ Instruction i size)
    (regs : Regs) (step : step_for (profile_of x.image) s.regs (memory_of s) ≡ (Return s.first.caller.back, regs, memory_of s)) (sp_is : slice_index regs.r SP ≡ s.first.caller.sp)
    (saved_is : (j : ℕ) → j < 8 → slice_index regs.r (j + 4) ≡ slice_index s.first.caller.saved j) (pc_is : regs.pc ≡ even s.first.caller.back)
    (none : pushes_some (instr_for (profile_of x.image) (memory_of s) s.regs.pc) ≡ 0) where
  abbrev caller : Caller
  caller = s.first.caller

  abbrev new : ℕ
  new = slice_index regs.r SP

  sound : AreSound regs.r regs.pc
  sound = subst (λ (o : Stepping). AreSound o.1.r o.1.pc) step ((step_follows (profile_of x.image) s.regs (memory_of s)).sound k.sound)

  keeps_map : KeepsMap (memory_of s) (memory_of s)
  keeps_map = subst (λ (o : Stepping). KeepsMap (memory_of s) o.2) step (step_follows (profile_of x.image) s.regs (memory_of s)).memory

  same_regs : caller_registers caller regs ≡ regs
  same_regs =
      ap (λ (r : _). let t : Regs = record regs { r = r; pc = even caller.back } in t) (caller_same caller regs.r k.whole.count sound.words.count (sym sp_is) saved_is)
      ∙ ap (λ (n : ℕ). let t : Regs = record regs { pc = n } in t) (sym pc_is)

  called_low : (a : Activation) (more : List Activation) → s.outer ≡ a ∷ more → caller.back ≡ NO_CALLER → ⊥
  called_low a more e f =
      let out : StandsAtCall x s.segments caller a = (subst (Chain x s.segments s.home caller) e k.chain).0 in
      let placed : IsPlaced out.function = subst IsPlaced out.of.among.2 (placed_at x.image out.of.among.0 out.function is.image out.of.among.1) in
      let inside = stands_inside (flow_graph_of x.image out.function) out.place out.instr out.size out.stands in
      omega (arith, out.back, placed.low, inside, f)

  pub finds : FindsCaller s caller.back regs
  finds = record {
    same = same_regs;
    last = λ e. (subst (Chain x s.segments s.home caller) e k.chain).0;
    called = called_low;
    slots = λ g h. let within = k.slots g h in (omega (arith, within.0, k.low), within.0, omega (arith, within.1, sp_is));
  }

  high : new ≤ caller.sp
  high = omega (arith, sp_is)

  -- no slot of the activation that is left stays
  no_slots : first_slots s (reg_in s SP) new ≡ []
  no_slots = go (nat_lt (reg_in s SP) new) refl
    where
      go : (b : Bool) → nat_lt (reg_in s SP) new ≡ b → cond b (filter (stays_guarded s.home new) s.first.slots) s.first.slots ≡ []
      go true e = none_pass (stays_guarded s.home new) s.first.slots (λ g h. let f = finds.slots g h in leaves_home s.home.0 new g f.0 f.2)
      go false e = none_there s.first.slots (λ g h. let f = finds.slots g h in elim (cases_lt (reg_in s SP) new) [ inl w ↦ absurd (let t = lt-ltb (reg_in s SP) new w in cc) | inr w ↦ omega (arith, f.1, f.2, w) ])

  abbrev u : Recorded
  u = record s { regs = regs; segments = s.segments; first = with_gs s.first (first_slots s (reg_in s SP) new) }

  module _ (a : Activation) (more : List Activation) (out : s.outer ≡ a ∷ more) where
    abbrev t : Recorded
    t = record s { regs = regs; segments = s.segments; first = a; outer = more }

    same_memory : memory_of u ≡ memory_of t
    same_memory = ap (λ (gs : List ℕ). let n : Memory = record { segments = s.segments; guards = insert_all gs []; home = s.home } in n)
        (ap (λ (gs : List ℕ). gs ++ guarded_words s.beyond s.outer) no_slots ∙ ap (guarded_words s.beyond) out)

    links : StandsAtCall x s.segments caller a × Chain x s.segments s.home a.caller more
    links = let c = subst (Chain x s.segments s.home caller) out k.chain in (c.0, c.1)

    closed : SameClosed (memory_of s) (memory_of t)
    closed b e c = refl

    held : (g : Goal) (n : ℕ) (c : Cleanup) → new ≤ c.sp → IsHeld x s.segments g n c (s.first ∷ s.outer) → IsHeld x s.segments g n c (a ∷ more)
    held g n c low (inl here) = absurd (let below = here.1.below in omega (arith, below, low, sp_is))
    held g n c low (inr outside) = subst (IsHeld x s.segments g n c) out outside.1

    in_progress : (low up : ℕ) (cleanups : List InProgress) → AreSmall (cleanups_in cleanups) → new ≤ up → IsWithin up (cleanups_in cleanups) → AreInProgress x s low cleanups → AreInProgress x t up cleanups
    in_progress low up [] small h w p = tt
    in_progress low up (d ∷ later) small h w p =
        let c = d.cleanup in
        let goal = same_goal s t c.slot closed small.0 in
        let above : new ≤ c.sp = omega (arith, h, w) in (
          w,
          subst (λ (g : Goal). IsHeld x s.segments g d.place c (a ∷ more)) goal (held (goal_at s c.slot) d.place c above p.1),
          subst (λ (g : Goal). IsWithin g.sp (cleanups_in later)) goal p.2,
          in_progress c.sp c.sp later small.1 above (landings_rise x s c.sp later p.3) p.3,
        )

    at_landing : (cs : List InProgress) → AreInProgress x s (reg_in s SP) cs → leaves_cleanup (innermost_in (cleanups_in cs)) (reg_in s SP) new ≡ false → IsWithin new (cleanups_in cs)
    at_landing [] h l = tt
    at_landing (d ∷ later) h l = go (nat_lt (reg_in s SP) new) refl (nat_lt d.cleanup.sp new) refl l
      where
        go : (p : Bool) → nat_lt (reg_in s SP) new ≡ p → (q : Bool) → nat_lt d.cleanup.sp new ≡ q → (p && q) ≡ false → new ≤ d.cleanup.sp
        go true e true f z = absurd cc
        go true e false f z = elim (cases_lt d.cleanup.sp new) [ inl w ↦ absurd (let t = lt-ltb d.cleanup.sp new w in cc) | inr w ↦ w ]
        go false e b f z = elim (cases_lt (reg_in s SP) new) [ inl w ↦ absurd (let t = lt-ltb (reg_in s SP) new w in cc) | inr w ↦ omega (arith, w, h.0) ]

    pc : regs.pc ≡ address_of (flow_graph_of x.image links.0.function) links.0.place + links.0.size
    pc =
        let placed : IsPlaced links.0.function = subst IsPlaced links.0.of.among.2 (placed_at x.image links.0.of.among.0 links.0.function is.image links.0.of.among.1) in
        let inside = stands_inside (flow_graph_of x.image links.0.function) links.0.place links.0.instr links.0.size links.0.stands in
        omega (arith, pc_is, links.0.back, placed.low, inside, k.whole.odd)

    left_keeps : leaves_cleanup (innermost_in (cleanups_in s.cleanups)) (reg_in s SP) new ≡ false → begins_function x.image.functions regs.pc ≡ false → Keeps x t
    left_keeps landing fresh = record {
      corresponds = record {
        map = subst IsMap same_memory (map_left x is s k at i size stands regs (memory_of s) keeps_map k.corresponds.map high);
        stands = still_stands (memory_of s) (memory_of t) (heads (lists_of s)) (lists_of s) (same_word (memory_of s) (memory_of t) closed) k.corresponds.stands;
      };
      counted = k.counted;
      image = k.image;
      sound = sound;
      low = let l = k.low in let h = k.high in omega (arith, l, h, sp_is);
      high = let room = links.0.room in omega (arith, room, sp_is);
      whole = links.0.whole;
      slots = subst (λ n. (g : ℕ) → Has a.slots g → (n ≤ g) × (g + 4 ≤ a.caller.sp)) (sym sp_is) links.0.slots;
      first = λ reached. stands_after x is s.segments caller a links.0 regs k.whole.count sound.words.count saved_is sp_is pc reached fresh;
      beyond = k.beyond;
      chain = links.1;
      cleanups = in_progress (reg_in s SP) new s.cleanups (linked_small _ _ (cleanups_in s.cleanups) k.corresponds.stands.shows.cleanups) (omega arith)
          (at_landing s.cleanups k.cleanups landing) k.cleanups;
    }

  -- ---- the event

  abbrev base : Recorded
  base = record s { regs = regs; segments = s.segments }

  abbrev recorded_after : Recorded
  recorded_after = acts.activations_after (Return caller.back) (acts.update_slots_at (program_of x) s regs base)

  moved_keeps : (outer : List Activation) → s.outer ≡ outer → leaves_cleanup (innermost_in (cleanups_in s.cleanups)) (reg_in s SP) new ≡ false → acts.return_end (program_of x) s.regs.pc outer regs ≡ None → Keeps x recorded_after
  moved_keeps [] e l h = absurd cc
  moved_keeps (a ∷ more) e l h =
      let fell : begins_function x.image.functions regs.pc ≡ false = go (begins_function x.image.functions regs.pc) h in
      let reguarded : acts.update_slots_at (program_of x) s regs base ≡ u =
      ap (λ (n : ℕ). update_slots (look x.roles s.regs.pc).saves n (reg_in s SP) new base) none ∙ reguarded_is x is s k at i size stands regs (memory_of s) keeps_map k.corresponds.map high (look x.roles s.regs.pc).saves in
      subst (Keeps x) (sym (ap (acts.activations_after (Return caller.back)) reguarded ∙ ap (λ (o : List Activation). acts.with_remaining o u) e)) (left_keeps a more e l fell)
    where
      go : (b : Bool) → cond b (Some (the_end.Trap kind.FellOff regs.pc s.regs.pc)) None ≡ None → b ≡ false
      go true h = absurd cc
      go false h = refl

  module _ (input : List ℕ) where
    tested : (o : Option End) → acts.tests (program_of x) s (Return caller.back) regs ≡ o
        → OnEvent x (acts.event_after_pass (program_of x) s (acts.pass_tests (program_of x) s (Return caller.back) regs (memory_of s) o) input)
    tested (Some end) e = k
    tested None e =
        let two = none_or (sp_end (look x.roles s.regs.pc).lowers (innermost_in (cleanups_in s.cleanups)) s.home.0 s.regs.pc (reg_in s SP) new) (acts.return_end (program_of x) s.regs.pc s.outer regs) e in
        let passed = sp_passes (look x.roles s.regs.pc).lowers (innermost_in (cleanups_in s.cleanups)) s.home.0 s.regs.pc (reg_in s SP) new two.0 in
        moved_keeps s.outer refl passed.landing_stays two.1

    checked : OnEvent x (acts.event_after_pass (program_of x) s (acts.pass_step (program_of x) s (step_for (profile_of x.image) s.regs (memory_of s))) input)
    checked =
        subst (λ (o : Stepping). OnEvent x (acts.event_after_pass (program_of x) s (acts.pass_step (program_of x) s o) input)) (sym step)
        (subst (λ (r : Regs). OnEvent x (acts.event_after_pass (program_of x) s (acts.with_tests (program_of x) s (Return caller.back) r (memory_of s)) input)) (sym same_regs)
        (tested (acts.tests (program_of x) s (Return caller.back) regs) refl))

    keeps : (look x.roles s.regs.pc).is_instr ≡ true → OnEvent x (acts.recorded_event (program_of x) s input)
    unfolding acts.recorded_event acts.pass_instruction
    keeps reached = subst (λ (b : Bool). OnEvent x (acts.event_after_pass (program_of x) s (acts.pass_if_checked (program_of x) s b) input)) (sym reached) checked

    -- Such a return is the same in both machines, and keeps.
    pub back_turns : (look x.roles s.regs.pc).is_instr ≡ true → Turns x s input
    back_turns reached = record {
      same = returns_match (program_of x) s input caller.back regs (memory_of s) (knows s k.corresponds) k.sound.words step finds;
      keeps = keeps reached;
    }
