-- A call: a new activation in front, of a function that begins at the target; the one that was first stands at its call.
use Rattle.std.proofs.Common.{◌≡◌, ℕ, List, ◌==◌, ◌||◌, Bool, true, false, [], ◌∷◌, refl, ◌+◌, ◌-◌, ◌%◌, ◌^◌, ◌<◌, ◌≤◌, ◌⊎◌, inl, inr, cond, length, take, Option, Some, None, slice_index, sym, ap, subst, ◌∙◌, arith, ℤ}
use Rattle.std.specs.Prelude.{Contains}
use Rattle.std.specs.List.{list_any}
use Rattle.std.proofs.lemmas.Bool.{eqb-true, cases_lt}
use Rattle.std.proofs.lemmas.Bool.Decides.{nat_tests}
use Rattle.std.proofs.lemmas.List.{get_or-set_same, get_or-set_other, get_or_past}
use Rattle.std.proofs.lemmas.List.Elements.{All-contains}
use Rattle.elf_image.specs.Functions.{Function}
use Rattle.frame_dataflow.proofs.Work.{contains_head, contains_tail}
use Rattle.eh_bus.specs.Lists.{Has}
use Rattle.eh_cxa.specs.ListCalls.{innermost_in}
use Rattle.frame_dataflow.specs.Flow.{at_entry}
use Rattle.run_images.specs.Start.{begins_function}
use Rattle.thumb_isa.specs.declared.instr.Instr.{Instr}
use Rattle.thumb_core.specs.Branch.{link_of, target_of, call_to}
use Rattle.thumb_core.specs.Laws.{AreSound}
use Rattle.thumb_core.specs.Outcome.{Outcome as Stepping, with_memory}
use Rattle.thumb_core.specs.Registers.{reg, with_pc, with_reg, even, operand}
use Rattle.run_images.specs.Profiles.{profile_of}
use Rattle.thumb_core.specs.Step.{step_for, instr_for}
use Rattle.thumb_core.proofs.Follows.{step_follows}
use Rattle.thumb_core.specs.declared.regs.TheConstants.{SP, LR}
use Rattle.thumb_core.specs.declared.regs.Regs.{Regs}
use Rattle.thumb_core.specs.declared.regs.Stepped.TheVariants.{Call, Trap}
use Rattle.thumb_core.specs.declared.ends.End.{End}
use Rattle.thumb_ahead.specs.Ahead.{pushes_some, pushed_registers}
use Rattle.frame_facts.specs.Branches.{call_changes}
use Rattle.frame_facts.specs.Facts.{entry_fact}
use Rattle.frame_facts.specs.Saves.{saves_of}
use Rattle.frame_facts.proofs.Described.{clobbering_described}
use Rattle.frame_code.specs.declared.standing.Standing.TheVariants.{Instruction}
use Rattle.frame_graph.specs.Places.{standing_at}
use Rattle.sim_machines.proofs.frame_reach.Stands.{stands_inside, stands_size}
use Rattle.sim_machines.specs.frame_flow.Causes.{is_call}
use Rattle.sim_machines.specs.frame_flow.Flows.{NoneStands}
use Rattle.sim_machines.specs.frame_check.Accepts.{Accepted, IsWell}
use Rattle.sim_machines.specs.frame_check.Judged.{IsPlaced}
use Rattle.sim_machines.specs.frame_check.Roots.{flow_graph_of}
use Rattle.sim_machines.specs.frame_check.Roles.{look}
use Rattle.sim_machines.proofs.frame_check.Wells.{placed_at}
use Rattle.sim_machines.specs.Machine.{sp_end}
use Rattle.sim_machines.specs.Activations.{Caller, Recorded, reg_in, memory_of, cleanups_in, InProgress}
use Rattle.sim_machines.specs.ActivationLaws.{IsPlain}
use Rattle.sim_machines.specs.Checked.{program_of}
use Rattle.sim_machines.proofs.CallEvents.{knows}
use Rattle.sim_machines.proofs.Matching.{plain_match}
use Rattle.thumb_isa.specs.declared.instr.Instr.TheVariants.{Bl, Blx}
use Rattle.thumb_core.specs.declared.regs.CoreTrap.TheVariants.{EvenTarget}
use Rattle.thumb_core.specs.declared.ends.End.TheVariants as the_end
use Rattle.thumb_core.specs.declared.ends.TrapKind.TheVariants as kind
use Rattle.sim_machines.specs.ActivationMachine as acts
use Rattle.sim_relation.specs.Holds.{recorded_register, IsWhole}
use Rattle.sim_relation.specs.Chain.{code, StandsAt, StandsAtCall, regs_at}
use Rattle.sim_relation.specs.Cleanups.{AreInProgress}
use Rattle.sim_relation.specs.Stands.{Keeps, IsProgram, OnEvent, Turns, DoesAt}
use Rattle.sim_relation.proofs.First.{entered_holds}
use Rattle.sim_relation.proofs.Flows.{none_stands, stands_instruction}
use Rattle.sim_relation.proofs.Goes.{reguarded_at_one_sp}
use Rattle.sim_relation.proofs.SimpleTurns.{fetch, none_or}
use Rattle.sim_steps.proofs.Jumps.{next_pc}
use Rattle.sim_relation.proofs.Moves.{clobbered_frame}
use Rattle.sim_steps.proofs.Rooms.{has_room}
use Rattle.sim_relation.proofs.Callee.{callee_at, callee_count}
use Rattle.sim_steps.proofs.CallRegisters.{at_sp, sp_stays, recorded_regs}
use Rattle.sim_relation.proofs.Traps.{trap_turns}

-- ---- the function that is called

abbrev Begins : List Function → ℕ → Type 0
Begins functions a = (f : Function) × Contains functions f × (f.start ≡ a)

begins : (functions : List Function) (a : ℕ) → list_any (λ (f : Function). f.start == a) functions ≡ true → Begins functions a
begins [] a e = absurd cc
begins (f ∷ more) a e = go (f.start == a) refl (begins more a) e
  where
    go : (b : Bool) → (f.start == a) ≡ b → (list_any (λ (g : Function). g.start == a) more ≡ true → Begins more a)
        → (b || list_any (λ (g : Function). g.start == a) more) ≡ true → Begins (f ∷ more) a
    go true is later h = (f, contains_head f more, eqb-true f.start a is)
    go false is later h = let w = later h in (w.0, contains_tail w.0 f more w.1, w.2)

-- ---- the event

module _ (x : Accepted) (is : IsProgram x) (s : Recorded) (k : Keeps x s) (at : StandsAt x s.first s.segments s.regs s.regs.pc) (i : Instr) (size : ℕ)
    (stands : standing_at (flow_graph_of x.image at.function) at.place ≡ Instruction i size) (call : is_call i ≡ true) (pushes : pushed_registers i ≡ []) (v : ℕ) where
  abbrev target : ℕ
  target = even (v % 2 ^ 32)

  abbrev regs : Regs
  regs = with_pc (with_reg s.regs LR (link_of size s.regs)) v

  module _ (stepped : step_for (profile_of x.image) s.regs (memory_of s) ≡ (Call target (link_of size s.regs), regs, memory_of s)) where
    abbrev base : Recorded
    base = record s { regs = regs }

    abbrev t : Recorded
    t = acts.with_call target (link_of size s.regs) base

    abbrev c : Caller
    c = t.first.caller

    sound : AreSound regs.r regs.pc
    sound = subst (λ (o : Stepping). AreSound o.1.r o.1.pc) stepped ((step_follows (profile_of x.image) s.regs (memory_of s)).sound k.sound)

    placed : IsPlaced at.function
    placed = subst IsPlaced at.of.among.2 (placed_at x.image at.of.among.0 at.function is.image at.of.among.1)

    sp : c.sp ≡ reg_in s SP
    sp = get_or-set_other s.regs.r LR SP (link_of size s.regs % 2 ^ 32) 0 (λ e. absurd cc)

    link : link_of size s.regs ≡ s.regs.pc + size + 1
    link = ap (λ n. n + 1) (next_pc x is s k at i size stands)

    link_small : link_of size s.regs < 2 ^ 32
    link_small =
        let inside = stands_inside (flow_graph_of x.image at.function) at.place i size stands in
        omega (arith, link, at.address, inside, placed.low)

    saved : (j : ℕ) → j < 8 → slice_index c.saved j ≡ slice_index regs.r (j + 4)
    saved j h = callee_at regs.r j h

    others : (j : ℕ) → j < 8 → slice_index regs.r (j + 4) ≡ slice_index s.regs.r (j + 4)
    others j h = get_or-set_other s.regs.r LR (j + 4) (link_of size s.regs % 2 ^ 32) 0 (λ e. absurd (omega (arith, h, e)))

    whole : IsWhole c
    whole = record {
      count = callee_count regs.r sound.words.count;
      words = λ j. elim (cases_lt j 8) [
        | inl low ↦ subst (λ n. n < 2 ^ 32) (sym (saved j low)) (sound.words.small (j + 4))
        | inr high ↦ subst (λ n. n < 2 ^ 32) (sym (get_or_past c.saved j 0 (let l : length c.saved ≤ j = omega (arith, callee_count regs.r sound.words.count, high) in l))) (omega arith)
      ];
      back = link_small;
      odd = let four = stands_size (flow_graph_of x.image at.function) at.place i size stands in odd_link four;
      aligned = sound.words.aligned;
    }
      where
        odd_link : (size ≡ 2) ⊎ (size ≡ 4) → link_of size s.regs % 2 ≡ 1
        odd_link (inl two) = omega (arith, link, k.sound.is_even, two)
        odd_link (inr four) = omega (arith, link, k.sound.is_even, four)

    none : NoneStands (code x at.function at.marks)
    none = none_stands x at.function at.marks is.sound at.of.among at.of.are

    room : 4 ≤ at.fact.depth
    room = has_room (code x at.function at.marks) at.place at.fact none at.state i (stands_instruction (flow_graph_of x.image at.function) at.place i size stands) call

    -- the one that was first stands at its call
    pub at_call : StandsAtCall x s.segments c s.first
    at_call =
        let h = at.holds in
        let frame = clobbered_frame call_changes at.fact in
        let count = callee_count regs.r sound.words.count in
        let same : (n : ℕ) → list_any (λ (j : ℕ). j == n) call_changes ≡ false → reg (regs_at c) n ≡ reg s.regs n =
        recorded_regs c s.regs count k.sound.words.count (λ j l. saved j l ∙ others j l) sp in
        let there = at_sp c count in
        record {
          function = at.function;
          marks = at.marks;
          of = at.of;
          place = at.place;
          instr = i;
          size = size;
          stands = stands;
          call = call;
          back = link ∙ ap (λ n. n + size + 1) at.address;
          fact = at.fact;
          state = at.state;
          holds = record {
            entry = h.entry;
            saved = h.saved;
            link = h.link;
            describes = clobbering_described h.entry s.first.caller.sp call_changes at.fact s.regs (regs_at c) h.describes same sp_stays;
            lower = omega (arith, h.lower, frame.0, there, sp);
            saves = λ w e. let kept = h.saves w (subst (λ n. Contains (take n (saves_of (code x at.function at.marks).prologue)) w) frame.1 e) in
                record { low = kept.low; deep = omega (arith, kept.deep, frame.0); holds = kept.holds; slot = kept.slot };
          };
          room = omega (arith, room, h.lower, sp);
          whole = k.whole;
          slots = subst (λ n. (g : ℕ) → Has s.first.slots g → (n ≤ g) × (g + 4 ≤ s.first.caller.sp)) (sym sp) k.slots;
        }

    -- the one that is called stands at its function's start
    pub enters : begins_function x.image.functions target ≡ true → StandsAt x t.first s.segments regs regs.pc
    enters e =
        let f = begins x.image.functions target e in
        let well = All-contains (λ g. IsWell (flow_graph_of x.image g)) x.image.functions f.0 is.sound.functions f.1 in
        record {
          function = f.0;
          marks = well.marks;
          of = record { among = f.1; begins = f.2; are = well.are };
          place = 0;
          address = omega (arith, f.2);
          fact = entry_fact;
          state = at_entry;
          holds = entered_holds _ t.first s.segments regs own lr refl;
        }
      where
        own : (n : ℕ) → 4 ≤ n → n < 12 → slice_index regs.r n ≡ recorded_register c n
        own n low high =
            let no_link : (n == LR) ≡ false = grind (arith, nat_tests) in
            sym (ap (λ (b : Bool). cond b c.back (slice_index c.saved (n - 4))) no_link ∙ saved (n - 4) (omega (arith, low, high)) ∙ ap (λ m. slice_index regs.r m) (let m : n - 4 + 4 ≡ n = omega (arith, low) in m))

        lr : slice_index regs.r 14 ≡ link_of size s.regs
        lr =
            let small : link_of size s.regs % 2 ^ 32 ≡ link_of size s.regs = omega (arith, link_small) in
            get_or-set_same s.regs.r LR (link_of size s.regs % 2 ^ 32) 0 (let l : LR < length s.regs.r = omega (arith, k.sound.words.count) in l) ∙ small

    in_progress : (low : ℕ) (cleanups : List InProgress) → c.sp ≤ low → AreInProgress x s low cleanups → AreInProgress x t low cleanups
    in_progress low [] h q = tt
    in_progress low (d ∷ later) h q =
        let above : c.sp ≤ d.cleanup.sp = omega (arith, h, q.0) in
        (q.0, inr (above, q.1), q.2, in_progress d.cleanup.sp later above q.3)

    pub called_keeps : begins_function x.image.functions target ≡ true → Keeps x t
    called_keeps e = record {
      corresponds = record { map = k.corresponds.map; stands = k.corresponds.stands };
      counted = k.counted;
      image = k.image;
      sound = sound;
      low = subst (λ n. s.home.0 ≤ n) (sym sp) k.low;
      high = omega arith;
      whole = whole;
      slots = λ g h. absurd h;
      first = λ reached. enters e;
      beyond = k.beyond;
      chain = (at_call, k.chain);
      cleanups = in_progress c.sp s.cleanups (omega arith) (subst (λ n. AreInProgress x s n s.cleanups) (sym sp) k.cleanups);
    }

    module _ (input : List ℕ) where
      tested : (o : Option End) → acts.tests (program_of x) s (Call target (link_of size s.regs)) regs ≡ o
          → OnEvent x (acts.event_after_pass (program_of x) s (acts.pass_tests (program_of x) s (Call target (link_of size s.regs)) regs (memory_of s) o) input)
      tested (Some end) e = k
      tested None e =
          let none_pushed : pushes_some (instr_for (profile_of x.image) (memory_of s) s.regs.pc) ≡ 0 = ap pushes_some (fetch x is s k at i size stands).stands ∙ ap length pushes in
          let same_sp : acts.update_slots_at (program_of x) s regs base ≡ base =
          reguarded_at_one_sp (look x.roles s.regs.pc).saves (pushes_some (instr_for (profile_of x.image) (memory_of s) s.regs.pc)) (reg_in s SP) (slice_index regs.r SP) base none_pushed sp in
          let edge = none_or (sp_end (look x.roles s.regs.pc).lowers (innermost_in (cleanups_in s.cleanups)) s.home.0 s.regs.pc (reg_in s SP) (slice_index regs.r SP)) _ e in
          subst (Keeps x) (sym (ap (acts.with_call target (link_of size s.regs)) same_sp)) (called_keeps (go (begins_function x.image.functions target) edge))
        where
          go : (b : Bool) → cond b None (Some (the_end.Trap kind.BadCallTarget target s.regs.pc)) ≡ None → b ≡ true
          go true h = refl
          go false h = absurd cc

      checked : OnEvent x (acts.event_after_pass (program_of x) s (acts.pass_step (program_of x) s (step_for (profile_of x.image) s.regs (memory_of s))) input)
      checked = subst (λ (o : Stepping). OnEvent x (acts.event_after_pass (program_of x) s (acts.pass_step (program_of x) s o) input)) (sym stepped)
          (tested (acts.tests (program_of x) s (Call target (link_of size s.regs)) regs) refl)

      event : (look x.roles s.regs.pc).is_instr ≡ true → OnEvent x (acts.recorded_event (program_of x) s input)
      unfolding acts.recorded_event acts.pass_instruction
      event reached = subst (λ (b : Bool). OnEvent x (acts.event_after_pass (program_of x) s (acts.pass_if_checked (program_of x) s b) input)) (sym reached) checked

      pub call_turns : (look x.roles s.regs.pc).is_instr ≡ true → Turns x s input
      call_turns reached = record {
        same = plain_match (program_of x) s input (knows s k.corresponds) (subst (λ (o : Stepping). IsPlain (program_of x) s o.0) (sym stepped) tt);
        keeps = event reached;
      }

-- ---- BL and BLX

pub bl_turns : (x : Accepted) (s : Recorded) (off : ℤ) (input : List ℕ) → IsProgram x → Keeps x s → DoesAt x s (Bl off) → Turns x s input
bl_turns x s off input is k does =
    call_turns x is s k does.at (Bl off) does.size does.stands refl refl (target_of off s.regs) (fetch x is s k does.at (Bl off) does.size does.stands).step input does.reached

pub blx_turns : (x : Accepted) (s : Recorded) (m : ℕ) (input : List ℕ) → IsProgram x → Keeps x s → DoesAt x s (Blx m) → Turns x s input
blx_turns x s m input is k does = go (operand s.regs m % 2 == 0) refl
  where
    step : step_for (profile_of x.image) s.regs (memory_of s) ≡ with_memory (cond (operand s.regs m % 2 == 0) (Trap (EvenTarget (operand s.regs m)), s.regs) (call_to (operand s.regs m) does.size s.regs)) (memory_of s)
    step = (fetch x is s k does.at (Blx m) does.size does.stands).step

    by_test : (b : Bool) → (operand s.regs m % 2 == 0) ≡ b → step_for (profile_of x.image) s.regs (memory_of s) ≡ with_memory (cond b (Trap (EvenTarget (operand s.regs m)), s.regs) (call_to (operand s.regs m) does.size s.regs)) (memory_of s)
    by_test b e = step ∙ ap (λ (u : Bool). with_memory (cond u (Trap (EvenTarget (operand s.regs m)), s.regs) (call_to (operand s.regs m) does.size s.regs)) (memory_of s)) e

    go : (b : Bool) → (operand s.regs m % 2 == 0) ≡ b → Turns x s input
    go true e = trap_turns x s input (EvenTarget (operand s.regs m)) s.regs (memory_of s) k (by_test true e)
        (ap (λ (q : Option (Instr × ℕ)). acts.registers_after_return s (acts.pops_some q)) (fetch x is s k does.at (Blx m) does.size does.stands).stands)
    go false e = call_turns x is s k does.at (Blx m) does.size does.stands refl refl (operand s.regs m) (by_test false e) input does.reached
