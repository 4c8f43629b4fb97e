-- An event that leaves memory and sp: what every event keeps is kept where the first activation stands after it.
use Rattle.std.proofs.Common.{◌≡◌, Option, Some, None, ℕ, ◌+◌, ◌≤◌, slice_index, sym, subst, Bool, true, List, [], length, refl, ap, ◌∙◌}
use Rattle.std.specs.Option.{option_or}
use Rattle.eh_bus.specs.Lists.{Has}
use Rattle.thumb_core.specs.Laws.{AreSound}
use Rattle.thumb_core.specs.declared.regs.TheConstants.{SP}
use Rattle.thumb_core.specs.declared.regs.Regs.{Regs}
use Rattle.sim_machines.specs.frame_check.Accepts.{Accepted}
use Rattle.sim_machines.specs.Activations.{Recorded, reg_in, memory_of, cleanups_in}
use Rattle.eh_cxa.specs.ListCalls.{innermost_in}
use Rattle.thumb_isa.specs.declared.instr.Instr.{Instr}
use Rattle.thumb_core.specs.Outcome.{Outcome as Stepping}
use Rattle.run_images.specs.Profiles.{profile_of}
use Rattle.thumb_core.specs.Step.{step_for, instr_for}
use Rattle.thumb_core.proofs.Follows.{step_follows}
use Rattle.thumb_core.specs.declared.regs.Stepped.TheVariants.{Done}
use Rattle.thumb_core.specs.declared.ends.End.{End}
use Rattle.thumb_ahead.specs.Ahead.{branches, branches_some, pushes_some, pushed_registers}
use Rattle.frame_code.specs.declared.standing.Standing.TheVariants.{Instruction}
use Rattle.sim_machines.specs.frame_graph.Places.{standing_at}
use Rattle.sim_machines.specs.frame_check.Roots.{flow_graph_of}
use Rattle.sim_machines.specs.frame_check.Roles.{look}
use Rattle.sim_machines.specs.Machine.{sp_end, control_flow_trap}
use Rattle.sim_machines.specs.ActivationLaws.{IsPlain}
use Rattle.sim_machines.specs.Checked.{program_of}
use Rattle.sim_machines.proofs.CallEvents.{knows}
use Rattle.sim_machines.proofs.Matching.{plain_match}
use Rattle.sim_machines.specs.ActivationMachine as acts
use Rattle.sim_relation.specs.Chain.{StandsFirst, StandsAt}
use Rattle.sim_relation.specs.Cleanups.{AreInProgress}
use Rattle.sim_relation.specs.Stands.{Keeps, IsProgram, OnEvent, Turns}
use Rattle.sim_code.proofs.Fetch.{fetched, IsFetched}
use Rattle.sim_relation.proofs.Goes.{reguarded_at_one_sp}

pub none_or : {A : Type 0} (a b : Option A) → option_or a b ≡ None → b ≡ None
none_or (Some a) b e = absurd cc
none_or None b e = e

module _ (x : Accepted) (s : Recorded) (k : Keeps x s) where
  -- other registers, of which sp is as before
  pub with_regs : (regs : Regs) → AreSound regs.r regs.pc → slice_index regs.r SP ≡ reg_in s SP → StandsFirst x (record s { regs = regs }) → Keeps x (record s { regs = regs })
  with_regs regs sound sp first = record {
    corresponds = record { map = k.corresponds.map; stands = k.corresponds.stands };
    counted = k.counted;
    image = k.image;
    sound = sound;
    low = subst (λ n. s.home.0 ≤ n) (sym sp) k.low;
    high = subst (λ n. n ≤ s.first.caller.sp) (sym sp) k.high;
    whole = k.whole;
    slots = subst (λ n. (g : ℕ) → Has s.first.slots g → (n ≤ g) × (g + 4 ≤ s.first.caller.sp)) (sym sp) k.slots;
    first = first;
    beyond = k.beyond;
    chain = k.chain;
    cleanups = subst (λ n. AreInProgress x (record s { regs = regs }) n s.cleanups) (sym sp) k.cleanups;
  }

module _ (x : Accepted) (is : IsProgram x) (s : Recorded) (k : Keeps x s) (at : StandsAt x s.first s.segments s.regs s.regs.pc) (i : Instr) (size : ℕ)
    (stands : standing_at (flow_graph_of x.image at.function) at.place ≡ Instruction i size) where
  pub fetch : IsFetched x.image at.function s.segments is.image at.of.among k.image i size s.regs (memory_of s)
  fetch = fetched x.image at.function s.segments is.image at.of.among k.image at.place i size s.regs (memory_of s) refl at.address stands

  module _ (regs : Regs) (stepped : step_for (profile_of x.image) s.regs (memory_of s) ≡ (Done, regs, memory_of s)) where
    pub simple_sound : AreSound regs.r regs.pc
    simple_sound = subst (λ (o : Stepping). AreSound o.1.r o.1.pc) stepped ((step_follows (profile_of x.image) s.regs (memory_of s)).sound k.sound)

    module _ (sp : slice_index regs.r SP ≡ reg_in s SP) (pushes : pushed_registers i ≡ [])
        (first : control_flow_trap (program_of x) (branches i s.regs) s.regs.pc Done regs ≡ None → StandsFirst x (record s { regs = regs })) (input : List ℕ) where
      tested : (o : Option End) → acts.tests (program_of x) s Done regs ≡ o → OnEvent x (acts.event_after_pass (program_of x) s (acts.pass_tests (program_of x) s Done regs (memory_of s) o) input)
      tested (Some end) e = k
      tested None e =
          let none : pushes_some (instr_for (profile_of x.image) (memory_of s) s.regs.pc) ≡ 0 = ap pushes_some fetch.stands ∙ ap length pushes in
          let t : Recorded = record s { regs = regs } in
          let edge : control_flow_trap (program_of x) (branches_some (instr_for (profile_of x.image) (memory_of s) s.regs.pc) s.regs) s.regs.pc Done regs ≡ None =
          none_or (sp_end (look x.roles s.regs.pc).lowers (innermost_in (cleanups_in s.cleanups)) s.home.0 s.regs.pc (reg_in s SP) (slice_index regs.r SP)) _ e in
          let edge_i : control_flow_trap (program_of x) (branches i s.regs) s.regs.pc Done regs ≡ None =
          subst (λ (o : Option (Instr × ℕ)). control_flow_trap (program_of x) (branches_some o s.regs) s.regs.pc Done regs ≡ None) fetch.stands edge in
          subst (Keeps x) (sym (reguarded_at_one_sp (look x.roles s.regs.pc).saves (pushes_some (instr_for (profile_of x.image) (memory_of s) s.regs.pc)) (reg_in s SP) (slice_index regs.r SP) t none sp))
          (with_regs x s k regs simple_sound sp (first edge_i))

      checked : OnEvent x (acts.event_after_pass (program_of x) s (acts.pass_step (program_of x) s (step_for (profile_of x.image) s.regs (memory_of s))) input)
      checked = subst (λ (o : Stepping). OnEvent x (acts.event_after_pass (program_of x) s (acts.pass_step (program_of x) s o) input)) (sym stepped) (tested (acts.tests (program_of x) s Done regs) refl)

      event : (look x.roles s.regs.pc).is_instr ≡ true → OnEvent x (acts.recorded_event (program_of x) s input)
      unfolding acts.recorded_event acts.pass_instruction
      event reached = subst (λ (b : Bool). OnEvent x (acts.event_after_pass (program_of x) s (acts.pass_if_checked (program_of x) s b) input)) (sym reached) checked

      -- it does the same in both machines, and keeps
      pub simple_turns : (look x.roles s.regs.pc).is_instr ≡ true → Turns x s input
      simple_turns reached = record {
        same = plain_match (program_of x) s input (knows s k.corresponds) (subst (λ (o : Stepping). IsPlain (program_of x) s o.0) (sym stepped) tt);
        keeps = event reached;
      }
