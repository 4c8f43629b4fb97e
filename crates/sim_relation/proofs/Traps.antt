-- An event that traps leaves the state.
use Rattle.std.proofs.Common.{◌≡◌, ℕ, Bool, true, false, List, Option, None, sym, subst}
use Rattle.thumb_core.specs.Outcome.{Outcome as Stepping}
use Rattle.run_images.specs.Profiles.{profile_of}
use Rattle.thumb_core.specs.Step.{step_for}
use Rattle.thumb_core.specs.declared.regs.Regs.{Regs}
use Rattle.thumb_core.specs.declared.regs.Stepped.TheVariants.{Trap}
use Rattle.eh_bus.specs.Memory.{Memory}
use Rattle.thumb_core.specs.declared.regs.CoreTrap.{CoreTrap}
use Rattle.sim_machines.specs.frame_check.Accepts.{Accepted}
use Rattle.sim_machines.specs.frame_check.Roles.{look}
use Rattle.sim_machines.specs.Activations.{Recorded, memory_of}
use Rattle.sim_machines.specs.ActivationLaws.{IsPlain}
use Rattle.sim_machines.specs.Checked.{program_of}
use Rattle.sim_machines.proofs.CallEvents.{knows}
use Rattle.sim_machines.proofs.Matching.{plain_match}
use Rattle.sim_machines.specs.ActivationMachine as acts
use Rattle.sim_relation.specs.Stands.{Keeps, OnEvent, Turns}

-- a trap leaves the state
pub trap_turns : (x : Accepted) (s : Recorded) (input : List ℕ) (what : CoreTrap) (regs : Regs) (m : Memory) → Keeps x s → step_for (profile_of x.image) s.regs (memory_of s) ≡ (Trap what, regs, m)
    → acts.pops_back (program_of x) s ≡ None → Turns x s input
unfolding acts.recorded_event acts.pass_instruction
trap_turns x s input what after m k stepped none = record {
  same = plain_match (program_of x) s input (knows s k.corresponds) (subst (λ (o : Stepping). IsPlain (program_of x) s o.0) (sym stepped) none);
  keeps = by_look (look x.roles s.regs.pc).is_instr;
}
  where
    by_look : (b : Bool) → OnEvent x (acts.event_after_pass (program_of x) s (acts.pass_if_checked (program_of x) s b) input)
    by_look true = subst (λ (o : Stepping). OnEvent x (acts.event_after_pass (program_of x) s (acts.pass_step (program_of x) s o) input)) (sym stepped)
        (subst (λ (q : Option Regs). OnEvent x (acts.event_after_pass (program_of x) s (acts.trap_or_return (program_of x) s what q) input)) (sym none) k)
    by_look false = k
