-- An event of an instruction that touches memory and traps leaves the state.
use Rattle.std.proofs.Common.{◌≡◌, ℕ, Bool, true, List, Option, None, sym, subst}
use Rattle.eh_bus.specs.Memory.{Memory}
use Rattle.thumb_core.specs.Outcome.{Outcome as Stepping}
use Rattle.run_images.specs.Profiles.{profile_of}
use Rattle.thumb_core.specs.Step.{step_for}
use Rattle.thumb_core.specs.declared.regs.CoreTrap.{CoreTrap}
use Rattle.thumb_core.specs.declared.regs.Regs.{Regs}
use Rattle.thumb_core.specs.declared.regs.Stepped.TheVariants.{Trap}
use Rattle.frame_check.specs.Accepts.{Accepted}
use Rattle.frame_check.specs.Roles.{look}
use Rattle.sim_machines.specs.Activations.{Recorded, memory_of}
use Rattle.sim_machines.specs.Checked.{program_of}
use Rattle.sim_machines.specs.ActivationLaws.{IsPlain}
use Rattle.sim_machines.proofs.CallEvents.{knows}
use Rattle.sim_machines.proofs.Matching.{plain_match}
use Rattle.sim_machines.specs.ActivationMachine as acts
use Rattle.sim_relation.specs.Stands.{Keeps, OnEvent, Turns}

trap_keeps : (x : Accepted) (s : Recorded) (k : Keeps x s) (input : List ℕ) (trap : CoreTrap) (regs : Regs) (m : Memory) → step_for (profile_of x.image) s.regs (memory_of s) ≡ (Trap trap, regs, m)
    → acts.pops_back (program_of x) s ≡ None → (look x.roles s.regs.pc).is_instr ≡ true → OnEvent x (acts.recorded_event (program_of x) s input)
unfolding acts.recorded_event acts.pass_instruction
trap_keeps x s k input trap regs m e none reached =
    subst (λ (b : Bool). OnEvent x (acts.event_after_pass (program_of x) s (acts.pass_if_checked (program_of x) s b) input)) (sym reached)
    (subst (λ (o : Stepping). OnEvent x (acts.event_after_pass (program_of x) s (acts.pass_step (program_of x) s o) input)) (sym e)
    (subst (λ (q : Option Regs). OnEvent x (acts.event_after_pass (program_of x) s (acts.trap_or_return (program_of x) s trap q) input)) (sym none) k))

pub trap_turns : (x : Accepted) (s : Recorded) (k : Keeps x s) (input : List ℕ) (trap : CoreTrap) (regs : Regs) (m : Memory) → step_for (profile_of x.image) s.regs (memory_of s) ≡ (Trap trap, regs, m)
    → acts.pops_back (program_of x) s ≡ None → (look x.roles s.regs.pc).is_instr ≡ true → Turns x s input
trap_turns x s k input trap regs m e none reached = record {
  same = plain_match (program_of x) s input (knows s k.corresponds) (subst (λ (o : Stepping). IsPlain (program_of x) s o.0) (sym e) none);
  keeps = trap_keeps x s k input trap regs m e none reached;
}
