-- A gate that walks frames: its event, from what the gate alone does in both machines and leaves.
use Rattle.std.proofs.Common.{◌≡◌, ℕ, nat_lt, Bool, true, false, cond, List, Option, Some, None, sym, subst}
use Rattle.run_gates.specs.declared.gates.TheConstants.{INPUT_GATE}
use Rattle.run_gates.specs.Gates.{gate_event}
use Rattle.thumb_isa.specs.declared.instr.Instr.TheVariants.{Svc}
use Rattle.thumb_core.specs.Outcome.{Outcome as Stepping}
use Rattle.thumb_core.specs.Registers.{with_next}
use Rattle.run_images.specs.Profiles.{profile_of}
use Rattle.thumb_core.specs.Step.{step_for}
use Rattle.thumb_core.specs.declared.regs.Regs.{Regs}
use Rattle.thumb_core.specs.declared.regs.Stepped.TheVariants.{Gate}
use Rattle.thumb_core.specs.declared.ends.End.{End}
use Rattle.frame_code.specs.declared.standing.Standing.TheVariants.{Instruction}
use Rattle.frame_reach.specs.frame_graph.Places.{standing_at}
use Rattle.sim_machines.specs.frame_check.Accepts.{Accepted}
use Rattle.sim_machines.specs.frame_check.Roots.{flow_graph_of}
use Rattle.sim_machines.specs.frame_check.Roles.{look}
use Rattle.eh_gates.specs.Gates.{gate_of}
use Rattle.eh_gates.specs.declared.state.Turned.TheVariants.{Went, Ended}
use Rattle.sim_machines.specs.Program.{program_tables}
use Rattle.sim_machines.specs.Activations.{Recorded, memory_of, bytes_of}
use Rattle.sim_machines.specs.ActivationLaws.{Matches}
use Rattle.sim_machines.specs.Checked.{program_of}
use Rattle.sim_machines.specs.Corresponds.{GateMatches}
use Rattle.sim_machines.proofs.CallEvents.{knows}
use Rattle.sim_machines.proofs.FirstEvent.{outcome_event}
use Rattle.sim_machines.proofs.Matching.{CanMatch, events_match}
use Rattle.sim_machines.specs.Machine as bytes
use Rattle.sim_machines.specs.ActivationMachine as acts
use Rattle.sim_accesses.specs.sim_relation.Chain.{StandsAt}
use Rattle.sim_accesses.specs.sim_relation.Stands.{Keeps, IsProgram, OnEvent, Turns}
use Rattle.sim_accesses.proofs.sim_relation.SimpleTurns.{fetch}

module _ (x : Accepted) (is : IsProgram x) (s : Recorded) (k : Keeps x s) (at : StandsAt x s.first s.segments s.regs s.regs.pc) (number size : ℕ)
    (stands : standing_at (flow_graph_of x.image at.function) at.place ≡ Instruction (Svc number) size) (high : nat_lt INPUT_GATE number ≡ true)
    (matches : (next : ℕ) → GateMatches (gate_of (program_tables (program_of x)) number next (bytes_of s)) (acts.gate_of (program_tables (program_of x)) number next s))
    (keeps : (next : ℕ) → Keeps x (acts.gate_of (program_tables (program_of x)) number next s).1) (input : List ℕ) where
  abbrev regs : Regs
  regs = with_next size s.regs

  stepped : step_for (profile_of x.image) s.regs (memory_of s) ≡ (Gate number, regs, memory_of s)
  stepped = (fetch x is s k at (Svc number) size stands).step

  left : (q : acts.Outcome) → Keeps x q.1 → OnEvent x (acts.event_of q input)
  left (Went, t) h = h
  left (Ended end, t) h = h

  gated : OnEvent x (acts.event_at_gate (program_of x) number s regs input)
  gated = go (nat_lt INPUT_GATE number) high
    where
      go : (b : Bool) → b ≡ true → OnEvent x (cond b (acts.event_of (acts.gate_of (program_tables (program_of x)) number regs.pc s) input) (acts.in_state s (gate_event number s.regs regs input)))
      go true e = left (acts.gate_of (program_tables (program_of x)) number regs.pc s) (keeps regs.pc)
      go false e = absurd cc

  tested : (o : Option End) → OnEvent x (acts.event_after_pass (program_of x) s (acts.pass_tests (program_of x) s (Gate number) regs (memory_of s) o) input)
  tested (Some end) = k
  tested None = gated

  checked : OnEvent x (acts.event_after_pass (program_of x) s (acts.pass_step (program_of x) s (step_for (profile_of x.image) s.regs (memory_of s))) input)
  checked = subst (λ (o : Stepping). OnEvent x (acts.event_after_pass (program_of x) s (acts.pass_step (program_of x) s o) input)) (sym stepped) (tested (acts.tests (program_of x) s (Gate number) regs))

  event : (look x.roles s.regs.pc).is_instr ≡ true → OnEvent x (acts.recorded_event (program_of x) s input)
  unfolding acts.recorded_event acts.pass_instruction
  event reached = subst (λ (b : Bool). OnEvent x (acts.event_after_pass (program_of x) s (acts.pass_if_checked (program_of x) s b) input)) (sym reached) checked

  can : CanMatch (program_of x) s (Gate number)
  can after given = go (nat_lt INPUT_GATE number) high
    where
      go : (b : Bool) → b ≡ true
          → Matches (cond b (bytes.event_of (gate_of (program_tables (program_of x)) number after.pc (bytes_of s)) given) (bytes.in_state (bytes_of s) (gate_event number s.regs after given)))
          (cond b (acts.event_of (acts.gate_of (program_tables (program_of x)) number after.pc s) given) (acts.in_state s (gate_event number s.regs after given)))
      go true e = outcome_event (gate_of (program_tables (program_of x)) number after.pc (bytes_of s)) (acts.gate_of (program_tables (program_of x)) number after.pc s) given (matches after.pc).same
      go false e = absurd cc

  pub walking_turns : (look x.roles s.regs.pc).is_instr ≡ true → Turns x s input
  walking_turns reached = record {
    same = events_match (program_of x) s input (knows s k.corresponds) (subst (λ (o : Stepping). CanMatch (program_of x) s o.0) (sym stepped) can);
    keeps = event reached;
  }
