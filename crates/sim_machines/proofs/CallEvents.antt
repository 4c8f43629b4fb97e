-- Events of states that stand for each other: all that walk no frames and are no returns.
use Rattle.std.proofs.Common.{◌≡◌, ℕ, ◌+◌, ◌*◌, ◌^◌, ◌<◌, nat_lt, Bool, true, false, cond, map, arith}
use Rattle.eh_bus.specs.Map.{IsMap}
use Rattle.eh_bus.specs.declared.map.TheConstants.{POOL_START, SLOT_SIZE}
use Rattle.frame_check.specs.run_images.Start.{memory_segment}
use Rattle.run_gates.specs.declared.gates.TheConstants.{INPUT_GATE}
use Rattle.run_gates.specs.Gates.{gate_event}
use Rattle.eh_cxa.specs.Words.{word}
use Rattle.eh_cxa.specs.declared.layout.TheConstants.{SLOTS, CLOSED_WORDS}
use Rattle.eh_cxa.proofs.CleanupLaws.{innermost_follows}
use Rattle.eh_cxa.proofs.Kept.{start_stands}
use Rattle.thumb_core.specs.Step.{step_for}
use Rattle.thumb_core.specs.declared.regs.Stepped.{Stepped}
use Rattle.thumb_core.specs.declared.regs.Stepped.TheVariants.{Done, Call, Return, Gate, Trap}
use Rattle.eh_gates.specs.Gates.{gate_of}
use Rattle.sim_machines.specs.Program.{Program, program_tables, profile_in}
use Rattle.sim_machines.specs.Start.{start_of}
use Rattle.sim_machines.specs.Machine as bytes
use Rattle.sim_machines.specs.Activations.{Recorded, reg_in, memory_of, heads, bytes_of, recorded_start, lists_of}
use Rattle.sim_machines.specs.ActivationMachine as acts
use Rattle.sim_machines.specs.ActivationLaws.{Matches, KnowsLanding}
use Rattle.sim_machines.specs.Corresponds.{Corresponds, WalksNone, IsInPlace, CallsMatch}
use Rattle.sim_machines.proofs.Matching.{CanMatch, events_match, in_state_alike}
use Rattle.sim_machines.proofs.FirstEvent.{at_pool, outcome_event}
use Rattle.sim_machines.proofs.CallGates.{gates_match}

pub knows : (s : Recorded) → Corresponds s → KnowsLanding s
knows s c = innermost_follows (word (memory_of s)) (heads (lists_of s)) (lists_of s) c.stands

-- a pool of zeros stands for no exceptions
zero_words : (p : Program) (s k : ℕ) → s < SLOTS → k < CLOSED_WORDS → word (start_of p).memory s k ≡ 0
unfolding word
zero_words p s k h i = at_pool (map memory_segment p.image.segments) (POOL_START + SLOT_SIZE * s + 4 * k) (omega arith) (omega arith)

pub start_corresponds : (p : Program) → IsMap (start_of p).memory → Corresponds (recorded_start p)
start_corresponds p mapped = record { map = mapped; stands = start_stands (word (start_of p).memory) (zero_words p) }

module _ (p : Program) (s : Recorded) (c : Corresponds s) (small : reg_in s 0 < 2 ^ 32) where
  at_gate : (number : ℕ) → WalksNone number → CanMatch p s (Gate number)
  at_gate number w regs input = go (nat_lt INPUT_GATE number)
    where
      go : (b : Bool) → Matches (cond b (bytes.event_of (gate_of (program_tables p) number regs.pc (bytes_of s)) input) (bytes.in_state (bytes_of s) (gate_event number s.regs regs input)))
          (cond b (acts.event_of (acts.gate_of (program_tables p) number regs.pc s) input) (acts.in_state s (gate_event number s.regs regs input)))
      go true =
          outcome_event (gate_of (program_tables p) number regs.pc (bytes_of s)) (acts.gate_of (program_tables p) number regs.pc s) input (gates_match (program_tables p) number regs.pc s c small w).same
      go false = in_state_alike p s (knows s c) (gate_event number s.regs regs input)

  can : (what : Stepped) → IsInPlace p s what → CanMatch p s what
  can Done h = tt
  can (Call target ret) h = tt
  can (Return to) h = h
  can (Gate number) h = at_gate number h
  can (Trap trap) h = h

pub calls_match : CallsMatch
calls_match = record {
  start = start_corresponds;
  landing = knows;
  gates = gates_match;
  events = λ p s input c small h. events_match p s input (knows s c) (can p s c small (step_for (profile_in p) s.regs (memory_of s)).0 h);
}
