-- What gates 18 and 21 leave is kept.
use Rattle.std.proofs.Common.{ℕ, ◌<◌, ◌^◌, Some, arith}
use Rattle.eh_cxa.specs.Words.{object}
use Rattle.eh_cxa.specs.declared.layout.TheConstants.{SLOTS}
use Rattle.thumb_isa.specs.declared.instr.Instr.TheVariants.{Svc}
use Rattle.sim_machines.specs.frame_check.Accepts.{Accepted}
use Rattle.eh_gates.specs.State.{Tables}
use Rattle.eh_gates.specs.declared.gates.TheConstants.{THROW_GATE, RETHROW_GATE}
use Rattle.sim_machines.specs.Activations.{Recorded, lists_of}
use Rattle.sim_machines.specs.ActivationMachine as machine
use Rattle.sim_frames.specs.sim_relation.Stands.{Keeps, IsProgram, DoesAt}
use Rattle.sim_throws.proofs.CleanupLands.{cleanup_lands}
use Rattle.sim_throws.proofs.Flights.{throw_leaves, rethrow_leaves}
use Rattle.sim_throws.proofs.FlightLands.{ours, flight_keeps}

module _ (x : Accepted) (is : IsProgram x) (s : Recorded) (k : Keeps x s) (imm : ℕ) (does : DoesAt x s (Svc imm)) (g : Tables) where
  pub throw_gate_keeps : (next : ℕ) → Keeps x (machine.gate_of (ours x is s k imm does g) THROW_GATE next s).1
  unfolding machine.gate_of
  throw_gate_keeps next =
      throw_leaves (ours x is s k imm does g) x s k (k.sound.words.small 1) (k.sound.words.small 2)
      (λ slot writes flown e b flight same of_slot counted search. flight_keeps x is s k imm does g (machine.gate_thrown s) (k.sound.words.small 0) slot writes flown e b flight same of_slot counted search
      (cleanup_lands x is s k imm does g (machine.gate_thrown s) (k.sound.words.small 0) slot writes flown e b flight same of_slot counted search))

  small_object : (top : ℕ) → top < SLOTS → object top < 2 ^ 32
  small_object top low = omega (arith, low)

  -- a rethrow is of the slot that flies
  pub rethrow_gate_keeps : (next : ℕ) → Keeps x (machine.gate_of (ours x is s k imm does g) RETHROW_GATE next s).1
  unfolding machine.gate_of
  rethrow_gate_keeps next =
      rethrow_leaves (ours x is s k imm does g) x s k
      (λ top low slot writes flown e b flight same of_slot counted search. flight_keeps x is s k imm does g (machine.slot_thrown (lists_of s) (Some top)) (small_object top low) slot writes flown e b flight same of_slot counted search
      (cleanup_lands x is s k imm does g (machine.slot_thrown (lists_of s) (Some top)) (small_object top low) slot writes flown e b flight same of_slot counted search))
