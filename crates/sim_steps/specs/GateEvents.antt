-- Gates that walk no frames: each is the same in both machines, and the invariants hold after it.
use Rattle.std.specs.Prelude.{ℕ, ◌^◌, ◌<◌, List, slice_get}
use Rattle.run_gates.specs.Gates.{byte_or_end}
use Rattle.thumb_isa.specs.declared.instr.Instr.TheVariants.{Svc}
use Rattle.sim_machines.specs.frame_check.Accepts.{Accepted}
use Rattle.sim_machines.specs.Activations.{Recorded}
use Rattle.sim_machines.specs.Corresponds.{WalksNone}
use Rattle.sim_relation.specs.Stands.{Keeps, IsProgram, DoesAt, Turns}

-- All gates except those of a throw, a rethrow and the end of a cleanup. The next byte of the input must be a 32-bit word, since a gate
-- puts it into r0.
abbrev pub GatesTurn : Type 0
GatesTurn = (x : Accepted) (s : Recorded) (number : ℕ) (input : List ℕ) → IsProgram x → Keeps x s → DoesAt x s (Svc number) → WalksNone number
    → byte_or_end (slice_get input 0) < 2 ^ 32 → Turns x s input
