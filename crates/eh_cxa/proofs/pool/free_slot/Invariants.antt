use Rattle.std.proofs.Common.{◌≡◌, ℕ, ◌<◌, ◌==◌, false}
use Rattle.eh_cxa.specs.declared.layout.TheConstants.{STATE}
use Rattle.eh_cxa.specs.declared.state.TheConstants.{FREE}
use Rattle.eh_cxa.specs.Words.{word}
use Rattle.eh_cxa.proofs.pool.free_slot.Given as goal

abbrev pub invariant-loop-slot : goal.invariant-loop-slot
invariant-loop-slot g l = (t : ℕ) → t < l.slot → (word (g.B.Bus.memory l.bus) t STATE == FREE) ≡ false
