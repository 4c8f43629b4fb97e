use Rattle.std.proofs.Common.{ℕ, Result, ap}
use Rattle.eh_bus.specs.Memory.{Memory}
use Rattle.eh_cxa.specs.Words.{word}
use Rattle.eh_cxa.specs.declared.globals.Globals.{Globals}
use Rattle.eh_cxa.specs.declared.globals.CxaFault.{CxaFault}
use Rattle.eh_gates.proofs.Blocks.{throw_block}
use Rattle.eh_gates.proofs.throwing.throw_gate.Goals as goal

pub throw_to-requires : goal.throw_to-requires
throw_to-requires g c =
    throw_block (word (g.B.Bus.memory c.args.bus.now)) _ _ c.in-Ok-start_throw.block _
    (ap (λ (p : Result ℕ CxaFault × Globals × Memory). p.0) c.in-Ok-start_throw.ensures.words)
