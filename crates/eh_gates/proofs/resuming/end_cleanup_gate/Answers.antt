use Rattle.std.proofs.Common.{ℕ, Result, ap}
use Rattle.eh_bus.specs.Memory.{Memory}
use Rattle.eh_cxa.specs.Words.{word}
use Rattle.eh_cxa.specs.declared.globals.Globals.{Globals}
use Rattle.eh_cxa.specs.declared.globals.CleanupWords.{CleanupWords}
use Rattle.eh_cxa.specs.declared.globals.CxaFault.{CxaFault}
use Rattle.eh_gates.proofs.Blocks.{cleanup_block}
use Rattle.eh_gates.proofs.resuming.end_cleanup_gate.Goals as goal

pub barrier-b-requires : goal.barrier-b-requires
barrier-b-requires g c =
    cleanup_block (word (g.B.Bus.memory c.args.bus.now)) c.args.core.now.globals _ c.in-Ok.block _
    (ap (λ (p : Result (ℕ × CleanupWords) CxaFault × Globals × Memory). p.0) c.in-Ok.ensures.words)

pub enter_landing-requires : goal.enter_landing-requires
enter_landing-requires g c =
    cleanup_block (word (g.B.Bus.memory c.args.bus.now)) c.args.core.now.globals _ c.in-Ok.block _
    (ap (λ (p : Result (ℕ × CleanupWords) CxaFault × Globals × Memory). p.0) c.in-Ok.ensures.words)
