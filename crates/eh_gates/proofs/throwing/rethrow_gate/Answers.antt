use Rattle.std.proofs.Common.{ℕ, Result, ap, sym, subst}
use Rattle.std.specs.Prelude.{IsSome}
use Rattle.eh_bus.specs.Memory.{Memory}
use Rattle.eh_cxa.specs.Words.{word, object_slot}
use Rattle.eh_cxa.specs.declared.globals.Globals.{Globals}
use Rattle.eh_cxa.specs.declared.globals.CxaFault.{CxaFault}
use Rattle.eh_gates.proofs.Blocks.{rethrow_block, thrown_object}
use Rattle.eh_gates.proofs.throwing.rethrow_gate.Goals as goal

pub thrown-object-requires : goal.thrown-object-requires
thrown-object-requires g c = rethrow_block (word (g.B.Bus.memory c.args.bus.now)) c.args.core.now.globals c.in-Ok.block c.in-Ok.ensures.words

pub sought-requires : goal.sought-requires
sought-requires g c =
    let block = rethrow_block (word (g.B.Bus.memory c.args.bus.now)) c.args.core.now.globals c.in-Ok.block c.in-Ok.ensures.words in
    subst (λ (p : ℕ × ℕ). IsSome (object_slot p.0)) (sym c.thrown-object.ensures.words) (thrown_object (word (g.B.Bus.memory c.args.bus.now)) c.in-Ok.block block)

pub throw_to-requires : goal.throw_to-requires
throw_to-requires g c =
    rethrow_block (word (g.B.Bus.memory c.args.bus.now)) c.args.core.now.globals c.in-Ok-rethrow.block
    (ap (λ (p : Result ℕ CxaFault × Globals × Memory). p.0) c.in-Ok-rethrow.ensures.words)
