use Rattle.std.proofs.Common.{ℕ, Result, Ok, Err, refl, ap, ◌∙◌}
use Rattle.eh_bus.specs.Memory.{Memory}
use Rattle.eh_cxa.specs.Words.{word}
use Rattle.eh_cxa.specs.declared.globals.Globals.{Globals}
use Rattle.eh_cxa.specs.declared.globals.CxaFault.{CxaFault}
use Rattle.eh_gates.proofs.Blocks.{throw_block}
use Rattle.eh_trace.specs.Trace.{push_event}
use Rattle.sim_machines.specs.Checked.{program_of}
use Rattle.eh_walk.proofs.Flown.{refused_fly, left_fly, done_fly}
use Rattle.eh_walk.proofs.forcing.allocate_and_fly.Goals as goal

pub returns-in-Err : goal.returns-in-Err
returns-in-Err g c =
    refused_fly (program_of c.args.a.now) c.args.f.now c.args.core.now (g.B.Bus.memory c.args.shared.now.bus) c.args.events.now _ _ c.in-Err.ensures.words

pub throw_to-turned-requires : goal.throw_to-turned-requires
throw_to-turned-requires g c =
    throw_block (word (g.B.Bus.memory c.allocate.new.bus)) _ _ c.in-Ok-start_throw.block _
    (ap (λ (p : Result ℕ CxaFault × Globals × Memory). p.0) c.in-Ok-start_throw.ensures.words)

pub returns-in-Ok-start_throw : goal.returns-in-Ok-start_throw
returns-in-Ok-start_throw g c =
    done_fly (program_of c.args.a.now) c.args.f.now c.args.core.now (g.B.Bus.memory c.args.shared.now.bus) c.args.events.now c.in-Ok.object _ c.in-Ok.ensures.words
    _ (c.push.ensures.value ∙ ap (push_event c.args.events.now) c.forced_event.ensures.is)
    (Ok c.in-Ok-start_throw.block) _ _ c.in-Ok-start_throw.ensures.words c.in-Ok-start_throw.block refl _ _ c.tables.ensures.index c.tables.ensures.types _ c.stop_barrier-b.ensures _ _ c.throw_to-turned.ensures

pub returns-in-Err-start_throw : goal.returns-in-Err-start_throw
returns-in-Err-start_throw g c =
    left_fly (program_of c.args.a.now) c.args.f.now c.args.core.now (g.B.Bus.memory c.args.shared.now.bus) c.args.events.now c.in-Ok.object _ c.in-Ok.ensures.words
    _ (c.push.ensures.value ∙ ap (push_event c.args.events.now) c.forced_event.ensures.is)
    (Err c.in-Err-start_throw.field-0) _ _ c.in-Err-start_throw.ensures.words c.in-Err-start_throw.field-0 refl
