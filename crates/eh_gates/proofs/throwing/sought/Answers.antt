use Rattle.std.proofs.Common.{sym}
use Rattle.eh_gates.specs.State.{state_of, tables_of}
use Rattle.eh_gates.proofs.Sought.{sought_found}
use Rattle.eh_gates.proofs.throwing.sought.Goals as goal

pub returns : goal.returns
returns g c =
    sought_found (tables_of c.args.t.now.index c.args.t.now.types.now) (state_of c.args.core.now (g.B.Bus.memory c.args.bus.now) c.args.events.now) c.args.kind c.args.what.now
    c.object_size.result c.throw_event.result c.push.new.self c.innermost_sp-limit.result c.frame_of.result.r c.search-found.result c.barrier_in.result
    (sym c.if-not-holds.ensures.holds) c.object_size.ensures.words c.throw_event.ensures.is c.push.ensures.value c.innermost_sp-limit.ensures.words
    c.frame_of.ensures c.search-found.ensures c.barrier_in.ensures
