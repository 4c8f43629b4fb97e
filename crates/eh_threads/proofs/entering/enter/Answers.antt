use Rattle.std.proofs.lemmas.Bool.{ne_eqb}
use Rattle.eh_bus.proofs.MapLaws.{map_refl}
use Rattle.eh_threads.proofs.Entered.{owners_enter, memory_enters}
use Rattle.eh_threads.proofs.entering.enter.Goals as goal

pub returns-clause-owners : goal.returns-clause-owners
returns-clause-owners g c =
    owners_enter c.args.thread c.args.entered (g.B.Bus.memory c.args.bus.now.inner) c.args.bus.now.guards c.args.bus.now.thread c.args.owners.now.slots _
    (ne_eqb _ _ c.if-thread-entered.false) c.enter.ensures.owners

pub returns-clause-memory : goal.returns-clause-memory
returns-clause-memory g c =
    memory_enters c.args.thread c.args.entered (g.B.Bus.memory c.args.bus.now.inner) _ c.args.bus.now.guards c.args.bus.now.thread c.args.owners.now.slots _
    (ne_eqb _ _ c.if-thread-entered.false) c.enter.ensures.owners c.enter.ensures.memory

pub returns-then-thread-entered-clause-map : goal.returns-then-thread-entered-clause-map
returns-then-thread-entered-clause-map g c = map_refl (g.B.Bus.memory c.args.bus.now.inner).segments
