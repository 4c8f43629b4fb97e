use Rattle.eh_machine.proofs.FollowingFlights.{flight_told}
use Rattle.eh_machine.proofs.start.throw_to.Goals as goal

pub returns-clause-recorded : goal.returns-clause-recorded
returns-clause-recorded g c =
    flight_told c.args.a.now _ _ c.args.site c.args.ucb c.args.b.now c.throw_to.result _ _ c.holds.ensures.image c.holds.ensures.sound c.throw_to.ensures c.tables.ensures.index c.tables.ensures.types
