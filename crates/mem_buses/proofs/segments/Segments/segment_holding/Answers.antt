use Rattle.mem_buses.proofs.Places.{if_place}
use Rattle.mem_buses.proofs.segments.Segments.segment_holding.Goals as goal

pub returns-clause-place : goal.returns-clause-place
returns-clause-place c = if_place c.args.n c.args.a _ _ c.position.ensures
