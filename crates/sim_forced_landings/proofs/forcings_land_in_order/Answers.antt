use Rattle.sim_forced_landings.proofs.InOrder.{forcings_land_in_order}
use Rattle.sim_forced_landings.proofs.forcings_land_in_order.Goals as goal

pub returns : goal.returns
returns c = forcings_land_in_order c.flights_land_in_order.ensures
