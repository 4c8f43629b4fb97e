use Rattle.sim_landings.proofs.Flights.{flights_land_in_order}
use Rattle.sim_landings.proofs.flights_land_in_order.Goals as goal

pub returns : goal.returns
returns c = flights_land_in_order
