use Rattle.sim_landings.proofs.Runs.{throws_land_in_order}
use Rattle.sim_landings.proofs.throws_land_in_order.Goals as goal

pub returns : goal.returns
returns c = throws_land_in_order
