use Rattle.sim_landings.proofs.Runs.{runs_land_in_order}
use Rattle.sim_landings.proofs.runs_land_in_order.Goals as goal

pub returns : goal.returns
returns c = runs_land_in_order
