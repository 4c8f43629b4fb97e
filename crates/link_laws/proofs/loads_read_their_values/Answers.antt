use Rattle.link_laws.proofs.Pools.{law_of_pools}
use Rattle.link_laws.proofs.loads_read_their_values.Goals as goal

pub returns : goal.returns
returns c = law_of_pools
