use Rattle.sim_code.proofs.Entries.{entry_of_start}
use Rattle.sim_code.proofs.sites_share_an_entry.Goals as goal

pub returns : goal.returns
returns c = entry_of_start
