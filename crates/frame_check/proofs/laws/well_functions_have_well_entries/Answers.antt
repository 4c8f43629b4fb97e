use Rattle.frame_check.proofs.Entries.{well_functions}
use Rattle.frame_check.proofs.laws.well_functions_have_well_entries.Goals as goal

pub returns : goal.returns
returns c = well_functions
