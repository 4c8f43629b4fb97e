use Rattle.frame_facts.proofs.Fitting.{entered_fits, after_fits, join_fits, clobbered_fits}
use Rattle.frame_facts.proofs.laws.facts_fit.Goals as goal

pub returns : goal.returns
returns c = record { entry = entered_fits; after = after_fits; join = join_fits; clobbers = clobbered_fits }
