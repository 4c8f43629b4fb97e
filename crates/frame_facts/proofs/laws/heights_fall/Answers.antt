use Rattle.frame_facts.proofs.Fitting.{height_low}
use Rattle.frame_facts.proofs.Vaguer.{join_falls}
use Rattle.frame_facts.proofs.laws.heights_fall.Goals as goal

pub returns : goal.returns
returns c = record { falls = join_falls; low = height_low }
