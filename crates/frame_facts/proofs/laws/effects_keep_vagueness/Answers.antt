use Rattle.frame_facts.proofs.Agreeing.{agrees_vaguer}
use Rattle.frame_facts.proofs.Following.{after_vaguer}
use Rattle.frame_facts.proofs.Vaguer.{clobbered_vaguer}
use Rattle.frame_facts.proofs.laws.effects_keep_vagueness.Goals as goal

pub returns : goal.returns
returns c = record { after = after_vaguer; agrees = agrees_vaguer; clobbers = clobbered_vaguer }
