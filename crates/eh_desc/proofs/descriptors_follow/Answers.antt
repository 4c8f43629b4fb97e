use Rattle.eh_desc.proofs.Items.{law_of_descriptors}
use Rattle.eh_desc.proofs.descriptors_follow.Goals as goal

pub returns : goal.returns
returns c = law_of_descriptors
