use Rattle.eh_desc.proofs.Rising.{law_of_rising}
use Rattle.eh_desc.proofs.descriptors_rise.Goals as goal

pub returns : goal.returns
returns c = law_of_rising
