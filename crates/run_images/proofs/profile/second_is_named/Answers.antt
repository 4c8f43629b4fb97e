use Rattle.run_images.proofs.Named.{second_is_named}
use Rattle.run_images.proofs.profile.second_is_named.Goals as goal

pub returns : goal.returns
returns c = second_is_named
