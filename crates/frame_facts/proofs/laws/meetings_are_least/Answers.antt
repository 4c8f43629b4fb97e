use Rattle.frame_facts.proofs.Vaguer.{at_most_self, at_most_via, join_left, join_right, join_least, joins}
use Rattle.frame_facts.proofs.laws.meetings_are_least.Goals as goal

pub returns : goal.returns
returns c = record { same = at_most_self; via = at_most_via; left = join_left; right = join_right; least = join_least; parted = λ f g k h x y. joins f g k x y h }
