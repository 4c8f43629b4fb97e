use Rattle.gnu_machine.proofs.Alike.{turns_same}
use Rattle.gnu_machine.proofs.laws.gnu_turns_same.Goals as goal

pub returns : goal.returns
returns c = turns_same c.args.filters.now c.are_words.ensures c.catches_have_landed.ensures c.pads_are_free.ensures c.free_barriers.ensures
