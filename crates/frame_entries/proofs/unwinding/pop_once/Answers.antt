-- The test that `pops_once` answers is the one of the definition.
use Rattle.eh_codes.specs.Cut.{split_codes}
use Rattle.frame_entries.proofs.Distinct.{once}
use Rattle.frame_entries.proofs.unwinding.pop_once.Goals as goal

pub returns : goal.returns
returns c = once c.pops_once.result (split_codes c.args.codes.now) c.pops_once.ensures
