use Rattle.eh_match.proofs.Names.{plain_paths_are_named, virtual_paths_are_named}
use Rattle.eh_match.proofs.Told.{subobjects_are_told, paths_are_public_by_step}
use Rattle.eh_match.proofs.laws.subobjects_are_named.Goals as goal

pub returns-clause-plain : goal.returns-clause-plain
returns-clause-plain c = plain_paths_are_named

pub returns-clause-by_virtual : goal.returns-clause-by_virtual
returns-clause-by_virtual c = virtual_paths_are_named

pub returns-clause-told : goal.returns-clause-told
returns-clause-told c = subobjects_are_told

pub returns-clause-public : goal.returns-clause-public
returns-clause-public c = paths_are_public_by_step
