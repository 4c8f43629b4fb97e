use Rattle.eh_match.proofs.Addresses.{plain_steps_add, offsets_are_signed, virtual_steps_go_by_the_vtable, addresses_follow}
use Rattle.eh_match.proofs.laws.addresses_follow_the_steps.Goals as goal

pub returns-clause-plain : goal.returns-clause-plain
returns-clause-plain c = plain_steps_add

pub returns-clause-signed : goal.returns-clause-signed
returns-clause-signed c = offsets_are_signed

pub returns-clause-by_virtual : goal.returns-clause-by_virtual
returns-clause-by_virtual c = virtual_steps_go_by_the_vtable

pub returns-clause-parts : goal.returns-clause-parts
returns-clause-parts c = addresses_follow
