use Rattle.eh_types.specs.Vtables.{vtables_of}
use Rattle.eh_types.proofs.vtables.vtables_of.Goals as goal

pub returns : goal.returns
unfolding vtables_of
returns c = rw (c.vtable_at.ensures, c.vtable_at-2.ensures, c.vtable_at-3.ensures, c.vtable_at-4.ensures, c.vtable_at-5.ensures)
