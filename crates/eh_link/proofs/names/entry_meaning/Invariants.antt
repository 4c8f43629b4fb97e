use Rattle.std.proofs.Common.{◌≡◌, drop}
use Rattle.eh_link.specs.Symbols.{is_entry, first_in}
use Rattle.eh_link.proofs.names.entry_meaning.Given as goal

abbrev pub invariant-loop-placed : goal.invariant-loop-placed
invariant-loop-placed l = first_in (is_entry l.name) (drop l.placed-index l.all) ≡ first_in (is_entry l.name) l.all
