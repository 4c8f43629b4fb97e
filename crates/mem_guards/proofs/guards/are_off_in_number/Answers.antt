use Rattle.mem_guards.proofs.FlagLemmas.{bits_off, off_bits}
use Rattle.mem_guards.proofs.guards.are_off_in_number.Goals as goal

pub returns-clause-yes : goal.returns-clause-yes
returns-clause-yes c = λ t. bits_off c.args.numbers.now c.args.i c.args.count c.requires.inside c.requires.short (c.lowest_off.ensures.yes t)

pub returns-clause-no : goal.returns-clause-no
returns-clause-no c = λ t o. c.lowest_off.ensures.no t (off_bits c.args.numbers.now c.args.i c.args.count c.requires.short o)
