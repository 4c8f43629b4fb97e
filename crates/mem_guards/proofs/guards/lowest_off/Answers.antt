use Rattle.std.proofs.Common.{arith, ◌<◌, w64}
use Rattle.std.specs.Int.{trailing_zeros}
use Rattle.std.proofs.lemmas.Bool.{leb-false}
use Rattle.mem_guards.proofs.FlagLemmas.{bits_not_zero}
use Rattle.mem_guards.proofs.guards.lowest_off.Goals as goal

pub returns-clause-no : goal.returns-clause-no
returns-clause-no c = λ t z.
    let l : trailing_zeros w64 c.args.number < c.args.count = leb-false _ _ t in
    bits_not_zero c.args.number c.args.count (omega arith) c.requires l z
