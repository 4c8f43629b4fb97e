use Rattle.std.proofs.Common.{arith}
use Rattle.thumb_encode.proofs.LateForms.{cbz_code}
use Rattle.thumb_encode.proofs.branch.cbz.Goals as goal

pub returns-clause-ok : goal.returns-clause-ok
returns-clause-ok c = λ second.
    cbz_code c.args.nonzero c.args.n c.in_ok-target.target _ second c.from.result c.args.off (omega arith) c.in_ok-target.ensures.ok.0
    (grind (arith, c.in_ok-target.ensures.ok.1)) (omega arith) (omega (arith, c.in_ok-target.ensures.ok.0))
