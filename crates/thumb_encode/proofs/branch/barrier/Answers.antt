use Rattle.std.proofs.Common.{arith, refl}
use Rattle.thumb_encode.proofs.Forms.{barrier_code}
use Rattle.thumb_encode.proofs.branch.barrier.Goals as goal

pub returns-clause-ok : goal.returns-clause-ok
returns-clause-ok c = barrier_code c.args.op c.args.option _ _ (omega arith) (omega arith) refl (omega arith)
