use Rattle.std.proofs.Common.{arith}
use Rattle.frame_check.proofs.Bytes.{all_small}
use Rattle.frame_check.proofs.checking.are_bytes.Goals as goal

pub returns : goal.returns
returns c = all_small c.args.bytes.now (λ k. omega (arith, c.type_inv.bytes k))
