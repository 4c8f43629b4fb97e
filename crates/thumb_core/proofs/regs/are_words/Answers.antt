use Rattle.std.proofs.Common.{arith}
use Rattle.thumb_core.proofs.regs.are_words.Goals as goal

pub returns : goal.returns
returns c k = let fits = c.type_inv.r k in omega arith
