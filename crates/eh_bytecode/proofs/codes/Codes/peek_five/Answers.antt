use Rattle.std.proofs.Common.{arith}
use Rattle.eh_bytecode.proofs.Cursor.{five_at, all_read}
use Rattle.eh_bytecode.proofs.codes.Codes.peek_five.Goals as goal

pub returns-in-None-clause-bytes : goal.returns-in-None-clause-bytes
returns-in-None-clause-bytes c = all_read _ _ _ _ c.loop-count.invariant.so_far c.in-None.ensures.steps.0 c.loop-count.invariant.within

pub returns-clause-bytes : goal.returns-clause-bytes
returns-clause-bytes c = five_at _ _ _ _ (omega arith) c.loop-count.invariant.so_far c.loop-count.invariant.size
