use Rattle.eh_bytecode.proofs.Cursor.{passed_more}
use Rattle.eh_bytecode.proofs.codes.Codes.skip_bytes.Goals as goal

pub loop-passed-preserved : goal.loop-passed-preserved
loop-passed-preserved c = passed_more c.loop-passed._passed c.args.self.now _ _ c.next-byte.result c.loop-passed.invariant c.next-byte.ensures.steps
