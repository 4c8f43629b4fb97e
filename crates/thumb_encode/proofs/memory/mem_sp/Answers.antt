use Rattle.std.proofs.Common.{arith}
use Rattle.thumb_encode.proofs.Forms.{mem_sp_code}
use Rattle.thumb_encode.proofs.memory.mem_sp.Goals as goal

pub returns-clause-ok : goal.returns-clause-ok
returns-clause-ok c = λ second.
    mem_sp_code c.args.load c.from.result c.args.t c.in_ok-words.words _ second c.args.off (omega arith) (omega arith) c.in_ok-words.ensures.ok.0
    (grind (arith, c.in_ok-words.ensures.ok.1)) (omega arith)
