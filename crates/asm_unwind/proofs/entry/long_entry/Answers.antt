use Rattle.asm_unwind.proofs.FurtherWords.{further_more}
use Rattle.asm_unwind.proofs.entry.long_entry.Goals as goal

pub loop-k-preserved : goal.loop-k-preserved
loop-k-preserved c = further_more _ _ _ _ _ _ c.loop-k.invariant c.word_at.ensures c.in_ok-push-2.ensures.items
