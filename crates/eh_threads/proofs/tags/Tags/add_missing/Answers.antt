use Rattle.std.proofs.Common.{sym, ◌∙◌, arith}
use Rattle.eh_threads.proofs.Tagging.{one_tag}
use Rattle.eh_threads.proofs.tags.Tags.add_missing.Goals as goal

pub loop-missing-preserved : goal.loop-missing-preserved
loop-missing-preserved c =
    rw c.add.ensures (sym (one_tag c.args.thread c.loop-missing.missing c.loop-missing.self (omega arith)) ∙ c.loop-missing.invariant)
