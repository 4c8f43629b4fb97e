use Rattle.std.proofs.Common.{sym, ◌∙◌, arith}
use Rattle.gnu_index.specs.Refusal.{rows_refusal}
use Rattle.gnu_index.proofs.Refusing.{stops_entry}
use Rattle.gnu_index.proofs.refusal.rows_refusal.Goals as goal

pub returns-in-Some : goal.returns-in-Some
unfolding rows_refusal
returns-in-Some c =
    sym (stops_entry c.args.index.now c.loop-k.before c.loop-k.k c.row_count-count.result c.in-Some.fault c.loop-k-test.true
    (omega (arith, c.row_size.ensures, c.from-before.ensures, c.if-before-gt-SITES_LIMIT.false)) (sym c.in-Some.ensures))
    ∙ c.loop-k.invariant.1
