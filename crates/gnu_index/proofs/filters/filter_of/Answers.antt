use Rattle.std.proofs.Common.{sym, arith}
use Rattle.gnu_index.proofs.Halving.{filter_past, filter_there, filter_other}
use Rattle.gnu_index.proofs.filters.filter_of.Goals as goal

pub returns-then-count-filters : goal.returns-then-count-filters
returns-then-count-filters c =
    sym (filter_past c.args.filters.now c.args.desc c.catches_below-count.result c.requires c.catches_below-count.ensures.count (omega (arith, c.if-count-filters.true)))

pub returns-then-at-desc : goal.returns-then-at-desc
returns-then-at-desc c =
    sym (filter_there c.args.filters.now c.args.desc c.catches_below-count.result (0, 0) c.requires c.catches_below-count.ensures.count
    (omega (arith, c.catches_below-count.ensures.within, c.if-count-filters.false)) c.if-at-desc.true)

pub returns-else-at-desc : goal.returns-else-at-desc
returns-else-at-desc c =
    sym (filter_other c.args.filters.now c.args.desc c.catches_below-count.result (0, 0) c.requires c.catches_below-count.ensures.count
    (omega (arith, c.catches_below-count.ensures.within, c.if-count-filters.false)) c.if-at-desc.false)
