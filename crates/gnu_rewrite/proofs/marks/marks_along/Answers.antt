use Rattle.std.proofs.Common.{append_assoc, sym, arith}
use Rattle.gnu_rewrite.proofs.Ends.{ends_low, drop_next}
use Rattle.gnu_rewrite.proofs.marks.marks_along.Goals as goal

pub push_in-requires : goal.push_in-requires
push_in-requires c = ends_low c.args.segments.now c.loop-s.s-index c.s-item.result c.s-item.is c.requires (omega arith)

pub loop-s-preserved : goal.loop-s-preserved
loop-s-preserved c =
    let whole = sym (drop_next c.args.segments.now c.loop-s.s-index c.s-item.result (omega arith) c.s-item.is) in
    rw (c.in_ok-push_in.ensures, append_assoc) (rw whole at c.loop-s.invariant)
