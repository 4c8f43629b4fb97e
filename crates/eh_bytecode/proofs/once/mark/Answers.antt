use Rattle.std.proofs.Common.{arith, refl}
use Rattle.std.proofs.lemmas.Grind.{common_steps}
use Rattle.eh_bytecode.proofs.Fresh.{going_start, going_past, going_mark, going_stop, going_end}
use Rattle.eh_bytecode.proofs.once.mark.Goals as goal
use Rattle.eh_bytecode.proofs.once.mark.Goals.{then-list-k-eq1+else-seen-k, else-list-k-eq1}

pub loop-k-init : goal.loop-k-init
loop-k-init c = record { size = c.told-seen; going = going_start c.args.seen.now c.args.list }

pub loop-k-preserved : goal.loop-k-preserved
loop-k-preserved c = elim c.if-list-k-eq1.branch [
  | then-list-k-eq1+else-seen-k w ↦ record {
    size = grind (arith, common_steps);
    going = going_mark c.args.seen.now c.loop-k.seen _ c.loop-k.k c.args.list (omega arith) (omega arith) w.if-list-k-eq1.true w.if-seen-k.false w.seen-is c.loop-k.invariant.going;
  }
  | else-list-k-eq1 w ↦ record {
    size = grind (arith, common_steps);
    going = going_past c.args.seen.now c.loop-k.seen _ c.loop-k.k c.args.list (omega arith) w.if-list-k-eq1.false w.seen-is c.loop-k.invariant.going;
  }
]

pub returns-then-seen-k : goal.returns-then-seen-k
returns-then-seen-k c = going_stop c.args.seen.now c.loop-k.seen c.loop-k.seen c.loop-k.k c.args.list (omega arith) c.if-list-k-eq1.true c.if-seen-k.true c.loop-k.invariant.going

pub returns : goal.returns
returns c = going_end c.args.seen.now c.loop-k.seen c.loop-k.seen c.loop-k.k c.args.list (omega arith) refl c.loop-k.invariant.going
