use Rattle.std.proofs.Common.{◌≡◌, ◌-◌, ◌==◌, true, false, arith}
use Rattle.std.specs.Int.{bit_at}
use Rattle.std.proofs.lemmas.Grind.{common_steps}
use Rattle.std.proofs.lemmas.Bool.Decides.{nat_tests}
use Rattle.eh_machine.proofs.Saved.{saved_none, guard_one, guard_not, guard_end}
use Rattle.eh_machine.proofs.guards.guard_saves.Goals as goal

pub loop-k-init : goal.loop-k-init
loop-k-init g c = record { within = omega arith; so_far = grind (arith, common_steps, saved_none) }

pub loop-k-preserved-then-saves-k-eq1 : goal.loop-k-preserved-then-saves-k-eq1
loop-k-preserved-then-saves-k-eq1 g c =
    let bit : (bit_at c.args.saves (c.loop-k.k - 1) == 1) ≡ true = grind (arith, common_steps, nat_tests) in
    record {
      within = omega arith;
      so_far = guard_one c.args.saves c.loop-k.k c.args.count c.args.sp _ _ _ (omega arith) (omega arith) bit c.loop-k.invariant.so_far c.guard.ensures.guarded;
    }

pub loop-k-preserved : goal.loop-k-preserved
loop-k-preserved g c =
    let bit : (bit_at c.args.saves (c.loop-k.k - 1) == 1) ≡ false = grind (arith, common_steps, nat_tests) in
    record { within = omega arith; so_far = guard_not c.args.saves c.loop-k.k c.args.count c.args.sp _ _ (omega arith) (omega arith) bit c.loop-k.invariant.so_far }

pub returns : goal.returns
returns g c = guard_end c.args.saves c.loop-k.k c.args.count c.args.sp _ _ (omega arith) c.loop-k.invariant.so_far
