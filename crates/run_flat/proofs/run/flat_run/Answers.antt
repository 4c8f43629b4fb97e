use Rattle.std.proofs.Common.{arith, refl}
use Rattle.run_events.proofs.Progress.{starts, goes_on, ends, spent}
use Rattle.run_gates.proofs.Loops.{given_starts, given_goes_on, given_ends, given_spent}
use Rattle.run_images.specs.Start.{State}
use Rattle.run_flat.specs.Machine.{flat_machine}
use Rattle.run_flat.proofs.Turns.{some_unspent}
use Rattle.thumb_core.specs.declared.ends.End.{End}
use Rattle.run_flat.proofs.run.flat_run.Goals as goal

pub loop-left-init : goal.loop-left-init
loop-left-init g c = record { progress = starts State End flat_machine _ _ _ _; given = given_starts State End flat_machine _ _ _; cache = c.new-cache.ensures; input_later = omega arith; out_later = omega arith }

pub loop-left-preserved : goal.loop-left-preserved
loop-left-preserved g c = record {
  progress = goes_on State End flat_machine _ _ _ _ _ _ _ _ _ _ _ (omega arith) c.loop-left.invariant.progress c.in-None.ensures.told;
  given = given_goes_on State End flat_machine _ _ _ _ _ _ _ _ (omega arith) c.loop-left.invariant.given c.in-None.ensures.given;
  cache = c.in-None.ensures.cache;
  input_later = omega arith;
  out_later = omega arith;
}

pub returns-in-Some-clause-told : goal.returns-in-Some-clause-told
returns-in-Some-clause-told g c =
    some_unspent _ _ _ _ _ _ _ _ _ (ends State End flat_machine _ _ _ _ _ _ _ _ _ _ _ _ (omega arith) c.loop-left.invariant.progress c.in-Some.ensures.told)

pub returns-clause-told : goal.returns-clause-told
returns-clause-told g c =
    some_unspent _ _ _ _ _ _ _ _ _ (spent State End flat_machine _ _ _ _ _ _ _ _ (omega arith) refl c.loop-left.invariant.progress)

pub returns-in-Some-clause-given : goal.returns-in-Some-clause-given
returns-in-Some-clause-given g c =
    (_, given_ends State End flat_machine _ _ _ _ _ _ _ _ _ (omega arith) c.loop-left.invariant.given c.in-Some.ensures.given)

pub returns-clause-given : goal.returns-clause-given
returns-clause-given g c = (_, given_spent State End flat_machine _ _ _ _ _ _ (omega arith) c.loop-left.invariant.given)
