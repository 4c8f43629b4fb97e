use Rattle.std.proofs.Common.{refl, ◌∙◌, arith}
use Rattle.run_events.proofs.Progress.{starts, goes_on, ends, spent}
use Rattle.run_gates.proofs.Loops.{given_starts, given_goes_on, given_ends, given_spent}
use Rattle.eh_gates.specs.State.{State}
use Rattle.sim_machines.specs.Checked.{program_of}
use Rattle.eh_machine.proofs.Events.{ended_counts}
use Rattle.thumb_core.specs.declared.ends.End.{End}
use Rattle.thumb_core.specs.declared.ends.End.TheVariants.{Budget}
use Rattle.gnu_machine.specs.GnuMachine.{gnu_machine_of}
use Rattle.gnu_machine.proofs.Following.{follows_run}
use Rattle.gnu_machine.proofs.run.gnu_run.Goals as goal

pub loop-machine-init : goal.loop-machine-init
loop-machine-init g c = record {
  progress = starts State End (gnu_machine_of (program_of c.args.machine.now.accepted.now) c.args.filters.now) _ _ _ _;
  given = given_starts State End (gnu_machine_of (program_of c.args.machine.now.accepted.now) c.args.filters.now) _ _ _;
  input_kept = refl;
  out_kept = refl;
  same = refl;
}

pub loop-machine-preserved : goal.loop-machine-preserved
loop-machine-preserved g c = record {
  progress = goes_on State End (gnu_machine_of (program_of c.args.machine.now.accepted.now) c.args.filters.now)
      _ _ _ _ _ _ _ _ _ _ _ (omega arith) c.loop-machine.invariant.progress c.in-Went.ensures.told;
  given = given_goes_on State End (gnu_machine_of (program_of c.args.machine.now.accepted.now) c.args.filters.now)
      _ _ _ _ _ _ _ _ (omega arith) c.loop-machine.invariant.given c.in-Went.ensures.given;
  input_kept = c.in-Went.ensures.faults.input.kept (λ e. cc) ∙ c.loop-machine.invariant.input_kept;
  out_kept = c.in-Went.ensures.faults.out.kept (λ e. cc) ∙ c.loop-machine.invariant.out_kept;
  same = c.loop-machine.invariant.same;
}

pub returns-in-Ended-clause-told : goal.returns-in-Ended-clause-told
returns-in-Ended-clause-told g c =
    ends State End (gnu_machine_of (program_of c.args.machine.now.accepted.now) c.args.filters.now)
    _ _ _ _ _ _ _ _ _ _ _ c.in-Ended.end (omega arith) c.loop-machine.invariant.progress c.in-Ended.ensures.told

pub returns-in-Ended-clause-faults : goal.returns-in-Ended-clause-faults
returns-in-Ended-clause-faults g c = ended_counts c.in-Ended.end _ _ _ _ _ _ c.loop-machine.invariant.input_kept c.loop-machine.invariant.out_kept c.in-Ended.ensures.faults

pub returns-in-Ended-clause-given : goal.returns-in-Ended-clause-given
returns-in-Ended-clause-given g c =
    given_ends State End (gnu_machine_of (program_of c.args.machine.now.accepted.now) c.args.filters.now)
    _ _ _ _ _ _ _ _ c.in-Ended.end (omega arith) c.loop-machine.invariant.given c.in-Ended.ensures.given

pub returns-in-Ended-clause-recorded : goal.returns-in-Ended-clause-recorded
returns-in-Ended-clause-recorded g c =
    follows_run c.args.filters.now c.gnu_turns_same.ensures _ _ _ _ c.args.machine.now.accepted.now c.args.machine.now.left _ _ c.in-Ended.end _ (rw c.image.ensures.image at c.functions.ensures.sound) c.holds.ensures
    (ends State End (gnu_machine_of (program_of c.args.machine.now.accepted.now) c.args.filters.now)
    _ _ _ _ _ _ _ _ _ _ _ c.in-Ended.end (omega arith) c.loop-machine.invariant.progress c.in-Ended.ensures.told)

pub returns-clause-told : goal.returns-clause-told
returns-clause-told g c = spent State End (gnu_machine_of (program_of c.args.machine.now.accepted.now) c.args.filters.now) _ _ _ _ _ _ _ _ (omega arith) refl c.loop-machine.invariant.progress

pub returns-clause-given : goal.returns-clause-given
returns-clause-given g c = given_spent State End (gnu_machine_of (program_of c.args.machine.now.accepted.now) c.args.filters.now) _ _ _ _ _ _ (omega arith) c.loop-machine.invariant.given

pub returns-clause-recorded : goal.returns-clause-recorded
returns-clause-recorded g c =
    follows_run c.args.filters.now c.gnu_turns_same.ensures _ _ _ _ c.args.machine.now.accepted.now c.args.machine.now.left _ _ Budget _ (rw c.image.ensures.image at c.functions.ensures.sound) c.holds.ensures
    (spent State End (gnu_machine_of (program_of c.args.machine.now.accepted.now) c.args.filters.now) _ _ _ _ _ _ _ _ (omega arith) refl c.loop-machine.invariant.progress)
