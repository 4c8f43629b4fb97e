use Rattle.std.proofs.Common.{refl, sym, subst, ◌∙◌, arith}
use Rattle.eh_bus.specs.Memory.{Memory}
use Rattle.eh_machine.specs.Cached.{IsConfirmed}
use Rattle.eh_machine.proofs.Confirmed.{passes_map, stays}
use Rattle.eh_machine.proofs.Passing.{same_state}
use Rattle.run_events.proofs.Progress.{starts}
use Rattle.run_gates.proofs.Loops.{given_starts, given_goes_on, given_ends, given_spent}
use Rattle.eh_gates.specs.State.{State}
use Rattle.eh_gates.specs.declared.state.Turned.TheVariants.{Went, Ended}
use Rattle.sim_machines.specs.Machine.{machine_of}
use Rattle.sim_machines.specs.Checked.{program_of}
use Rattle.eh_machine.proofs.Events.{ended_counts, went_told, went_given, turned_as_before, given_as_before}
use Rattle.eh_machine.proofs.Running.{run_goes_on, run_ends, run_spent}
use Rattle.eh_machine.proofs.FollowingRuns.{follows_run}
use Rattle.thumb_core.specs.declared.ends.End.{End}
use Rattle.thumb_core.specs.declared.ends.End.TheVariants.{Budget}
use Rattle.eh_machine.proofs.run.Machine.run.Goals as goal

pub loop-left-init : goal.loop-left-init
loop-left-init g c = record {
  progress = starts State End (machine_of (program_of c.args.self.now.accepted.now)) _ _ _ _;
  given = given_starts State End (machine_of (program_of c.args.self.now.accepted.now)) _ _ _;
  input_kept = refl;
  out_kept = refl;
  same = refl;
  cache = c.new-cache.ensures.cache (program_of c.args.self.now.accepted.now);
  confirmed = c.new-cache.ensures.confirmed (g.B.Bus.memory c.args.self.now.shared.bus);
}

-- an event that was tried and done
pub loop-left-preserved-then-turn_fast : goal.loop-left-preserved-then-turn_fast
loop-left-preserved-then-turn_fast g c =
    let p = program_of c.args.self.now.accepted.now in
    let on = c.if-turn_fast.ensures.done refl in
    record {
      progress = run_goes_on p _ _ _ _ _ _ _ _ _ _ _ (omega arith) c.loop-left.invariant.progress (went_told p _ _ _ _ c.loop-left.self.events on _ _);
      given = given_goes_on State End (machine_of p) _ _ _ _ _ _ _ _ (omega arith) c.loop-left.invariant.given (went_given p _ _ _ _ c.loop-left.self.events on _);
      input_kept = c.loop-left.invariant.input_kept;
      out_kept = c.loop-left.invariant.out_kept;
      same = c.loop-left.invariant.same;
      cache = c.loop-left.invariant.cache;
      confirmed = stays _ _ _ (passes_map p _ _ _ _ _ on.passes) c.loop-left.invariant.confirmed;
    }

-- ---- the others, from where nothing was changed

pub turn_slow-requires-clause-confirmed : goal.turn_slow-requires-clause-confirmed
turn_slow-requires-clause-confirmed g c = subst (λ (m : Memory). IsConfirmed m c.loop-left.cache) (sym (c.if-turn_fast.ensures.left refl).1) c.loop-left.invariant.confirmed

pub loop-left-preserved : goal.loop-left-preserved
loop-left-preserved g c = record {
  progress = run_goes_on (program_of c.args.self.now.accepted.now)
      _ _ _ _ _ _ _ _ _ _ _ (omega arith) c.loop-left.invariant.progress
      (turned_as_before _ _ _ _ (program_of c.args.self.now.accepted.now) _ _ _ Went (same_state _ _ _ _ c.loop-left.self.events (c.if-turn_fast.ensures.left refl)) c.in-Went.ensures.told);
  given = given_goes_on State End (machine_of (program_of c.args.self.now.accepted.now))
      _ _ _ _ _ _ _ _ (omega arith) c.loop-left.invariant.given
      (given_as_before _ _ (program_of c.args.self.now.accepted.now) _ _ _ Went (same_state _ _ _ _ c.loop-left.self.events (c.if-turn_fast.ensures.left refl)) c.in-Went.ensures.given);
  input_kept = c.in-Went.ensures.faults.input.kept (λ e. cc) ∙ c.loop-left.invariant.input_kept;
  out_kept = c.in-Went.ensures.faults.out.kept (λ e. cc) ∙ c.loop-left.invariant.out_kept;
  same = c.loop-left.invariant.same;
  cache = c.in-Went.ensures.cache;
  confirmed = c.in-Went.ensures.confirmed;
}

pub returns-in-Ended-clause-told : goal.returns-in-Ended-clause-told
returns-in-Ended-clause-told g c =
    run_ends (program_of c.args.self.now.accepted.now)
    _ _ _ _ _ _ _ _ _ _ _ c.in-Ended.end (omega arith) c.loop-left.invariant.progress
    (turned_as_before _ _ _ _ (program_of c.args.self.now.accepted.now) _ _ _ (Ended c.in-Ended.end) (same_state _ _ _ _ c.loop-left.self.events (c.if-turn_fast.ensures.left refl)) c.in-Ended.ensures.told)

pub returns-in-Ended-clause-faults : goal.returns-in-Ended-clause-faults
returns-in-Ended-clause-faults g c = ended_counts c.in-Ended.end _ _ _ _ _ _ c.loop-left.invariant.input_kept c.loop-left.invariant.out_kept c.in-Ended.ensures.faults

pub returns-in-Ended-clause-given : goal.returns-in-Ended-clause-given
returns-in-Ended-clause-given g c =
    given_ends State End (machine_of (program_of c.args.self.now.accepted.now))
    _ _ _ _ _ _ _ _ c.in-Ended.end (omega arith) c.loop-left.invariant.given
    (given_as_before _ _ (program_of c.args.self.now.accepted.now) _ _ _ (Ended c.in-Ended.end) (same_state _ _ _ _ c.loop-left.self.events (c.if-turn_fast.ensures.left refl)) c.in-Ended.ensures.given)

pub returns-in-Ended-clause-recorded : goal.returns-in-Ended-clause-recorded
returns-in-Ended-clause-recorded g c =
    follows_run _ _ _ _ c.args.self.now.accepted.now c.args.self.now.left _ _ c.in-Ended.end _ c.holds.ensures.image c.holds.ensures.sound
    (run_ends (program_of c.args.self.now.accepted.now)
    _ _ _ _ _ _ _ _ _ _ _ c.in-Ended.end (omega arith) c.loop-left.invariant.progress
    (turned_as_before _ _ _ _ (program_of c.args.self.now.accepted.now) _ _ _ (Ended c.in-Ended.end) (same_state _ _ _ _ c.loop-left.self.events (c.if-turn_fast.ensures.left refl)) c.in-Ended.ensures.told))

pub returns-clause-told : goal.returns-clause-told
returns-clause-told g c = run_spent (program_of c.args.self.now.accepted.now) _ _ _ _ _ _ _ _ (omega arith) c.loop-left.invariant.progress

pub returns-clause-given : goal.returns-clause-given
returns-clause-given g c = given_spent State End (machine_of (program_of c.args.self.now.accepted.now)) _ _ _ _ _ _ (omega arith) c.loop-left.invariant.given

pub returns-clause-recorded : goal.returns-clause-recorded
returns-clause-recorded g c =
    follows_run _ _ _ _ c.args.self.now.accepted.now c.args.self.now.left _ _ Budget _ c.holds.ensures.image c.holds.ensures.sound
    (run_spent (program_of c.args.self.now.accepted.now) _ _ _ _ _ _ _ _ (omega arith) c.loop-left.invariant.progress)
