use Rattle.std.proofs.Common.{◌≡◌, ◌==◌, true, false, length, refl, ap, ◌∙◌, arith}
use Rattle.std.proofs.lemmas.Bool.{eqb-true, eqb-false}
use Rattle.run_events.proofs.Progress.{starts}
use Rattle.eh_machine.proofs.Events.{ended_counts}
use Rattle.sim_machines.specs.Checked.{program_of}
use Rattle.thumb_core.specs.declared.ends.End.{End}
use Rattle.thread_memory.specs.Seen.{thread_view}
use Rattle.eh_threads.specs.Elements.{Joint, joint_of}
use Rattle.eh_threads.specs.Schedules.{SchedulePoint, at_first}
use Rattle.eh_threads.proofs.Running.{elements_of, elements_go_on, elements_end, elements_spent, none_named}
use Rattle.eh_threads.proofs.element.Threads.elements.Goals as goal

pub loop-left-init : goal.loop-left-init
loop-left-init g c =
    let w0 : Joint = (joint_of c.args.self.now.threads c.args.self.now.entered c.args.self.now.owners.slots (thread_view (g.B.Bus.memory c.args.self.now.shared.bus.inner) c.args.self.now.shared.bus.guards c.args.self.now.shared.bus.thread) c.args.self.now.events c.args.self.now.tags) in
    let some : (length c.args.schedule.now == 0) ≡ false = cc in
    let more = eqb-false (length c.args.schedule.now) 0 some in
    record {
      progress = starts SchedulePoint End (elements_of (program_of c.args.self.now.accepted.now) c.args.schedule.now) c.args.budget (at_first w0) (g.I.Source.left c.args.input.now)
          (g.O.Sink.written c.args.out.now);
      input_kept = refl;
      out_kept = refl;
      same = refl;
      place = omega (arith, more);
      ready = c.requires.ready;
    }

pub loop-left-preserved : goal.loop-left-preserved
loop-left-preserved g c =
    let w0 : Joint = (joint_of c.args.self.now.threads c.args.self.now.entered c.args.self.now.owners.slots (thread_view (g.B.Bus.memory c.args.self.now.shared.bus.inner) c.args.self.now.shared.bus.guards c.args.self.now.shared.bus.thread) c.args.self.now.events c.args.self.now.tags) in
    let w : Joint = (joint_of c.loop-left.self.threads c.loop-left.self.entered c.loop-left.self.owners.slots (thread_view (g.B.Bus.memory c.loop-left.self.shared.bus.inner) c.loop-left.self.shared.bus.guards c.loop-left.self.shared.bus.thread) c.loop-left.self.events c.loop-left.self.tags) in
    let w' : Joint = (joint_of c.element_confirmed.new.self.threads c.element_confirmed.new.self.entered c.element_confirmed.new.self.owners.slots (thread_view (g.B.Bus.memory c.element_confirmed.new.self.shared.bus.inner) c.element_confirmed.new.self.shared.bus.guards c.element_confirmed.new.self.shared.bus.thread) c.element_confirmed.new.self.events c.element_confirmed.new.self.tags) in
    record {
      progress = elements_go_on (program_of c.args.self.now.accepted.now) (program_of c.loop-left.self.accepted.now) c.args.schedule.now
          c.args.budget (at_first w0) (g.I.Source.left c.args.input.now) c.loop-left.left w w' c.loop-left.at c.place_after-at.result c.thread_at.result
          (g.I.Source.left c.loop-left.input) (g.I.Source.left c.element_confirmed.new.input) (g.O.Sink.written c.args.out.now) (g.O.Sink.written c.loop-left.out) (g.O.Sink.written c.element_confirmed.new.out)
          (omega arith) (ap (λ a. program_of a.now) c.loop-left.invariant.same) c.thread_at.ensures.is c.place_after-at.ensures.is c.loop-left.invariant.progress c.in-Went.ensures.told;
      input_kept = c.in-Went.ensures.faults.input.kept (λ e. cc) ∙ c.loop-left.invariant.input_kept;
      out_kept = c.in-Went.ensures.faults.out.kept (λ e. cc) ∙ c.loop-left.invariant.out_kept;
      same = c.in-Went.ensures.accepted ∙ c.loop-left.invariant.same;
      place = c.place_after-at.ensures.within;
      ready = c.in-Went.ensures.ready;
    }

pub returns-in-Ended-clause-told : goal.returns-in-Ended-clause-told
returns-in-Ended-clause-told g c =
    let w0 : Joint = (joint_of c.args.self.now.threads c.args.self.now.entered c.args.self.now.owners.slots (thread_view (g.B.Bus.memory c.args.self.now.shared.bus.inner) c.args.self.now.shared.bus.guards c.args.self.now.shared.bus.thread) c.args.self.now.events c.args.self.now.tags) in
    let w : Joint = (joint_of c.loop-left.self.threads c.loop-left.self.entered c.loop-left.self.owners.slots (thread_view (g.B.Bus.memory c.loop-left.self.shared.bus.inner) c.loop-left.self.shared.bus.guards c.loop-left.self.shared.bus.thread) c.loop-left.self.events c.loop-left.self.tags) in
    let w' : Joint = (joint_of c.element_confirmed.new.self.threads c.element_confirmed.new.self.entered c.element_confirmed.new.self.owners.slots (thread_view (g.B.Bus.memory c.element_confirmed.new.self.shared.bus.inner) c.element_confirmed.new.self.shared.bus.guards c.element_confirmed.new.self.shared.bus.thread) c.element_confirmed.new.self.events c.element_confirmed.new.self.tags) in
    elements_end (program_of c.args.self.now.accepted.now) (program_of c.loop-left.self.accepted.now) c.args.schedule.now
    c.args.budget w0 (g.I.Source.left c.args.input.now) c.loop-left.left w w' c.loop-left.at c.thread_at.result
    (g.I.Source.left c.loop-left.input) (g.I.Source.left c.element_confirmed.new.input) (g.O.Sink.written c.args.out.now) (g.O.Sink.written c.loop-left.out) (g.O.Sink.written c.element_confirmed.new.out)
    c.in-Ended.end (omega arith) c.requires.runs (ap (λ a. program_of a.now) c.loop-left.invariant.same) c.thread_at.ensures.is c.loop-left.invariant.progress c.in-Ended.ensures.told

pub returns-in-Ended-clause-faults : goal.returns-in-Ended-clause-faults
returns-in-Ended-clause-faults g c = ended_counts c.in-Ended.end _ _ _ _ _ _ c.loop-left.invariant.input_kept c.loop-left.invariant.out_kept c.in-Ended.ensures.faults

pub returns-clause-told : goal.returns-clause-told
returns-clause-told g c =
    let w0 : Joint = (joint_of c.args.self.now.threads c.args.self.now.entered c.args.self.now.owners.slots (thread_view (g.B.Bus.memory c.args.self.now.shared.bus.inner) c.args.self.now.shared.bus.guards c.args.self.now.shared.bus.thread) c.args.self.now.events c.args.self.now.tags) in
    let w : Joint = (joint_of c.loop-left.self.threads c.loop-left.self.entered c.loop-left.self.owners.slots (thread_view (g.B.Bus.memory c.loop-left.self.shared.bus.inner) c.loop-left.self.shared.bus.guards c.loop-left.self.shared.bus.thread) c.loop-left.self.events c.loop-left.self.tags) in
    elements_spent (program_of c.args.self.now.accepted.now) c.args.schedule.now c.args.budget w0 (g.I.Source.left c.args.input.now) c.loop-left.left w c.loop-left.at
    (g.I.Source.left c.loop-left.input) (g.O.Sink.written c.args.out.now) (g.O.Sink.written c.loop-left.out) (omega arith) c.requires.runs c.loop-left.invariant.progress

pub returns-then-is_empty-clause-told : goal.returns-then-is_empty-clause-told
returns-then-is_empty-clause-told g c =
    let none : (length c.args.schedule.now == 0) ≡ true = cc in
    none_named (program_of c.args.self.now.accepted.now) c.args.schedule.now c.args.budget
    (joint_of c.args.self.now.threads c.args.self.now.entered c.args.self.now.owners.slots (thread_view (g.B.Bus.memory c.args.self.now.shared.bus.inner) c.args.self.now.shared.bus.guards c.args.self.now.shared.bus.thread) c.args.self.now.events c.args.self.now.tags)
    (g.I.Source.left c.args.input.now) (g.O.Sink.written c.args.out.now) (eqb-true (length c.args.schedule.now) 0 none) c.requires.runs
