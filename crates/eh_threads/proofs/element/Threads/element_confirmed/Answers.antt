use Rattle.std.proofs.Common.{◌≡◌, List, Option, None, is_some, length, sym, ◌∙◌, ap}
use Rattle.eh_trace.specs.declared.event.Event.{Event}
use Rattle.eh_gates.specs.State.{State, state_of}
use Rattle.sim_machines.specs.Checked.{program_of}
use Rattle.thread_memory.specs.Seen.{thread_view}
use Rattle.eh_threads.specs.Tags.{tags_up_to}
use Rattle.eh_threads.specs.Elements.{Joint, joint_of}
use Rattle.eh_threads.specs.declared.thread.Thread.{Thread}
use Rattle.eh_machine.proofs.Confirmed.{stays}
use Rattle.eh_threads.proofs.Elements.{passed_over, element_done, is_of}
use Rattle.eh_threads.proofs.InPlace.{stands_there, runs_there, left_there}
use Rattle.eh_threads.proofs.Faults.{settled_counts}
use Rattle.eh_threads.proofs.element.Threads.element_confirmed.Goals as goal

pub returns-in_default-clause-told : goal.returns-in_default-clause-told
returns-in_default-clause-told g c =
    passed_over (program_of c.args.self.now.accepted.now) c.args.named
    (joint_of c.args.self.now.threads c.args.self.now.entered c.args.self.now.owners.slots (thread_view (g.B.Bus.memory c.args.self.now.shared.bus.inner) c.args.self.now.shared.bus.guards c.args.self.now.shared.bus.thread) c.args.self.now.events c.args.self.now.tags)
    (g.I.Source.left c.args.input.now) (g.O.Sink.written c.args.out.now) (sym c.in_default.ensures.none)

pub returns-clause-told : goal.returns-clause-told
returns-clause-told g c =
    let w : Joint = (joint_of c.args.self.now.threads c.args.self.now.entered c.args.self.now.owners.slots (thread_view (g.B.Bus.memory c.args.self.now.shared.bus.inner) c.args.self.now.shared.bus.guards c.args.self.now.shared.bus.thread) c.args.self.now.events c.args.self.now.tags) in
    let b : State = state_of c.turn_confirmed-did.new.core (thread_view (g.B.Bus.memory c.turn_confirmed-did.new.shared.bus.inner) c.turn_confirmed-did.new.shared.bus.guards c.turn_confirmed-did.new.shared.bus.thread) c.turn_confirmed-did.new.events in
    let t : Thread = c.in-Some-threads.slot in
    let none : t.ended ≡ None = stands_there c.args.self.now.threads c.in-Some.thread t c.in-Some-threads.is c.in-Some.ensures.runs in
    let runs = runs_there c.args.self.now.threads c.in-Some.thread c.args.named t c.in-Some.ensures.named c.in-Some-threads.is none in
    let told = rw (is_of c.args.self.now.accepted.now c.args.self.now.turns c.args.self.now.of_image) at c.turn_confirmed-did.ensures.told in
    element_done (program_of c.args.self.now.accepted.now) c.args.named w c.in-Some.thread t.core
    (thread_view (g.B.Bus.memory c.enter.new.bus.inner) c.enter.new.bus.guards c.enter.new.bus.thread) c.enter.new.owners.slots b c.turn_confirmed-did.result c.apply_turn-answer.result
    c.apply_turn-answer.new.threads c.reach.new.self (g.I.Source.left c.args.input.now) (g.I.Source.left c.turn_confirmed-did.new.input) (g.O.Sink.written c.args.out.now) (g.O.Sink.written c.turn_confirmed-did.new.out)
    runs c.enter.ensures.owners c.enter.ensures.memory told
    (c.apply_turn-answer.ensures c.args.self.now.threads c.turn_confirmed-did.new.core (ap (λ (o : Option Thread). is_some o) c.in-Some-threads.is)
    (left_there c.args.self.now.threads c.in-Some.thread t c.turn_confirmed-did.new.core none))
    (c.reach.ensures ∙ ap (λ (es : List Event). tags_up_to c.in-Some.thread (length es) c.args.self.now.tags) c.kept.ensures)

pub returns-clause-faults : goal.returns-clause-faults
returns-clause-faults g c =
    let t : Thread = c.in-Some-threads.slot in
    let none : t.ended ≡ None = stands_there c.args.self.now.threads c.in-Some.thread t c.in-Some-threads.is c.in-Some.ensures.runs in
    settled_counts (program_of c.args.self.now.accepted.now) c.in-Some.thread c.turn_confirmed-did.new.core c.turn_confirmed-did.result c.apply_turn-answer.result c.args.self.now.threads c.apply_turn-answer.new.threads
    _ _ _ _ (c.apply_turn-answer.ensures c.args.self.now.threads c.turn_confirmed-did.new.core (ap (λ (o : Option Thread). is_some o) c.in-Some-threads.is)
    (left_there c.args.self.now.threads c.in-Some.thread t c.turn_confirmed-did.new.core none)) c.turn_confirmed-did.ensures.faults

-- ---- what was decoded

pub turn_confirmed-did-requires : goal.turn_confirmed-did-requires
turn_confirmed-did-requires g c =
    stays (thread_view (g.B.Bus.memory c.args.self.now.shared.bus.inner) c.args.self.now.shared.bus.guards c.args.self.now.shared.bus.thread)
    (thread_view (g.B.Bus.memory c.enter.new.bus.inner) c.enter.new.bus.guards c.enter.new.bus.thread) c.args.self.now.turns.cache c.enter.ensures.map c.requires.ready
