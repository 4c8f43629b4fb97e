use Rattle.std.proofs.Common.{refl, sym, ◌∙◌}
use Rattle.eh_types.specs.Reading.{counted_type_at, open_at, open_types}
use Rattle.eh_types.proofs.Steps.{pushed, mapped, base_counted, open_cyclic, next_reached, next_is_base}
use Rattle.eh_types.proofs.Work.{work_counted}
use Rattle.eh_types.proofs.reader.take_base.Goals as goal

pub returns-then-is_open-clause-shown : goal.returns-then-is_open-clause-shown
returns-then-is_open-clause-shown c =
    let on = sym c.is_open.ensures ∙ c.if-is_open.true in
    rw c.base_type-base.ensures (λ _. open_cyclic c.args.source.now.image.now c.args.source.now.roots.now (counted_type_at c.args.state.now) (open_at c.args.state.now) c.args.frame (open_types c.args.state.now)
    c.args.state.now.pending.items c.requires.reading c.requires.more (rw c.base_type-base.ensures at on))

pub visit-requires-clause-reached : goal.visit-requires-clause-reached
visit-requires-clause-reached c =
    rw c.base_type-base.ensures (next_reached c.args.source.now.image.now c.args.source.now.roots.now (counted_type_at c.args.state.now) c.args.frame c.requires.reading.stacked.0 c.requires.more)

pub visit-requires-clause-leads : goal.visit-requires-clause-leads
visit-requires-clause-leads c =
    rw (pushed c.args.state.now.stack.items c.push_frame-in-None.new.stack.items _ c.in_ok-push_frame-in-None.ensures, c.base_type-base.ensures)
    (next_is_base c.args.source.now.image.now c.args.source.now.roots.now (counted_type_at c.args.state.now) c.args.frame c.requires.reading.stacked.0 c.requires.more)

pub returns-in_ok-push_frame-in-Some-clause-reading : goal.returns-in_ok-push_frame-in-Some-clause-reading
returns-in_ok-push_frame-in-Some-clause-reading c =
    let found = sym c.paths.ensures ∙ c.in-Some.is in
    let m = mapped (counted_type_at c.args.state.now _) c.in-Some.paths (rw c.base_type-base.ensures at found) in
    let next = base_counted c.args.source.now.image.now c.args.source.now.roots.now (counted_type_at c.args.state.now) (open_at c.args.state.now) c.args.frame (open_types c.args.state.now)
    c.args.state.now.pending.items m.0 c.requires.reading c.requires.more m.1 in
    rw (pushed c.args.state.now.stack.items c.push_frame.new.stack.items _ c.in_ok-push_frame-in-Some.ensures, c.from.ensures) (rw m.2 at next)

pub returns-in_ok-push_frame-in-Some-clause-less : goal.returns-in_ok-push_frame-in-Some-clause-less
returns-in_ok-push_frame-in-Some-clause-less c =
    rw (pushed c.args.state.now.stack.items c.push_frame.new.stack.items _ c.in_ok-push_frame-in-Some.ensures)
    (work_counted (counted_type_at c.args.state.now) c.args.frame _ (open_types c.args.state.now) c.args.state.now.pending.items refl refl refl c.requires.more)
