use Rattle.std.proofs.Common.{sym, ◌∙◌, subst}
use Rattle.eh_types.specs.Reading.{Reading, counted_type_at, open_at, open_types}
use Rattle.eh_types.proofs.Steps.{mapped_some, none_popped, waiting_done, waiting_reached}
use Rattle.eh_types.proofs.Work.{work_waited}
use Rattle.eh_types.proofs.reader.take_waiting.Goals as goal

pub returns-in_default-clause-reading : goal.returns-in_default-clause-reading
returns-in_default-clause-reading c =
    let s = c.args.state.now in
    subst (Reading c.args.source.now.image.now c.args.source.now.roots.now (counted_type_at s) (open_at s) (open_types s)) (none_popped s.pending.items c.pop.new.self.items c.pop.result c.pop.ensures.items c.in_default.is) c.requires.reading

pub visit-requires-clause-reading : goal.visit-requires-clause-reading
visit-requires-clause-reading c =
    let s = c.args.state.now in
    subst (Reading c.args.source.now.image.now c.args.source.now.roots.now (counted_type_at s) (open_at s) (open_types s)) (c.in-Some.ensures.items ∙ sym c.in_ok-push_waiting.ensures) c.requires.reading

pub returns-then-is_some-clause-reading : goal.returns-then-is_some-clause-reading
returns-then-is_some-clause-reading c =
    waiting_done c.args.source.now.image.now c.args.source.now.roots.now (counted_type_at c.args.state.now) (open_at c.args.state.now) (open_types c.args.state.now) c.args.state.now.pending.items c.pop.new.self.items
    c.in-Some.at c.in-Some.ensures.items c.requires.reading (mapped_some _ c.paths.result c.paths.ensures (sym c.is_some.ensures ∙ c.if-is_some.true))

pub returns-then-is_some-clause-less : goal.returns-then-is_some-clause-less
returns-then-is_some-clause-less c =
    λ _. work_waited (counted_type_at c.args.state.now) (open_types c.args.state.now) c.args.state.now.pending.items c.pop.new.self.items c.in-Some.at c.in-Some.ensures.items

pub visit-requires-clause-reached : goal.visit-requires-clause-reached
visit-requires-clause-reached c =
    waiting_reached c.args.source.now.image.now c.args.source.now.roots.now c.args.state.now.pending.items c.pop.new.self.items c.in-Some.at c.in-Some.ensures.items c.requires.reading.waiting
