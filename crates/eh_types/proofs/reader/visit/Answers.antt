use Rattle.std.proofs.Common.{sym, ◌∙◌, arith}
use Rattle.eh_types.specs.Reading.{counted_type_at, open_at, open_types}
use Rattle.eh_types.proofs.Steps.{pushed, visited, fault_shown}
use Rattle.eh_types.proofs.Work.{work_visited}
use Rattle.eh_types.proofs.reader.visit.Goals as goal

pub returns-in-Err-clause-shown : goal.returns-in-Err-clause-shown
returns-in-Err-clause-shown c =
    λ _. fault_shown c.args.source.now.image.now c.args.source.now.roots.now c.args.at _ c.requires.reached c.in-Err.ensures.refused

pub returns-clause-reading : goal.returns-clause-reading
returns-clause-reading c =
    rw (pushed c.args.state.now.stack.items c.push_frame.new.stack.items _ c.in_ok-push_frame.ensures)
    (visited c.args.source.now.image.now c.args.source.now.roots.now (counted_type_at c.args.state.now) (open_at c.args.state.now) _ (open_types c.args.state.now) c.args.state.now.pending.items
    c.args.at c.in-Ok.head.kind c.in-Ok.head.count _ c.requires.reading c.requires.reached c.requires.leads c.requires.new c.requires.shut
    c.in-Ok.ensures.row c.in-Ok.ensures.kind c.in-Ok.ensures.count (omega arith) c.in-Ok.ensures.fits c.in_ok-put.ensures)

pub returns-clause-less : goal.returns-clause-less
returns-clause-less c =
    rw (pushed c.args.state.now.stack.items c.push_frame.new.stack.items _ c.in_ok-push_frame.ensures)
    (work_visited (counted_type_at c.args.state.now) _ (open_types c.args.state.now) c.args.state.now.pending.items c.requires.new
    (sym (c.requires.reading.opened c.args.at) ∙ c.requires.shut) (omega arith) c.in-Ok.ensures.fits)
