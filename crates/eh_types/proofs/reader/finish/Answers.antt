use Rattle.std.proofs.Common.{arith}
use Rattle.eh_types.specs.Reading.{counted_type_at, open_at, open_types}
use Rattle.eh_types.proofs.Steps.{finished, paths_shown}
use Rattle.eh_types.proofs.Work.{work_finished}
use Rattle.eh_types.proofs.reader.finish.Goals as goal

pub returns-then-frame-from-clause-shown : goal.returns-then-frame-from-clause-shown
returns-then-frame-from-clause-shown c =
    λ _. paths_shown c.args.source.now.image.now c.args.source.now.roots.now (counted_type_at c.args.state.now) (open_at c.args.state.now) c.args.frame (open_types c.args.state.now) c.args.state.now.pending.items
    c.requires.reading c.requires.all (omega (arith, c.if-frame-from.true, c.from.ensures))

pub returns-clause-reading : goal.returns-clause-reading
returns-clause-reading c =
    finished c.args.source.now.image.now c.args.source.now.roots.now (counted_type_at c.args.state.now) _ (open_at c.args.state.now) _ c.args.frame (open_types c.args.state.now) c.args.state.now.pending.items c.push_pointees.new.pending.items _ c.in_ok-push_pointees.ensures
    c.requires.reading c.requires.all (omega (arith, c.if-frame-from.false, c.from.ensures)) c.in_ok-info.ensures.row c.in_ok-insert_counted.ensures c.take_out.ensures

pub returns-clause-less : goal.returns-clause-less
returns-clause-less c =
    work_finished (counted_type_at c.args.state.now) _ c.args.frame (open_types c.args.state.now) c.args.state.now.pending.items c.push_pointees.new.pending.items _ c.in_ok-push_pointees.ensures c.in_ok-insert_counted.ensures
