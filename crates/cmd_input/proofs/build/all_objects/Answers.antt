use Rattle.std.proofs.Common.{◌∙◌, ◌+◌, drop}
use Rattle.std.proofs.lemmas.List.{drop_all}
use Rattle.std.proofs.lemmas.Result.{err_from_is_err_and}
use Rattle.cmd_input.specs.Building.{assemble_source, fault_line}
use Rattle.cmd_input.proofs.AllAnswers.{item_first, joined, refused_at, ended}
use Rattle.cmd_input.proofs.build.all_objects.Goals as goal

pub returns-in_err-assemble_source : goal.returns-in_err-assemble_source
returns-in_err-assemble_source c =
    let p = err_from_is_err_and c.from_residual.result c.from_residual.ensures.1 in
    let xs = c.args.sources.now in
    let i = c.loop-source.source-index in
    rw (p.1, p.2) (λ m. c.loop-source.invariant
    ∙ refused_at assemble_source c.loop-source.all.items c.source-item.result (fault_line c.in_err-assemble_source.field-0.0) (drop i xs) (drop (i + 1) xs)
    (item_first xs i c.source-item.result c.loop-source-test.true c.source-item.is) (c.in_err-assemble_source.ensures m))

pub loop-source-preserved : goal.loop-source-preserved
loop-source-preserved c =
    let xs = c.args.sources.now in
    let i = c.loop-source.source-index in
    c.loop-source.invariant
    ∙ joined assemble_source c.loop-source.all.items c.push.new.self.items c.source-item.result c.in_ok-assemble_source.field-0 (drop i xs) (drop (i + 1) xs)
    (item_first xs i c.source-item.result c.loop-source-test.true c.source-item.is) c.in_ok-assemble_source.ensures c.in_ok-push.ensures.items

pub returns : goal.returns
returns c =
    let xs = c.args.sources.now in
    let i = c.loop-source.source-index in
    c.loop-source.invariant ∙ ended assemble_source c.loop-source.all.items (drop i xs) (drop_all i xs c.loop-source-test.false)
