use Rattle.std.proofs.Common.{◌∙◌, ◌+◌, List, [], ◌∷◌, ◌++◌, ap, drop, refl}
use Rattle.std.proofs.lemmas.List.{drop_all}
use Rattle.std.proofs.lemmas.Result.{err_from_is_err_and}
use Rattle.cmd_input.specs.Building.{statements_of, stubs, fault_line}
use Rattle.cmd_input.specs.Sources.{NamedText}
use Rattle.cmd_input.proofs.AllAnswers.{item_first, joined, refused_at, ended}
use Rattle.cmd_input.proofs.build.all_statements.Goals as goal

abbrev with_stubs : List NamedText → List NamedText
with_stubs sources = sources ++ stubs ∷ []

pub returns-in_err-statements_of : goal.returns-in_err-statements_of
returns-in_err-statements_of c =
    let p = err_from_is_err_and c.from_residual.result c.from_residual.ensures.1 in
    let xs = c.args.sources.now in
    let i = c.loop-source.source-index in
    let h = rw (c.name.ensures, c.text.ensures) at c.in_err-statements_of.ensures in
    rw (p.1, p.2) (λ m. c.loop-source.invariant
    ∙ refused_at statements_of c.loop-source.all.items c.source-item.result (fault_line c.in_err-statements_of.field-0.0) (with_stubs (drop i xs)) (with_stubs (drop (i + 1) xs))
    (ap with_stubs (item_first xs i c.source-item.result c.loop-source-test.true c.source-item.is)) (h m))

pub loop-source-preserved : goal.loop-source-preserved
loop-source-preserved c =
    let xs = c.args.sources.now in
    let i = c.loop-source.source-index in
    let h = rw (c.name.ensures, c.text.ensures) at c.in_ok-statements_of.ensures in
    c.loop-source.invariant
    ∙ joined statements_of c.loop-source.all.items c.push.new.self.items c.source-item.result c.in_ok-statements_of.field-0 (with_stubs (drop i xs)) (with_stubs (drop (i + 1) xs))
    (ap with_stubs (item_first xs i c.source-item.result c.loop-source-test.true c.source-item.is)) h c.in_ok-push.ensures.items

pub returns-in_err-statements_of-2 : goal.returns-in_err-statements_of-2
returns-in_err-statements_of-2 c =
    let p = err_from_is_err_and c.from_residual-in_err-statements_of-2.result c.from_residual-in_err-statements_of-2.ensures.1 in
    let xs = c.args.sources.now in
    let i = c.loop-source.source-index in
    let h = rw c.stubs.ensures at c.in_err-statements_of-2.ensures in
    rw (p.1, p.2) (λ m. c.loop-source.invariant
    ∙ refused_at statements_of c.loop-source.all.items stubs (fault_line c.in_err-statements_of-2.field-0.0) (with_stubs (drop i xs)) []
    (ap with_stubs (drop_all i xs c.loop-source-test.false)) (h m))

pub returns : goal.returns
returns c =
    let xs = c.args.sources.now in
    let i = c.loop-source.source-index in
    let h = rw c.stubs.ensures at c.in_ok-statements_of-2.ensures in
    c.loop-source.invariant
    ∙ joined statements_of c.loop-source.all.items c.push-2.new.self.items stubs c.in_ok-statements_of-2.field-0 (with_stubs (drop i xs)) []
    (ap with_stubs (drop_all i xs c.loop-source-test.false)) h c.in_ok-push-2.ensures.items
    ∙ ended statements_of c.push-2.new.self.items [] refl
