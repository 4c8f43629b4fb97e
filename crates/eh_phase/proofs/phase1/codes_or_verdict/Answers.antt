use Rattle.std.proofs.Common.{rules, ◌≡◌, ◌∙◌, sym, ap, Some, None, Ok, Err}
use Rattle.eh_index.specs.Rows.{entries_of}
use Rattle.eh_index.specs.Covering.{covering}
use Rattle.eh_bytecode.specs.Codes.{inline_codes}
use Rattle.eh_phase.specs.Calls.{meeting}
use Rattle.eh_phase.specs.Frames.{entry_contents}
use Rattle.eh_phase.specs.Verdict.{verdict_of}
use Rattle.eh_phase.specs.Passed.{verdict_or_codes_by, unless}
use Rattle.eh_phase.proofs.Covers.{said_in, said_never, said_inline, said_unread}
use Rattle.eh_phase.proofs.phase1.codes_or_verdict.Goals as goal

pub returns-in_default : goal.returns-in_default
returns-in_default g c =
    let m = meeting c.args.t.now.index c.args.t.now.types.now (g.B.Bus.memory c.args.bus.now).segments c.args.what.now in
    let e : None ≡ covering (entries_of c.args.t.now.index) c.args.site = search rules in
    said_in m c.args.t.now.index c.args.site None e

pub returns-in-CantUnwind : goal.returns-in-CantUnwind
returns-in-CantUnwind g c =
    let m = meeting c.args.t.now.index c.args.t.now.types.now (g.B.Bus.memory c.args.bus.now).segments c.args.what.now in
    let e : Some c.in-Some.entry ≡ covering (entries_of c.args.t.now.index) c.args.site = search rules in
    sym (said_never m c.args.t.now.index c.args.site c.in-Some.entry c.in-CantUnwind.is) ∙ said_in m c.args.t.now.index c.args.site _ e

pub returns-in-Ok : goal.returns-in-Ok
returns-in-Ok g c =
    let m = meeting c.args.t.now.index c.args.t.now.types.now (g.B.Bus.memory c.args.bus.now).segments c.args.what.now in
    let e : Some c.in-Some.entry ≡ covering (entries_of c.args.t.now.index) c.args.site = search rules in
    let k : inline_codes c.in-Inline.word ≡ Ok c.in-Ok.codes = search rules in
    sym (said_inline m c.args.t.now.index c.args.site c.in-Some.entry c.in-Inline.word _ c.in-Inline.is k) ∙ said_in m c.args.t.now.index c.args.site _ e

pub returns-in-Err : goal.returns-in-Err
returns-in-Err g c =
    let m = meeting c.args.t.now.index c.args.t.now.types.now (g.B.Bus.memory c.args.bus.now).segments c.args.what.now in
    let e : Some c.in-Some.entry ≡ covering (entries_of c.args.t.now.index) c.args.site = search rules in
    let k : inline_codes c.in-Inline.word ≡ Err c.in-Err.field-0 = search rules in
    sym (said_unread m c.args.t.now.index c.args.site c.in-Some.entry c.in-Inline.word _ c.in-Inline.is k) ∙ said_in m c.args.t.now.index c.args.site _ e

pub returns-in_default-covered_by_table : goal.returns-in_default-covered_by_table
returns-in_default-covered_by_table g c =
    let m = meeting c.args.t.now.index c.args.t.now.types.now (g.B.Bus.memory c.args.bus.now).segments c.args.what.now in
    let e : Some c.in-Some.entry ≡ covering (entries_of c.args.t.now.index) c.args.site = search rules in
    let k : entry_contents c.args.t.now.index (Some c.in-Some.entry) ≡ None = search rules in
    sym (ap (verdict_or_codes_by m c.args.site) k) ∙ said_in m c.args.t.now.index c.args.site _ e

pub returns-in-Some-verdict_of : goal.returns-in-Some-verdict_of
returns-in-Some-verdict_of g c =
    let m = meeting c.args.t.now.index c.args.t.now.types.now (g.B.Bus.memory c.args.bus.now).segments c.args.what.now in
    let e : Some c.in-Some.entry ≡ covering (entries_of c.args.t.now.index) c.args.site = search rules in
    let k : entry_contents c.args.t.now.index (Some c.in-Some.entry) ≡ Some c.in-Some-covered_by_table.field-0 = search rules in
    let v : verdict_of m c.args.site c.in-Some-covered_by_table.field-0.descs ≡ Some c.in-Some-verdict_of.said = search rules in
    sym (ap (verdict_or_codes_by m c.args.site) k ∙ ap (unless c.in-Some-covered_by_table.field-0.codes) v) ∙ said_in m c.args.t.now.index c.args.site _ e

pub returns-in-None : goal.returns-in-None
returns-in-None g c =
    let m = meeting c.args.t.now.index c.args.t.now.types.now (g.B.Bus.memory c.args.bus.now).segments c.args.what.now in
    let e : Some c.in-Some.entry ≡ covering (entries_of c.args.t.now.index) c.args.site = search rules in
    let k : entry_contents c.args.t.now.index (Some c.in-Some.entry) ≡ Some c.in-Some-covered_by_table.field-0 = search rules in
    let v : verdict_of m c.args.site c.in-Some-covered_by_table.field-0.descs ≡ None = search rules in
    sym (ap (verdict_or_codes_by m c.args.site) k ∙ ap (unless c.in-Some-covered_by_table.field-0.codes) v) ∙ said_in m c.args.t.now.index c.args.site _ e
