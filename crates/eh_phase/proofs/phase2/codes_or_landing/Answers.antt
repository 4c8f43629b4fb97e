use Rattle.std.proofs.Common.{rules, ◌≡◌, ◌∙◌, sym, ap, Some, None, Ok, Err}
use Rattle.eh_index.specs.Rows.{entries_of}
use Rattle.eh_index.specs.Covering.{covering}
use Rattle.eh_bytecode.specs.Codes.{inline_codes}
use Rattle.eh_phase.specs.Calls.{frame_at}
use Rattle.eh_phase.specs.Firsts.{first_some}
use Rattle.eh_phase.specs.Landings.{landing_in_frame}
use Rattle.eh_phase.specs.Frames.{entry_contents}
use Rattle.eh_phase.specs.Phases.{enter_item, from_address}
use Rattle.eh_phase.specs.Passed.{enters_by, unless}
use Rattle.eh_phase.proofs.Covers.{enters_in, enters_never, enters_inline, enters_unread}
use Rattle.eh_phase.proofs.phase2.codes_or_landing.Goals as goal

pub returns-in_default : goal.returns-in_default
returns-in_default c =
    let f = frame_at c.args.cursor.now in
    let e : None ≡ covering (entries_of c.args.t.now.index) c.args.cursor.now.site = search rules in
    sym (enters_in c.args.goal.now c.args.next c.args.t.now.index f None e)

pub returns-in-CantUnwind : goal.returns-in-CantUnwind
returns-in-CantUnwind c =
    let f = frame_at c.args.cursor.now in
    let e : Some c.in-Some.entry ≡ covering (entries_of c.args.t.now.index) c.args.cursor.now.site = search rules in
    sym (enters_in c.args.goal.now c.args.next c.args.t.now.index f _ e) ∙ enters_never c.args.goal.now c.args.next c.args.t.now.index f c.in-Some.entry c.in-CantUnwind.is

pub returns-in-Ok : goal.returns-in-Ok
returns-in-Ok c =
    let f = frame_at c.args.cursor.now in
    let e : Some c.in-Some.entry ≡ covering (entries_of c.args.t.now.index) c.args.cursor.now.site = search rules in
    let k : inline_codes c.in-Inline.word ≡ Ok c.in-Ok.codes = search rules in
    sym (enters_in c.args.goal.now c.args.next c.args.t.now.index f _ e) ∙ enters_inline c.args.goal.now c.args.next c.args.t.now.index f c.in-Some.entry c.in-Inline.word _ c.in-Inline.is k

pub returns-in-Err : goal.returns-in-Err
returns-in-Err c =
    let f = frame_at c.args.cursor.now in
    let e : Some c.in-Some.entry ≡ covering (entries_of c.args.t.now.index) c.args.cursor.now.site = search rules in
    let k : inline_codes c.in-Inline.word ≡ Err c.in-Err.field-0 = search rules in
    sym (enters_in c.args.goal.now c.args.next c.args.t.now.index f _ e) ∙ enters_unread c.args.goal.now c.args.next c.args.t.now.index f c.in-Some.entry c.in-Inline.word _ c.in-Inline.is k

pub returns-in_default-covered_by_table : goal.returns-in_default-covered_by_table
returns-in_default-covered_by_table c =
    let f = frame_at c.args.cursor.now in
    let e : Some c.in-Some.entry ≡ covering (entries_of c.args.t.now.index) c.args.cursor.now.site = search rules in
    let k : entry_contents c.args.t.now.index (Some c.in-Some.entry) ≡ None = search rules in
    sym (enters_in c.args.goal.now c.args.next c.args.t.now.index f _ e) ∙ ap (enters_by c.args.goal.now c.args.next f) k

pub returns-in-Some-landing_in : goal.returns-in-Some-landing_in
returns-in-Some-landing_in c =
    let f = frame_at c.args.cursor.now in
    let e : Some c.in-Some.entry ≡ covering (entries_of c.args.t.now.index) c.args.cursor.now.site = search rules in
    let k : entry_contents c.args.t.now.index (Some c.in-Some.entry) ≡ Some c.in-Some-covered_by_table.field-0 = search rules in
    let v : first_some (enter_item c.args.goal.now f) (from_address c.args.next c.in-Some-covered_by_table.field-0.descs) ≡ Some (landing_in_frame f c.in-Some-landing_in.landing) = search rules in
    sym (enters_in c.args.goal.now c.args.next c.args.t.now.index f _ e) ∙ ap (enters_by c.args.goal.now c.args.next f) k ∙ ap (unless c.in-Some-covered_by_table.field-0.codes) v

pub returns-in-None : goal.returns-in-None
returns-in-None c =
    let f = frame_at c.args.cursor.now in
    let e : Some c.in-Some.entry ≡ covering (entries_of c.args.t.now.index) c.args.cursor.now.site = search rules in
    let k : entry_contents c.args.t.now.index (Some c.in-Some.entry) ≡ Some c.in-Some-covered_by_table.field-0 = search rules in
    let v : first_some (enter_item c.args.goal.now f) (from_address c.args.next c.in-Some-covered_by_table.field-0.descs) ≡ None = search rules in
    sym (enters_in c.args.goal.now c.args.next c.args.t.now.index f _ e) ∙ ap (enters_by c.args.goal.now c.args.next f) k ∙ ap (unless c.in-Some-covered_by_table.field-0.codes) v
