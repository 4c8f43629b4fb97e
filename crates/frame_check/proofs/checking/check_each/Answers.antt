use Rattle.std.proofs.Common.{◌≤◌, List, length, arith, ap, ◌∙◌, subst}
use Rattle.std.proofs.lemmas.List.{take_all}
use Rattle.elf_image.specs.Functions.{Function}
use Rattle.elf_image.specs.Image.{Image}
use Rattle.frame_reach.proofs.Existing.{marks_agree}
use Rattle.frame_check.specs.Accepts.{AreWell, AreRoles}
use Rattle.frame_check.specs.Judged.{RefusesOne, IsTaken}
use Rattle.frame_check.proofs.Wells.{placed_item, rejected_item, taken_item}
use Rattle.frame_check.proofs.checking.check_each.Goals as goal

pub loop-f-init : goal.loop-f-init
loop-f-init c = record { well = λ k d l. absurd (omega arith); roles = c.requires.roles; cover = c.requires.cover }

pub check_function-requires : goal.check_function-requires
check_function-requires c =
    placed_item c.args.index.now c.image.result.now c.functions-f-items.result.now c.loop-f.f-index c.f-item.result c.functions-f-items.ensures.sound c.image.ensures
    (c.functions-f-items.ensures.functions ∙ ap (λ (i : Image). i.functions) c.image.ensures) c.loop-f-test.true c.f-item.is

pub returns-in-Err-clause-refused : goal.returns-in-Err-clause-refused
returns-in-Err-clause-refused c =
    rejected_item c.args.index.now c.functions-f-items.result.now c.loop-f.f-index c.f-item.result c.in-Err.fault
    (c.functions-f-items.ensures.functions ∙ ap (λ (i : Image). i.functions) c.image.ensures) c.loop-f-test.true c.f-item.is c.loop-f.invariant.well
    (subst (λ (i : Image). RefusesOne i c.f-item.result c.in-Err.fault) (c.turn.ensures ∙ c.loop-f.invariant.cover) c.in-Err.ensures.refused)

pub loop-f-preserved : goal.loop-f-preserved
loop-f-preserved c =
    let covered = c.turn.ensures ∙ c.loop-f.invariant.cover in
    let t = taken_item c.args.index.now c.image.result.now c.functions-f-items.result.now c.loop-f.f-index c.f-item.result c.loop-f.roles c.check_function.new.roles marks_agree c.functions-f-items.ensures.sound c.image.ensures
    (c.functions-f-items.ensures.functions ∙ ap (λ (i : Image). i.functions) c.image.ensures) c.loop-f-test.true c.f-item.is c.loop-f.invariant.well c.loop-f.invariant.roles
    (subst (λ (i : Image). IsTaken i c.f-item.result c.loop-f.roles c.check_function.new.roles) covered c.in-Ok.ensures.taken) in
    record { well = t.0; roles = t.1; cover = covered }

pub returns-clause-well : goal.returns-clause-well
returns-clause-well c =
    let e = c.functions-f-items.ensures.functions ∙ ap (λ (i : Image). i.functions) c.image.ensures in
    subst (λ (fs : List Function). AreWell c.args.index.now fs)
    (take_all c.loop-f.f-index c.args.index.now.functions (subst (λ (gs : List Function). length gs ≤ c.loop-f.f-index) e c.loop-f-test.false)) c.loop-f.invariant.well
