use Rattle.std.proofs.Common.{sym, ◌∙◌, None, Some, ◌≡◌, arith}
use Rattle.mem_buses.proofs.PageLaws.{owned_place, unowned, misowned, no_cell, at_cell, cell_owned}
use Rattle.mem_buses.specs.declared.part.SegmentInfo.{SegmentInfo}
use Rattle.mem_buses.specs.Pages.{byte_of, owner_of}
use Rattle.mem_buses.proofs.paged.look_up.Goals as goal

pub returns-in_default-clause-unmapped : goal.returns-in_default-clause-unmapped
returns-in_default-clause-unmapped c =
    unowned _ (owner_of c.args.pages.now) _ _ _ c.requires.owned c.requires.some (no_cell c.args.pages.now c.args.a (sym c.cell.ensures ∙ c.in_default.is))

pub owner-requires : goal.owner-requires
owner-requires c = cell_owned c.args.pages.now c.args.a _ c.requires.sound (sym c.cell.ensures ∙ c.in-Some.is)

pub returns-in_default-owner-clause-unmapped : goal.returns-in_default-owner-clause-unmapped
returns-in_default-owner-clause-unmapped c =
    unowned _ (owner_of c.args.pages.now) _ _ _ c.requires.owned c.requires.some
    (at_cell c.args.pages.now c.args.a c.in-Some.at (sym c.cell.ensures ∙ c.in-Some.is) ∙ (sym c.owner.ensures ∙ c.in_default-owner.is))

pub bounds-parts-part : goal.bounds-parts-part
bounds-parts-part c =
    let e : owner_of c.args.pages.now c.args.a ≡ Some c.in-Some-owner.owner =
    at_cell c.args.pages.now c.args.a c.in-Some.at (sym c.cell.ensures ∙ c.in-Some.is) ∙ (sym c.owner.ensures ∙ c.in-Some-owner.is) in
    let d : SegmentInfo = record { start = 0; size = 0; write = Rattle.std.proofs.Common.false; exec = Rattle.std.proofs.Common.false } in
    (c.requires.owned.part c.args.a c.in-Some-owner.owner d e).0

pub returns-then-covers-clause-place : goal.returns-then-covers-clause-place
returns-then-covers-clause-place c =
    let e : owner_of c.args.pages.now c.args.a ≡ Some c.in-Some-owner.owner =
    at_cell c.args.pages.now c.args.a c.in-Some.at (sym c.cell.ensures ∙ c.in-Some.is) ∙ (sym c.owner.ensures ∙ c.in-Some-owner.is) in
    owned_place (byte_of c.args.pages.now) (owner_of c.args.pages.now) _ _ _ _ _ c.requires.owned c.requires.some e (sym c.covers.ensures ∙ c.if-covers.true)

pub returns-else-covers-clause-unmapped : goal.returns-else-covers-clause-unmapped
returns-else-covers-clause-unmapped c =
    let e : owner_of c.args.pages.now c.args.a ≡ Some c.in-Some-owner.owner =
    at_cell c.args.pages.now c.args.a c.in-Some.at (sym c.cell.ensures ∙ c.in-Some.is) ∙ (sym c.owner.ensures ∙ c.in-Some-owner.is) in
    misowned (byte_of c.args.pages.now) (owner_of c.args.pages.now) _ _ _ _ _ c.requires.owned c.requires.some e (sym c.covers.ensures ∙ c.if-covers.false)
