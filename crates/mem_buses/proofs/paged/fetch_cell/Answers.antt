use Rattle.std.proofs.Common.{sym, ◌∙◌, refl, inl, inr}
use Rattle.mem_buses.proofs.PageLaws.{near_can, near_fetch, cell_number}
use Rattle.mem_buses.proofs.paged.fetch_cell.Goals as goal

pub returns-then-is_aligned-clause-room : goal.returns-then-is_aligned-clause-room
returns-then-is_aligned-clause-room c =
    let can =
    near_can 2 c.args.pages.now c.args.parts.now c.args.near.now c.args.a (inr (inl refl)) c.requires.sound c.requires.owned c.requires.near (sym c.covers.ensures ∙ c.if-covers.true)
    (sym c.is_aligned.ensures ∙ c.if-is_aligned.true) in
    rw c.cell.ensures can.room

pub returns-then-is_aligned-clause-number : goal.returns-then-is_aligned-clause-number
returns-then-is_aligned-clause-number c =
    let can =
    near_can 2 c.args.pages.now c.args.parts.now c.args.near.now c.args.a (inr (inl refl)) c.requires.sound c.requires.owned c.requires.near (sym c.covers.ensures ∙ c.if-covers.true)
    (sym c.is_aligned.ensures ∙ c.if-is_aligned.true) in
    rw c.cell.ensures (cell_number 2 c.args.pages.now c.args.parts.now c.args.a _ _ c.requires.sound can)

pub returns-then-is_aligned-clause-ok : goal.returns-then-is_aligned-clause-ok
returns-then-is_aligned-clause-ok c =
    near_fetch c.args.pages.now c.args.parts.now c.args.near.now c.args.a _
    (near_can 2 c.args.pages.now c.args.parts.now c.args.near.now c.args.a (inr (inl refl)) c.requires.sound c.requires.owned c.requires.near (sym c.covers.ensures ∙ c.if-covers.true)
    (sym c.is_aligned.ensures ∙ c.if-is_aligned.true))
    c.requires.code (sym c.covers.ensures ∙ c.if-covers.true) (sym c.is_aligned.ensures ∙ c.if-is_aligned.true)
