use Rattle.std.proofs.Common.{sym, ◌∙◌}
use Rattle.mem_buses.proofs.PageLaws.{near_can, near_store, near_guarded}
use Rattle.mem_buses.proofs.paged.store_cell.Goals as goal

pub returns-then-is_aligned-clause-cell : goal.returns-then-is_aligned-clause-cell
returns-then-is_aligned-clause-cell c =
    rw c.cell.ensures
    (near_can c.args.n c.args.pages.now c.args.parts.now c.args.near.now c.args.a c.requires.width c.requires.sound c.requires.owned c.requires.near (sym c.covers.ensures ∙ c.if-covers.true)
    (sym c.is_aligned.ensures ∙ c.if-is_aligned.true))

pub returns-then-is_aligned-clause-ok : goal.returns-then-is_aligned-clause-ok
returns-then-is_aligned-clause-ok c =
    near_store c.args.n c.args.guards.now c.args.pages.now c.args.parts.now c.args.near.now c.args.a _
    (near_can c.args.n c.args.pages.now c.args.parts.now c.args.near.now c.args.a c.requires.width c.requires.sound c.requires.owned c.requires.near (sym c.covers.ensures ∙ c.if-covers.true)
    (sym c.is_aligned.ensures ∙ c.if-is_aligned.true))
    c.requires.open (sym c.covers.ensures ∙ c.if-covers.true) (sym c.is_aligned.ensures ∙ c.if-is_aligned.true) (sym c.guard_hit.ensures ∙ c.in_default.is)

pub returns-in-Some-clause-fault : goal.returns-in-Some-clause-fault
returns-in-Some-clause-fault c =
    near_guarded c.args.n c.args.guards.now c.args.pages.now c.args.parts.now c.args.near.now c.args.a _ _
    (near_can c.args.n c.args.pages.now c.args.parts.now c.args.near.now c.args.a c.requires.width c.requires.sound c.requires.owned c.requires.near (sym c.covers.ensures ∙ c.if-covers.true)
    (sym c.is_aligned.ensures ∙ c.if-is_aligned.true))
    c.requires.open (sym c.covers.ensures ∙ c.if-covers.true) (sym c.is_aligned.ensures ∙ c.if-is_aligned.true) (sym c.guard_hit.ensures ∙ c.in-Some.is)
