use Rattle.std.proofs.Common.{sym, ◌∙◌}
use Rattle.mem_buses.specs.Pages.{byte_of, owner_of}
use Rattle.mem_buses.proofs.PageLaws.{span_covers, span_cell, span_place}
use Rattle.mem_buses.proofs.paged.find.Goals as goal

pub returns-then-covers-clause-place : goal.returns-then-covers-clause-place
returns-then-covers-clause-place c =
    span_place (byte_of c.args.pages.now) (owner_of c.args.pages.now) _ _ _ c.args.a c.args.n c.requires.owned c.requires.near c.requires.some (sym c.covers.ensures ∙ c.if-covers.true)

pub returns-then-covers-clause-covers : goal.returns-then-covers-clause-covers
returns-then-covers-clause-covers c = λ d. span_covers _ _ _ d c.args.a c.args.n c.requires.near (sym c.covers.ensures ∙ c.if-covers.true)

pub returns-then-covers-clause-inside : goal.returns-then-covers-clause-inside
returns-then-covers-clause-inside c = c.requires.near.inside

pub returns-then-covers-clause-cell : goal.returns-then-covers-clause-cell
returns-then-covers-clause-cell c = rw c.cell.ensures (span_cell c.args.pages.now.places c.args.parts.now c.args.near.now c.args.a c.args.n c.requires.near c.requires.some (sym c.covers.ensures ∙ c.if-covers.true))
