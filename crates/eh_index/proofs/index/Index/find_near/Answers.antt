use Rattle.std.proofs.Common.{◌-◌, Some, sym, ◌∙◌, ap, subst, arith}
use Rattle.elf_image.specs.Image.{Image}
use Rattle.eh_codes.specs.declared.row.Entry.{Entry}
use Rattle.eh_index.specs.Rows.{entries_of}
use Rattle.eh_index.specs.Covering.{covering}
use Rattle.eh_index.specs.Laws.{IsEntry}
use Rattle.eh_index.proofs.Search.{covering_none, covering_some, entry_stands}
use Rattle.eh_index.proofs.index.Index.find_near.Goals as goal

pub returns-then-rows-eq0-clause-covering : goal.returns-then-rows-eq0-clause-covering
returns-then-rows-eq0-clause-covering c =
    covering_none c.self.inside.image.now c.args.site c.rows_near-rows.result c.if-rows-eq0.true (omega (arith, c.rows_near-rows.ensures.within, c.count.ensures))
    c.rows_near-rows.ensures.below c.rows_near-rows.ensures.above ∙ ap (λ (i : Image). covering (entries_of i) c.args.site) c.self.view_is

pub returns-else-rows-eq0-clause-covering : goal.returns-else-rows-eq0-clause-covering
returns-else-rows-eq0-clause-covering c =
    ap (λ (e : Entry). Some e) c.entry_at.ensures
    ∙ covering_some c.self.inside.image.now c.args.site c.rows_near-rows.result c.if-rows-eq0.false (omega (arith, c.rows_near-rows.ensures.within, c.count.ensures))
    c.rows_near-rows.ensures.below c.rows_near-rows.ensures.above ∙ ap (λ (i : Image). covering (entries_of i) c.args.site) c.self.view_is

pub returns-else-rows-eq0-clause-stands : goal.returns-else-rows-eq0-clause-stands
returns-else-rows-eq0-clause-stands c =
    subst (λ (i : Image). IsEntry i c.entry_at.result) c.self.view_is
    (subst (λ (e : Entry). IsEntry c.self.inside.image.now e) (sym c.entry_at.ensures)
    (entry_stands c.self.inside.image.now c.self.invariant (c.rows_near-rows.result - 1) (omega (arith, c.rows_near-rows.ensures.within, c.count.ensures))))
