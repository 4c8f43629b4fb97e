use Rattle.std.proofs.Common.{◌≡◌, ◌-◌, Option, Some, None, sym, ◌∙◌, ap, subst, arith}
use Rattle.elf_image.specs.Image.{Image}
use Rattle.eh_codes.specs.declared.row.Entry.{Entry}
use Rattle.eh_index.specs.Rows.{entries_of}
use Rattle.eh_index.specs.Covering.{covering, IsCovering}
use Rattle.eh_index.specs.Laws.{IsEntry}
use Rattle.eh_index.proofs.Search.{covering_none, covering_some, is_covering, entry_stands}
use Rattle.eh_index.proofs.index.Index.find.Goals as goal

none_is : (c : goal.Then-count-eq0) → None ≡ covering (entries_of c.args.self.now) c.args.site
none_is c =
    covering_none c.self.inside.image.now c.args.site c.rows_up_to-count.result c.if-count-eq0.true (omega (arith, c.rows_up_to-count.ensures.within, c.count.ensures))
    c.rows_up_to-count.ensures.below c.rows_up_to-count.ensures.above ∙ ap (λ (i : Image). covering (entries_of i) c.args.site) c.self.view_is

some_is : (c : goal.After-entry_at) → Some c.entry_at.result ≡ covering (entries_of c.args.self.now) c.args.site
some_is c =
    ap (λ (e : Entry). Some e) c.entry_at.ensures
    ∙ covering_some c.self.inside.image.now c.args.site c.rows_up_to-count.result c.if-count-eq0.false (omega (arith, c.rows_up_to-count.ensures.within, c.count.ensures))
    c.rows_up_to-count.ensures.below c.rows_up_to-count.ensures.above ∙ ap (λ (i : Image). covering (entries_of i) c.args.site) c.self.view_is

pub returns-then-count-eq0-clause-covering : goal.returns-then-count-eq0-clause-covering
returns-then-count-eq0-clause-covering c = none_is c

pub returns-then-count-eq0-clause-last : goal.returns-then-count-eq0-clause-last
returns-then-count-eq0-clause-last c =
    subst (λ (o : Option Entry). IsCovering (entries_of c.args.self.now) c.args.site o) (sym (none_is c)) (is_covering (entries_of c.args.self.now) c.args.site)

pub returns-else-count-eq0-clause-covering : goal.returns-else-count-eq0-clause-covering
returns-else-count-eq0-clause-covering c = some_is c

pub returns-else-count-eq0-clause-last : goal.returns-else-count-eq0-clause-last
returns-else-count-eq0-clause-last c =
    subst (λ (o : Option Entry). IsCovering (entries_of c.args.self.now) c.args.site o) (sym (some_is c)) (is_covering (entries_of c.args.self.now) c.args.site)

pub returns-else-count-eq0-clause-stands : goal.returns-else-count-eq0-clause-stands
returns-else-count-eq0-clause-stands c =
    subst (λ (i : Image). IsEntry i c.entry_at.result) c.self.view_is
    (subst (λ (e : Entry). IsEntry c.self.inside.image.now e) (sym c.entry_at.ensures)
    (entry_stands c.self.inside.image.now c.self.invariant (c.rows_up_to-count.result - 1) (omega (arith, c.rows_up_to-count.ensures.within, c.count.ensures))))
