use Rattle.std.proofs.Common.{ℕ, ◌<◌, ◌≤◌, ◌∙◌, ◌++◌, None, List, length, ap, subst}
use Rattle.elf_image.specs.Functions.{Function}
use Rattle.elf_image.specs.Image.{Image, type_symbols_of}
use Rattle.eh_index.specs.Covering.{covering}
use Rattle.eh_index.specs.Rows.{entries_of}
use Rattle.frame_check.specs.Roots.{types_from, roots_of}
use Rattle.frame_check.proofs.Wells.{same_item}
use Rattle.frame_check.proofs.Naming.{types_next, types_end}
use Rattle.frame_check.proofs.roots.roots_of.Goals as goal

pub loop-f-preserved : goal.loop-f-preserved
loop-f-preserved c =
    let e = c.functions-f-items.ensures.functions ∙ ap (λ (i : Image). i.functions) c.image-image.ensures in
    types_next c.args.index.now c.loop-f.before c.find-entry.result c.args.index.now.functions c.loop-f.f-index c.f-item.result c.loop-f.roots.items c.add_other.new.roots.items
    (types_from c.args.index.now None c.args.index.now.functions) (subst (λ (gs : List Function). c.loop-f.f-index < length gs) e c.loop-f-test.true)
    (same_item c.functions-f-items.result.now c.args.index.now.functions c.loop-f.f-index c.f-item.result e c.f-item.is)
    (c.find-entry.ensures.covering ∙ ap (λ (a : ℕ). covering (entries_of c.args.index.now) a) c.start.ensures) c.in_ok-add_other.ensures c.loop-f.invariant

pub returns : goal.returns
unfolding roots_of
returns c =
    let e = c.functions-f-items.ensures.functions ∙ ap (λ (i : Image). i.functions) c.image-image.ensures in
    c.in_ok-extend_from_slice.ensures.items
    ∙ ap (λ l. c.loop-f.roots.items ++ l) (c.type_symbols.ensures ∙ ap (λ (i : Image). type_symbols_of i.symbols) c.image-image.ensures)
    ∙ ap (λ l. l ++ type_symbols_of c.args.index.now.symbols)
    (types_end c.args.index.now c.loop-f.before c.args.index.now.functions c.loop-f.f-index c.loop-f.roots.items (types_from c.args.index.now None c.args.index.now.functions)
    (subst (λ (gs : List Function). length gs ≤ c.loop-f.f-index) e c.loop-f-test.false) c.loop-f.invariant)
