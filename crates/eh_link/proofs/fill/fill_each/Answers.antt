use Rattle.std.proofs.Common.{◌∙◌, ◌++◌, map, sym, ap, append-nil, refl, arith}
use Rattle.std.proofs.lemmas.List.{drop_all}
use Rattle.eh_link.specs.Fields.{fill_object_by, fill_object, unreachable_by, lower, lowest_unreachable}
use Rattle.eh_link.proofs.Changes.{lower_none}
use Rattle.eh_link.proofs.Steps.{table_meanings, parts_step, lowest_step}
use Rattle.eh_link.proofs.fill.fill_each.Goals as goal

pub loop-placed-init : goal.loop-placed-init
loop-placed-init c = (ap (λ parts. parts ++ map (fill_object c.args.all.now) c.args.all.now) c.new-parts.ensures.items, refl)

pub loop-placed-preserved : goal.loop-placed-preserved
loop-placed-preserved c =
    let same = table_meanings c.args.all.now c.args.global.now c.placed-item.result c.requires in (
      parts_step c.loop-placed.parts.items c.push.new.self.items c.args.all.now c.args.all.now c.loop-placed.placed-index c.placed-item.result _ _ c.loop-placed-test.true c.placed-item.is
          c.in_ok-push.ensures.items (c.in_ok-filled.ensures.parts ∙ ap (λ m. fill_object_by m c.placed-item.result) same) c.loop-placed.invariant.0,
      lowest_step c.loop-placed.lowest c.lower-lowest.result _ c.args.all.now c.args.all.now c.loop-placed.placed-index c.placed-item.result _ c.loop-placed-test.true c.placed-item.is
          c.lower-lowest.ensures (c.in_ok-filled.ensures.lowest ∙ ap (λ m. unreachable_by m c.placed-item.result) same) c.loop-placed.invariant.1,
    )

pub returns : goal.returns
returns c =
    let all = c.args.all.now in
    let rest = drop_all c.loop-placed.placed-index all (omega arith) in
    record {
      parts = sym (append-nil c.loop-placed.parts.items) ∙ ap (λ left. c.loop-placed.parts.items ++ map (fill_object all) left) (sym rest) ∙ c.loop-placed.invariant.0;
      lowest = sym (lower_none c.loop-placed.lowest) ∙ ap (λ left. lower c.loop-placed.lowest (lowest_unreachable all left)) (sym rest) ∙ c.loop-placed.invariant.1;
    }
