use Rattle.std.proofs.Common.{◌≡◌}
use Rattle.frame_entries.specs.Scopes.{Item, is_one, is_scope_at}
use Rattle.frame_graph.proofs.Stretches.{cut_more, cut_over}
use Rattle.frame_graph.proofs.site_cache.AddressRange.cut_all.Goals as goal

pub loop-item-preserved : goal.loop-item-preserved
loop-item-preserved c =
    let i = c.loop-item.invariant in
    let cut = c.cut-span.ensures in
    record {
      holds = cut.holds;
      within = λ a h. i.within a (cut.within a h);
      same = λ a h more. i.same a (cut.within a h)
          (cut_more (λ (item : Item). is_one (is_scope_at a) item ≡ is_one (is_scope_at c.args.site) item) c.args.items.now c.loop-item.item-index _ c.loop-item-test.true (cut.same a h) more);
    }

pub returns : goal.returns
returns c =
    let i = c.loop-item.invariant in
    record {
      holds = i.holds;
      within = i.within;
      same = λ a h. i.same a h (cut_over (λ (item : Item). is_one (is_scope_at a) item ≡ is_one (is_scope_at c.args.site) item) c.args.items.now c.loop-item.item-index c.loop-item-test.false);
    }
