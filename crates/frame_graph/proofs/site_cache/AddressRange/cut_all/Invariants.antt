use Rattle.std.proofs.Common.{◌≡◌, ℕ, drop}
use Rattle.std.specs.List.{AllByRecursion}
use Rattle.frame_entries.specs.Scopes.{Item, is_one, is_scope_at}
use Rattle.frame_graph.specs.SiteCaching.{IsIn}
use Rattle.frame_graph.proofs.site_cache.AddressRange.cut_all.Given as goal

abbrev pub invariant-loop-item : goal.invariant-loop-item
invariant-loop-item l = record {
  holds : IsIn l.span l.site;
  within : (a : ℕ) → IsIn l.span a → IsIn l.fn.self a;
  same : (a : ℕ) → IsIn l.span a → AllByRecursion (λ (item : Item). is_one (is_scope_at a) item ≡ is_one (is_scope_at l.site) item) (drop l.item-index l.items)
      → AllByRecursion (λ (item : Item). is_one (is_scope_at a) item ≡ is_one (is_scope_at l.site) item) l.items;
}
