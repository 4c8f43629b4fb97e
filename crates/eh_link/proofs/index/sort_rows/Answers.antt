use Rattle.std.proofs.Common.{◌≡◌, rules}
use Rattle.std.proofs.lemmas.Fn.{always_returns_same}
use Rattle.std.proofs.lemmas.List.Sorted.{IsNonDecreasingBy-from_sort_by_key}
use Rattle.eh_codes.specs.declared.row.Entry.{Entry}
use Rattle.eh_link.proofs.Sorting.{sorted_is}
use Rattle.eh_link.proofs.index.sort_rows.Goals as goal

pub returns : goal.returns
returns c =
    sorted_is c.args.rows.now.items c.sort_by_key.new.self.items
    (IsNonDecreasingBy-from_sort_by_key (λ (r : Entry). r.start) _ c.in_ok-sort_by_key.ensures.sorted (λ a r q k. search rules))
    (c.sort_by_key.ensures.stable (λ (r : Entry). r.start) (always_returns_same _ (λ a r. r ≡ a.0.now.start) _ (λ a r q k. search rules)))
