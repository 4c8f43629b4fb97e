use Rattle.std.proofs.Common.{◌+◌, ◌++◌, take, drop, set, sym, ap, ◌∙◌, append-nil, arith}
use Rattle.std.proofs.lemmas.List.{drop_all, take_all}
use Rattle.asm_layout.specs.Placing.{with_pool_place, puts_pool, places_after, with_pool_places}
use Rattle.asm_layout.proofs.PlacingLaws.{resolved-more}
use Rattle.asm_layout.proofs.layout.resolve.Goals as goal

pub loop-one-preserved : goal.loop-one-preserved
loop-one-preserved c =
    let i = c.loop-one.one-index in
    let placed = c.loop-one.placed in
    let one = c.one-item.result in
    let pools = c.loop-one.pools.now in
    let new = c.move_word.ensures ∙ ap (with_pool_place pools) (sym c.one-item.is) in
    let ends = c.puts_pool-ends.ensures ∙ ap puts_pool (sym c.one-item.is) in
    (λ j. take (i + 1) (set placed i (new j)) ++ with_pool_places ((c.places_after-pools.ensures ∙ ap (places_after pools) ends) j) (drop (i + 1) (set placed i (new j))))
    ∙ resolved-more pools placed i one (omega arith) c.one-item.is
    ∙ c.loop-one.invariant

pub returns : goal.returns
unfolding with_pool_places
returns c =
    let i = c.loop-one.one-index in
    let placed = c.loop-one.placed in
    sym (append-nil placed) ∙ rw (drop_all i placed (omega arith), take_all i placed (omega arith)) at c.loop-one.invariant
