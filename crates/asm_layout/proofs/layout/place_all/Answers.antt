use Rattle.std.proofs.Common.{◌++◌, sym, ap, ◌∙◌, append_assoc, append-nil, nat_lt, length, arith}
use Rattle.std.proofs.lemmas.List.{drop_all}
use Rattle.asm_layout.specs.Walks.{pools_if, pools_from, walk_after}
use Rattle.asm_layout.specs.Labels.{too_large_from}
use Rattle.asm_layout.specs.Placing.{pool_here, unresolved_stmts}
use Rattle.asm_layout.proofs.LayoutLaws.{above-zero, drop-next}
use Rattle.asm_layout.proofs.FaultLaws.{first_after}
use Rattle.asm_layout.proofs.layout.place_all.Goals as goal

pub loop-stmt-preserved : goal.loop-stmt-preserved
unfolding unresolved_stmts pools_from walk_after too_large_from
loop-stmt-preserved c =
    let so_far = c.loop-stmt.invariant in
    let walk = c.in_ok-place.ensures.walk in
    let whole = sym (drop-next c.args.stmts.now c.loop-stmt.stmt-index c.stmt-item.result (omega arith) c.stmt-item.is) in
    record {
      placed = rw (c.in_ok-push.ensures.items, c.in_ok-place.ensures.placed, walk, append_assoc) (rw whole at so_far.placed);
      pools = rw (c.in_ok-push_if.ensures, c.ends_pool.ensures, walk, append_assoc) (rw whole at so_far.pools);
      walk = rw walk (rw whole at so_far.walk);
      too_large = rw (c.first_if-too_large.ensures, c.is_too_large-is_large.ensures, walk, ← first_after) (rw whole at so_far.too_large);
    }

pub returns-clause-placed : goal.returns-clause-placed
unfolding unresolved_stmts
returns-clause-placed c =
    sym (append-nil c.loop-stmt.placed.items) ∙ rw (drop_all c.loop-stmt.stmt-index c.args.stmts.now (omega arith)) at c.loop-stmt.invariant.placed

pub returns-clause-last : goal.returns-clause-last
unfolding walk_after
returns-clause-last c =
    c.in_ok-into_pool.ensures ∙ ap pool_here (rw (drop_all c.loop-stmt.stmt-index c.args.stmts.now (omega arith)) at c.loop-stmt.invariant.walk)

pub returns-clause-pools : goal.returns-clause-pools
unfolding pools_from
returns-clause-pools c =
    c.pools-2.view_is ∙ c.in_ok-push_if-2.ensures
    ∙ ap (λ b. c.loop-stmt.pools ++ pools_if b c.loop-stmt.walk) (ap (nat_lt 0) c.len.ensures ∙ above-zero (length c.loop-stmt.walk.pool))
    ∙ rw (drop_all c.loop-stmt.stmt-index c.args.stmts.now (omega arith)) at c.loop-stmt.invariant.pools

pub returns-clause-bss : goal.returns-clause-bss
unfolding walk_after
returns-clause-bss c =
    ap (λ w. w.at.sizes.bss) (rw (drop_all c.loop-stmt.stmt-index c.args.stmts.now (omega arith)) at c.loop-stmt.invariant.walk)

pub returns-clause-too_large : goal.returns-clause-too_large
unfolding too_large_from
returns-clause-too_large c =
    rw (c.first_if.ensures, c.is_too_large-is_large-2.ensures, c.sizes_with_pool.ensures)
    (rw (drop_all c.loop-stmt.stmt-index c.args.stmts.now (omega arith)) at c.loop-stmt.invariant.too_large)
