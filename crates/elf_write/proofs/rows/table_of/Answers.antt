use Rattle.std.proofs.Common.{◌≡◌, length, rules, arith}
use Rattle.elf_write.specs.Layout.{zero_terminated}
use Rattle.elf_write.proofs.Layouts.{strings_past, rows_past}
use Rattle.elf_write.proofs.rows.table_of.Goals as goal

pub overflow_cast-at : goal.overflow_cast-at
overflow_cast-at c = omega (arith, c.loop-s.invariant.0)

pub closed_len-at-requires : goal.closed_len-at-requires
closed_len-at-requires c = omega (arith, c.s.told.1)

pub overflow_add-at : goal.overflow_add-at
overflow_add-at c =
    let len : c.closed_len-at.result ≡ length (zero_terminated c.s-item.result.name) = search rules in
    omega (arith, strings_past c.loop-s.at c.closed_len-at.result _ c.args.rows.now c.loop-s.s-index c.s-item.result c.loop-s-test.true c.s-item.is len c.loop-s.invariant.0)

pub loop-s-preserved : goal.loop-s-preserved
loop-s-preserved c =
    let len : c.closed_len-at.result ≡ length (zero_terminated c.s-item.result.name) = search rules in (
      strings_past c.loop-s.at c.closed_len-at.result _ c.args.rows.now c.loop-s.s-index c.s-item.result c.loop-s-test.true c.s-item.is len c.loop-s.invariant.0,
      rows_past c.loop-s.at c.closed_len-at.result c.args.rows.now c.loop-s.s-index c.s-item.result c.loop-s.out.items _ _ c.loop-s-test.true c.s-item.is len c.in_ok-put_symbol.ensures c.loop-s.invariant.1,
    )
