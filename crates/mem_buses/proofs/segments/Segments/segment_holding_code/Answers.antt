use Rattle.std.proofs.Common.{arith, sym, ◌∙◌, ap, length}
use Rattle.mem_buses.proofs.Places.{by_read}
use Rattle.mem_buses.proofs.segments.Segments.segment_holding_code.Goals as goal

pub returns-then-holds-clause-place : goal.returns-then-holds-clause-place
returns-then-holds-clause-place c =
    let e = c.self.view_is in
    by_read 2 c.args.a c.args.self.now c.loop-i.i c.index.result.now c.requires (omega arith) (omega (arith, ap length e)) (rw e at c.index.ensures) (sym c.holds.ensures ∙ c.if-holds.true)
