use Rattle.std.proofs.Common.{sym, arith, ◌∙◌}
use Rattle.eh_phase.specs.Calls.{stack_of}
use Rattle.thumb_core.specs.Registers.{all_of}
use Rattle.eh_walk.proofs.Passing.{begins, goes_further, nothing_is_found, last_is_found, is_found_here}
use Rattle.eh_walk.proofs.stopping.stop_from.Goals as goal

pub loop-further-init : goal.loop-further-init
loop-further-init g c =
    let stack = stack_of (g.B.Bus.memory c.args.bus.now) in
    let low = (g.met.B.Bus.is_map c.args.bus.now).home.high in
    begins c.args.t.now.index stack low c.args.sought.now.limit c.args.sought.now.holds c.args.site c.args.sought.now.number (all_of c.args.regs.now) c.registers.result c.registers.ensures

pub loop-further-preserved : goal.loop-further-preserved
loop-further-preserved g c =
    let stack = stack_of (g.B.Bus.memory c.args.bus.now) in
    let low = (g.met.B.Bus.is_map c.args.bus.now).home.high in
    goes_further c.args.t.now.index stack low c.args.sought.now.limit c.args.sought.now.holds c.loop-further.at c.in-Inside.next c.loop-further.faulty c.or_unreadable-faulty.result c.loop-further.further _
    (omega arith) (sym c.in-Inside.ensures) c.or_unreadable-faulty.ensures c.loop-further.invariant

pub returns-in-Nothing : goal.returns-in-Nothing
returns-in-Nothing g c =
    let stack = stack_of (g.B.Bus.memory c.args.bus.now) in
    let low = (g.met.B.Bus.is_map c.args.bus.now).home.high in
    nothing_is_found c.args.t.now.index stack c.loop-further.at low c.args.sought.now.limit c.args.sought.now.holds c.loop-further.faulty c.loop-further.further _
    (sym c.in-Nothing.ensures) c.loop-further.invariant

pub returns-in-Last : goal.returns-in-Last
returns-in-Last g c =
    let stack = stack_of (g.B.Bus.memory c.args.bus.now) in
    let low = (g.met.B.Bus.is_map c.args.bus.now).home.high in
    last_is_found c.args.t.now.index stack c.loop-further.at low c.args.sought.now.limit c.args.sought.now.holds c.loop-further.faulty c.loop-further.further _ _
    (omega arith) (sym c.in-Last.ensures) c.loop-further.invariant

pub returns : goal.returns
returns g c =
    let stack = stack_of (g.B.Bus.memory c.args.bus.now) in
    let low = (g.met.B.Bus.is_map c.args.bus.now).home.high in
    c.stop_here.ensures ∙ is_found_here c.args.t.now.index stack c.loop-further.at low c.args.sought.now.limit c.args.sought.now.holds c.loop-further.faulty c.loop-further.further _
    (omega arith) c.loop-further.invariant
