use Rattle.std.proofs.Common.{◌≡◌, arith, sym}
use Rattle.std.specs.Int.{bit_at}
use Rattle.std.proofs.lemmas.Grind.{common_steps}
use Rattle.thumb_core.proofs.Popped.{Low, pop_fault, pop_plain, pop_pc_fault, pop_even, pop_return}
use Rattle.thumb_core.proofs.lists.pop.Goals as goal

pub returns-in-Err : goal.returns-in-Err
returns-in-Err g c =
    sym (pop_fault c.args.list c.args.size c.args.regs.now (g.B.Bus.memory c.args.bus.now) c.in-Err.fault (omega arith) (rw c.reg-a.ensures at c.in-Err.ensures.fault))

pub returns-then-list-eq0 : goal.returns-then-list-eq0
returns-then-list-eq0 g c =
    let low : Low c.args.list c.reg-a.result c.args.regs.now (g.B.Bus.memory c.args.bus.now) c.load_low.new.r =
    record { count = omega arith; size = c.load_low.array_long; loaded = c.in-Ok.ensures.ok } in
    let clear : bit_at c.args.list 15 ≡ 0 = grind (arith, common_steps) in
    let plain = pop_plain c.args.list c.args.size c.args.regs.now (g.B.Bus.memory c.args.bus.now) c.load_low.new.r (rw c.reg-a.ensures at low) c.requires clear in
    rw (c.advance.ensures, c.set_register.ensures, c.in-Ok.ensures.bytes, c.reg-a.ensures) (sym plain)

pub returns-in-Err-load32 : goal.returns-in-Err-load32
returns-in-Err-load32 g c =
    let low : Low c.args.list c.reg-a.result c.args.regs.now (g.B.Bus.memory c.args.bus.now) c.load_low.new.r =
    record { count = omega arith; size = c.load_low.array_long; loaded = c.in-Ok.ensures.ok } in
    let set : bit_at c.args.list 15 ≡ 1 = grind (arith, common_steps) in
    let load = rw (c.in-Ok.ensures.bytes, c.reg-a.ensures) at c.in-Err-load32.ensures in
    sym (pop_pc_fault c.args.list c.args.size c.in-Err-load32.fault c.args.regs.now (g.B.Bus.memory c.args.bus.now) c.load_low.new.r (rw c.reg-a.ensures at low) c.requires set (sym load))

pub returns-then-target-eq0 : goal.returns-then-target-eq0
returns-then-target-eq0 g c =
    let low : Low c.args.list c.reg-a.result c.args.regs.now (g.B.Bus.memory c.args.bus.now) c.load_low.new.r =
    record { count = omega arith; size = c.load_low.array_long; loaded = c.in-Ok.ensures.ok } in
    let set : bit_at c.args.list 15 ≡ 1 = grind (arith, common_steps) in
    let load = rw (c.in-Ok.ensures.bytes, c.reg-a.ensures) at c.in-Ok-load32.ensures in
    sym (pop_even c.args.list c.args.size c.in-Ok-load32.word c.args.regs.now (g.B.Bus.memory c.args.bus.now) c.load_low.new.r (rw c.reg-a.ensures at low) c.requires set (sym load) (omega arith) c.if-target-eq0.true)

pub returns : goal.returns
returns g c =
    let low : Low c.args.list c.reg-a.result c.args.regs.now (g.B.Bus.memory c.args.bus.now) c.load_low.new.r =
    record { count = omega arith; size = c.load_low.array_long; loaded = c.in-Ok.ensures.ok } in
    let set : bit_at c.args.list 15 ≡ 1 = grind (arith, common_steps) in
    let load = rw (c.in-Ok.ensures.bytes, c.reg-a.ensures) at c.in-Ok-load32.ensures in
    let answer = pop_return c.args.list c.args.size c.in-Ok-load32.word c.args.regs.now (g.B.Bus.memory c.args.bus.now) c.load_low.new.r (rw c.reg-a.ensures at low) c.requires set (sym load) (omega arith) (omega arith) in
    rw (c.go_to.ensures, c.set_register-2.ensures, c.in-Ok.ensures.bytes, c.reg-a.ensures) (sym answer)
