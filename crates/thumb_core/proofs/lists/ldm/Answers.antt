use Rattle.std.proofs.Common.{◌≡◌, ◌%◌, ◌^◌, arith, sym}
use Rattle.std.specs.Int.{bit_at}
use Rattle.std.proofs.lemmas.Grind.{common_steps}
use Rattle.thumb_core.proofs.Popped.{Low, ldm_fault, ldm_kept, ldm_after}
use Rattle.thumb_core.proofs.lists.ldm.Goals as goal
use Rattle.thumb_core.proofs.lists.ldm.Goals.{then-list-n-eq0, else-list-n-eq0}

pub returns-after-list-n-eq0 : goal.returns-after-list-n-eq0
returns-after-list-n-eq0 g c =
    let whole : c.args.list % 2 ^ 8 ≡ c.args.list = omega arith in
    let low : Low c.args.list c.reg-a.result c.args.regs.now (g.B.Bus.memory c.args.bus.now) c.load_low.new.r =
    record { count = omega arith; size = c.load_low.array_long; loaded = rw whole c.in-Ok.ensures.ok } in
    elim c.if-list-n-eq0.branch [
      | then-list-n-eq0 w ↦
          let clear : bit_at c.args.list c.args.n ≡ 0 = grind (arith, common_steps) in
          let answer = ldm_after c.args.n c.args.list c.args.size c.args.regs.now (g.B.Bus.memory c.args.bus.now) c.load_low.new.r (rw c.reg-a.ensures at low) c.requires.list_in (omega arith) clear in
          rw (c.advance.ensures, w.regs-is, w.set_register.ensures, c.in-Ok.ensures.bytes, c.reg-a.ensures) (sym (rw whole at answer))
      | else-list-n-eq0 w ↦
          let set : bit_at c.args.list c.args.n ≡ 1 = grind (arith, common_steps) in
          rw (c.advance.ensures, w.regs-is)
          (sym (ldm_kept c.args.n c.args.list c.args.size c.args.regs.now (g.B.Bus.memory c.args.bus.now) c.load_low.new.r (rw c.reg-a.ensures at low) c.requires.list_in set))
    ]

pub returns-in-Err : goal.returns-in-Err
returns-in-Err g c =
    let whole : c.args.list % 2 ^ 8 ≡ c.args.list = omega arith in
    sym (ldm_fault c.args.n c.args.list c.args.size c.args.regs.now (g.B.Bus.memory c.args.bus.now) c.in-Err.fault (omega arith) (rw (whole, ← c.reg-a.ensures) c.in-Err.ensures.fault))
