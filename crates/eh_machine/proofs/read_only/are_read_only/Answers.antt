use Rattle.std.proofs.Common.{◌+◌, ◌%◌, ◌^◌, refl, subst}
use Rattle.eh_bus.specs.Memory.{Memory}
use Rattle.eh_bus.specs.Map.{IsFixed}
use Rattle.eh_machine.proofs.Confirmed.{stand_fast}
use Rattle.eh_machine.proofs.read_only.are_read_only.Goals as goal

pub returns-then-not-is_wide-clause-fast : goal.returns-then-not-is_wide-clause-fast
returns-then-not-is_wide-clause-fast g c = λ e has.
    stand_fast (g.B.Bus.memory c.args.bus.now) c.args.address c.args.halfwords.now (c.if-not-is_read_only.ensures.fixed refl) (λ w. absurd (cc (w, c.if-not-is_wide.ensures))) has

pub returns-clause-fast : goal.returns-clause-fast
returns-clause-fast g c = λ e has.
    stand_fast (g.B.Bus.memory c.args.bus.now) c.args.address c.args.halfwords.now (c.if-not-is_read_only.ensures.fixed refl)
    (λ w. subst (λ (k : Memory). IsFixed 2 k.segments ((c.args.address + 2) % 2 ^ 32)) c.is_read_only.ensures.same (c.is_read_only-2.ensures.fixed e)) has
