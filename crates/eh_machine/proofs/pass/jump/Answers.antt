use Rattle.std.proofs.Common.{ℕ, ap, arith}
use Rattle.thumb_core.specs.declared.regs.Stepped.TheVariants.{Done}
use Rattle.eh_gates.specs.State.{state_of}
use Rattle.eh_machine.specs.Passes.{at_of}
use Rattle.eh_machine.proofs.Passing.{went_on, was_done, jump_passes}
use Rattle.eh_machine.proofs.pass.jump.Goals as goal

pub returns : goal.returns
returns g c = λ p is.
    let m = g.B.Bus.memory c.args.bus.now in
    was_done p c.args.core.now m _ _ Done (λ number e. absurd (cc)) (went_on p c.args.core.now m _ _ Done (λ events.
    jump_passes p (state_of c.args.core.now m events) (at_of c.args.at.now) c.args.to c.home-low.result.0 is.roles.reached is.there c.requires.told
    (ap (λ (h : ℕ × ℕ). h.0) c.home-low.ensures) (omega arith))
    (λ number events gate. absurd (cc)))
