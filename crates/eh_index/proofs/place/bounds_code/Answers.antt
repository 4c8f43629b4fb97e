use Rattle.std.proofs.Common.{sym, ◌∙◌}
use Rattle.eh_index.proofs.Places.{bound_here, bound_before, bound_nowhere}
use Rattle.eh_index.proofs.place.bounds_code.Goals as goal

pub returns-then-executes : goal.returns-then-executes
returns-then-executes c = c.if-executes.true ∙ bound_here c.args.image.now c.args.a c.executes.ensures.sound (sym c.executes.ensures.executes ∙ c.if-executes.true)

pub returns-then-a-gt0 : goal.returns-then-a-gt0
returns-then-a-gt0 c =
    c.executes-then-a-gt0.ensures.executes
    ∙ bound_before c.args.image.now c.args.a c.executes.ensures.sound (sym c.executes.ensures.executes ∙ c.if-executes.false) c.if-a-gt0.true

pub returns-else-a-gt0 : goal.returns-else-a-gt0
returns-else-a-gt0 c = bound_nowhere c.args.image.now c.args.a c.executes.ensures.sound (sym c.executes.ensures.executes ∙ c.if-executes.false) c.if-a-gt0.false
