use Rattle.std.proofs.Common.{refl}
use Rattle.eh_phase.proofs.verdict.desc_verdict.Goals as goal

pub returns-in-Spec : goal.returns-in-Spec
returns-in-Spec g c = rw (c.unless_named.ensures, c.first_hit.ensures, c.in-Spec.is) refl
