use Rattle.eh_phase_laws.proofs.Heard.{outside_is_passed, cleanups_are_entered}
use Rattle.eh_phase_laws.proofs.catches.scopes_are_half_open.Goals as goal

pub returns : goal.returns
returns c = record { outside = outside_is_passed; cleanup = cleanups_are_entered }
