use Rattle.std.proofs.Common.{sym}
use Rattle.eh_phase.proofs.Unwound.{finished}
use Rattle.eh_phase.proofs.walk.unwinds.Goals as goal

pub returns-in-Finished : goal.returns-in-Finished
returns-in-Finished g c = sym (finished _ _ _ _ c.in-Finished.ensures)
