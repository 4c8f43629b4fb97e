use Rattle.eh_phase_laws.proofs.Ended.{uncovered_ends, frames_end}
use Rattle.eh_phase_laws.proofs.frame_ends.frames_end_by_cause.Goals as goal

pub returns : goal.returns
returns c = record { uncovered = uncovered_ends; covered = frames_end }
