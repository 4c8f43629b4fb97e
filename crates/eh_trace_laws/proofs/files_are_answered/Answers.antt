use Rattle.eh_trace_laws.proofs.Files.{answered}
use Rattle.eh_trace_laws.proofs.files_are_answered.Goals as goal

pub returns : goal.returns
returns c = answered
