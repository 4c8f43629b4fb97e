use Rattle.eh_gate_laws.proofs.CallAnswers.{calls_answer as told}
use Rattle.eh_gate_laws.proofs.calls_answer.Goals as goal

pub returns : goal.returns
returns c = told
