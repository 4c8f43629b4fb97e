use Rattle.eh_trace_laws.proofs.Traces.{traces}
use Rattle.eh_trace_laws.proofs.traces_are_written.Goals as goal

pub returns : goal.returns
returns c = traces
