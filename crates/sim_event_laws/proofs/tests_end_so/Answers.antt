use Rattle.sim_event_laws.proofs.Tests.{end_so}
use Rattle.sim_event_laws.proofs.tests_end_so.Goals as goal

pub returns : goal.returns
returns c = end_so
