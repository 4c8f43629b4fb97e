use Rattle.eh_types.specs.Reading.{open_types, IsReading, work_with}
use Rattle.eh_types.proofs.reader.read_all.Given as goal

abbrev pub invariant-loop-state : goal.invariant-loop-state
invariant-loop-state l = IsReading l.source.image.now l.source.roots.now l.state

abbrev pub decreases-loop-state : goal.decreases-loop-state
decreases-loop-state l = work_with l.state (open_types l.state)
