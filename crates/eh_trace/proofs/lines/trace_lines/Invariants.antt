use Rattle.std.proofs.Common.{◌≡◌, take}
use Rattle.std.specs.Prelude.{flat_map}
use Rattle.eh_trace.specs.Text.{event_line}
use Rattle.eh_trace.proofs.lines.trace_lines.Given as goal

abbrev pub invariant-loop-e : goal.invariant-loop-e
invariant-loop-e g l = l.out.items ≡ flat_map (event_line l.image (g.T.TypeNames.name_of l.types)) (take l.e-index l.e-items)
