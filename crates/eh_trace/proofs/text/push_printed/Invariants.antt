use Rattle.std.proofs.Common.{◌≡◌, ◌++◌, map, take}
use Rattle.eh_trace.specs.Text.{printable_byte}
use Rattle.eh_trace.proofs.text.push_printed.Given as goal

abbrev pub invariant-loop-b : goal.invariant-loop-b
invariant-loop-b l = l.out.items ≡ l.initial.out.items ++ map printable_byte (take l.b-index l.text)
