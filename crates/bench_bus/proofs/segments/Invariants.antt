use Rattle.std.proofs.Common.{◌≡◌, length}
use Rattle.eh_bus.proofs.BuiltLemmas.{Spaced}
use Rattle.bench_bus.specs.declared.TheConstants.{FIRST, STEP}
use Rattle.bench_bus.proofs.segments.Given as goal

abbrev pub invariant-loop-number : goal.invariant-loop-number
invariant-loop-number l = record { count : length l.all.items ≡ l.number; spaced : Spaced l.all.items FIRST STEP }
