use Rattle.std.proofs.Common.{◌≡◌, length}
use Rattle.eh_bus.proofs.BuiltLemmas.{Spaced}
use Rattle.test_calls.proofs.pages.one_byte_each.Given as goal

abbrev pub invariant-loop-k : goal.invariant-loop-k
invariant-loop-k l = record { count : length l.all.items ≡ l.k; spaced : Spaced l.all.items 0x8000 1 }
