use Rattle.std.proofs.Common.{◌≡◌, ℕ, ◌+◌, ◌<◌, get_or, false}
use Rattle.mem_guards.specs.Flags.{flags_of}
use Rattle.mem_guards.proofs.guards.are_off_by_word.Given as goal

abbrev pub invariant-loop-k : goal.invariant-loop-k
invariant-loop-k l = (n : ℕ) → n < l.k → get_or (flags_of l.numbers) (l.i + n) false ≡ false
