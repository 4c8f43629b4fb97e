use Rattle.std.proofs.Common.{◌≡◌, drop}
use Rattle.eh_bytecode.proofs.codes.Codes.skip_bytes.Given as goal

abbrev pub invariant-loop-passed : goal.invariant-loop-passed
invariant-loop-passed l = l.self ≡ drop l._passed l.initial.self
