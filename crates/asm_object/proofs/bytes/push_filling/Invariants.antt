use Rattle.std.proofs.Common.{◌≡◌, ◌++◌}
use Rattle.asm_object.specs.Bytes.{fillers}
use Rattle.asm_object.proofs.bytes.push_filling.Given as goal

abbrev pub invariant-loop-i : goal.invariant-loop-i
invariant-loop-i l = l.bytes ≡ l.initial.bytes ++ fillers l._i
