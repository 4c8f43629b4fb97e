use Rattle.std.proofs.Common.{◌≡◌, ◌++◌, map}
use Rattle.asm_object.specs.Objects.{symbol_of}
use Rattle.asm_object.proofs.symbols.symbols.Given as goal

abbrev pub invariant-loop-name : goal.invariant-loop-name
invariant-loop-name l = l.symbols.items ++ map symbol_of l.name-iterator ≡ map symbol_of l.fn.labels
