use Rattle.std.proofs.Common.{◌≡◌, ◌++◌, drop, false}
use Rattle.asm_read.specs.Tokens.{unescape}
use Rattle.asm_read.proofs.build.unescape.Given as goal

abbrev pub invariant-loop-b : goal.invariant-loop-b
invariant-loop-b l = l.bytes.items ++ unescape l.escaped (drop l.b-index l.inside) ≡ unescape false l.inside
