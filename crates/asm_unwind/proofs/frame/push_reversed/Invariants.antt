use Rattle.std.proofs.Common.{◌≡◌, ◌≤◌, ◌++◌, length}
use Rattle.std.specs.Prelude.{All}
use Rattle.asm_unwind.specs.Codes.{with_pads_if, reversed_bytes, IsWritable}
use Rattle.asm_unwind.proofs.frame.push_reversed.Given as goal

abbrev pub invariant-loop-rest : goal.invariant-loop-rest
invariant-loop-rest l = record {
  pushed : l.bytes.items ++ reversed_bytes (with_pads_if l.pads l.rest) ≡ l.initial.bytes.items ++ reversed_bytes (with_pads_if l.pads l.initial.rest);
  within : length l.rest ≤ length l.initial.rest;
  writable : All IsWritable l.rest;
}

abbrev pub decreases-loop-rest : goal.decreases-loop-rest
decreases-loop-rest l = length l.rest
