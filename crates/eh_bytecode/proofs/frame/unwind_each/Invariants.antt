use Rattle.std.proofs.Common.{◌≡◌, ◌-◌, ◌≤◌, length}
use Rattle.eh_codes.specs.Cut.{split_codes, split_codes_from}
use Rattle.eh_bytecode.specs.Meaning.{run_codes, unwind_result}
use Rattle.eh_bytecode.proofs.frame.unwind_each.Given as goal

abbrev pub invariant-loop-first : goal.invariant-loop-first
invariant-loop-first g l = record {
  within : length l.left ≤ length l.codes;
  to_do : run_codes (g.B.Bus.memory l.bus).segments l.state (split_codes_from (length l.codes - length l.left) l.left)
      ≡ unwind_result (g.B.Bus.memory l.bus).segments l.initial.vrs.r (split_codes l.codes);
}

abbrev pub decreases-loop-first : goal.decreases-loop-first
decreases-loop-first g l = length l.left
