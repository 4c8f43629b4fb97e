use Rattle.std.proofs.Common.{◌≡◌, ◌++◌, replicate}
use Rattle.std.specs.Prelude.{flat_map}
use Rattle.eh_codes.specs.declared.code.UnwindCode.TheVariants.{Lower}
use Rattle.eh_codes.specs.Bytes.{code_bytes}
use Rattle.asm_unwind.specs.declared.code.TheConstants.{WORDS_OF_MOST_STEP}
use Rattle.asm_unwind.proofs.code.push_lower.Given as goal

abbrev pub invariant-loop-step : goal.invariant-loop-step
invariant-loop-step l = l.bytes.items ≡ l.initial.bytes.items ++ flat_map code_bytes (replicate l._step (Lower WORDS_OF_MOST_STEP))
