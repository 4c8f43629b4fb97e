use Rattle.std.proofs.Common.{◌≡◌}
use Rattle.eh_kit.specs.Program.{random_number}
use Rattle.eh_kit.proofs.Joined.{before}
use Rattle.eh_kit.proofs.program_text.generate.Given as goal

abbrev pub invariant-loop-function : goal.invariant-loop-function
invariant-loop-function l = record { number_drawn : l.drawn ≡ random_number l.number l.function; text : l.out.items ≡ before l.number l.functions l.function }
