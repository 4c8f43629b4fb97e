-- Why a question has no answer.
use Rattle.std.specs.Prelude.{◌≡◌}
use Rattle.std.specs.IoError.{error_kind}
use Rattle.std.specs.declared.io.Error.{Error}
use Rattle.std.specs.declared.io.ErrorKind.TheVariants.{OutOfMemory}
use Rattle.test_rows.specs.declared.unanswered.Unanswered.{Unanswered}
use Rattle.test_rows.specs.declared.unanswered.Unanswered.TheVariants.{Failed}

-- no memory was left
abbrev pub IsWantOfMemory : Unanswered → Type 0
IsWantOfMemory refusal = (fault : Error) × (refusal ≡ Failed fault) × (error_kind fault ≡ OutOfMemory)
