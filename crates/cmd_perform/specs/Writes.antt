-- What a call that ends a run guarantees.
use Rattle.std.specs.Prelude.{ℕ, ◌⊎◌, List, Option, Result}
use Rattle.std.specs.Bool.{OnFalse, OnTrue}
use Rattle.cmd_input.specs.Loading.{Closing, stop_of_fault}
use Rattle.cmd_answers.specs.Writes.{Answers, StopsEarly}
use Rattle.cmd_answers.specs.declared.stop.Stop.{Stop}
use Rattle.cmd_answers.specs.declared.stop.Stop.TheVariants.{Memory}
use Rattle.run_gates.specs.Ends.{is_fault}
use Rattle.thumb_core.specs.declared.ends.End.{End}

-- a call that ends a run with what follows the guest's bytes, or found no memory for it; if the run ended by a fault it writes nothing
pub record AnswersRun (closing : Closing) (end : End) (result : Result ℕ Stop) (before now : Option (List ℕ)) (faults_before faults_now : ℕ) : Type 0 where
  pub fine : OnFalse (is_fault end) (Answers closing.text closing.status result before now faults_before faults_now ⊎ StopsEarly Memory result before now faults_before faults_now)
  pub fault : OnTrue (is_fault end) (StopsEarly (stop_of_fault end) result before now faults_before faults_now)
