-- A call of a command that ended well, or early, is what is promised of the program.
use Rattle.std.proofs.Common.{◌⊎◌, ℕ, List, Ok, Err, refl, ap, inl, inr}
use Rattle.std.proofs.lemmas.Bool.{false≢true}
use Rattle.cmd_answers.specs.declared.stop.Stop.{Stop}
use Rattle.cmd_top.specs.Answered.{IsAnswer}
use Rattle.cmd_answers.specs.Statuses.{IsReported}
use Rattle.cmd_perform.specs.Report.{Does, Why}
use Rattle.cmd_input.specs.Words.{command_of}
use Rattle.cmd_answers.specs.Writes.{stop_status}
use Rattle.cmd_answers.specs.Files.{FileState}
use Rattle.cmd_perform.specs.Yields.{Streams}
use Rattle.cmd_answers.proofs.Stops.{some_more, none_of, inconclusive, bounded, read_is, write_is, memory_is, want}
use Rattle.cmd_input.proofs.FilesAsked.{asks_more, asks_never}

pub ended_well : (words : List (List ℕ)) (files files' : FileState) (old new : Streams) (status : ℕ) → Does (command_of words) files files' old new (Ok status) → IsAnswer words files files' old new status
ended_well words files files' old new status d =
    let s : IsReported status = d.status in
    record {
      report = λ h. d.whole;
      part = d.part;
      read = λ e. absurd (false≢true (none_of status 7 s.conclusive e));
      write = λ e. absurd (false≢true (none_of status 8 s.conclusive e));
      memory = λ e. absurd (false≢true (none_of status 9 s.conclusive e));
      usage = λ h. d.usage;
      missing = λ h. some_more files.held _ _ (λ held (w : Why (command_of words) held old.input status). w.missing) d.why;
      refused = λ h. some_more files.held _ _ (λ held (w : Why (command_of words) held old.input status). w.refused) d.why;
      asked = asks_more _ _ _ _ _ files files' (λ h. refl) (λ h l. l) d.asked;
      complete = λ f i o. inr d.whole;
      bounded = s.bounded;
    }

either_not : {A B : Type 0} → (A → ⊥) → (B → ⊥) → A ⊎ B → ⊥
either_not f g (inl a) = f a
either_not f g (inr b) = g b

pub ended_early : (words : List (List ℕ)) (files files' : FileState) (old new : Streams) (stop : Stop) → Does (command_of words) files files' old new (Err stop) → IsAnswer words files files' old new (stop_status stop)
ended_early words files files' old new stop d = record {
  report = λ h. absurd (inconclusive stop h);
  part = d.part;
  read = λ e. d.read (ap Err (read_is stop e));
  write = λ e. d.write (ap Err (write_is stop e));
  memory = λ e. d.memory (ap Err (memory_is stop e));
  usage = λ h. absurd (inconclusive stop h);
  missing = λ h. absurd (inconclusive stop h);
  refused = λ h. absurd (inconclusive stop h);
  asked = asks_never _ _ _ _ _ files files' (inconclusive stop) d.asked;
  complete = λ f i o. inl (want stop (λ e. either_not f i (d.read (ap Err e))) (λ e. o (d.write (ap Err e))));
  bounded = bounded stop;
}
