-- A call that ended well, or early, is what is promised of the program.
use Rattle.std.proofs.Common.{ℕ, List, Option, Ok, Err, ap, inl, inr}
use Rattle.std.proofs.lemmas.Bool.{false≢true}
use Rattle.cmd_answers.specs.Files.{FileState}
use Rattle.cmd_answers.specs.Statuses.{IsReported}
use Rattle.cmd_answers.specs.Writes.{stop_status}
use Rattle.cmd_answers.specs.declared.stop.Stop.{Stop}
use Rattle.cmd_answers.proofs.Stops.{some_more, none_of, inconclusive, bounded, read_is, write_is, memory_is, want}
use Rattle.audit_top.specs.Answered.{IsAuditAnswer}
use Rattle.audit_top.specs.Does.{Does, Why}
use Rattle.audit_top.specs.Words.{name_of}

pub ended_well : (words : List (List ℕ)) (files files' : FileState) (a b : Option (List ℕ)) (f g status : ℕ) → Does (name_of words) files files' (Ok status) a b f g → IsAuditAnswer words files files' a b f g status
ended_well words files files' a b f g status d =
    let s : IsReported status = d.status in
    record {
      report = λ h. d.whole;
      part = d.part;
      done = λ h. some_more files.held _ _ (λ held (w : Why (name_of words) held status). w.done) d.why;
      refused = λ h. some_more files.held _ _ (λ held (w : Why (name_of words) held status). w.refused) d.why;
      missing = λ h. some_more files.held _ _ (λ held (w : Why (name_of words) held status). w.missing) d.why;
      usage = λ h. d.usage;
      read = λ e. absurd (false≢true (none_of status 7 s.conclusive e));
      write = λ e. absurd (false≢true (none_of status 8 s.conclusive e));
      memory = λ e. absurd (false≢true (none_of status 9 s.conclusive e));
      asked = d.asked;
      complete = λ h o. inr d.whole;
      bounded = s.bounded;
    }

pub ended_early : (words : List (List ℕ)) (files files' : FileState) (a b : Option (List ℕ)) (f g : ℕ) (stop : Stop) → Does (name_of words) files files' (Err stop) a b f g → IsAuditAnswer words files files' a b f g (stop_status stop)
ended_early words files files' a b f g stop d = record {
  report = λ h. absurd (inconclusive stop h);
  part = d.part;
  done = λ h. absurd (inconclusive stop h);
  refused = λ h. absurd (inconclusive stop h);
  missing = λ h. absurd (inconclusive stop h);
  usage = λ h. absurd (inconclusive stop h);
  read = λ e. d.read (ap Err (read_is stop e));
  write = λ e. d.write (ap Err (write_is stop e));
  memory = λ e. d.memory (ap Err (memory_is stop e));
  asked = d.asked;
  complete = λ h o. inl (want stop (λ e. h (d.read (ap Err e))) (λ e. o (d.write (ap Err e))));
  bounded = bounded stop;
}
