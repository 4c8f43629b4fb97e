-- What a call that audits a file does.
use Rattle.std.proofs.Common.{◌≡◌, ℕ, List, Option, Some, None, IfSome, Result, Ok, Err, inl, inr, refl, sym, subst, arith}
use Rattle.std.specs.Prelude.{◌↔◌, IfOk}
use Rattle.std.proofs.KnownBytes.{Keeps-refl}
use Rattle.elf_image.specs.Image.{image_of}
use Rattle.eh_port.specs.FileList.{answer_of, FileCause}
use Rattle.eh_port.specs.declared.files.FileAnswer.{FileAnswer}
use Rattle.eh_port.specs.declared.files.FileAnswer.TheVariants.{Found}
use Rattle.eh_port.specs.declared.files.FileFault.{FileFault}
use Rattle.eh_port.specs.declared.files.FileFault.TheVariants.{Failed, OutOfMemory}
use Rattle.eh_port.specs.Causes.{Rose}
use Rattle.cmd_answers.specs.Files.{FileState, IsUnavailable}
use Rattle.cmd_answers.specs.Statuses.{IsReported}
use Rattle.cmd_answers.specs.Writes.{Answers, stop_of}
use Rattle.cmd_answers.specs.declared.status.TheConstants.{DONE, USAGE, REFUSED, FILE_UNAVAILABLE}
use Rattle.cmd_answers.specs.declared.stop.Stop.{Stop}
use Rattle.cmd_answers.specs.declared.stop.Stop.TheVariants.{Read, Write, Memory}
use Rattle.cmd_answers.proofs.Answering.{of_status, only_write}
use Rattle.cmd_answers.proofs.Statuses.{unavailable_reported, usage_reported}
use Rattle.cmd_answers.proofs.Stops.{some_more}
use Rattle.audit_top.specs.Does.{DoesWhole, Judges, Tells, Why, Does}
use Rattle.audit_top.specs.Report.{AuditReport, audit_report, FoundReports, ReadReports, Reports, IsAcceptedRead, IsAcceptedAnswer, IsRefusedAnswer}
use Rattle.audit_top.specs.Text.{usage}
use Rattle.audit_top.specs.declared.report.TheConstants.{MOST_BYTES}
use Rattle.audit_top.proofs.Tellings.{IsOfBytes, read_status, whole_as, part_as}

abbrev Held : Type 0
Held = List (List ℕ × List ℕ)

-- ---- a file that is there

status_there : (result : Result ℕ Stop) (bytes : List ℕ) (a b : Option (List ℕ)) → IfOk result (λ s. DoesWhole (ReadReports (image_of bytes)) s a b) → IfOk result IsOfBytes
status_there (Ok s) bytes a b w = subst IsOfBytes (sym w.status_is) (read_status (image_of bytes) w.report w.is)
status_there (Err stop) bytes a b w = tt

module _ (name : List ℕ) (files files' : FileState) (a b : Option (List ℕ)) (f g : ℕ) (kept : files'.faults ≡ files.faults) (asked : files'.asked ≡ files.with_name files.asked name) where
  module _ (bytes : List ℕ) (found : IfSome files.held (λ held. Found bytes ≡ answer_of held name MOST_BYTES)) where
    says_there : (held : Held) → Found bytes ≡ answer_of held name MOST_BYTES → (r : AuditReport) → ReadReports (image_of bytes) r → Reports (Some name) held r
    says_there held e r s = subst (λ (x : FileAnswer). FoundReports name x r) e s

    why_there : (held : Held) (status : ℕ) → Found bytes ≡ answer_of held name MOST_BYTES → Judges (IsAcceptedRead (image_of bytes)) status → IsOfBytes status → Why (Some name) held status
    why_there held status e j of = record {
      done = subst (λ (x : FileAnswer). (status ≡ DONE) ↔ IsAcceptedAnswer x) e j.done;
      refused = subst (λ (x : FileAnswer). (status ≡ REFUSED) ↔ IsRefusedAnswer x) e j.refused;
      missing = subst (λ (x : FileAnswer). (status ≡ FILE_UNAVAILABLE) ↔ IsUnavailable x) e ((λ h. absurd (of.there h)), (λ l. absurd l));
    }

    why_found : (result : Result ℕ Stop) → IfOk result (Judges (IsAcceptedRead (image_of bytes))) → IfOk result IsOfBytes → IfOk result (λ status. IfSome files.held (λ held. Why (Some name) held status))
    why_found (Ok s) j of = some_more files.held _ _ (λ held e. why_there held s e j of) found
    why_found (Err stop) j of = tt

    reported : (result : Result ℕ Stop) → IfOk result IsOfBytes → IfOk result IsReported
    reported (Ok s) of = of.of.reported
    reported (Err stop) of = tt

    no_usage : (result : Result ℕ Stop) → IfOk result IsOfBytes → IfOk result (λ status. (status ≡ USAGE) ↔ (Some name ≡ None))
    no_usage (Ok s) of = ((λ h. absurd (of.of.other h)), (λ e. absurd (cc)))
    no_usage (Err stop) of = tt

    pub does_found : (result : Result ℕ Stop) → Tells (ReadReports (image_of bytes)) (IsAcceptedRead (image_of bytes)) result a b f g → Does (Some name) files files' result a b f g
    does_found result t =
        let of = status_there result bytes a b t.whole in
        record {
          whole = some_more files.held _ _ (λ held e. whole_as _ _ result a b (says_there held e) t.whole) found;
          part = some_more files.held _ _ (λ held e. part_as _ _ a b (says_there held e) t.part) found;
          why = why_found result t.judges of;
          read = λ e. absurd (t.read e);
          write = t.write;
          memory = λ e. (kept, t.memory e);
          status = reported result of;
          usage = no_usage result of;
          asked = asked;
        }

  -- ---- a file that isn't

  module _ (answer : FileAnswer) (line : List ℕ) (found : IfSome files.held (λ held. answer ≡ answer_of held name MOST_BYTES)) (lacks : IsUnavailable answer) (unaccepted : IsAcceptedAnswer answer → ⊥) (unrefused : IsRefusedAnswer answer → ⊥) (is : FoundReports name answer (audit_report line FILE_UNAVAILABLE)) where
    lacks_says : (held : Held) → answer ≡ answer_of held name MOST_BYTES → Reports (Some name) held (audit_report line FILE_UNAVAILABLE)
    lacks_says held e = subst (λ (x : FileAnswer). FoundReports name x (audit_report line FILE_UNAVAILABLE)) e is

    lacks_whole : (result : Result ℕ Stop) → Answers line FILE_UNAVAILABLE result a b f g → (held : Held) → answer ≡ answer_of held name MOST_BYTES → IfOk result (λ s. DoesWhole (Reports (Some name) held) s a b)
    lacks_whole (Ok s) w held e = record { report = audit_report line FILE_UNAVAILABLE; is = lacks_says held e; status_is = w.status_is; wrote = w.ok }
    lacks_whole (Err stop) w held e = tt

    lacks_why : (held : Held) → answer ≡ answer_of held name MOST_BYTES → Why (Some name) held FILE_UNAVAILABLE
    lacks_why held e = record {
      done = subst (λ (x : FileAnswer). (FILE_UNAVAILABLE ≡ DONE) ↔ IsAcceptedAnswer x) e ((λ h. absurd (omega (arith, h))), (λ h. absurd (unaccepted h)));
      refused = subst (λ (x : FileAnswer). (FILE_UNAVAILABLE ≡ REFUSED) ↔ IsRefusedAnswer x) e ((λ h. absurd (omega (arith, h))), (λ h. absurd (unrefused h)));
      missing = subst (λ (x : FileAnswer). (FILE_UNAVAILABLE ≡ FILE_UNAVAILABLE) ↔ IsUnavailable x) e ((λ _. lacks), (λ _. refl));
    }

    pub does_lack : (result : Result ℕ Stop) → Answers line FILE_UNAVAILABLE result a b f g → Does (Some name) files files' result a b f g
    does_lack result w = record {
      whole = some_more files.held _ _ (λ held e. lacks_whole result w held e) found;
      part = some_more files.held _ _ (λ held e. inr (record { report = audit_report line FILE_UNAVAILABLE; is = lacks_says held e; wrote = w.part })) found;
      why = of_status (λ s. IfSome files.held (λ held. Why (Some name) held s)) line FILE_UNAVAILABLE result a b f g (some_more files.held _ _ (λ held e. lacks_why held e) found) w;
      read = λ e. absurd (let no = (only_write line FILE_UNAVAILABLE result Read a b f g w e).0 in cc);
      write = λ e. (only_write line FILE_UNAVAILABLE result Write a b f g w e).1;
      memory = λ e. absurd (let no = (only_write line FILE_UNAVAILABLE result Memory a b f g w e).0 in cc);
      status = of_status IsReported line FILE_UNAVAILABLE result a b f g unavailable_reported.reported w;
      usage = of_status (λ s. (s ≡ USAGE) ↔ (Some name ≡ None)) line FILE_UNAVAILABLE result a b f g ((λ h. absurd (omega (arith, h))), (λ e. absurd (cc))) w;
      asked = asked;
    }

-- ---- a file that isn't read

told_nothing : {X : Type 0} (o : Option X) (P : X → Type 0) → ((x : X) → P x) → IfSome o P
told_nothing None P p = tt
told_nothing (Some x) P p = p x

unread_cause : (fault : FileFault) (before now : ℕ) → FileCause {T = FileAnswer} before now (Err fault) → stop_of fault ≡ Read → Rose before now
unread_cause Failed before now cause e = cause.failed refl
unread_cause OutOfMemory before now cause e = absurd (let no : Memory ≡ Read = e in cc)

unread_write : (fault : FileFault) → stop_of fault ≡ Write → ⊥
unread_write Failed e = let no : Read ≡ Write = e in cc
unread_write OutOfMemory e = let no : Memory ≡ Write = e in cc

unread_memory : (fault : FileFault) (before now : ℕ) → FileCause {T = FileAnswer} before now (Err fault) → stop_of fault ≡ Memory → now ≡ before
unread_memory Failed before now cause e = absurd (let no : Read ≡ Memory = e in cc)
unread_memory OutOfMemory before now cause e = cause.memory refl

pub does_unread : (name : List ℕ) (files files' : FileState) (fault : FileFault) (a : Option (List ℕ)) (f : ℕ) → FileCause {T = FileAnswer} files.faults files'.faults (Err fault) → files'.asked ≡ files.with_name files.asked name
    → Does (Some name) files files' (Err (stop_of fault)) a a f f
does_unread name files files' fault a f cause asked = record {
  whole = told_nothing files.held _ (λ held. tt);
  part = told_nothing files.held _ (λ held. inl (Keeps-refl a));
  why = tt;
  read = λ e. unread_cause fault files.faults files'.faults cause (let is : stop_of fault ≡ Read = cc in is);
  write = λ e. absurd (unread_write fault (let is : stop_of fault ≡ Write = cc in is));
  memory = λ e. (unread_memory fault files.faults files'.faults cause (let is : stop_of fault ≡ Memory = cc in is), refl);
  status = tt;
  usage = tt;
  asked = asked;
}

-- ---- words that name no file

usage_whole : (result : Result ℕ Stop) (a b : Option (List ℕ)) (f g : ℕ) → Answers usage USAGE result a b f g → (held : Held) → IfOk result (λ s. DoesWhole (Reports None held) s a b)
usage_whole (Ok s) a b f g w held = record { report = audit_report usage USAGE; is = refl; status_is = w.status_is; wrote = w.ok }
usage_whole (Err stop) a b f g w held = tt

usage_why : (held : Held) → Why None held USAGE
usage_why held = record {
  done = ((λ h. absurd (omega (arith, h))), (λ h. absurd h));
  refused = ((λ h. absurd (omega (arith, h))), (λ h. absurd h));
  missing = ((λ h. absurd (omega (arith, h))), (λ h. absurd h));
}

pub does_usage : (files : FileState) (result : Result ℕ Stop) (a b : Option (List ℕ)) (f g : ℕ) → Answers usage USAGE result a b f g → Does None files files result a b f g
does_usage files result a b f g w = record {
  whole = usage_whole result a b f g w;
  part = λ held. inr (record { report = audit_report usage USAGE; is = refl; wrote = w.part });
  why = of_status (λ s. IfSome files.held (λ held. Why None held s)) usage USAGE result a b f g (told_nothing files.held _ usage_why) w;
  read = λ e. absurd (let no = (only_write usage USAGE result Read a b f g w e).0 in cc);
  write = λ e. (only_write usage USAGE result Write a b f g w e).1;
  memory = λ e. absurd (let no = (only_write usage USAGE result Memory a b f g w e).0 in cc);
  status = of_status IsReported usage USAGE result a b f g usage_reported w;
  usage = of_status (λ s. (s ≡ USAGE) ↔ (◌≡◌ {A = Option (List ℕ)} None None)) usage USAGE result a b f g ((λ _. refl), (λ _. refl)) w;
  asked = refl;
}
