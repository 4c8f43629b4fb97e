-- What a call that writes a report tells.
use Rattle.std.proofs.Common.{◌≡◌, ℕ, ◌==◌, ◌&&◌, List, [], length, Bool, true, false, Option, Some, None, Result, Ok, Err, inl, inr, refl, sym, ap, subst, ◌∙◌, arith}
use Rattle.std.specs.Prelude.{◌↔◌, IfOk}
use Rattle.std.proofs.KnownBytes.{Keeps-refl}
use Rattle.std.proofs.lemmas.Bool.{and_parts, false≢true}
use Rattle.elf_image.specs.Image.{Image, image_of}
use Rattle.elf_image.specs.declared.fault.ImageFault.{ImageFault}
use Rattle.eh_index.specs.Refusal.{index_refusal, unless_refused}
use Rattle.eh_index.specs.declared.fault.IndexFault.{IndexFault}
use Rattle.elf_write.specs.Layout.{write_result}
use Rattle.frame_check.specs.Accepts.{IsAccepted}
use Rattle.frame_audit.specs.Audits.{Audit, IsAudit, is_clear}
use Rattle.gnu_index.specs.declared.refusal.GnuFault.{GnuFault}
use Rattle.gnu_index.specs.declared.tables.RefusedEntry.{RefusedEntry}
use Rattle.gnu_rewrite.specs.Parts.{new_parts, new_tables}
use Rattle.gnu_rewrite.specs.Refusal.{rewrite_refusal}
use Rattle.cmd_lines.specs.CheckText.{index_line}
use Rattle.cmd_lines.specs.TablesText.{tables_line}
use Rattle.cmd_answers.specs.Statuses.{IsOfCommand}
use Rattle.cmd_answers.specs.Writes.{Answers}
use Rattle.cmd_answers.specs.declared.status.TheConstants.{REFUSED, FILE_UNAVAILABLE}
use Rattle.cmd_answers.specs.declared.stop.Stop.{Stop}
use Rattle.cmd_answers.specs.declared.stop.Stop.TheVariants.{Read, Write, Memory}
use Rattle.cmd_answers.proofs.Statuses.{done_reported, refused_reported}
use Rattle.audit_top.specs.Does.{DoesWhole, DoesPart, Judges, Tells}
use Rattle.audit_top.specs.Report.{AuditReport, audit_report, clear_status, status_of, IndexAudits, ReadAudits, WrittenAudits, TablesReports, RowsReports, IndexReports, ImageReports, ReadReports, IsWrittenChecked, AreTablesAccepted, IsAcceptedBy, IsAcceptedImage}
use Rattle.audit_top.specs.Tables.{has_generic}
use Rattle.audit_top.specs.Text.{audit_text}
use Rattle.audit_top.specs.Writing.{Writes}
use Rattle.audit_top.proofs.Entries.{no_line_is_translated, translated_is_rewritten}
use Rattle.audit_top.proofs.Listed.{both_true, none_refused, no_refused}

-- ---- statuses

pub judges_clear : (accepted : Type 0) (clear : Bool) → (clear ≡ true) ↔ accepted → Judges accepted (clear_status clear)
judges_clear accepted true i = record { done = ((λ _. i.0 refl), (λ _. refl)); refused = ((λ h. absurd (omega (arith, h))), (λ n. absurd (n (i.0 refl)))) }
judges_clear accepted false i = record { done = ((λ h. absurd (omega (arith, h))), (λ a. absurd (false≢true (i.1 a)))); refused = ((λ _ a. false≢true (i.1 a)), (λ _. refl)) }

pub judges_refused : (accepted : Type 0) → (accepted → ⊥) → Judges accepted REFUSED
judges_refused accepted n = record { done = ((λ h. absurd (omega (arith, h))), (λ a. absurd (n a))); refused = ((λ _. n), (λ _. refl)) }

-- ---- calls

module _ (Says : AuditReport → Type 0) (accepted : Type 0) (text : List ℕ) (status : ℕ) (a b : Option (List ℕ)) (f g : ℕ) (is : Says (audit_report text status)) (judges : Judges accepted status) where
  -- a report that was written part by part
  pub tells_written : (result : Result ℕ Stop) → Writes text result a b f g → IfOk result (λ s. s ≡ status) → Tells Says accepted result a b f g
  tells_written (Ok s) w e = record {
    whole = record { report = audit_report text status; is = is; status_is = e; wrote = w.ok };
    part = inr (record { report = audit_report text status; is = is; wrote = w.part });
    judges = subst (Judges accepted) (sym e) judges;
    read = w.read;
    write = w.write;
    memory = w.memory;
  }
  tells_written (Err stop) w e = record {
    whole = tt;
    part = inr (record { report = audit_report text status; is = is; wrote = w.part });
    judges = tt;
    read = w.read;
    write = w.write;
    memory = w.memory;
  }

  -- .. or at once
  pub tells_answered : (result : Result ℕ Stop) → Answers text status result a b f g → Tells Says accepted result a b f g
  tells_answered (Ok s) w = record {
    whole = record { report = audit_report text status; is = is; status_is = w.status_is; wrote = w.ok };
    part = inr (record { report = audit_report text status; is = is; wrote = w.part });
    judges = subst (Judges accepted) (sym w.status_is) judges;
    read = λ e. absurd (cc);
    write = λ e. absurd (cc);
    memory = λ e. absurd (cc);
  }
  tells_answered (Err stop) w = record {
    whole = tt;
    part = inr (record { report = audit_report text status; is = is; wrote = w.part });
    judges = tt;
    read = λ e. absurd (let same : stop ≡ Read = cc in let failed : stop ≡ Write = w.failed.0 in cc);
    write = λ e. w.failed.1;
    memory = λ e. absurd (let same : stop ≡ Memory = cc in let failed : stop ≡ Write = w.failed.0 in cc);
  }

-- nothing was done, for want of memory
pub tells_none : (Says : AuditReport → Type 0) (accepted : Type 0) (a : Option (List ℕ)) (f : ℕ) → Tells Says accepted (Err Memory) a a f f
tells_none Says accepted a f = record {
  whole = tt;
  part = inl (Keeps-refl a);
  judges = tt;
  read = λ e. absurd (let no : Memory ≡ Read = cc in cc);
  write = λ e. absurd (let no : Memory ≡ Write = cc in cc);
  memory = λ e. refl;
}

-- ---- reports of one thing are reports of another

pub whole_as : (Says Other : AuditReport → Type 0) (result : Result ℕ Stop) (a b : Option (List ℕ)) → ((r : AuditReport) → Says r → Other r)
    → IfOk result (λ s. DoesWhole Says s a b) → IfOk result (λ s. DoesWhole Other s a b)
whole_as Says Other (Ok s) a b says w = record { report = w.report; is = says w.report w.is; status_is = w.status_is; wrote = w.wrote }
whole_as Says Other (Err stop) a b says w = tt

pub part_as : (Says Other : AuditReport → Type 0) (a b : Option (List ℕ)) → ((r : AuditReport) → Says r → Other r) → DoesPart Says a b → DoesPart Other a b
part_as Says Other a b says (inl kept) = inl kept
part_as Says Other a b says (inr w) = inr (record { report = w.report; is = says w.report w.is; wrote = w.wrote })

judges_as : (accepted other : Type 0) (result : Result ℕ Stop) → accepted ↔ other → IfOk result (Judges accepted) → IfOk result (Judges other)
judges_as accepted other (Ok s) i j = record { done = ((λ h. i.0 (j.done.0 h)), (λ o. j.done.1 (i.1 o))); refused = ((λ h o. j.refused.0 h (i.1 o)), (λ n. j.refused.1 (λ a. n (i.0 a)))) }
judges_as accepted other (Err stop) i j = tt

pub tells_as : (Says Other : AuditReport → Type 0) (accepted other : Type 0) (result : Result ℕ Stop) (a b : Option (List ℕ)) (f g : ℕ)
    → ((r : AuditReport) → Says r → Other r) → accepted ↔ other → Tells Says accepted result a b f g → Tells Other other result a b f g
tells_as Says Other accepted other result a b f g says i t = record {
  whole = whole_as Says Other result a b says t.whole;
  part = part_as Says Other a b says t.part;
  judges = judges_as accepted other result i t.judges;
  read = t.read;
  write = t.write;
  memory = t.memory;
}

-- ---- audits

pub audit_says : (refused : List RefusedEntry) (image : Image) (x : Audit) → index_refusal image ≡ None → IsAudit image x
    → IndexAudits refused (index_refusal image) image (audit_report (audit_text refused x) (status_of refused x))
audit_says refused image x read is =
    subst (λ (o : Option IndexFault). IndexAudits refused o image (audit_report (audit_text refused x) (status_of refused x))) (sym read) (record { audit = x; is = is; says = refl })

pub index_audits : (refused : List RefusedEntry) (image : Image) (fault : IndexFault) → index_refusal image ≡ Some fault → IndexAudits refused (index_refusal image) image (audit_report (index_line fault) REFUSED)
index_audits refused image fault e = subst (λ (o : Option IndexFault). IndexAudits refused o image (audit_report (index_line fault) REFUSED)) (sym e) refl

pub none_is_clear : (refused : List RefusedEntry) (x : Audit) (accepted : Type 0) → (is_clear x ≡ true) ↔ accepted → ((length refused == 0 && is_clear x) ≡ true) ↔ ((refused ≡ []) × accepted)
none_is_clear refused x accepted i = (forth, back)
  where
    forth : (length refused == 0 && is_clear x) ≡ true → (refused ≡ []) × accepted
    forth e = let two = and_parts (length refused == 0) (is_clear x) e in (none_refused refused two.0, i.0 two.1)

    back : (refused ≡ []) × accepted → (length refused == 0 && is_clear x) ≡ true
    back p = both_true (length refused == 0) (is_clear x) (no_refused refused p.0) (i.1 p.1)

-- an index that isn't read is of no accepted image
pub unread_unaccepted : (image : Image) (fault : IndexFault) → index_refusal image ≡ Some fault → IsAccepted image → ⊥
unread_unaccepted image fault e a =
    let no : Some fault ≡ None = sym e ∙ a.index in
    cc

-- ---- rewritten images

pub tables_say : (image : Image) → rewrite_refusal image ≡ None → (r : AuditReport) → WrittenAudits (new_tables image).refused (write_result (new_parts image)) r → TablesReports image (rewrite_refusal image) r
tables_say image e r s = subst (λ (o : Option GnuFault). TablesReports image o r) (sym e) s

pub tables_accepted : (image : Image) → rewrite_refusal image ≡ None → (((new_tables image).refused ≡ []) × IsWrittenChecked (write_result (new_parts image))) ↔ AreTablesAccepted image
tables_accepted image e = let same = no_line_is_translated image e in ((λ p. (same.0 p.0, p.1)), (λ p. (same.1 p.0, p.1)))

pub large_says : (image : Image) (fault : GnuFault) → rewrite_refusal image ≡ Some fault → TablesReports image (rewrite_refusal image) (audit_report (tables_line fault) REFUSED)
large_says image fault e = subst (λ (o : Option GnuFault). TablesReports image o (audit_report (tables_line fault) REFUSED)) (sym e) refl

pub large_unaccepted : (image : Image) (fault : GnuFault) → rewrite_refusal image ≡ Some fault → AreTablesAccepted image → ⊥
large_unaccepted image fault e p =
    let no : Some fault ≡ None = sym e ∙ translated_is_rewritten image p.0 in
    cc

-- ---- images

pub index_is_read : (o : Option IndexFault) (image index : Image) → Ok index ≡ unless_refused o image → (index ≡ image) × (o ≡ None)
index_is_read None image index e = (let same : index ≡ image = cc in same, refl)
index_is_read (Some fault) image index e = absurd cc

pub index_is_unread : (o : Option IndexFault) (image : Image) (fault : IndexFault) → Err fault ≡ unless_refused o image → o ≡ Some fault
index_is_unread None image fault e = absurd cc
index_is_unread (Some other) image fault e = let same : fault ≡ other = cc in ap Some (sym same)

pub index_says : (image : Image) (fault : IndexFault) → index_refusal image ≡ Some fault → ImageReports image (audit_report (index_line fault) REFUSED)
index_says image fault e = subst (λ (o : Option IndexFault). IndexReports o image (audit_report (index_line fault) REFUSED)) (sym e) refl

unread_by : (b : Bool) (image : Image) (fault : IndexFault) → index_refusal image ≡ Some fault → IsAcceptedBy b image → ⊥
unread_by true image fault e p =
    let no : Some fault ≡ None = sym e ∙ p.0 in
    cc
unread_by false image fault e a = unread_unaccepted image fault e a

pub index_unaccepted : (image : Image) (fault : IndexFault) → index_refusal image ≡ Some fault → IsAcceptedImage image → ⊥
index_unaccepted image fault e a = unread_by (has_generic image) image fault e a

module _ (image : Image) (read : index_refusal image ≡ None) where
  rows_say : (b : Bool) → has_generic image ≡ b → (r : AuditReport) → RowsReports b image r → ImageReports image r
  rows_say b e r s = subst (λ (o : Option IndexFault). IndexReports o image r) (sym read) (subst (λ (c : Bool). RowsReports c image r) (sym e) s)

  pub generic_says : has_generic image ≡ true → (r : AuditReport) → TablesReports image (rewrite_refusal image) r → ImageReports image r
  generic_says e r s = rows_say true e r s

  pub generic_accepted : has_generic image ≡ true → AreTablesAccepted image ↔ IsAcceptedImage image
  generic_accepted e = subst (λ (b : Bool). AreTablesAccepted image ↔ IsAcceptedBy b image) (sym e) ((λ p. (read, p)), (λ p. p.1))

  pub plain_says : has_generic image ≡ false → (r : AuditReport) → IndexAudits [] (index_refusal image) image r → ImageReports image r
  plain_says e r s = rows_say false e r (subst (λ (o : Option IndexFault). IndexAudits [] o image r) read s)

  pub plain_accepted : has_generic image ≡ false → ((◌≡◌ {A = List RefusedEntry} [] []) × IsAccepted image) ↔ IsAcceptedImage image
  plain_accepted e = subst (λ (b : Bool). ((◌≡◌ {A = List RefusedEntry} [] []) × IsAccepted image) ↔ IsAcceptedBy b image) (sym e) ((λ p. p.1), (λ p. (refl, p)))

-- ---- what statuses reports of bytes have

pub record IsOfBytes (status : ℕ) : Type 0 where
  pub of : IsOfCommand status
  pub there : status ≡ FILE_UNAVAILABLE → ⊥

clear_of_bytes : (clear : Bool) → IsOfBytes (clear_status clear)
clear_of_bytes true = record { of = done_reported; there = λ e. omega (arith, e) }
clear_of_bytes false = record { of = refused_reported; there = λ e. omega (arith, e) }

refused_of_bytes : (r : AuditReport) (text : List ℕ) → r ≡ audit_report text REFUSED → IsOfBytes r.status
refused_of_bytes r text e = rw e (clear_of_bytes false)

index_audited : (refused : List RefusedEntry) (o : Option IndexFault) (image : Image) (r : AuditReport) → IndexAudits refused o image r → IsOfBytes r.status
index_audited refused (Some fault) image r e = refused_of_bytes r _ e
index_audited refused None image r e = rw e.says (clear_of_bytes _)

read_audited : (refused : List RefusedEntry) (read : Result Image ImageFault) (r : AuditReport) → ReadAudits refused read r → IsOfBytes r.status
read_audited refused (Ok image) r e = index_audited refused (index_refusal image) image r e
read_audited refused (Err fault) r e = refused_of_bytes r _ e

written_audited : (refused : List RefusedEntry) (written : Result (List ℕ) ImageFault) (r : AuditReport) → WrittenAudits refused written r → IsOfBytes r.status
written_audited refused (Ok bytes) r e = read_audited refused (image_of bytes) r e
written_audited refused (Err fault) r e = refused_of_bytes r _ e

tables_reported : (image : Image) (o : Option GnuFault) (r : AuditReport) → TablesReports image o r → IsOfBytes r.status
tables_reported image (Some fault) r e = refused_of_bytes r _ e
tables_reported image None r e = written_audited (new_tables image).refused (write_result (new_parts image)) r e

rows_reported : (b : Bool) (image : Image) (r : AuditReport) → RowsReports b image r → IsOfBytes r.status
rows_reported true image r e = tables_reported image (rewrite_refusal image) r e
rows_reported false image r e = index_audited [] None image r e

indexed : (o : Option IndexFault) (image : Image) (r : AuditReport) → IndexReports o image r → IsOfBytes r.status
indexed (Some fault) image r e = refused_of_bytes r _ e
indexed None image r e = rows_reported (has_generic image) image r e

pub read_status : (read : Result Image ImageFault) (r : AuditReport) → ReadReports read r → IsOfBytes r.status
read_status (Ok image) r e = indexed (index_refusal image) image r e
read_status (Err fault) r e = refused_of_bytes r _ e
