-- What an audit writes and returns, given the bytes of the file (docs/guide/audit.md, "The program").
use Rattle.std.specs.Prelude.{ℕ, ◌≡◌, ◌==◌, ◌&&◌, Bool, true, false, List, [], length, Option, Some, None, Result, Ok, Err, if◌then◌else◌}
use Rattle.elf_image.specs.Image.{Image, image_of}
use Rattle.elf_image.specs.declared.fault.ImageFault.{ImageFault}
use Rattle.eh_port.specs.FileList.{answer_of}
use Rattle.eh_port.specs.declared.files.FileAnswer.{FileAnswer}
use Rattle.eh_port.specs.declared.files.FileAnswer.TheVariants.{Found, Missing, TooLong}
use Rattle.eh_index.specs.Refusal.{index_refusal}
use Rattle.eh_index.specs.declared.fault.IndexFault.{IndexFault}
use Rattle.elf_write.specs.Layout.{write_result}
use Rattle.frame_check.specs.Accepts.{IsAccepted}
use Rattle.frame_audit.specs.Audits.{Audit, IsAudit, is_clear}
use Rattle.gnu_index.specs.declared.refusal.GnuFault.{GnuFault}
use Rattle.gnu_index.specs.declared.tables.RefusedEntry.{RefusedEntry}
use Rattle.gnu_rewrite.specs.Parts.{new_parts, new_tables}
use Rattle.gnu_rewrite.specs.Refusal.{rewrite_refusal, translation_refusal}
use Rattle.cmd_answers.specs.Files.{missing_line, too_long_line}
use Rattle.cmd_answers.specs.declared.status.TheConstants.{DONE, USAGE, REFUSED, FILE_UNAVAILABLE}
use Rattle.cmd_lines.specs.CheckText.{index_line}
use Rattle.cmd_lines.specs.TablesText.{tables_line}
use Rattle.cmd_lines.specs.Text.{image_fault_line}
use Rattle.audit_top.specs.Tables.{has_generic}
use Rattle.audit_top.specs.Text.{usage, audit_text}
use Rattle.audit_top.specs.declared.report.TheConstants.{MOST_BYTES}

-- the output, and the status
pub record AuditReport : Type 0 where
  pub text : List ℕ
  pub status : ℕ

abbrev pub audit_report : List ℕ → ℕ → AuditReport
audit_report text status = record { text = text; status = status }

-- ---- audits

abbrev pub clear_status : Bool → ℕ
clear_status clear = if clear then DONE else REFUSED

-- 0 exactly if no entry is refused and nothing is found against the image
abbrev pub status_of : List RefusedEntry → Audit → ℕ
status_of refused x = clear_status (length refused == 0 && is_clear x)

-- In a refused function any address and cause that hold may be named, and for types any that shows their fault. So several reports may be
-- made of one image; they list the same entries and functions.
pub record AuditsImage (refused : List RefusedEntry) (image : Image) (r : AuditReport) : Type 0 where
  pub audit : Audit
  pub is : IsAudit image audit
  pub says : r ≡ audit_report (audit_text refused audit) (status_of refused audit)

-- If the index can't be read, only that is written. The index of a rewritten image can, by the laws that docs/rules/gnu-tables.md lists.
abbrev pub IndexAudits : List RefusedEntry → Option IndexFault → Image → AuditReport → Type 0
IndexAudits refused (Some fault) image r = r ≡ audit_report (index_line fault) REFUSED
IndexAudits refused None image r = AuditsImage refused image r

-- ---- rewritten images

-- for the image that is read
abbrev pub ReadAudits : List RefusedEntry → Result Image ImageFault → AuditReport → Type 0
ReadAudits refused (Ok image) r = IndexAudits refused (index_refusal image) image r
ReadAudits refused (Err fault) r = r ≡ audit_report (image_fault_line fault) REFUSED

-- .. for the bytes that are written
abbrev pub WrittenAudits : List RefusedEntry → Result (List ℕ) ImageFault → AuditReport → Type 0
WrittenAudits refused (Ok bytes) r = ReadAudits refused (image_of bytes) r
WrittenAudits refused (Err fault) r = r ≡ audit_report (image_fault_line fault) REFUSED

-- If an image is too large to be rewritten, only that is written. Otherwise the refused entries are listed, and the rewritten image is
-- audited.
abbrev pub TablesReports : Image → Option GnuFault → AuditReport → Type 0
TablesReports image (Some fault) r = r ≡ audit_report (tables_line fault) REFUSED
TablesReports image None r = WrittenAudits (new_tables image).refused (write_result (new_parts image)) r

-- ---- images

-- by whether a row has a generic entry: if none has, the image itself is audited
abbrev pub RowsReports : Bool → Image → AuditReport → Type 0
RowsReports true image r = TablesReports image (rewrite_refusal image) r
RowsReports false image r = AuditsImage [] image r

-- if the index can't be read, only that is written
abbrev pub IndexReports : Option IndexFault → Image → AuditReport → Type 0
IndexReports (Some fault) image r = r ≡ audit_report (index_line fault) REFUSED
IndexReports None image r = RowsReports (has_generic image) image r

abbrev pub ImageReports : Image → AuditReport → Type 0
ImageReports image r = IndexReports (index_refusal image) image r

-- ---- files

-- if the bytes are no image, only that is written
abbrev pub ReadReports : Result Image ImageFault → AuditReport → Type 0
ReadReports (Ok image) r = ImageReports image r
ReadReports (Err fault) r = r ≡ audit_report (image_fault_line fault) REFUSED

abbrev pub FoundReports : List ℕ → FileAnswer → AuditReport → Type 0
FoundReports name (Found bytes) r = ReadReports (image_of bytes) r
FoundReports name Missing r = r ≡ audit_report (missing_line name) FILE_UNAVAILABLE
FoundReports name TooLong r = r ≡ audit_report (too_long_line name) FILE_UNAVAILABLE

-- r is a report of the file of this name, or of words that name no file
abbrev pub Reports : Option (List ℕ) → List (List ℕ × List ℕ) → AuditReport → Type 0
Reports None files r = r ≡ audit_report usage USAGE
Reports (Some name) files r = FoundReports name (answer_of files name MOST_BYTES) r

-- ---- which files are accepted

-- the checker accepts the image that is read
abbrev pub IsChecked : Result Image ImageFault → Type 0
IsChecked (Ok image) = IsAccepted image
IsChecked (Err fault) = ⊥

-- .. and the image that the written bytes are
abbrev pub IsWrittenChecked : Result (List ℕ) ImageFault → Type 0
IsWrittenChecked (Ok bytes) = IsChecked (image_of bytes)
IsWrittenChecked (Err fault) = ⊥

-- nothing is refused in its generic entries, and the checker accepts the rewritten image
abbrev pub AreTablesAccepted : Image → Type 0
AreTablesAccepted image = (translation_refusal image ≡ None) × IsWrittenChecked (write_result (new_parts image))

-- if an entry is generic, the index can be read and its tables are accepted; if none is, the checker accepts the image itself
abbrev pub IsAcceptedBy : Bool → Image → Type 0
IsAcceptedBy true image = (index_refusal image ≡ None) × AreTablesAccepted image
IsAcceptedBy false image = IsAccepted image

abbrev pub IsAcceptedImage : Image → Type 0
IsAcceptedImage image = IsAcceptedBy (has_generic image) image

-- the bytes are an accepted image
abbrev pub IsAcceptedRead : Result Image ImageFault → Type 0
IsAcceptedRead (Ok image) = IsAcceptedImage image
IsAcceptedRead (Err fault) = ⊥

-- the file is there, and holds one
abbrev pub IsAcceptedAnswer : FileAnswer → Type 0
IsAcceptedAnswer (Found bytes) = IsAcceptedRead (image_of bytes)
IsAcceptedAnswer Missing = ⊥
IsAcceptedAnswer TooLong = ⊥

-- the file is there, and holds none
abbrev pub IsRefusedAnswer : FileAnswer → Type 0
IsRefusedAnswer (Found bytes) = ¬ (IsAcceptedRead (image_of bytes))
IsRefusedAnswer Missing = ⊥
IsRefusedAnswer TooLong = ⊥

abbrev pub HoldsAccepted : Option (List ℕ) → List (List ℕ × List ℕ) → Type 0
HoldsAccepted None files = ⊥
HoldsAccepted (Some name) files = IsAcceptedAnswer (answer_of files name MOST_BYTES)

abbrev pub HoldsRefused : Option (List ℕ) → List (List ℕ × List ℕ) → Type 0
HoldsRefused None files = ⊥
HoldsRefused (Some name) files = IsRefusedAnswer (answer_of files name MOST_BYTES)
