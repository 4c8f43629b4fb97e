-- Laws of every audit that is written.
use Rattle.std.specs.Prelude.{◌≡◌, ◌↔◌, List, [], map, filter_map, None}
use Rattle.elf_image.specs.Functions.{Function}
use Rattle.elf_image.specs.Image.{Image}
use Rattle.frame_check.specs.Accepts.{IsWell}
use Rattle.frame_check.specs.Roots.{flow_graph_of}
use Rattle.frame_audit.specs.Audits.{Audit}
use Rattle.frame_audit.specs.Listing.{FunctionAudit, IsAudited}
use Rattle.gnu_index.specs.declared.refusal.GnuFault.TheVariants.{Entry}
use Rattle.gnu_index.specs.declared.tables.RefusedEntry.{RefusedEntry}
use Rattle.gnu_rewrite.specs.Parts.{new_tables}
use Rattle.gnu_rewrite.specs.Refusal.{rewrite_refusal, translation_refusal}
use Rattle.cmd_answers.specs.declared.status.TheConstants.{DONE}
use Rattle.audit_top.specs.Report.{status_of}
use Rattle.audit_top.specs.Tables.{row_fault, rows_of}
use Rattle.audit_top.specs.Text.{function_line, listed_text}
use Rattle.audit_top.specs.declared.report.TheConstants.{MOST_BYTES}
use Rattle.audit_top.specs.declared.words.TheConstants.{HYPHEN}

-- a function has no line exactly if the checker accepts it
abbrev pub LinesAreOfUnwell : Type 0
LinesAreOfUnwell = (image : Image) (f : Function) (a : FunctionAudit) → IsAudited image f a → (function_line a ≡ []) ↔ IsWell (flow_graph_of image f)

-- the status is 0 exactly if nothing is listed
abbrev pub StatusIsOfList : Type 0
StatusIsOfList = (refused : List RefusedEntry) (x : Audit) → (status_of refused x ≡ DONE) ↔ (listed_text refused x ≡ [])

-- the refused entries with a line are those in which something is refused, each with its fault, in the order of the rows
abbrev pub LinesAreOfRefused : Type 0
LinesAreOfRefused = (image : Image) → map Entry (new_tables image).refused ≡ filter_map (row_fault image) (rows_of image)

-- in an image that is to be rewritten, no entry has a line exactly if `gnu` refuses nothing
abbrev pub NoLineIsTranslated : Type 0
NoLineIsTranslated = (image : Image) → rewrite_refusal image ≡ None → ((new_tables image).refused ≡ []) ↔ (translation_refusal image ≡ None)

-- the constants that the definitions cite
pub record AuditNumbers : Type 0 where
  pub most_bytes : MOST_BYTES ≡ 67108864
  pub hyphen : HYPHEN ≡ 45
