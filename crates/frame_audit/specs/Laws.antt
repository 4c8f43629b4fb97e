-- What holds of every audit: laws above the definitions.
use Rattle.std.specs.Prelude.{ℕ, ◌≡◌, ◌+◌, ◌↔◌, Bool, true, false, List, map, length, sum_by, None, Some, is_some, slice_get, Contains}
use Rattle.std.specs.List.{count_by}
use Rattle.elf_image.specs.Functions.{Function, is_inside}
use Rattle.elf_image.specs.Image.{Image}
use Rattle.eh_codes.specs.declared.row.Entry.{Entry}
use Rattle.eh_codes.specs.declared.row.EntryBody.TheVariants.{CantUnwind as NoUnwinding}
use Rattle.eh_bytecode.specs.declared.recipe.Recipe.{Recipe}
use Rattle.eh_index.specs.Covering.{covering}
use Rattle.eh_index.specs.Rows.{entries_of}
use Rattle.frame_entries.specs.declared.unwinding.EntrySummary.TheVariants.{Finds}
use Rattle.frame_graph.specs.Sites.{unwinding_at}
use Rattle.frame_facts.specs.declared.cause.FrameCause.{FrameCause}
use Rattle.frame_check.specs.Roots.{flow_graph_of}
use Rattle.frame_check.specs.Accepts.{IsWell}
use Rattle.frame_audit.specs.declared.counts.Question.TheVariants.{Unwinds, UnwindsWell, CantUnwind, CantUnwindWell, Well, Cause}
use Rattle.frame_audit.specs.declared.counts.TheConstants.{CAUSES}
use Rattle.frame_audit.specs.Code.{is_stray, code_bytes, held_bytes, stray_bytes}
use Rattle.frame_audit.specs.Counts.{is_counted}
use Rattle.frame_audit.specs.Listing.{FunctionAudit, can_unwind, AreAudited}

-- The starts are those of the functions, in their order. Function i has no finding if and only if it is accepted.
pub record ListsAreWhole : Type 0 where
  pub order : (image : Image) (functions : List Function) (audited : List FunctionAudit) → AreAudited image functions audited
      → map (λ (a : FunctionAudit). a.start) audited ≡ map (λ (f : Function). f.start) functions
  pub each : (image : Image) (functions : List Function) (audited : List FunctionAudit) (i : ℕ) (f : Function) (a : FunctionAudit) → AreAudited image functions audited
      → slice_get functions i ≡ Some f → slice_get audited i ≡ Some a → (a.unwell ≡ None) ↔ IsWell (flow_graph_of image f)

-- what two audits agree on of a function: everything but the address and the cause
pub record AuditRow : Type 0 where
  pub name : List ℕ
  pub start : ℕ
  pub unwinds : Bool
  pub listed : Bool

abbrev pub audit_view : FunctionAudit → AuditRow
audit_view a = record { name = a.name; start = a.start; unwinds = a.unwinds; listed = is_some a.unwell }

abbrev pub ListsAreOne : Type 0
ListsAreOne = (image : Image) (functions : List Function) (xs ys : List FunctionAudit) → AreAudited image functions xs → AreAudited image functions ys → map audit_view xs ≡ map audit_view ys

-- A function can't be unwound if no entry covers it, or its entry is CANTUNWIND. It can if its unwind instructions have a recipe.
pub record UnwindingIsTold : Type 0 where
  pub uncovered : (image : Image) (f : Function) → covering (entries_of image) f.start ≡ None → can_unwind image f ≡ false
  pub barred : (image : Image) (f : Function) (e : Entry) → covering (entries_of image) f.start ≡ Some e → e.body ≡ NoUnwinding → can_unwind image f ≡ false
  pub found : (image : Image) (f : Function) (r : Recipe) → unwinding_at (flow_graph_of image f) f.start ≡ Finds r → can_unwind image f ≡ true

-- what a function holds is no code in none
abbrev pub StrayIsOutside : Type 0
StrayIsOutside = (image : Image) (f : Function) (a : ℕ) → Contains image.functions f → is_inside a f ≡ true → is_stray image a ≡ false

abbrev pub CodeIsDivided : Type 0
CodeIsDivided = (image : Image) → held_bytes image + stray_bytes image ≡ code_bytes image

-- how many are counted
abbrev pub count_by_cause : List FunctionAudit → FrameCause → ℕ
count_by_cause audited c = count_by (is_counted (Cause c)) audited

-- a function either can be unwound or can't; one of either kind is accepted or not; and one that isn't has one cause of the list
pub record CountsAddUp : Type 0 where
  pub kinds : (audited : List FunctionAudit) → count_by (is_counted Unwinds) audited + count_by (is_counted CantUnwind) audited ≡ length audited
  pub well : (audited : List FunctionAudit) → count_by (is_counted UnwindsWell) audited + count_by (is_counted CantUnwindWell) audited ≡ count_by (is_counted Well) audited
  pub causes : (audited : List FunctionAudit) → count_by (is_counted Well) audited + sum_by (count_by_cause audited) CAUSES ≡ length audited
