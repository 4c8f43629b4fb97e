-- The output of an audit (docs/guide/audit.md, "The program"). Each line ends in a line feed.
use Rattle.std.specs.Prelude.{ℕ, ◌-◌, ◌==◌, List, [], ◌++◌, length, flat_map, codes, decimal, Option, Some, None, if◌then◌else◌}
use Rattle.std.specs.List.{count_by}
use Rattle.eh_types.specs.declared.fault.TypeFault.{TypeFault}
use Rattle.eh_word.specs.Address.{address_text}
use Rattle.frame_facts.specs.CauseNames.{cause_name}
use Rattle.frame_facts.specs.declared.cause.FrameCause.{FrameCause}
use Rattle.frame_audit.specs.Audits.{Audit}
use Rattle.frame_audit.specs.Counts.{is_counted}
use Rattle.frame_audit.specs.Listing.{FunctionAudit}
use Rattle.frame_audit.specs.declared.counts.Question.{Question}
use Rattle.frame_audit.specs.declared.counts.Question.TheVariants as question
use Rattle.frame_audit.specs.declared.counts.TheConstants.{CAUSES}
use Rattle.frame_audit.specs.declared.functions.FrameFinding.{FrameFinding}
use Rattle.gnu_index.specs.declared.refusal.GnuFault.TheVariants.{Entry}
use Rattle.gnu_index.specs.declared.tables.RefusedEntry.{RefusedEntry}
use Rattle.cmd_lines.specs.CheckText.{cause_text, type_line}
use Rattle.cmd_lines.specs.TablesText.{tables_line}
use Rattle.cmd_lines.specs.Text.{count_line}

abbrev pub usage : List ℕ
usage = codes "usage: ehabi_audit FILE\n"

-- ---- entries that aren't rewritten

-- the line of a refused entry, as `gnu` writes it
abbrev pub entry_line : RefusedEntry → List ℕ
entry_line e = tables_line (Entry e)

-- ---- refused functions and types

abbrev pub address_end : ℕ → List ℕ
address_end at = codes " at " ++ address_text at ++ codes "\n"

-- where a function is refused and why, as in a refusal by the checker, and the address
abbrev pub unwell_line : FunctionAudit → FrameFinding → List ℕ
unwell_line a u = cause_text a.name (u.at - a.start) u.cause ++ address_end u.at

abbrev pub finding_line : FunctionAudit → Option FrameFinding → List ℕ
finding_line a None = []
finding_line a (Some u) = unwell_line a u

-- the line of a refused function; an accepted one has none
abbrev pub function_line : FunctionAudit → List ℕ
function_line a = finding_line a a.unwell

-- the line of types that form no graph
abbrev pub types_text : Option TypeFault → List ℕ
types_text None = []
types_text (Some fault) = type_line fault

-- ---- the summary

-- the line of a count that isn't 0
abbrev pub some_count_line : List ℕ → ℕ → List ℕ
some_count_line what count = if count == 0 then [] else count_line what count

-- how many functions are refused for a cause, whatever register it names
abbrev pub cause_count_line : List FunctionAudit → FrameCause → List ℕ
cause_count_line functions c = some_count_line (cause_name c) (count_by (is_counted (question.Cause c)) functions)

-- how many bytes of code belong to no function, if there are any
abbrev pub stray_text : ℕ → List ℕ
stray_text bytes = if bytes == 0 then [] else decimal bytes ++ codes " bytes of code are in no function\n"

-- how many of the functions of a kind are accepted
abbrev pub agreement_line : ℕ → ℕ → List ℕ → List ℕ
agreement_line well all kind = decimal well ++ codes " of " ++ decimal all ++ codes " functions" ++ kind ++ codes " agree\n"

abbrev pub function_count : Audit → Question → ℕ
function_count x q = count_by (is_counted q) x.functions

-- for an image of whose index these entries are refused
unfoldable pub summary_text : List RefusedEntry → Audit → List ℕ
summary_text refused x =
    codes "-- summary\n" ++ flat_map (cause_count_line x.functions) CAUSES ++ some_count_line (codes "lsda") (length refused) ++ stray_text x.stray
    ++ agreement_line (function_count x question.UnwindsWell) (function_count x question.Unwinds) (codes " with a table")
    ++ agreement_line (function_count x question.CantUnwindWell) (function_count x question.CantUnwind) (codes " that can't be unwound")
    ++ agreement_line (function_count x question.Well) (length x.functions) []

-- ---- an audit

-- what is found against the functions and the types: a line for each refused function, by rising address, and that of the types
abbrev pub found_text : Audit → List ℕ
found_text x = flat_map function_line x.functions ++ types_text x.types

-- .. preceded by a line for each refused entry, in the order of the index
abbrev pub listed_text : List RefusedEntry → Audit → List ℕ
listed_text refused x = flat_map entry_line refused ++ found_text x

abbrev pub audit_text : List RefusedEntry → Audit → List ℕ
audit_text refused x = listed_text refused x ++ summary_text refused x
