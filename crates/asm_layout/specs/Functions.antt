-- The functions of a source, by its unwind directives (docs/rules/sources.md, "Unwind directives").
use Rattle.std.specs.Prelude.{ℕ, ℤ, pos, negsuc, nat_lt, if◌then◌else◌, List, [], ◌∷◌, ◌++◌, Option, Some, None, Result, Ok, Err}
use Rattle.asm_statements.specs.declared.statement.Stmt.{Stmt}
use Rattle.asm_statements.specs.declared.statement.StmtKind.{StmtKind}
use Rattle.asm_statements.specs.declared.statement.StmtKind.TheVariants as stmt
use Rattle.asm_unwind.specs.declared.directive.UnwindDirective.{UnwindDirective}
use Rattle.asm_unwind.specs.declared.directive.UnwindDirective.TheVariants.{FnStart, FnEnd, Save, Pad, SetFp, CantUnwind, PersonalityIndex, HandlerData}
use Rattle.asm_unwind.specs.declared.directive.UnwindFault.{UnwindFault}
use Rattle.asm_unwind.specs.declared.directive.UnwindFault.TheVariants.{OutsideFunction}
use Rattle.asm_unwind.specs.declared.entry.EntryWords.{EntryWords}
use Rattle.asm_unwind.specs.Refusals.{directive_state_of, refusal_of}
use Rattle.asm_unwind.specs.Entries.{entry_words_of}
use Rattle.asm_layout.specs.declared.fault.AsmFault.{AsmFault}
use Rattle.asm_layout.specs.declared.fault.AsmWhat.TheVariants.{Unwind}
use Rattle.asm_layout.specs.Faults.{fault_at}

-- a number as a field with a greatest value; that value if the number doesn't fit
abbrev pub field_of : ℕ → ℤ → ℕ
field_of greatest (pos n) = if nat_lt greatest n then greatest else n
field_of greatest (negsuc n) = greatest

abbrev pub directive_of : StmtKind → Option UnwindDirective
directive_of stmt.FnStart = Some FnStart
directive_of stmt.FnEnd = Some FnEnd
directive_of (stmt.Save list) = Some (Save list)
directive_of (stmt.Pad n) = Some (Pad (field_of 0xffffffff n))
directive_of (stmt.SetFp r off) = Some (SetFp r (field_of 0xffffffff off))
directive_of stmt.CantUnwind = Some CantUnwind
directive_of (stmt.PersonalityIndex n) = Some (PersonalityIndex (field_of 255 n))
directive_of stmt.HandlerData = Some HandlerData
directive_of _ = None

-- the open function: its directives so far, and the line of its start; no directives if none is open
pub record Frame : Type 0 where
  pub directives : List UnwindDirective
  pub start : Option ℕ

abbrev pub no_frame : Frame
no_frame = record { directives = []; start = None }

-- the open function after an accepted directive
abbrev pub frame_after : Frame → ℕ → UnwindDirective → Frame
frame_after frame line FnEnd = no_frame
frame_after frame line FnStart = record { directives = frame.directives ++ FnStart ∷ []; start = Some line }
frame_after frame line directive = record frame { directives = frame.directives ++ directive ∷ [] }

-- a refused directive changes nothing
abbrev pub frame_unless_refused : Frame → ℕ → UnwindDirective → Option UnwindFault → Frame
frame_unless_refused frame line directive None = frame_after frame line directive
frame_unless_refused frame line directive (Some _) = frame

abbrev pub next_frame : Frame → ℕ → Option UnwindDirective → Frame
next_frame frame line None = frame
next_frame frame line (Some directive) =
    frame_unless_refused frame line directive (refusal_of (directive_state_of frame.directives) directive)

abbrev pub entry_or_none : Result EntryWords UnwindFault → Option EntryWords
entry_or_none (Ok entry) = Some entry
entry_or_none (Err _) = None

-- the entry of the function that an accepted directive ends
abbrev pub ended_entry : Frame → UnwindDirective → Option UnwindFault → List (Option EntryWords)
ended_entry frame FnEnd None = entry_or_none (entry_words_of (frame.directives ++ FnEnd ∷ [])) ∷ []
ended_entry frame directive refusal = []

abbrev pub new_entries : Frame → Option UnwindDirective → List (Option EntryWords)
new_entries frame None = []
new_entries frame (Some directive) = ended_entry frame directive (refusal_of (directive_state_of frame.directives) directive)

-- the entries of the functions that end, in the order of the text; None for one whose directives have none
unfoldable pub entries_from : Frame → List Stmt → List (Option EntryWords)
entries_from frame [] = []
entries_from frame (stmt ∷ more) =
    new_entries frame (directive_of stmt.kind) ++ entries_from (next_frame frame stmt.line (directive_of stmt.kind)) more

abbrev pub entry_faults : ℕ → Result EntryWords UnwindFault → List AsmFault
entry_faults line (Ok _) = []
entry_faults line (Err fault) = fault_at line (Unwind fault) ∷ []

-- the refusal of a directive, or of the function that it ends
abbrev pub directive_faults : Frame → ℕ → UnwindDirective → Option UnwindFault → List AsmFault
directive_faults frame line directive (Some fault) = fault_at line (Unwind fault) ∷ []
directive_faults frame line FnEnd None = entry_faults line (entry_words_of (frame.directives ++ FnEnd ∷ []))
directive_faults frame line _ None = []

abbrev pub new_faults : Frame → ℕ → Option UnwindDirective → List AsmFault
new_faults frame line None = []
new_faults frame line (Some directive) =
    directive_faults frame line directive (refusal_of (directive_state_of frame.directives) directive)

-- a function that the end of the source leaves open is refused at its start
abbrev pub open_faults : Option ℕ → List AsmFault
open_faults None = []
open_faults (Some line) = fault_at line (Unwind OutsideFunction) ∷ []

unfoldable pub unwind_faults_from : Frame → List Stmt → List AsmFault
unwind_faults_from frame [] = open_faults frame.start
unwind_faults_from frame (stmt ∷ more) =
    new_faults frame stmt.line (directive_of stmt.kind)
    ++ unwind_faults_from (next_frame frame stmt.line (directive_of stmt.kind)) more

abbrev pub entries_of : List Stmt → List (Option EntryWords)
entries_of stmts = entries_from no_frame stmts

abbrev pub unwind_faults_of : List Stmt → List AsmFault
unwind_faults_of stmts = unwind_faults_from no_frame stmts
