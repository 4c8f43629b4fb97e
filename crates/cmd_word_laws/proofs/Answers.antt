-- What a call of the program answers.
use Rattle.std.proofs.Common.{◌≡◌, ℕ, ◌==◌, ◌||◌, not, true, List, Option, Some, None, refl, sym, ap, subst, ◌∙◌}
use Rattle.std.proofs.lemmas.Bool.{ne_eqb}
use Rattle.cmd_top.specs.Answered.{IsAnswer}
use Rattle.cmd_answers.specs.Statuses.{is_conclusive}
use Rattle.cmd_top.specs.cmd_perform.Report.{Reports, IfTold}
use Rattle.cmd_input.specs.Words.{Command, FlatFile, BuildSources, CheckFile, CheckSources, RunFile, RunSources, RunGnu, RunThreads, GenerateProgram, command_of}
use Rattle.cmd_answers.specs.Files.{FileState}
use Rattle.cmd_top.specs.cmd_perform.Yields.{Streams, DoesWhole}
use Rattle.cmd_word_laws.specs.Answers.{IsReported, IsConclusive, ReadsNothing, AnswersAreReports}

pub conclusive : (status : ℕ) → IsConclusive status → is_conclusive status ≡ true
conclusive status c =
    ap (λ t. not (t || status == 8 || status == 9)) (ne_eqb status 7 c.read)
    ∙ ap (λ t. not (t || status == 9)) (ne_eqb status 8 c.write)
    ∙ ap not (ne_eqb status 9 c.memory)

-- what is told of a command holds of what its files and its input are
pub told_of : (c : Option Command) (held : List (List ℕ × List ℕ)) (bytes : List ℕ) (left : Option (List ℕ)) (P : List (List ℕ × List ℕ) → List ℕ → Option (List ℕ) → Type 0)
    → IfTold c (Some held) (Some bytes) left P → P held bytes left
told_of None held bytes left P t = subst (P held bytes) (sym t.0) (t.1 held bytes)
told_of (Some (FlatFile name budget)) held bytes left P t = t
told_of (Some (BuildSources names)) held bytes left P t = subst (P held bytes) (sym t.0) (t.1 bytes)
told_of (Some (CheckFile name)) held bytes left P t = subst (P held bytes) (sym t.0) (t.1 bytes)
told_of (Some (CheckSources names)) held bytes left P t = subst (P held bytes) (sym t.0) (t.1 bytes)
told_of (Some (RunFile name request)) held bytes left P t = t
told_of (Some (RunSources names request)) held bytes left P t = t
told_of (Some (RunGnu name budget)) held bytes left P t = t
told_of (Some (RunThreads names budget)) held bytes left P t = t
told_of (Some (GenerateProgram number functions)) held bytes left P t = subst (P held bytes) (sym t.0) (t.1 held bytes)

left_of : (c : Option Command) (files : Option (List (List ℕ × List ℕ))) (input left : Option (List ℕ)) (P : List (List ℕ × List ℕ) → List ℕ → Option (List ℕ) → Type 0)
    → ReadsNothing c → IfTold c files input left P → left ≡ input
left_of None files input left P n t = t.0
left_of (Some (FlatFile name budget)) files input left P n t = absurd n
left_of (Some (BuildSources names)) files input left P n t = t.0
left_of (Some (CheckFile name)) files input left P n t = t.0
left_of (Some (CheckSources names)) files input left P n t = t.0
left_of (Some (RunFile name request)) files input left P n t = absurd n
left_of (Some (RunSources names request)) files input left P n t = absurd n
left_of (Some (RunGnu name budget)) files input left P n t = absurd n
left_of (Some (RunThreads names budget)) files input left P n t = absurd n
left_of (Some (GenerateProgram number functions)) files input left P n t = t.0

abbrev pub whole : List (List ℕ) → Streams → Streams → ℕ → List (List ℕ × List ℕ) → List ℕ → Option (List ℕ) → Type 0
whole words old new status held bytes left = DoesWhole (Reports (command_of words) held bytes) status left old.output new.output

-- of files and an input that are told, all of a report was written
pub reported : (words : List (List ℕ)) (files : FileState) (held : List (List ℕ × List ℕ)) (bytes : List ℕ) (old new : Streams) (status : ℕ)
    → IfTold (command_of words) files.held old.input new.input (whole words old new status) → files.held ≡ Some held → old.input ≡ Some bytes → IsReported words held bytes old new status
reported words files held bytes old new status is e f =
    let files_told = subst (λ o. IfTold (command_of words) o old.input new.input (whole words old new status)) e is in
    let input_told = subst (λ o. IfTold (command_of words) (Some held) o new.input (whole words old new status)) f files_told in
    let done : whole words old new status held bytes new.input = told_of (command_of words) held bytes new.input (whole words old new status) input_told in
    record { report = done.report; is = done.is; wrote = done.wrote; answers = done.status_is; leaves = done.leaves }

report : (words : List (List ℕ)) (files files' : FileState) (held : List (List ℕ × List ℕ)) (bytes : List ℕ) (old new : Streams) (status : ℕ)
    → IsAnswer words files files' old new status → files.held ≡ Some held → old.input ≡ Some bytes → IsConclusive status → IsReported words held bytes old new status
report words files files' held bytes old new status h e f c = reported words files held bytes old new status (h.report (conclusive status c)) e f

untouched : (words : List (List ℕ)) (files files' : FileState) (old new : Streams) (status : ℕ)
    → IsAnswer words files files' old new status → ReadsNothing (command_of words) → IsConclusive status → new.input ≡ old.input
untouched words files files' old new status h n c = left_of (command_of words) files.held old.input new.input (whole words old new status) n (h.report (conclusive status c))

pub answers : AnswersAreReports
answers = record { report = report; untouched = untouched; usage = λ words files files' old new h. (h.usage refl).0 refl }
