-- What a call for a command has done, from its parts. The commands that run bytes differ in where these come from alone.
use Rattle.std.proofs.Common.{◌≡◌, ◌∙◌, ℕ, List, Option, Some, None, IfSome, Result, Ok, Err, refl, inr, arith}
use Rattle.std.specs.Prelude.{IfOk, IsOk, ◌↔◌}
use Rattle.std.proofs.lemmas.Bool.{false≢true}
use Rattle.cmd_answers.specs.declared.status.TheConstants.{USAGE, FILE_UNAVAILABLE}
use Rattle.cmd_answers.specs.declared.stop.Stop.{Stop}
use Rattle.cmd_answers.specs.declared.stop.Stop.TheVariants.{Read, Write, Memory}
use Rattle.cmd_input.specs.AsksFor.{AsksFor, CallLacks, command_files}
use Rattle.cmd_input.specs.Finding.{FoundReports}
use Rattle.cmd_perform.specs.GenerateReport.{GenerateReports, IsUnfitProgram}
use Rattle.cmd_input.specs.Loading.{Report}
use Rattle.cmd_answers.specs.Statuses.{SaysWhy, SaysWhyBy, IsReported, IsOfCommand}
use Rattle.cmd_perform.specs.Report.{Reports, IfTold, Why, Does}
use Rattle.cmd_input.specs.Sources.{Refusal}
use Rattle.cmd_perform.specs.Text.{usage}
use Rattle.cmd_input.specs.Words.{Command, GenerateProgram}
use Rattle.cmd_answers.specs.Writes.{Answers}
use Rattle.cmd_answers.specs.Files.{FileState}
use Rattle.cmd_perform.specs.Yields.{Streams, streams, DoesWhole, DoesPart, YieldsBy, Yields}
use Rattle.cmd_input.proofs.FilesAsked.{asks_more, asks_none}
use Rattle.cmd_answers.proofs.Statuses.{usage_reported}
use Rattle.cmd_perform.proofs.Yielding.{whole_answer, part_answer, whole_as, part_as}
use Rattle.cmd_answers.proofs.Answering.{of_status, only_write}

-- the files of a call
abbrev pub Held : Type 0
Held = List (List ℕ × List ℕ)

-- ---- what a command asks the files for

-- What it reports of what they give, bytes mostly, and what its status says of them: `Refuses` pins where it is refused, by what is told of the input.
pub record Asks {T : Type 0} (command : Option Command) (ask : Held → Result T Refusal) (Says : T → List ℕ → Report → Type 0) (Refuses : T → Option (List ℕ) → ℕ → Type 0) : Type 0 where
  pub reports : (held : Held) (input : List ℕ) (r : Report) → FoundReports Says (ask held) input r → Reports command held input r
  pub fits : (held : Held) (input : Option (List ℕ)) (made : T) (status : ℕ) → ask held ≡ Ok made → SaysWhyBy status ⊥ (Refuses made input status) → Why command held input status
  pub lacks : (held : Held) (input : Option (List ℕ)) (refusal : Refusal) → ask held ≡ Err refusal → Why command held input refusal.status
  pub some : command ≡ None → ⊥

-- a command that runs bytes: what holds where files and input are told
abbrev pub Reads : Option Command → Type 1
Reads command = (P : Held → List ℕ → Option (List ℕ) → Type 0) (files : Option Held) (input left : Option (List ℕ))
    → IfSome files (λ held. IfSome input (λ bytes. P held bytes left)) → IfTold command files input left P

-- a command that runs nothing, and leaves the input, whatever it is
abbrev pub LeavesInput : Option Command → Type 1
LeavesInput command = (P : Held → List ℕ → Option (List ℕ) → Type 0) (files : Option Held) (input : Option (List ℕ))
    → IfSome files (λ held. (bytes : List ℕ) → P held bytes (Some bytes)) → IfTold command files input input P

-- the status is of a command, and there is one
used : (command : Option Command) (result : Result ℕ Stop) → (command ≡ None → ⊥) → IfOk result IsOfCommand → IfOk result (λ status. (status ≡ USAGE) ↔ (command ≡ None))
used command (Ok s) some of = ((λ e. absurd (IsOfCommand.other of e)), (λ n. absurd (some n)))
used command (Err stop) some of = tt

reported : (result : Result ℕ Stop) → IfOk result IsOfCommand → IfOk result (λ s. IsReported s)
reported (Ok s) of = IsOfCommand.reported of
reported (Err stop) of = tt

why_all : (command : Option Command) (held : Option Held) (input : Option (List ℕ)) (Says : ℕ → Type 0) (result : Result ℕ Stop)
    → ((s : ℕ) → Says s → IfSome held (λ files. Why command files input s))
    → IfOk result Says → IfOk result (λ s. IfSome held (λ files. Why command files input s))
why_all command held input Says (Ok s) f w = f s w
why_all command held input Says (Err stop) f w = tt

-- what was asked of the files stays so, whatever the call does next
asked_bytes : (command : Option Command) (ended : Type 0) (files files' : FileState) (result : Result ℕ Stop) → ended
    → AsksFor (command_files command) ended ⊥ files files' → AsksFor (command_files command) (IsOk result) (CallLacks result) files files'
asked_bytes command ended files files' result did a = asks_more (command_files command) ended ⊥ (IsOk result) (CallLacks result) files files' (λ _. did) (λ _ l. absurd l) a

lacks_call : (text : List ℕ) (status : ℕ) (result : Result ℕ Stop) (before now : Option (List ℕ)) (f g : ℕ)
    → Answers text status result before now f g → IsOk result → status ≡ FILE_UNAVAILABLE → CallLacks result
lacks_call text status (Ok s) before now f g a h l = a.status_is ∙ l
lacks_call text status (Err stop) before now f g a h l = absurd (false≢true h)

asked_fault : (command : Option Command) (ended : Type 0) (files files' : FileState) (text : List ℕ) (status : ℕ) (result : Result ℕ Stop) (before now : Option (List ℕ)) (f g : ℕ)
    → ended → AsksFor (command_files command) ended (status ≡ FILE_UNAVAILABLE) files files' → Answers text status result before now f g
    → AsksFor (command_files command) (IsOk result) (CallLacks result) files files'
asked_fault command ended files files' text status result before now f g did asked a =
    asks_more (command_files command) ended (status ≡ FILE_UNAVAILABLE) (IsOk result) (CallLacks result) files files' (λ _. did) (lacks_call text status result before now f g a) asked

module _ {T : Type 0} (command : Option Command) (ask : Held → Result T Refusal) (Says : T → List ℕ → Report → Type 0) (Refuses : T → Option (List ℕ) → ℕ → Type 0)
    (asks : Asks command ask Says Refuses) where
  why_found : (held : Option Held) (input : Option (List ℕ)) (made : T) → IfSome held (λ h. ask h ≡ Ok made) → (s : ℕ) → SaysWhyBy s ⊥ (Refuses made input s)
      → IfSome held (λ h. Why command h input s)
  why_found None input made e s w = tt
  why_found (Some h) input made e s w = asks.fits h input made s e w

  why_unavailable : (held : Option Held) (input : Option (List ℕ)) (refusal : Refusal) → IfSome held (λ h. ask h ≡ Err refusal) → IfSome held (λ h. Why command h input refusal.status)
  why_unavailable None input refusal e = tt
  why_unavailable (Some h) input refusal e = asks.lacks h input refusal e

  unavailable_says : (h : Held) (b : List ℕ) (refusal : Refusal) → ask h ≡ Err refusal → Reports command h b (record { text = refusal.line; status = refusal.status; left = b })
  unavailable_says h b refusal e = asks.reports h b (record { text = refusal.line; status = refusal.status; left = b }) (rw e refl)

  -- ---- commands that run something: it is there
  pub does_bytes : (reads : Reads command) (files files' : FileState) (old new : Streams) (result : Result ℕ Stop) (made : T)
      → IfSome files.held (λ held. ask held ≡ Ok made) → files'.faults ≡ files.faults → (ended : Type 0) → ended → AsksFor (command_files command) ended ⊥ files files'
      → YieldsBy (Says made) (Refuses made) old new result → Does command files files' old new result
  does_bytes reads files files' old new result made found same ended did asked y = record {
    whole = reads (λ held b left. IfOk result (λ s. DoesWhole (Reports command held b) s left old.output new.output)) files.held old.input new.input (whole files.held found);
    part = reads (λ held b left. DoesPart (Reports command held b) old.output new.output) files.held old.input new.input (part files.held found);
    why = why_all command files.held old.input (λ s. SaysWhyBy s ⊥ (Refuses made old.input s)) result (λ s w. why_found files.held old.input made found s w) y.why;
    read = λ e. inr (y.read e);
    write = y.write;
    memory = λ e. (same, y.memory e);
    status = reported result y.status;
    usage = used command result asks.some y.status;
    asked = asked_bytes command ended files files' result did asked;
  }
    where
      whole : (held : Option Held) → IfSome held (λ h. ask h ≡ Ok made)
          → IfSome held (λ h. IfSome old.input (λ b. IfOk result (λ s. DoesWhole (Reports command h b) s new.input old.output new.output)))
      whole None e = tt
      whole (Some h) e = whole_as (Says made) (Reports command h) old.input result new.input old.output new.output (λ b r s. asks.reports h b r (rw e s)) y.whole

      part : (held : Option Held) → IfSome held (λ h. ask h ≡ Ok made) → IfSome held (λ h. IfSome old.input (λ b. DoesPart (Reports command h b) old.output new.output))
      part None e = tt
      part (Some h) e = part_as (Says made) (Reports command h) old.input old.output new.output (λ b r s. asks.reports h b r (rw e s)) y.part

  -- .. there are none, and the line says why
  pub does_fault : (reads : Reads command) (files files' : FileState) (input before now : Option (List ℕ)) (i f g : ℕ) (result : Result ℕ Stop) (refusal : Refusal)
      → IfSome files.held (λ held. ask held ≡ Err refusal) → IsOfCommand refusal.status
      → (ended : Type 0) → ended → AsksFor (command_files command) ended (refusal.status ≡ FILE_UNAVAILABLE) files files'
      → Answers refusal.line refusal.status result before now f g
      → Does command files files' (streams input i before f) (streams input i now g) result
  does_fault reads files files' input before now i f g result refusal found of ended did asked a =
      let ofs = of_status IsOfCommand refusal.line refusal.status result before now f g of a in
      record {
        whole = reads (λ held b left. IfOk result (λ s. DoesWhole (Reports command held b) s left before now)) files.held input input (whole files.held input found);
        part = reads (λ held b left. DoesPart (Reports command held b) before now) files.held input input (part files.held input found);
        why = of_status (λ s. IfSome files.held (λ held. Why command held input s)) refusal.line refusal.status result before now f g (why_unavailable files.held input refusal found) a;
        read = λ e. absurd (let w = (only_write refusal.line refusal.status result Read before now f g a e).0 in cc);
        write = λ e. (only_write refusal.line refusal.status result Write before now f g a e).1;
        memory = λ e. absurd (let w = (only_write refusal.line refusal.status result Memory before now f g a e).0 in cc);
        status = reported result ofs;
        usage = used command result asks.some ofs;
        asked = asked_fault command ended files files' refusal.line refusal.status result before now f g did asked a;
      }
    where
      whole : (held : Option Held) (input : Option (List ℕ)) → IfSome held (λ h. ask h ≡ Err refusal)
          → IfSome held (λ h. IfSome input (λ b. IfOk result (λ s. DoesWhole (Reports command h b) s input before now)))
      whole None input e = tt
      whole (Some h) None e = tt
      whole (Some h) (Some b) e = whole_answer (Reports command h b) refusal.line refusal.status b result before now f g (unavailable_says h b refusal e) a

      part : (held : Option Held) (input : Option (List ℕ)) → IfSome held (λ h. ask h ≡ Err refusal) → IfSome held (λ h. IfSome input (λ b. DoesPart (Reports command h b) before now))
      part None input e = tt
      part (Some h) None e = tt
      part (Some h) (Some b) e = part_answer (Reports command h b) refusal.line refusal.status b result before now f g (unavailable_says h b refusal e) a

  -- ---- commands that leave the input: what they ask for is there
  pub keeps_bytes : (leaves : LeavesInput command) (files files' : FileState) (input before now : Option (List ℕ)) (i f g : ℕ) (result : Result ℕ Stop) (made : T)
      → IfSome files.held (λ held. ask held ≡ Ok made) → files'.faults ≡ files.faults
      → (ended : Type 0) → ended → AsksFor (command_files command) ended ⊥ files files'
      → ((input : Option (List ℕ)) (i : ℕ) → YieldsBy (Says made) (Refuses made) (streams input i before f) (streams input i now g) result)
      → Does command files files' (streams input i before f) (streams input i now g) result
  keeps_bytes leaves files files' input before now i f g result made found same ended did asked y =
      let one = y input i in
      record {
        whole = leaves (λ held b left. IfOk result (λ s. DoesWhole (Reports command held b) s left before now)) files.held input (whole files.held found);
        part = leaves (λ held b left. DoesPart (Reports command held b) before now) files.held input (part files.held found);
        why = why_all command files.held input (λ s. SaysWhyBy s ⊥ (Refuses made input s)) result (λ s w. why_found files.held input made found s w) one.why;
        read = λ e. inr (one.read e);
        write = one.write;
        memory = λ e. (same, one.memory e);
        status = reported result one.status;
        usage = used command result asks.some one.status;
        asked = asked_bytes command ended files files' result did asked;
      }
    where
      whole : (held : Option Held) → IfSome held (λ h. ask h ≡ Ok made)
          → IfSome held (λ h. (b : List ℕ) → IfOk result (λ s. DoesWhole (Reports command h b) s (Some b) before now))
      whole None e = tt
      whole (Some h) e = λ b. whole_as (Says made) (Reports command h) (Some b) result (Some b) before now (λ c r s. asks.reports h c r (rw e s)) (y (Some b) i).whole

      part : (held : Option Held) → IfSome held (λ h. ask h ≡ Ok made) → IfSome held (λ h. (b : List ℕ) → DoesPart (Reports command h b) before now)
      part None e = tt
      part (Some h) e = λ b. part_as (Says made) (Reports command h) (Some b) before now (λ c r s. asks.reports h c r (rw e s)) (y (Some b) i).part

  -- .. there are none, and the line says why
  pub keeps_fault : (leaves : LeavesInput command) (files files' : FileState) (input before now : Option (List ℕ)) (i f g : ℕ) (result : Result ℕ Stop) (refusal : Refusal)
      → IfSome files.held (λ held. ask held ≡ Err refusal) → IsOfCommand refusal.status
      → (ended : Type 0) → ended → AsksFor (command_files command) ended (refusal.status ≡ FILE_UNAVAILABLE) files files'
      → Answers refusal.line refusal.status result before now f g
      → Does command files files' (streams input i before f) (streams input i now g) result
  keeps_fault leaves files files' input before now i f g result refusal found of ended did asked a =
      let ofs = of_status IsOfCommand refusal.line refusal.status result before now f g of a in
      record {
        whole = leaves (λ held b left. IfOk result (λ s. DoesWhole (Reports command held b) s left before now)) files.held input (whole files.held found);
        part = leaves (λ held b left. DoesPart (Reports command held b) before now) files.held input (part files.held found);
        why = of_status (λ s. IfSome files.held (λ held. Why command held input s)) refusal.line refusal.status result before now f g (why_unavailable files.held input refusal found) a;
        read = λ e. absurd (let w = (only_write refusal.line refusal.status result Read before now f g a e).0 in cc);
        write = λ e. (only_write refusal.line refusal.status result Write before now f g a e).1;
        memory = λ e. absurd (let w = (only_write refusal.line refusal.status result Memory before now f g a e).0 in cc);
        status = reported result ofs;
        usage = used command result asks.some ofs;
        asked = asked_fault command ended files files' refusal.line refusal.status result before now f g did asked a;
      }
    where
      whole : (held : Option Held) → IfSome held (λ h. ask h ≡ Err refusal)
          → IfSome held (λ h. (b : List ℕ) → IfOk result (λ s. DoesWhole (Reports command h b) s (Some b) before now))
      whole None e = tt
      whole (Some h) e = λ b. whole_answer (Reports command h b) refusal.line refusal.status b result before now f g (unavailable_says h b refusal e) a

      part : (held : Option Held) → IfSome held (λ h. ask h ≡ Err refusal) → IfSome held (λ h. (b : List ℕ) → DoesPart (Reports command h b) before now)
      part None e = tt
      part (Some h) e = λ b. part_answer (Reports command h b) refusal.line refusal.status b result before now f g (unavailable_says h b refusal e) a

-- ---- a generated program, which reads nothing

pub program_does : (number functions : ℕ) (files : FileState) (input before now : Option (List ℕ)) (i f g : ℕ) (result : Result ℕ Stop)
    → ((input : Option (List ℕ)) (i : ℕ) → Yields (GenerateReports number functions) (IsUnfitProgram number functions) (streams input i before f) (streams input i now g) result)
    → Does (Some (GenerateProgram number functions)) files files (streams input i before f) (streams input i now g) result
program_does number functions files input before now i f g result y =
    let one = y input i in
    record {
      whole = (refl, λ held b. (y (Some b) i).whole);
      part = (refl, λ held b. (y (Some b) i).part);
      why = why_all (Some (GenerateProgram number functions)) files.held input (λ s. SaysWhy s ⊥ (IsUnfitProgram number functions)) result (λ s w. why files.held s w) one.why;
      read = λ e. inr (one.read e);
      write = one.write;
      memory = λ e. (refl, one.memory e);
      status = reported result one.status;
      usage = used (Some (GenerateProgram number functions)) result (λ e. cc) one.status;
      asked = asks_none (IsOk result) (CallLacks result) files files refl;
    }
  where
    why : (held : Option Held) (s : ℕ) → SaysWhy s ⊥ (IsUnfitProgram number functions) → IfSome held (λ h. Why (Some (GenerateProgram number functions)) h input s)
    why None s w = tt
    why (Some h) s w = record { missing = w.missing; refused = w.refused }

-- ---- words that are no command

pub usage_does : (files : FileState) (input before now : Option (List ℕ)) (i f g : ℕ) (result : Result ℕ Stop)
    → Answers usage USAGE result before now f g → Does None files files (streams input i before f) (streams input i now g) result
usage_does files input before now i f g result a = record {
  whole = (refl, λ held b. whole_answer (Reports None held b) usage USAGE b result before now f g refl a);
  part = (refl, λ held b. part_answer (Reports None held b) usage USAGE b result before now f g refl a);
  why = of_status (λ s. IfSome files.held (λ held. Why None held input s)) usage USAGE result before now f g (why files.held) a;
  read = λ e. absurd (let w = (only_write usage USAGE result Read before now f g a e).0 in cc);
  write = λ e. (only_write usage USAGE result Write before now f g a e).1;
  memory = λ e. absurd (let w = (only_write usage USAGE result Memory before now f g a e).0 in cc);
  status = of_status (λ s. IsReported s) usage USAGE result before now f g usage_reported a;
  usage = of_status (λ status. (status ≡ USAGE) ↔ (None ≡ None)) usage USAGE result before now f g ((λ _. refl), (λ _. refl)) a;
  asked = asks_none (IsOk result) (CallLacks result) files files refl;
}
  where
    why : (held : Option Held) → IfSome held (λ h. Why None h input USAGE)
    why None = tt
    why (Some h) = record { missing = ((λ e. absurd (omega arith)), (λ l. absurd l)); refused = ((λ e. absurd (omega arith)), (λ l. absurd l)) }
