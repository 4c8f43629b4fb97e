-- What a call guarantees that makes a report of its input, without files.
use Rattle.std.specs.Prelude.{ℕ, ◌≡◌, ◌⊎◌, ◌↔◌, List, Option, Some, IfOk, IfSome, IsErrOf, Result}
use Rattle.std.specs.Io.KnownBytes.{Appends, Keeps}
use Rattle.eh_port.specs.Causes.{Rose}
use Rattle.eh_port.specs.Writing.{AppendsPart}
use Rattle.cmd_input.specs.Loading.{Report}
use Rattle.cmd_answers.specs.Statuses.{SaysWhyBy, IsOfCommand}
use Rattle.cmd_answers.specs.declared.status.TheConstants.{REFUSED}
use Rattle.cmd_answers.specs.declared.stop.Stop.{Stop}
use Rattle.cmd_answers.specs.declared.stop.Stop.TheVariants.{Read, Write, Memory}

-- what a source and a sink hold, and how often each has failed
pub record Streams : Type 0 where
  pub input : Option (List ℕ)
  pub input_faults : ℕ
  pub output : Option (List ℕ)
  pub output_faults : ℕ

abbrev pub streams : Option (List ℕ) → ℕ → Option (List ℕ) → ℕ → Streams
streams input input_faults output output_faults = record { input = input; input_faults = input_faults; output = output; output_faults = output_faults }

-- neither has failed
pub record NoFault (old new : Streams) : Type 0 where
  pub input : new.input_faults ≡ old.input_faults
  pub output : new.output_faults ≡ old.output_faults

-- ---- what was done of a report

-- one of these reports was written whole, its status returned, and its rest of the input left
pub record DoesWhole (Says : Report → Type 0) (status : ℕ) (left before now : Option (List ℕ)) : Type 0 where
  pub report : Report
  pub is : Says report
  pub status_is : status ≡ report.status
  pub leaves : left ≡ Some report.left
  pub wrote : Appends before now report.text

-- nothing was written, or a part of one of these reports
abbrev pub DoesPart : (Report → Type 0) → Option (List ℕ) → Option (List ℕ) → Type 0
DoesPart Says before now = Keeps before now ⊎ ((report : Report) × Says report × AppendsPart before now report.text)

-- the only report of an input
abbrev pub Only : (List ℕ → Report) → List ℕ → Report → Type 0
Only report input r = r ≡ report input

-- ---- what decides that the status is REFUSED, given the input if it is known

-- it comes exactly if what was given is refused, whatever the input is
abbrev pub RefusedWhere : Type 0 → Option (List ℕ) → ℕ → Type 0
RefusedWhere unfit input status = (status ≡ REFUSED) ↔ unfit

-- .. for these bytes
abbrev pub RefusedOf : (List ℕ → Type 0) → List ℕ → Option (List ℕ) → ℕ → Type 0
RefusedOf Unfit bytes = RefusedWhere (Unfit bytes)

-- .. or exactly if it is refused with this input, if that is known
abbrev pub RefusedOn : (List ℕ → Type 0) → Option (List ℕ) → ℕ → Type 0
RefusedOn Unfit input status = IfSome input (λ bytes. (status ≡ REFUSED) ↔ Unfit bytes)

-- ---- calls

-- A call that does a report of its input, if that is known: whole at `Ok`, and a part of it in any case. `Refuses` decides when its status
-- is REFUSED. A stop has a cause, and lack of memory comes only if nothing has failed.
pub record YieldsBy (Says : List ℕ → Report → Type 0) (Refuses : Option (List ℕ) → ℕ → Type 0) (old new : Streams) (result : Result ℕ Stop) : Type 0 where
  pub whole : IfSome old.input (λ bytes. IfOk result (λ status. DoesWhole (Says bytes) status new.input old.output new.output))
  pub part : IfSome old.input (λ bytes. DoesPart (Says bytes) old.output new.output)
  pub why : IfOk result (λ status. SaysWhyBy status ⊥ (Refuses old.input status))
  pub read : IsErrOf result Read → Rose old.input_faults new.input_faults
  pub write : IsErrOf result Write → Rose old.output_faults new.output_faults
  pub memory : IsErrOf result Memory → NoFault old new
  pub status : IfOk result IsOfCommand

-- .. that is refused exactly if what it was given is
abbrev pub Yields : (List ℕ → Report → Type 0) → Type 0 → Streams → Streams → Result ℕ Stop → Type 0
Yields Says unfit = YieldsBy Says (RefusedWhere unfit)
