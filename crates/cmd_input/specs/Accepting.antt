-- The verdict on the bytes of a file: an accepted image with the checker's report, or refused (docs/rules/acceptance.md). `run`, `walk`, `check`
-- and `gen` begin with it; each says by itself only what it does with an accepted image.
use Rattle.std.specs.Prelude.{ℕ, ◌≡◌, ◌-◌, List, [], Option, Result, Ok, Err, MatchResult}
use Rattle.elf_image.specs.Image.{Image, image_of}
use Rattle.elf_image.specs.declared.fault.ImageFault.{ImageFault}
use Rattle.frame_check.specs.Accepts.{Accepted, IsAccepted, IsSound, Refuses}
use Rattle.frame_check.specs.declared.fault.CheckFault.{CheckFault}
use Rattle.frame_check.specs.declared.fault.CheckFault.TheVariants as check
use Rattle.cmd_lines.specs.CheckText.{index_line, cause_line, type_line}
use Rattle.cmd_input.specs.Loading.{Report}
use Rattle.cmd_lines.specs.Text.{image_fault_line}
use Rattle.cmd_input.specs.declared.accept.BytesFault.{BytesFault}
use Rattle.cmd_input.specs.declared.accept.BytesFault.TheVariants.{NoImage, NotAccepted}
use Rattle.cmd_answers.specs.declared.status.TheConstants.{REFUSED}

-- ---- the step

-- the bytes are an accepted image, and this is a report of the checker on it
pub record IsFound (bytes : List ℕ) (a : Accepted) : Type 0 where
  pub image : image_of bytes ≡ Ok a.image
  pub sound : IsSound a

-- the bytes are an image that isn't accepted, and this is a refusal of it
pub record IsRejected (bytes : List ℕ) (fault : CheckFault) : Type 0 where
  pub image : Image
  pub is : image_of bytes ≡ Ok image
  pub stands : Refuses image fault
  pub unaccepted : ¬ (IsAccepted image)

-- the bytes are refused: they are no image, or one that isn't accepted
abbrev pub IsRefused : List ℕ → BytesFault → Type 0
IsRefused bytes (NoImage fault) = image_of bytes ≡ Err fault
IsRefused bytes (NotAccepted fault) = IsRejected bytes fault

-- what the verdict says of the bytes
abbrev pub Judges : List ℕ → Result Accepted BytesFault → Type 0
Judges bytes judged = MatchResult judged (λ a. IsFound bytes a) (λ fault. IsRefused bytes fault)

-- ---- what a command says of the verdict

-- the line of a refusal by the checker; lack of memory has none
abbrev pub check_fault_line : CheckFault → List ℕ
check_fault_line (check.Index fault) = index_line fault
check_fault_line (check.Function r) = cause_line r.function (r.at - r.start) r.cause
check_fault_line (check.Types fault) = type_line fault
check_fault_line check.OutOfMemory = []

abbrev pub bytes_fault_line : BytesFault → List ℕ
bytes_fault_line (NoImage fault) = image_fault_line fault
bytes_fault_line (NotAccepted fault) = check_fault_line fault

-- no guest runs, and the whole input is left
abbrev pub refused_report : BytesFault → List ℕ → Report
refused_report fault input = record { text = bytes_fault_line fault; status = REFUSED; left = input }

-- .. for bytes that are no image, and for an image that isn't accepted
abbrev pub no_image_report : ImageFault → List ℕ → Report
no_image_report fault input = refused_report (NoImage fault) input

abbrev pub rejected_report : CheckFault → List ℕ → Report
rejected_report fault input = refused_report (NotAccepted fault) input

-- `Says` of the report on an accepted image, or a refusal that holds. In the first refused function any address and cause that hold may be
-- named, and for types any that shows their fault. So several reports may be made of the same bytes.
pub record BytesReportsBy (Says : Accepted → List ℕ → Report → Type 0) (bytes input : List ℕ) (r : Report) : Type 0 where
  pub judged : Result Accepted BytesFault
  pub stands : Judges bytes judged
  pub is : MatchResult judged (λ a. Says a input r) (λ fault. r ≡ refused_report fault input)

-- ---- what is refused

abbrev pub IsRefusedBy : Result Image ImageFault → Type 0
IsRefusedBy (Ok image) = ¬ (IsAccepted image)
IsRefusedBy (Err fault) = Unit {0}

-- the bytes are no image, or one that isn't accepted
abbrev pub IsUnaccepted : List ℕ → Type 0
IsUnaccepted bytes = IsRefusedBy (image_of bytes)

-- for the report on an accepted image, `Pins` decides whether the status is that of a refusal; refused bytes are refused, whatever the
-- input is
pub record RefusedBy (Pins : Accepted → Option (List ℕ) → ℕ → Type 0) (bytes : List ℕ) (input : Option (List ℕ)) (status : ℕ) : Type 0 where
  pub judged : Result Accepted BytesFault
  pub stands : Judges bytes judged
  pub is : MatchResult judged (λ a. Pins a input status) (λ fault. status ≡ REFUSED)
