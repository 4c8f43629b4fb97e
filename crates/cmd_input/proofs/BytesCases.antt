-- A report of bytes is of what was found, of what is wrong with them, or of why their image isn't accepted.
use Rattle.std.specs.Prelude.{MatchResult}
use Rattle.std.proofs.Common.{◌≡◌, ℕ, List, Result, Ok, Err}
use Rattle.elf_image.specs.Image.{image_of}
use Rattle.elf_image.specs.declared.fault.ImageFault.{ImageFault}
use Rattle.frame_check.specs.Accepts.{Accepted}
use Rattle.frame_check.specs.declared.fault.CheckFault.{CheckFault}
use Rattle.cmd_input.specs.Accepting.{IsFound, IsRejected, Judges, refused_report, no_image_report, rejected_report, BytesReportsBy}
use Rattle.cmd_input.specs.Loading.{Report}
use Rattle.cmd_input.specs.declared.accept.BytesFault.{BytesFault}
use Rattle.cmd_input.specs.declared.accept.BytesFault.TheVariants.{NoImage, NotAccepted}

module _ (Says : Accepted → List ℕ → Report → Type 0) (bytes input : List ℕ) (r : Report) (P : Type 0)
    (found : (a : Accepted) → IsFound bytes a → Says a input r → P) (absent : (fault : ImageFault) → image_of bytes ≡ Err fault → r ≡ no_image_report fault input → P)
    (rejected : (fault : CheckFault) → IsRejected bytes fault → r ≡ rejected_report fault input → P) where
  by_judged : (judged : Result Accepted BytesFault) → Judges bytes judged → MatchResult judged (λ a. Says a input r) (λ fault. r ≡ refused_report fault input) → P
  by_judged (Ok a) stands is = found a stands is
  by_judged (Err (NoImage fault)) stands is = absent fault stands is
  by_judged (Err (NotAccepted fault)) stands is = rejected fault stands is

  pub by_bytes : BytesReportsBy Says bytes input r → P
  by_bytes h = by_judged h.judged h.stands h.is
