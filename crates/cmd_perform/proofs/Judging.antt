-- Reports of bytes that are judged first, from what the step to an accepted image answers.
use Rattle.std.specs.Prelude.{IfOk, ◌↔◌}
use Rattle.std.proofs.Common.{◌≡◌, ◌⊎◌, ℕ, List, Option, Result, Ok, Err, refl, sym, subst, inl, inr}
use Rattle.elf_image.specs.Image.{Image}
use Rattle.elf_image.specs.declared.fault.ImageFault.{ImageFault}
use Rattle.frame_check.specs.Accepts.{Accepted, IsAccepted, IsSound}
use Rattle.cmd_input.specs.Accepting.{IsFound, IsRefused, IsRefusedBy, IsUnaccepted, BytesReportsBy, bytes_fault_line}
use Rattle.cmd_input.specs.Loading.{Report}
use Rattle.cmd_answers.specs.Statuses.{SaysWhyBy}
use Rattle.cmd_perform.specs.TaskReport.{TaskPins, TaskRefuses}
use Rattle.cmd_answers.specs.Writes.{Answers, StopsEarly}
use Rattle.cmd_perform.specs.Yields.{Streams, streams, YieldsBy, Yields, RefusedWhere}
use Rattle.cmd_input.specs.declared.words.Task.{Task}
use Rattle.cmd_input.specs.declared.words.Task.TheVariants.{Run, Walk, Force}
use Rattle.cmd_input.specs.declared.accept.BytesFault.{BytesFault}
use Rattle.cmd_input.specs.declared.accept.BytesFault.TheVariants.{NoImage, NotAccepted}
use Rattle.cmd_answers.specs.declared.status.TheConstants.{REFUSED}
use Rattle.cmd_answers.specs.declared.stop.Stop.{Stop}
use Rattle.cmd_answers.specs.declared.stop.Stop.TheVariants.{Memory}
use Rattle.cmd_answers.proofs.Statuses.{says_refused, refused_reported}
use Rattle.cmd_perform.proofs.Yielding.{yields_answer_by, yields_stopped_by, yields_as_by}

-- ---- what is found is accepted, and what is refused isn't

accepted_by : (a : Accepted) → IsSound a → IsAccepted a.image
accepted_by a s = record { index = s.index; functions = s.functions; types = a.types; graph = s.graph }

not_unaccepted : (bytes : List ℕ) (a : Accepted) → IsFound bytes a → IsUnaccepted bytes → ⊥
not_unaccepted bytes a found u = subst (λ (r : Result Image ImageFault). IsRefusedBy r) found.image u (accepted_by a found.sound)

unaccepted : (bytes : List ℕ) (fault : BytesFault) → IsRefused bytes fault → IsUnaccepted bytes
unaccepted bytes (NoImage fault) stands = subst (λ (r : Result Image ImageFault). IsRefusedBy r) (sym stands) tt
unaccepted bytes (NotAccepted fault) stands = subst (λ (r : Result Image ImageFault). IsRefusedBy r) (sym stands.is) stands.unaccepted

-- what is refused of nothing is refused of unaccepted bytes, where the bytes are accepted
fit_unaccepted : (bytes : List ℕ) (a : Accepted) (s : ℕ) → IsFound bytes a → (s ≡ REFUSED) ↔ ⊥ → (s ≡ REFUSED) ↔ IsUnaccepted bytes
fit_unaccepted bytes a s found w = ((λ e. absurd (w.0 e)), (λ u. absurd (not_unaccepted bytes a found u)))

-- ---- reports

each_status : (P Q : ℕ → Type 0) (result : Result ℕ Stop) → ((s : ℕ) → P s → Q s) → IfOk result (λ s. SaysWhyBy s ⊥ (P s)) → IfOk result (λ s. SaysWhyBy s ⊥ (Q s))
each_status P Q (Ok s) f w = record { missing = w.missing; refused = f s w.refused }
each_status P Q (Err stop) f w = tt

module _ (Says : Accepted → List ℕ → Report → Type 0) (bytes : List ℕ) where
  -- what is made of an accepted image is made of its bytes
  pub found_yields_by : (Pins Refuses : Option (List ℕ) → ℕ → Type 0) (a : Accepted) (old new : Streams) (result : Result ℕ Stop) → IsFound bytes a → ((s : ℕ) → Pins old.input s → Refuses old.input s)
      → YieldsBy (Says a) Pins old new result → YieldsBy (BytesReportsBy Says bytes) Refuses old new result
  found_yields_by Pins Refuses a old new result found pins y =
      yields_as_by (Says a) (BytesReportsBy Says bytes) Pins Refuses old new result (λ b r is. record { judged = Ok a; stands = found; is = is })
      (each_status (Pins old.input) (Refuses old.input) result pins) y

  pub found_yields : (a : Accepted) (old new : Streams) (result : Result ℕ Stop) → IsFound bytes a → Yields (Says a) ⊥ old new result
      → Yields (BytesReportsBy Says bytes) (IsUnaccepted bytes) old new result
  found_yields a old new result found y =
      found_yields_by (RefusedWhere ⊥) (RefusedWhere (IsUnaccepted bytes)) a old new result found (λ s w. fit_unaccepted bytes a s found w) y

  -- and of refused bytes the line of the refusal, or no memory was found for it
  pub refused_yields_by : (Refuses : Option (List ℕ) → ℕ → Type 0) (fault : BytesFault) (result : Result ℕ Stop) (input before now : Option (List ℕ)) (i f g : ℕ) → IsRefused bytes fault
      → Refuses input REFUSED
      → Answers (bytes_fault_line fault) REFUSED result before now f g ⊎ StopsEarly Memory result before now f g
      → YieldsBy (BytesReportsBy Says bytes) Refuses (streams input i before f) (streams input i now g) result
  refused_yields_by Refuses fault result input before now i f g stands pins (inl a) =
      yields_answer_by (BytesReportsBy Says bytes) Refuses (bytes_fault_line fault) REFUSED result input before now i f g
      (λ b. record { judged = Err fault; stands = stands; is = refl }) (says_refused (Refuses input REFUSED) pins) refused_reported a
  refused_yields_by Refuses fault result input before now i f g stands pins (inr s) = yields_stopped_by (BytesReportsBy Says bytes) Refuses result input before now i f g s

  pub refused_yields : (fault : BytesFault) (result : Result ℕ Stop) (input before now : Option (List ℕ)) (i f g : ℕ) → IsRefused bytes fault
      → Answers (bytes_fault_line fault) REFUSED result before now f g ⊎ StopsEarly Memory result before now f g
      → Yields (BytesReportsBy Says bytes) (IsUnaccepted bytes) (streams input i before f) (streams input i now g) result
  refused_yields fault result input before now i f g stands a =
      refused_yields_by (RefusedWhere (IsUnaccepted bytes)) fault result input before now i f g stands ((λ _. unaccepted bytes fault stands), (λ _. refl)) a

-- ---- what is asked of an accepted image

pub task_found : (task : Task) (budget : ℕ) (bytes : List ℕ) (a : Accepted) (input : Option (List ℕ)) (s : ℕ) → IsFound bytes a → TaskPins task budget a input s → TaskRefuses task budget bytes input s
task_found Run budget bytes a input s found w = fit_unaccepted bytes a s found w
task_found Walk budget bytes a input s found w = fit_unaccepted bytes a s found w
task_found (Force number) budget bytes a input s found w = record { judged = Ok a; stands = found; is = w }

pub task_refused : (task : Task) (budget : ℕ) (bytes : List ℕ) (fault : BytesFault) (input : Option (List ℕ)) → IsRefused bytes fault → TaskRefuses task budget bytes input REFUSED
task_refused Run budget bytes fault input stands = ((λ _. unaccepted bytes fault stands), (λ _. refl))
task_refused Walk budget bytes fault input stands = ((λ _. unaccepted bytes fault stands), (λ _. refl))
task_refused (Force number) budget bytes fault input stands = record { judged = Err fault; stands = stands; is = refl }
