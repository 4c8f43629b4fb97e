-- What the status of a command says.
use Rattle.std.proofs.Common.{◌≡◌, ℕ, refl, arith}
use Rattle.cmd_answers.specs.declared.status.TheConstants.{DONE, USAGE, REFUSED, FILE_UNAVAILABLE}
use Rattle.cmd_answers.specs.Statuses.{SaysWhy, SaysWhyBy, IsReported, IsOfCommand}

pub says_unavailable : (lacks unfit : Type 0) → lacks → (unfit → ⊥) → SaysWhy FILE_UNAVAILABLE lacks unfit
says_unavailable lacks unfit l n = record { missing = ((λ _. l), (λ _. refl)); refused = ((λ h. absurd (omega arith)), (λ u. absurd (n u))) }

pub says_unfit : (lacks unfit : Type 0) → (lacks → ⊥) → unfit → SaysWhy REFUSED lacks unfit
says_unfit lacks unfit n u = record { missing = ((λ h. absurd (omega arith)), (λ l. absurd (n l))); refused = ((λ _. u), (λ _. refl)) }

pub says_fine : (status : ℕ) (lacks unfit : Type 0) → (status ≡ FILE_UNAVAILABLE → ⊥) → (status ≡ REFUSED → ⊥) → (lacks → ⊥) → (unfit → ⊥) → SaysWhy status lacks unfit
says_fine status lacks unfit ten three n m = record { missing = ((λ h. absurd (ten h)), (λ l. absurd (n l))); refused = ((λ h. absurd (three h)), (λ u. absurd (m u))) }

-- it is the status of a refusal, and this is told of it
pub says_refused : (told : Type 0) → told → SaysWhyBy REFUSED ⊥ told
says_refused told t = record { missing = ((λ h. absurd (omega arith)), (λ l. absurd l)); refused = t }

-- nothing is refused
pub done_says : (unfit : Type 0) → (unfit → ⊥) → SaysWhy DONE ⊥ unfit
done_says unfit n = says_fine DONE ⊥ unfit (λ h. omega arith) (λ h. omega arith) (λ l. l) n

-- ---- statuses of reports

pub done_reported : IsOfCommand DONE
done_reported = record { reported = record { conclusive = refl; bounded = omega arith }; other = λ e. omega arith }

pub refused_reported : IsOfCommand REFUSED
refused_reported = record { reported = record { conclusive = refl; bounded = omega arith }; other = λ e. omega arith }

pub unavailable_reported : IsOfCommand FILE_UNAVAILABLE
unavailable_reported = record { reported = record { conclusive = refl; bounded = omega arith }; other = λ e. omega arith }

pub usage_reported : IsReported USAGE
usage_reported = record { conclusive = refl; bounded = omega arith }
