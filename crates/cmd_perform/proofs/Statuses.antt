-- What the status of a command says.
use Rattle.std.specs.Prelude.{◌==◌, if◌then◌else◌, IsErr}
use Rattle.std.proofs.Common.{◌≡◌, ℕ, ◌<◌, List, Option, Result, Ok, Err, Bool, true, false, refl, arith}
use Rattle.run_gates.specs.Ends.{is_fault}
use Rattle.thumb_core.specs.declared.ends.End.{End}
use Rattle.thumb_core.specs.declared.ends.End.TheVariants.{Exit, Terminate, Trap, Budget, ReadFault, WriteFault}
use Rattle.cmd_answers.specs.declared.status.TheConstants.{DONE, EXIT_NONZERO, REFUSED, FILE_UNAVAILABLE}
use Rattle.cmd_input.specs.Building.{or_refusal, made_of_files}
use Rattle.cmd_answers.specs.Statuses.{SaysWhy, SaysWhyBy, IsOfCommand, is_conclusive}
use Rattle.cmd_input.specs.Loading.{status_of}
use Rattle.cmd_input.specs.Sources.{NamedText, Refusal}
use Rattle.cmd_perform.specs.Unfit.{RefusedMade, RefusedFiles}
use Rattle.cmd_answers.proofs.Statuses.{says_unavailable, says_unfit, says_fine, done_reported}

-- ---- the end of a run

-- what a status is that is said of no file
pub record IsOfRun (status : ℕ) : Type 0 where
  pub not_unavailable : status ≡ FILE_UNAVAILABLE → ⊥
  pub not_refused : status ≡ REFUSED → ⊥
  pub reported : IsOfCommand status

exit_of_run : (b : Bool) → IsOfRun (if b then DONE else EXIT_NONZERO)
exit_of_run true = record { not_unavailable = λ e. omega arith; not_refused = λ e. omega arith; reported = done_reported }
exit_of_run false = record {
  not_unavailable = λ e. omega arith;
  not_refused = λ e. omega arith;
  reported = record { reported = record { conclusive = refl; bounded = omega arith }; other = λ e. omega arith };
}

pub done_of_run : IsOfRun DONE
done_of_run = exit_of_run true

small_of_run : (status : ℕ) → is_conclusive status ≡ true → 3 < status → status < 10 → IsOfRun status
small_of_run status conclusive low high = record {
  not_unavailable = λ e. omega arith;
  not_refused = λ e. omega arith;
  reported = record { reported = record { conclusive = conclusive; bounded = omega arith }; other = λ e. omega arith };
}

pub end_of_run : (end : End) → is_fault end ≡ false → IsOfRun (status_of end)
end_of_run (Exit n) fine = exit_of_run (n == 0)
end_of_run (Terminate cause) fine = small_of_run 4 refl (omega arith) (omega arith)
end_of_run (Trap kind value pc) fine = small_of_run 5 refl (omega arith) (omega arith)
end_of_run Budget fine = small_of_run 6 refl (omega arith) (omega arith)
end_of_run ReadFault fine = absurd (cc)
end_of_run WriteFault fine = absurd (cc)

pub says_end : (end : End) (unfit : Type 0) → is_fault end ≡ false → (unfit → ⊥) → SaysWhy (status_of end) ⊥ unfit
says_end end unfit fine n = let s = end_of_run end fine in says_fine (status_of end) ⊥ unfit s.not_unavailable s.not_refused (λ l. l) n

-- ---- what is made of files says of them

module _ {T : Type 0} (make : List NamedText → Result T (List ℕ)) (refuses : T → Option (List ℕ) → ℕ → Type 0) (input : Option (List ℕ)) where
  line_refused : (answer : Result T (List ℕ)) (refusal : Refusal) → or_refusal answer ≡ Err refusal → SaysWhyBy refusal.status ⊥ (RefusedMade refuses answer input refusal.status)
  line_refused (Ok made) refusal e = absurd (cc)
  line_refused (Err line) refusal e =
      let is : refusal ≡ record { status = REFUSED; line = line } = cc in
      rw is (says_unfit ⊥ (Unit {0}) (λ l. l) tt)

  is_fit : (answer : Result T (List ℕ)) (made : T) (s : ℕ) → or_refusal answer ≡ Ok made → SaysWhyBy s ⊥ (refuses made input s) → SaysWhyBy s ⊥ (RefusedMade refuses answer input s)
  is_fit (Ok found) made s e w =
      let is : found ≡ made = cc in
      rw is w
  is_fit (Err line) made s e w = absurd (cc)

  -- the files are there
  all_there : (lacks : Type 0) (s : ℕ) (U : Type 0) → (lacks → ⊥) → SaysWhyBy s ⊥ U → SaysWhyBy s lacks U
  all_there lacks s U n w = record { missing = ((λ h. absurd (w.missing.0 h)), (λ l. absurd (n l))); refused = w.refused }

  pub made_refused : (found : Result (List NamedText) (List ℕ)) (refusal : Refusal) → made_of_files make found ≡ Err refusal
      → SaysWhyBy refusal.status (IsErr found) (RefusedFiles make refuses found input refusal.status)
  made_refused (Ok files) refusal e = all_there _ refusal.status _ (λ l. cc) (line_refused (make files) refusal e)
  made_refused (Err line) refusal e =
      let is : refusal ≡ record { status = FILE_UNAVAILABLE; line = line } = cc in
      rw is (says_unavailable _ ⊥ refl (λ u. u))

  pub made_fits : (found : Result (List NamedText) (List ℕ)) (made : T) (s : ℕ) → made_of_files make found ≡ Ok made → SaysWhyBy s ⊥ (refuses made input s)
      → SaysWhyBy s (IsErr found) (RefusedFiles make refuses found input s)
  made_fits (Ok files) made s e w = all_there _ s _ (λ l. cc) (is_fit (make files) made s e w)
  made_fits (Err line) made s e w = absurd (cc)
