use Rattle.std.proofs.Common.{◌≡◌, ◌+◌, ◌-◌, ℕ, List, [], ◌∷◌, ◌++◌, true, refl, sym, ap, ◌∙◌, arith, length, rules, tests}
use Rattle.std.specs.Prelude.{nat_le}
use Rattle.std.specs.Borrow.{Bor}
use Rattle.std.proofs.Math.Seq.{take-append_seam}
use Rattle.std.proofs.lemmas.List.{map-append, get_or_push, length-append}
use Rattle.cmd_input.specs.Words.{threads_command, with_elements, budget_of}
use Rattle.cmd_answers.specs.Words.{texts}
use Rattle.cmd_input.proofs.words.threads_form.Goals as goal

-- the last word is how many elements may go
threads_command-push : (names : List (List ℕ)) (number : List ℕ) → threads_command (names ++ number ∷ []) ≡ with_elements names (budget_of number)
unfolding threads_command
threads_command-push names number =
    let size : length (names ++ number ∷ []) ≡ length names + 1 = length-append names (number ∷ []) in
    let back : length (names ++ number ∷ []) - 1 ≡ length names = omega (arith, size) in
    let some : nat_le 1 (length (names ++ number ∷ [])) ≡ true = rw size (search (rules, tests)) in
    rw (some, back, take-append_seam names (number ∷ []), get_or_push names number [] (length names) refl) refl

by_split : (words names : List (Bor (List ℕ))) (number : Bor (List ℕ)) → words ≡ names ++ number ∷ [] → threads_command (texts words) ≡ with_elements (texts names) (budget_of number.now)
by_split words names number e = rw (e, map-append) (threads_command-push (texts names) number.now)

pub returns : goal.returns
returns c =
    c.threads_files_form.ensures ∙ ap (with_elements (texts c.in_ok-number.names.now)) c.in_ok-budget.ensures
    ∙ sym (by_split c.args.words.now c.in_ok-number.names.now c.in_ok-number.number.now c.in_ok-number.ensures.cases.0)

pub returns-in_err-budget : goal.returns-in_err-budget
returns-in_err-budget c =
    rw c.from_residual-in_err-budget.ensures
    (ap (with_elements (texts c.in_ok-number.names.now)) c.in_err-budget.ensures
    ∙ sym (by_split c.args.words.now c.in_ok-number.names.now c.in_ok-number.number.now c.in_ok-number.ensures.cases.0))
