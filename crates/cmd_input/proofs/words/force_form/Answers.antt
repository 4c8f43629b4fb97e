use Rattle.std.proofs.Common.{◌≡◌, ◌+◌, ◌-◌, ℕ, List, [], ◌∷◌, ◌++◌, true, sym, ap, ◌∙◌, refl, arith, length, rules, tests}
use Rattle.std.specs.Prelude.{nat_le}
use Rattle.std.specs.Borrow.{Bor}
use Rattle.std.proofs.Math.Seq.{take-append_seam}
use Rattle.std.proofs.lemmas.List.{map-append, get_or_push, length-append}
use Rattle.cmd_input.specs.Words.{force_command, with_frame, frame_number}
use Rattle.cmd_answers.specs.Words.{texts}
use Rattle.cmd_input.proofs.words.force_form.Goals as goal

-- the last word is the number of the frame
force_command-push : (words : List (List ℕ)) (number : List ℕ) → force_command (words ++ number ∷ []) ≡ with_frame words (frame_number number)
unfolding force_command
force_command-push words number =
    let size : length (words ++ number ∷ []) ≡ length words + 1 = length-append words (number ∷ []) in
    let back : length (words ++ number ∷ []) - 1 ≡ length words = omega (arith, size) in
    let some : nat_le 1 (length (words ++ number ∷ [])) ≡ true = rw size (search (rules, tests)) in
    rw (some, back, take-append_seam words (number ∷ []), get_or_push words number [] (length words) refl) refl

by_split : (words rest : List (Bor (List ℕ))) (number : Bor (List ℕ)) → words ≡ rest ++ number ∷ [] → force_command (texts words) ≡ with_frame (texts rest) (frame_number number.now)
by_split words rest number e = rw (e, map-append) (force_command-push (texts rest) number.now)

pub returns : goal.returns
returns c =
    c.run_form.ensures ∙ ap (with_frame (texts c.in_ok-word.rest.now)) c.in_ok-number.ensures
    ∙ sym (by_split c.args.words.now c.in_ok-word.rest.now c.in_ok-word.word.now c.in_ok-word.ensures.cases.0)

pub returns-in_err-number : goal.returns-in_err-number
returns-in_err-number c =
    rw c.from_residual-in_err-number.ensures
    (ap (with_frame (texts c.in_ok-word.rest.now)) c.in_err-number.ensures
    ∙ sym (by_split c.args.words.now c.in_ok-word.rest.now c.in_ok-word.word.now c.in_ok-word.ensures.cases.0))
