use Rattle.std.specs.Prelude.{nat_le, if◌then◌else◌}
use Rattle.std.specs.Borrow.{Bor}
use Rattle.std.proofs.Common.{◌≡◌, ◌+◌, ◌-◌, ◌&&◌, ℕ, Bool, List, [], ◌∷◌, ◌++◌, Option, Some, None, true, refl, sym, ap, ◌∙◌, arith, length, rules, tests}
use Rattle.std.proofs.Math.Seq.{take-append_seam}
use Rattle.std.proofs.lemmas.List.{map-append, get_or_push, length-append}
use Rattle.cmd_input.specs.Words.{Command, RunThreads, thread_files, is_schedule, are_program}
use Rattle.cmd_answers.specs.Words.{texts}
use Rattle.cmd_input.proofs.words.threads_files_form.Goals as goal

-- what fits is the command
abbrev if_fit : List (List ℕ) → ℕ → Bool → Option Command
if_fit names budget fit = if fit then Some (RunThreads names budget) else None

-- the last name is the schedule's
thread_files-push : (names : List (List ℕ)) (schedule : List ℕ) (budget : ℕ) → thread_files (names ++ schedule ∷ []) budget ≡ if_fit (names ++ schedule ∷ []) budget (is_schedule schedule && are_program names)
unfolding thread_files
thread_files-push names schedule budget =
    let size : length (names ++ schedule ∷ []) ≡ length names + 1 = length-append names (schedule ∷ []) in
    let back : length (names ++ schedule ∷ []) - 1 ≡ length names = omega (arith, size) in
    let some : nat_le 1 (length (names ++ schedule ∷ [])) ≡ true = rw size (search (rules, tests)) in
    rw (some, back, take-append_seam names (schedule ∷ []), get_or_push names schedule [] (length names) refl) refl

by_split : (names program : List (Bor (List ℕ))) (schedule : Bor (List ℕ)) (budget : ℕ) → names ≡ program ++ schedule ∷ []
    → thread_files (texts names) budget ≡ if_fit (texts names) budget (is_schedule schedule.now && are_program (texts program))
by_split names program schedule budget e = rw (e, map-append) (thread_files-push (texts program) schedule.now budget)

pub returns-then-are_thread_files : goal.returns-then-are_thread_files
returns-then-are_thread_files c =
    sym (by_split c.args.names.now c.in_ok-schedule.program.now c.in_ok-schedule.schedule.now c.args.budget c.in_ok-schedule.ensures.cases.0
    ∙ ap (if_fit (texts c.args.names.now) c.args.budget) (sym c.are_thread_files.ensures ∙ c.if-are_thread_files.true))

pub returns-else-are_thread_files : goal.returns-else-are_thread_files
returns-else-are_thread_files c =
    sym (by_split c.args.names.now c.in_ok-schedule.program.now c.in_ok-schedule.schedule.now c.args.budget c.in_ok-schedule.ensures.cases.0
    ∙ ap (if_fit (texts c.args.names.now) c.args.budget) (sym c.are_thread_files.ensures ∙ c.if-are_thread_files.false))
