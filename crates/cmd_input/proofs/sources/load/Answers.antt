use Rattle.std.proofs.Common.{◌+◌, ◌∙◌, Bor, Err, List, ℕ, ap, drop, refl, slice_index_or, []}
use Rattle.std.proofs.lemmas.Bool.{false≢true}
use Rattle.std.proofs.lemmas.Result.{err_from_is_err_and}
use Rattle.std.proofs.lemmas.List.{drop_all, drop_more}
use Rattle.eh_port.specs.declared.files.FileAnswer.TheVariants.{Missing, TooLong}
use Rattle.cmd_answers.specs.Files.{missing_line, too_long_line}
use Rattle.cmd_input.proofs.FileLoads.{next_found, next_lacks, all_found, wants_of}
use Rattle.cmd_input.proofs.FilesAsked.{kept_with, goes_after, asks_to_unavailable, asks_early, asks_all}
use Rattle.cmd_input.proofs.sources.load.Goals as goal

pub returns-in-Missing-clause-told : goal.returns-in-Missing-clause-told
returns-in-Missing-clause-told g c =
    let xs = c.args.names.now in
    let i = c.loop-name.name-index in
    let n : Bor (List ℕ) = slice_index_or xs i (record { ref_ptr = (0, 0); now = [] }) in
    next_lacks xs (drop i xs) (drop (i + 1) xs) n c.loop-name.all.items Missing (missing_line n.now) _ _
    (drop_more xs i _ c.loop-name-test.true) c.loop-name.invariant.same refl c.loop-name.invariant.told (rw c.in-Missing.is at c.in_ok-bytes.ensures.answer)

pub returns-in-TooLong-clause-told : goal.returns-in-TooLong-clause-told
returns-in-TooLong-clause-told g c =
    let xs = c.args.names.now in
    let i = c.loop-name.name-index in
    let n : Bor (List ℕ) = slice_index_or xs i (record { ref_ptr = (0, 0); now = [] }) in
    next_lacks xs (drop i xs) (drop (i + 1) xs) n c.loop-name.all.items TooLong (too_long_line n.now) _ _
    (drop_more xs i _ c.loop-name-test.true) c.loop-name.invariant.same refl c.loop-name.invariant.told (rw c.in-TooLong.is at c.in_ok-bytes.ensures.answer)

pub loop-name-preserved : goal.loop-name-preserved
loop-name-preserved g c =
    let xs = c.args.names.now in
    let i = c.loop-name.name-index in
    let d : Bor (List ℕ) = record { ref_ptr = (0, 0); now = [] } in
    let n : Bor (List ℕ) = slice_index_or xs i (record { ref_ptr = (0, 0); now = [] }) in
    record {
      told = next_found xs (drop i xs) (drop (i + 1) xs) n c.loop-name.all.items _ c.in-Found.bytes _ _
          (drop_more xs i _ c.loop-name-test.true) c.loop-name.invariant.same c.loop-name.invariant.told (rw c.in-Found.is at c.in_ok-bytes.ensures.answer)
          (rw c.new.ensures at c.in_ok-push-in-Found.ensures.items);
      same = c.in_ok-bytes.ensures.same ∙ c.loop-name.invariant.same;
      kept = c.in_ok-bytes.ensures.cause.kept ∙ c.loop-name.invariant.kept;
      asked = kept_with xs i d c.loop-name-test.true _ _ _ _ c.loop-name.invariant.asked c.in_ok-bytes.ensures.once;
      after = goes_after xs i d c.loop-name-test.true c.in-Found.bytes _ _ c.loop-name.invariant.same c.loop-name.invariant.after (rw c.in-Found.is at c.in_ok-bytes.ensures.answer);
    }

pub returns-clause-told : goal.returns-clause-told
returns-clause-told g c =
    let xs = c.args.names.now in
    let i = c.loop-name.name-index in
    all_found xs (drop i xs) c.loop-name.all.items _ (drop_all i xs c.loop-name-test.false) c.loop-name.invariant.told

pub returns-in_err-bytes-clause-memory : goal.returns-in_err-bytes-clause-memory
returns-in_err-bytes-clause-memory g c = λ e.
    let p = err_from_is_err_and c.from_residual.result c.from_residual.ensures.1 in
    let is = wants_of c.in_err-bytes.field-0.0 (rw (p.1, p.2) at e) in
    c.in_err-bytes.ensures.cause.memory (ap Err is) ∙ c.loop-name.invariant.kept

pub returns-in_err-push-in-Found-clause-memory : goal.returns-in_err-push-in-Found-clause-memory
returns-in_err-push-in-Found-clause-memory g c = λ _. c.in_ok-bytes.ensures.cause.kept ∙ c.loop-name.invariant.kept

pub returns-in-Missing-clause-kept : goal.returns-in-Missing-clause-kept
returns-in-Missing-clause-kept g c = c.in_ok-bytes.ensures.cause.kept ∙ c.loop-name.invariant.kept

pub returns-in-TooLong-clause-kept : goal.returns-in-TooLong-clause-kept
returns-in-TooLong-clause-kept g c = c.in_ok-bytes.ensures.cause.kept ∙ c.loop-name.invariant.kept

pub returns-clause-kept : goal.returns-clause-kept
returns-clause-kept g c = c.loop-name.invariant.kept

pub returns-in-Missing-clause-asked : goal.returns-in-Missing-clause-asked
returns-in-Missing-clause-asked g c =
    let d : Bor (List ℕ) = record { ref_ptr = (0, 0); now = [] } in
    asks_to_unavailable c.args.names.now c.loop-name.name-index d c.loop-name-test.true Missing tt _ tt _ _ _ _ c.loop-name.invariant.same
    c.loop-name.invariant.asked c.in_ok-bytes.ensures.once c.loop-name.invariant.after (rw c.in-Missing.is at c.in_ok-bytes.ensures.answer) _

pub returns-in-TooLong-clause-asked : goal.returns-in-TooLong-clause-asked
returns-in-TooLong-clause-asked g c =
    let d : Bor (List ℕ) = record { ref_ptr = (0, 0); now = [] } in
    asks_to_unavailable c.args.names.now c.loop-name.name-index d c.loop-name-test.true TooLong tt _ tt _ _ _ _ c.loop-name.invariant.same
    c.loop-name.invariant.asked c.in_ok-bytes.ensures.once c.loop-name.invariant.after (rw c.in-TooLong.is at c.in_ok-bytes.ensures.answer) _

pub returns-in_err-bytes-clause-asked : goal.returns-in_err-bytes-clause-asked
returns-in_err-bytes-clause-asked g c =
    let d : Bor (List ℕ) = record { ref_ptr = (0, 0); now = [] } in
    let p = err_from_is_err_and c.from_residual.result c.from_residual.ensures.1 in
    asks_early c.args.names.now c.loop-name.name-index d c.loop-name-test.true _ _ _
    c.loop-name.invariant.asked c.in_err-bytes.ensures.once c.loop-name.invariant.after _ _ (λ ok. false≢true (rw p.1 at ok))

pub returns-in_err-push-in-Found-clause-asked : goal.returns-in_err-push-in-Found-clause-asked
returns-in_err-push-in-Found-clause-asked g c =
    let d : Bor (List ℕ) = record { ref_ptr = (0, 0); now = [] } in
    let p = err_from_is_err_and c.from_residual-in_err-push-in-Found.result c.from_residual-in_err-push-in-Found.ensures.1 in
    asks_early c.args.names.now c.loop-name.name-index d c.loop-name-test.true _ _ _
    c.loop-name.invariant.asked c.in_ok-bytes.ensures.once c.loop-name.invariant.after _ _ (λ ok. false≢true (rw p.1 at ok))

pub returns-clause-asked : goal.returns-clause-asked
returns-clause-asked g c =
    asks_all c.args.names.now c.loop-name.name-index _ _ _ _ c.loop-name-test.false c.loop-name.invariant.asked c.loop-name.invariant.after
