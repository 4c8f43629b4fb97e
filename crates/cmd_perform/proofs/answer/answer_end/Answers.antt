use Rattle.std.proofs.Common.{◌∙◌}
use Rattle.cmd_perform.proofs.Answering.{ends_fine, ends_fault, written_free, no_want_of_memory}
use Rattle.cmd_perform.proofs.answer.answer_end.Goals as goal

pub returns-in-Ok-clause-does : goal.returns-in-Ok-clause-does
returns-in-Ok-clause-does g c =
    let line = rw (c.as_slice.ensures.value ∙ c.end_line.ensures) at c.answer_both.ensures in
    ends_fine _ c.args.end _ _ _ _ _ _ c.in-Ok.ensures.ok.0 c.in-Ok.ensures.ok.1 line

pub returns-in-Ok-clause-free : goal.returns-in-Ok-clause-free
returns-in-Ok-clause-free g c = written_free _ _ _ _ _ _ _ c.answer_both.ensures

pub returns-in-Err-clause-does : goal.returns-in-Err-clause-does
returns-in-Err-clause-does g c = ends_fault _ c.args.end _ _ _ c.in-Err.ensures.err.0 c.in-Err.ensures.err.1

pub returns-in-Err-clause-free : goal.returns-in-Err-clause-free
returns-in-Err-clause-free g c = no_want_of_memory c.args.end _ c.in-Err.ensures.err.1
