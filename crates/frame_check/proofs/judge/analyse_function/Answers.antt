use Rattle.std.proofs.Common.{arith, ap, ◌∙◌, Err}
use Rattle.frame_check.specs.Accepts.{at_start}
use Rattle.frame_check.proofs.judge.analyse_function.Goals as goal

pub returns-in-Some-clause-refused : goal.returns-in-Some-clause-refused
returns-in-Some-clause-refused c = (at_start c.in-Some.ensures.stands, omega arith)

pub returns-then-splits-clause-refused : goal.returns-then-splits-clause-refused
returns-then-splits-clause-refused c = (at_start (c.splits.ensures.0 c.if-splits.true), omega arith)

pub returns-in-Err-TooLong-clause-refused : goal.returns-in-Err-TooLong-clause-refused
returns-in-Err-TooLong-clause-refused c = (at_start (c.reach_in.ensures.too_long (c.in-Err-TooLong.is ∙ ap Err c.in-Err-TooLong.field-0-is)), omega arith)
