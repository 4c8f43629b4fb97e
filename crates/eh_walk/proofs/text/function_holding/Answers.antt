use Rattle.std.proofs.Common.{sym, ◌∙◌}
use Rattle.eh_trace.proofs.Places.{found_is, none_beyond}
use Rattle.eh_walk.proofs.text.function_holding.Goals as goal

pub returns-then-number-functions : goal.returns-then-number-functions
returns-then-number-functions c = found_is _ _ _ _ _ (sym c.function_of.ensures ∙ c.in_ok-number.was) c.functions-functions.ensures.functions c.index-functions-number.is

pub returns-else-number-functions : goal.returns-else-number-functions
returns-else-number-functions c = none_beyond _ _ _ _ (sym c.function_of.ensures ∙ c.in_ok-number.was) c.functions-functions.ensures.functions c.if-number-functions.false
