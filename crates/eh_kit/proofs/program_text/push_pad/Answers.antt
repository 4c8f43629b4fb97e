use Rattle.eh_kit.proofs.Joined.{after_lines}
use Rattle.eh_kit.specs.ProgramText.{pad_lines}
use Rattle.eh_kit.proofs.program_text.push_pad.Goals as goal

pub returns-in_ok-push_caught-in-CatchAll : goal.returns-in_ok-push_caught-in-CatchAll
unfolding pad_lines
returns-in_ok-push_caught-in-CatchAll c = rw c.in-CatchAll.is (after_lines _ _ _ _ _ _ c.in_ok-push_caught-in-CatchAll.ensures c.push_scope-in-CatchAll.ensures)

pub returns-in_ok-push_caught-in-CatchInt : goal.returns-in_ok-push_caught-in-CatchInt
unfolding pad_lines
returns-in_ok-push_caught-in-CatchInt c = rw c.in-CatchInt.is (after_lines _ _ _ _ _ _ c.in_ok-push_caught-in-CatchInt.ensures c.push_scope-in-CatchInt.ensures)
