use Rattle.std.proofs.Common.{sym}
use Rattle.run_images.proofs.FunctionStarts.{starts_none, number_within, number_starts}
use Rattle.run_images.proofs.functions.begins_function.Goals as goal

pub returns-in-None : goal.returns-in-None
returns-in-None c = starts_none _ 0 0 _ c.functions-functions.ensures.sound.functions (sym c.in-None.ensures)

pub start_of-requires : goal.start_of-requires
start_of-requires c = rw c.functions-functions.ensures.functions (number_within _ _ _ c.functions-functions.ensures.sound.functions c.in-Some.ensures)

pub returns-in-Some : goal.returns-in-Some
returns-in-Some c =
    number_starts _ _ _ _ c.functions-functions.ensures.sound.functions c.in-Some.ensures (rw c.functions-functions.ensures.functions at c.start_of.ensures)
