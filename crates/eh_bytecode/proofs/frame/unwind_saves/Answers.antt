use Rattle.std.proofs.Common.{◌∷◌}
use Rattle.eh_codes.specs.declared.code.UnwindCode.TheVariants.{Finish}
use Rattle.eh_codes.specs.Cut.{Is}
use Rattle.eh_bytecode.proofs.Saves.{saves_stop, saves_go, saves_end}
use Rattle.eh_bytecode.proofs.frame.unwind_saves.Goals as goal

pub returns-in-Stops : goal.returns-in-Stops
returns-in-Stops g c more = saves_stop _ _ _ _ _ _ _ c.begin_unwind-state.ensures c.in-Stops.ensures

pub returns-in-Goes : goal.returns-in-Goes
returns-in-Goes g c more = saves_go _ _ _ _ _ _ _ more c.begin_unwind-state.ensures c.in-Goes.ensures c.finish.ensures

pub returns-in-Finishes : goal.returns-in-Finishes
returns-in-Finishes g c more = saves_end _ _ _ _ c.apply.new.self _ _ (Is Finish ∷ more) c.begin_unwind-state.ensures c.in-Finishes.ensures c.finish-in-Finishes.ensures
