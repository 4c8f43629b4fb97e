use Rattle.std.proofs.Common.{refl}
use Rattle.eh_codes.specs.declared.code.UnwindCode.TheVariants.{Finish}
use Rattle.eh_bytecode.proofs.Saves.{saves_end}
use Rattle.eh_bytecode.proofs.frame.unwind_by_finish.Goals as goal

pub returns : goal.returns
returns c segments more = saves_end segments _ _ _ c.begin_unwind-state.result Finish _ more c.begin_unwind-state.ensures refl c.finish.ensures
