-- Instructions that leave memory and sp, by the instruction.
use Rattle.thumb_isa.specs.declared.instr.Instr.TheVariants.{AddHigh, CmpHigh, MovHigh, Hint, Barrier, B, BCond, Cbz, BWide}
use Rattle.sim_steps.specs.StepLaws.{SimpleTurns}
use Rattle.sim_steps.proofs.Jumps.{b_turns, b_wide_turns, bcond_turns, cbz_turns, cmp_high_turns, hint_turns, barrier_turns}
use Rattle.sim_steps.proofs.High.{add_high_turns, mov_high_turns}

pub simple_turns_law : SimpleTurns
simple_turns_law x s (AddHigh d m) input is k does same_sp = add_high_turns x s d m input is k does
simple_turns_law x s (MovHigh d m) input is k does same_sp = mov_high_turns x s d m input is k does same_sp
simple_turns_law x s (CmpHigh n m) input is k does same_sp = cmp_high_turns x s n m input is k does
simple_turns_law x s (B off) input is k does same_sp = b_turns x s off input is k does
simple_turns_law x s (BCond cc off) input is k does same_sp = bcond_turns x s cc off input is k does
simple_turns_law x s (Hint n) input is k does same_sp = hint_turns x s n input is k does
simple_turns_law x s (Barrier op option) input is k does same_sp = barrier_turns x s op option input is k does
simple_turns_law x s (Cbz nonzero n off) input is k does same_sp = cbz_turns x s nonzero n off input is k does
simple_turns_law x s (BWide off) input is k does same_sp = b_wide_turns x s off input is k does
simple_turns_law x s i input is k does same_sp = absurd same_sp
