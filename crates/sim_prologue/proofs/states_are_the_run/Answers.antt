use Rattle.sim_prologue.proofs.Straight.{states}
use Rattle.sim_prologue.proofs.Prologues.{effects_agree}
use Rattle.sim_prologue.proofs.states_are_the_run.Goals as goal

pub returns : goal.returns
returns c = λ s m are even low. states s m are even (effects_agree s m even low are)
