use Rattle.sim_code.proofs.Fetch.{fetched}
use Rattle.sim_code.proofs.code_is_fetched.Goals as goal

pub returns : goal.returns
returns c = λ image f ss sound among same p i size regs m is at stands. let w = fetched image f ss sound among same p i size regs m is at stands in (w.step, w.stands)
