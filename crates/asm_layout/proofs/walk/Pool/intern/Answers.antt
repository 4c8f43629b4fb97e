use Rattle.asm_layout.proofs.WordLemmas.{derived_is}
use Rattle.asm_layout.proofs.walk.Pool.intern.Goals as goal

pub returns-clause-index : goal.returns-clause-index
returns-clause-index c = rw (← derived_is, ← c.self.view_is) c.in_ok-index.ensures.index

pub returns-clause-pool : goal.returns-clause-pool
returns-clause-pool c = rw (← derived_is, ← c.self.view_is) c.in_ok-index.ensures.keys
