use Rattle.eh_machine.proofs.cached_turns.CachedTurns.doubt.Goals as goal

pub returns-clause-ready : goal.returns-clause-ready
returns-clause-ready c = λ m. c.doubt.ensures.confirmed m c.self.invariant.1
