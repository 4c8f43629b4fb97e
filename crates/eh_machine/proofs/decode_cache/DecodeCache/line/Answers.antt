use Rattle.eh_machine.proofs.decode_cache.DecodeCache.line.Goals as goal

pub returns-clause-cache : goal.returns-clause-cache
returns-clause-cache c = λ p cache. cache.lines c.line_of.result _ c.line_of.ensures

pub returns-clause-confirmed : goal.returns-clause-confirmed
returns-clause-confirmed c = λ m is. is.lines c.line_of.result _ c.line_of.ensures
