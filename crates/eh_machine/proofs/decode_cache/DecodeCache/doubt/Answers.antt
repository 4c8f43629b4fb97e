use Rattle.std.proofs.Common.{refl, arith}
use Rattle.eh_machine.proofs.Confirmed.{next_round, counts_on}
use Rattle.eh_machine.proofs.decode_cache.DecodeCache.doubt.Goals as goal

pub returns-in-Some-clause-confirmed : goal.returns-in-Some-clause-confirmed
returns-in-Some-clause-confirmed c = λ n is. next_round n c.args.self.now _ refl (omega arith) is

pub returns-in-None-clause-confirmed : goal.returns-in-None-clause-confirmed
returns-in-None-clause-confirmed c = λ n is. c.new.ensures.confirmed n

pub returns-in-Some-clause-counting : goal.returns-in-Some-clause-counting
returns-in-Some-clause-counting c = λ is. counts_on c.args.self.now _ refl (omega arith) is

pub returns-in-None-clause-counting : goal.returns-in-None-clause-counting
returns-in-None-clause-counting c = λ is. c.new.ensures.counting
