use Rattle.std.proofs.Common.{arith}
use Rattle.eh_machine.proofs.Cached.{set_line}
use Rattle.eh_machine.proofs.Confirmed.{set_confirmed}
use Rattle.eh_machine.proofs.decode_cache.DecodeCache.put.Goals as goal

pub returns-clause-cache : goal.returns-clause-cache
returns-clause-cache c = λ p cache of. record { lines = set_line p c.args.self.now.lines c.line_of.result c.args.line (omega arith) cache.lines of }

pub returns-clause-confirmed : goal.returns-clause-confirmed
returns-clause-confirmed c = λ m is of. record { begun = is.begun; lines = set_confirmed c.args.self.now.round m c.args.self.now.lines c.line_of.result c.args.line (omega arith) is.lines of }
