use Rattle.std.proofs.Common.{arith}
use Rattle.cmd_perform.proofs.Threading.{empty, threaded_none, threaded_popped}
use Rattle.cmd_perform.proofs.threads.thread_program_of.Goals as goal

pub returns-in-Some : goal.returns-in-Some
returns-in-Some c = rw (threaded_popped c.args.files.items c.pop.new.self.items c.in-Some.schedule c.in-Some.ensures.items) c.thread_program_from.ensures

pub returns : goal.returns
returns c = λ _. threaded_none c.args.files.items (empty c.args.files.items (omega (arith, c.args.files.ok.0, c.in-None.ensures.cases.0)))
