use Rattle.sim_machines.specs.Checked.{program_of}
use Rattle.eh_threads.proofs.InPlace.{ended_there}
use Rattle.eh_threads.proofs.ending.end_in_place.Goals as goal

pub returns : goal.returns
returns c = λ before core there is.
    ended_there (program_of c.args.a.now) c.args.threads.now before c.args.thread core c.in-Some.stood c.args.end (c.after_end.result, c.after_end.new.threads)
    c.in-Some.is there is c.after_end.ensures
