use Rattle.eh_threads.proofs.InPlace.{went_there}
use Rattle.eh_threads.proofs.ending.apply_turn.Goals as goal

pub returns-in-Went : goal.returns-in-Went
returns-in-Went c = λ before core there is. rw (c.in-Went.is) (went_there c.args.threads.now before c.args.thread core is)

pub returns-in-Ended : goal.returns-in-Ended
returns-in-Ended c = λ before core there is. rw (c.in-Ended.is) (c.end_in_place.ensures before core there is)
