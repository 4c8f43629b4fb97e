use Rattle.cmd_perform.proofs.force.answer_unforced.Goals as goal

pub returns-in-NoFrame : goal.returns-in-NoFrame
returns-in-NoFrame g c = rw c.in-NoFrame.is c.answer_refusal.ensures

pub returns-in-InsideCleanup : goal.returns-in-InsideCleanup
returns-in-InsideCleanup g c = rw c.in-InsideCleanup.is c.answer_refusal-in-InsideCleanup.ensures

pub returns-in-NoStop : goal.returns-in-NoStop
returns-in-NoStop g c = rw c.in-NoStop.is c.answer_refusal-in-NoStop.ensures

pub returns-in-BadTables : goal.returns-in-BadTables
returns-in-BadTables g c = rw c.in-BadTables.is c.answer_refusal-in-BadTables.ensures

pub returns-in-BadType : goal.returns-in-BadType
returns-in-BadType g c = rw c.in-BadType.is c.answer_refusal-in-BadType.ensures

pub returns-in-PoolFull : goal.returns-in-PoolFull
returns-in-PoolFull g c = rw c.in-PoolFull.is c.answer_refusal-in-PoolFull.ensures
