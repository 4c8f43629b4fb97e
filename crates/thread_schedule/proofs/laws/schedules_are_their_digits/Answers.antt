use Rattle.thread_schedule.proofs.ScheduleLaws.{law_of_digits, law_of_feeds, law_of_bad, law_of_none}
use Rattle.thread_schedule.proofs.laws.schedules_are_their_digits.Goals as goal

pub returns : goal.returns
returns c = record { digits = law_of_digits; feeds = law_of_feeds; bad = law_of_bad; none = law_of_none }
