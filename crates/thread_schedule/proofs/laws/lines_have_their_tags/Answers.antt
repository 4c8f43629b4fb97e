use Rattle.thread_schedule.proofs.TagLaws.{law_of_lines, law_of_last, law_of_untagged, law_of_empty}
use Rattle.thread_schedule.proofs.laws.lines_have_their_tags.Goals as goal

pub returns : goal.returns
returns c = record { lines = law_of_lines; last = law_of_last; untagged = law_of_untagged; empty = law_of_empty }
