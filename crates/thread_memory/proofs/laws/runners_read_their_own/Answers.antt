use Rattle.thread_memory.proofs.Switching.{law_of_runners, law_of_untouched, law_of_freed, law_of_made}
use Rattle.thread_memory.proofs.laws.runners_read_their_own.Goals as goal

pub returns : goal.returns
returns c = record { read = law_of_runners; untouched = law_of_untouched; freed = law_of_freed; made = law_of_made }
