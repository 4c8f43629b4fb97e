use Rattle.eh_threads.proofs.Others.{none_runs_at, over_is}
use Rattle.eh_threads.proofs.laws.runs_end_where_all_ended.Goals as goal

pub returns : goal.returns
returns c = λ threads number e. let over = over_is threads number e in record { none = λ thread. none_runs_at threads thread over.0; first = over.1 }
