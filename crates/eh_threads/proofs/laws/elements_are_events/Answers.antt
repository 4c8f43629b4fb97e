use Rattle.std.proofs.Common.{Some, ap}
use Rattle.run_events.specs.Runs.{Goes}
use Rattle.eh_threads.specs.Threads.{with_thread_number}
use Rattle.eh_threads.proofs.Elements.{element_by, element_passed}
use Rattle.eh_threads.proofs.Own.{own_events_follow}
use Rattle.eh_threads.proofs.laws.elements_are_events.Goals as goal

pub returns : goal.returns
returns c = record {
  passed = λ p thread w input none. element_passed p (Some thread) w input (ap (with_thread_number thread) none);
  event = λ p thread w core input text left b runs is. element_by p (Some thread) w thread core input (Goes b text left) (ap (with_thread_number thread) runs) is;
  recorded = own_events_follow;
}
