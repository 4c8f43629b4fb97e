-- Threads, and bytes of a schedule, that are looked at one after the other.
use Rattle.std.proofs.Common.{◌≡◌, ℕ, suc, ◌+◌, ◌<◌, ◌≤◌, true, false, List, [], length, get_or, drop, Option, Some, None, is_some, refl, sym, ap, ◌∙◌, arith}
use Rattle.std.proofs.lemmas.List.{at_drop_more, drop_all}
use Rattle.std.proofs.lemmas.Option.{slice_get-get_or}
use Rattle.eh_threads.specs.declared.thread.Thread.{Thread}
use Rattle.eh_threads.specs.Threads.{core_of, none_runs}
use Rattle.eh_threads.specs.Starting.{first_unstarted}
use Rattle.eh_threads.specs.Schedules.{thread_of, thread_in, thread_at}

-- ---- whether one runs

pub none_first : (threads : List (Option Thread)) (i : ℕ) → i < length threads → is_some (core_of (get_or threads i None)) ≡ true
    → none_runs threads ≡ none_runs (drop i threads) → none_runs threads ≡ false
none_first threads i h runs e = e ∙ at_drop_more none_runs threads i None h ∙ rw runs refl

pub none_next : (threads : List (Option Thread)) (i : ℕ) → i < length threads → is_some (core_of (get_or threads i None)) ≡ false
    → none_runs threads ≡ none_runs (drop i threads) → none_runs threads ≡ none_runs (drop (i + 1) threads)
none_next threads i h stands e = e ∙ at_drop_more none_runs threads i None h ∙ rw stands refl

pub none_at_all : (threads : List (Option Thread)) (i : ℕ) → length threads ≤ i → none_runs threads ≡ none_runs (drop i threads) → none_runs threads ≡ true
none_at_all threads i h e = let all : drop i threads ≡ [] = drop_all i threads h in rw all at e

-- ---- the first that was never started

pub unstarted_here : (threads : List (Option Thread)) (i : ℕ) → i < length threads → is_some (get_or threads i None) ≡ false
    → first_unstarted 0 threads ≡ first_unstarted i (drop i threads) → first_unstarted 0 threads ≡ Some i
unstarted_here threads i h none e = e ∙ at_drop_more (first_unstarted i) threads i None h ∙ rw none refl

pub unstarted_next : (threads : List (Option Thread)) (i : ℕ) → i < length threads → is_some (get_or threads i None) ≡ true
    → first_unstarted 0 threads ≡ first_unstarted i (drop i threads) → first_unstarted 0 threads ≡ first_unstarted (i + 1) (drop (i + 1) threads)
unstarted_next threads i h some e =
    let on : suc i ≡ i + 1 = omega arith in
    e ∙ at_drop_more (first_unstarted i) threads i None h ∙ rw (some, on) refl

pub all_started : (threads : List (Option Thread)) (i : ℕ) → length threads ≤ i → first_unstarted 0 threads ≡ first_unstarted i (drop i threads) → first_unstarted 0 threads ≡ None
all_started threads i h e = let all : drop i threads ≡ [] = drop_all i threads h in rw all at e

-- ---- a byte of a schedule

pub named_at : (schedule : List ℕ) (at : ℕ) (d : ℕ) → at < length schedule → thread_of (get_or schedule at d) ≡ thread_at schedule at
named_at schedule at d h = sym (ap thread_in (slice_get-get_or schedule at d h))
