-- The threads of a run, by their numbers: which run, and when the run is over (docs/guide/walks-and-threads.md, "Threads").
use Rattle.std.specs.Prelude.{ℕ, Bool, true, false, List, [], ◌∷◌, Option, Some, None, is_some, slice_index_or, slice_set, if◌then◌else◌}
use Rattle.eh_gates.specs.declared.state.Core.{Core}
use Rattle.eh_threads.specs.declared.thread.Thread.{Thread}

-- a thread that hasn't ended runs
abbrev pub unless_ended : Core → Option ℕ → Option Core
unless_ended core None = Some core
unless_ended core (Some number) = None

-- the core of a thread, if it runs; one that was never started doesn't
abbrev pub core_of : Option Thread → Option Core
core_of None = None
core_of (Some t) = unless_ended t.core t.ended

abbrev pub with_thread_number : ℕ → Option Core → Option (ℕ × Core)
with_thread_number thread None = None
with_thread_number thread (Some core) = Some (thread, core)

-- the named thread, if it runs
abbrev pub running : List (Option Thread) → Option ℕ → Option (ℕ × Core)
running threads None = None
running threads (Some thread) = with_thread_number thread (core_of (slice_index_or threads thread None))

-- whether no thread runs
abbrev pub none_runs : List (Option Thread) → Bool
none_runs [] = true
none_runs (t ∷ more) = if is_some (core_of t) then false else none_runs more

-- the number that a thread ended with, if it ended
abbrev pub exit_number : Option Thread → Option ℕ
exit_number None = None
exit_number (Some t) = t.ended

-- the number that the first thread ended with, if every started thread has ended
abbrev pub exit_number_of_all : List (Option Thread) → Option ℕ
exit_number_of_all threads = if none_runs threads then exit_number (slice_index_or threads 0 None) else None

-- the threads with a new one under its number
abbrev pub put_thread : List (Option Thread) → ℕ → Core → Option ℕ → List (Option Thread)
put_thread threads thread core ended = slice_set threads thread (Some (record { core = core; ended = ended }))
