-- The texts that the program writes. Each line ends in a line feed.
use Rattle.std.specs.Prelude.{ℕ, ◌+◌, List, ◌++◌, codes}
use Rattle.eh_trace.specs.Trace.{Trace, total_of}
use Rattle.eh_trace.specs.declared.event.EventKind.TheVariants.{Throw, Rethrow, Cleanup, Catch}
use Rattle.cmd_lines.specs.Text.{count_line}

abbrev pub usage : List ℕ
usage = codes "usage: ehabi_run flat FILE N | build FILE.. | check FILE.. | run FILE.. N | gen K M | walk FILE.. N | force FILE.. N K | gnu FILE N | threads FILE.. SCHED N\n"

-- ---- runs

-- `run` writes a line between the guest's bytes and the closing line
abbrev pub trace_head : List ℕ
trace_head = codes "\n-- trace\n"

-- before its end `gen` says how many functions there are and how many events came: throws and rethrows together, cleanups, and handlers
abbrev pub summary : ℕ → Trace → List ℕ
summary functions t =
    count_line (codes "functions") functions ++ count_line (codes "throws") (total_of Throw t + total_of Rethrow t)
    ++ count_line (codes "cleanups") (total_of Cleanup t) ++ count_line (codes "catches") (total_of Catch t)
