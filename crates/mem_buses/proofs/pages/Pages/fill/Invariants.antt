use Rattle.std.proofs.Common.{◌-◌, ◌≤◌}
use Rattle.mem_buses.specs.Pages.{FillsBytes}
use Rattle.mem_buses.proofs.pages.Pages.fill.Given as goal

abbrev pub invariant-pages : goal.invariant-pages
invariant-pages l = record { within : l.done ≤ l.size; filled : FillsBytes l.initial.self l.self l.start l.done l.given l.owner }

abbrev pub decreases-pages : goal.decreases-pages
decreases-pages l = l.size - l.done
