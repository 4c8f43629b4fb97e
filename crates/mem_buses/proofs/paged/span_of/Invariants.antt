use Rattle.std.proofs.Common.{◌≡◌, ℕ, ◌+◌, ◌-◌, ◌<◌, ◌≤◌, Some}
use Rattle.mem_buses.specs.Pages.{cell_of}
use Rattle.mem_buses.proofs.paged.span_of.Given as goal

abbrev pub invariant-pages : goal.invariant-pages
invariant-pages l = record {
  within : l.size ≤ l.part.size;
  cell : (k : ℕ) → k < l.size → cell_of l.pages (l.part.start + k) ≡ Some (l.at + k);
}

abbrev pub decreases-pages : goal.decreases-pages
decreases-pages l = l.part.size - l.size
