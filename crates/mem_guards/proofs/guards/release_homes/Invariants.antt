use Rattle.std.proofs.Common.{◌≡◌, ◌⊎◌, ℕ, ◌*◌, ◌<◌, ◌≤◌, get_or}
use Rattle.mem_guards.specs.Flags.{AreFlags, ReleasesFlags}
use Rattle.mem_guards.specs.declared.guards.TheConstants.{HOME_NUMBERS, HOME_WORDS}
use Rattle.mem_guards.proofs.guards.release_homes.Given as goal

abbrev pub invariant-loop-home : goal.invariant-loop-home
invariant-loop-home l = record {
  flags : AreFlags l.numbers l.clear;
  released : ReleasesFlags l.initial.numbers l.numbers (HOME_WORDS * l.first) (HOME_WORDS * l.home);
  passed : (home : ℕ) → l.first ≤ home → home < l.home → get_or l.clear home 0 ≡ HOME_NUMBERS;
  others : (home : ℕ) → ((home < l.first) ⊎ (l.home ≤ home)) → get_or l.clear home 0 ≡ get_or l.initial.clear home 0;
}
