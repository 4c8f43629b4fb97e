-- Homes and guards: what a release leaves, and that stores miss.
use Rattle.std.proofs.Common.{◌≡◌, ℕ, ◌-◌, ◌/◌, ◌<◌, ◌≤◌, ◌⊎◌, inl, inr, Bool, true, false, ◌||◌, nat_le, refl, sym, ◌∙◌, arith, le-leb}
use Rattle.std.proofs.lemmas.Bool.{cases_lt, lt-ltb, le-ltb, lt-leb}
use Rattle.mem_guards.specs.declared.guards.TheConstants.{HOME_SIZE}
use Rattle.eh_bus.specs.Memory.{stays_guarded}
use Rattle.eh_bus.specs.declared.map.TheConstants.{STACK_END}
use Rattle.eh_bus.proofs.AccessLaws.{store_misses, store_keeps}
use Rattle.eh_bus.proofs.GuardLaws.{has_filter, in_filter}
use Rattle.eh_bus.proofs.PartLaws.{guarded_refused}
use Rattle.thread_memory.specs.Homes.{home_of}
use Rattle.thread_memory.specs.Laws.{HomesPart, HomesAreApart, ReleasesNoOthers, ReleasesItsOwn, StoresMissGuards, GuardedStoresAreRefused}
use Rattle.thread_memory.specs.Seen.{thread_view}

pub law_of_homes : HomesPart
law_of_homes a l h = ((STACK_END - 1 - a) / HOME_SIZE, (omega arith, record { low = omega arith; high = omega arith }))

pub law_of_apart : HomesAreApart
law_of_apart one other a h k p q = omega (arith, p.low, p.high, q.low, q.high)

or_true : (b : Bool) → (b || true) ≡ true
or_true true = refl
or_true false = refl

above : (home : ℕ × ℕ) (a g : ℕ) → a ≤ g → stays_guarded home a g ≡ true
above home a g h = rw (le-leb a g h) refl

below : (home : ℕ × ℕ) (a g : ℕ) → g < home.0 → stays_guarded home a g ≡ true
below home a g h = rw (lt-ltb g home.0 h) (or_true (nat_le a g))

not_stays : (home : ℕ × ℕ) (a g : ℕ) → g < a → home.0 ≤ g → stays_guarded home a g ≡ false
not_stays home a g h l = rw (lt-leb a g h, le-ltb g home.0 l) refl

pub law_of_others : ReleasesNoOthers
law_of_others m guards thread other a g h k n t has at = in_filter (stays_guarded (home_of thread) a) guards g has (go (cases_lt other thread))
  where
    go : ((other < thread) ⊎ (thread ≤ other)) → stays_guarded (home_of thread) a g ≡ true
    go (inl o) = above (home_of thread) a g (omega (arith, at.low))
    go (inr o) = below (home_of thread) a g (omega (arith, at.high, n))

pub law_of_own : ReleasesItsOwn
law_of_own m guards thread a g at h has =
    let p = has_filter (stays_guarded (home_of thread) a) guards g has in
    let q : false ≡ true = sym (not_stays (home_of thread) a g h at.low) ∙ p.1 in
    absurd (cc)

pub law_of_misses : StoresMissGuards
law_of_misses n m guards thread a v g m' e has = record {
  apart = store_misses n (thread_view m guards thread) a v m' g e has;
  same = store_keeps n (thread_view m guards thread) a v m' g e has;
}

pub law_of_refused : GuardedStoresAreRefused
law_of_refused n m guards thread a v g map w e has l u = guarded_refused n (thread_view m guards thread) a v g map w e has l u
