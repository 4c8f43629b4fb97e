-- Which guards an event releases.
use Rattle.std.proofs.Common.{◌≡◌, ℕ, ◌<◌, ◌≤◌, ◌⊎◌, inl, inr, ◌||◌, nat_le, nat_lt, Bool, true, false, cond, List, refl, sym, subst, arith}
use Rattle.std.specs.Prelude.{◌↔◌}
use Rattle.std.proofs.lemmas.Bool.{lt-ltb, le-ltb, leb-true, ltb-true, le-leb}
use Rattle.std.specs.List.{filter}
use Rattle.eh_bus.specs.Lists.{Has}
use Rattle.eh_bus.specs.Memory.{Memory, without_guards_below, stays_guarded}
use Rattle.eh_bus.proofs.GuardLaws.{has_filter, in_filter}
use Rattle.sim_machines.specs.Machine.{update_guards}
use Rattle.sim_machines.specs.Laws.{AreReleased}

rose_is : (saves old new : ℕ) (m : Memory) → old < new → update_guards saves 0 old new m ≡ without_guards_below m new
rose_is saves old new m h = rw (lt-ltb old new h) refl

fell_is : (saves old new : ℕ) (m : Memory) → new ≤ old → update_guards saves 0 old new m ≡ m
fell_is saves old new m h = rw (le-ltb old new h) refl

pub where_it_stays : (low a g : ℕ) → (nat_le a g || nat_lt g low) ≡ true → (a ≤ g) ⊎ (g < low)
where_it_stays low a g e = go (nat_le a g) (nat_lt g low) refl refl e
  where
    go : (x y : Bool) → nat_le a g ≡ x → nat_lt g low ≡ y → (x || y) ≡ true → (a ≤ g) ⊎ (g < low)
    go true y ex ey h = inl (leb-true _ _ ex)
    go false true ex ey h = inr (ltb-true _ _ ey)
    go false false ex ey h = absurd (cc)

pub it_stays : (low a g : ℕ) → (a ≤ g) ⊎ (g < low) → (nat_le a g || nat_lt g low) ≡ true
it_stays low a g (inl h) = rw (le-leb a g h) refl
it_stays low a g (inr h) = go (nat_le a g)
  where
    go : (x : Bool) → (x || nat_lt g low) ≡ true
    go true = refl
    go false = lt-ltb g low h

pub are_released : (saves old new : ℕ) (m : Memory) → AreReleased saves old new m
are_released saves old new m = record {
  rose = λ g h.
      let is = rose_is saves old new m h in
      subst (λ (n : Memory). Has n.guards g ↔ (Has m.guards g × ((new ≤ g) ⊎ (g < m.home.0)))) (sym is) (
        λ has. let f = has_filter (stays_guarded m.home new) m.guards g has in (f.0, where_it_stays m.home.0 new g f.1),
        λ (had, stays). in_filter (stays_guarded m.home new) m.guards g had (it_stays m.home.0 new g stays),
      );
  fell = fell_is saves old new m;
}
