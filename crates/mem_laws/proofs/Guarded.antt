-- Stores that reach guarded words.
use Rattle.std.proofs.Common.{◌≡◌, ℕ, ◌+◌, ◌-◌, ◌%◌, ◌<◌, ◌≤◌, inl, inr, Bool, true, false, not, ◌&&◌, ◌==◌, nat_lt, cond, List, [], ◌∷◌, slice_index, Option, Some, None, Result, Err, refl, ap, arith}
use Rattle.std.proofs.lemmas.Bool.{ltb-true}
use Rattle.eh_bus.specs.Segment.{Segment, holds}
use Rattle.eh_bus.specs.Lists.{Has}
use Rattle.eh_bus.specs.Memory.{Memory, fault_in, store_fault, slot_fault, guard_hit, is_closed, unless_fault, store_number}
use Rattle.eh_bus.specs.Place.{IsWidth}
use Rattle.eh_bus.specs.declared.fault.BusFault.{BusFault}
use Rattle.eh_bus.specs.declared.fault.BusFault.TheVariants.{Unaligned, ReadOnly, SavedSlot, Protected}
use Rattle.eh_bus.specs.declared.map.TheConstants.{STACK_START}
use Rattle.eh_bus.proofs.AccessLaws.{store_keeps, store_only, run_keeps, run_done}
use Rattle.eh_bus.proofs.PartLaws.{guarded_refused, guard_places}
use Rattle.mem_laws.specs.Runs.{word_address}
use Rattle.mem_laws.specs.Guarded.{Reaches, StoresAreRefused, RunsAreRefused, OnlyGuardsRefuse, GuardedWordsStay}
use Rattle.mem_laws.proofs.Runs.{stop_at_first}

-- an aligned access that reaches a word begins in it
reach : (n a g : ℕ) → IsWidth n → a % n ≡ 0 → g % 4 ≡ 0 → Reaches n a g → (g ≤ a) × (a < g + 4)
reach n a g (inl e) al ag r = (omega (arith, e, ag, r.1, r.2, r.3), omega (arith, e, ag, r.1, r.2, r.3))
reach n a g (inr (inl e)) al ag r =
    let even : a % 2 ≡ 0 = rw e at al in
    (omega (arith, even, e, ag, r.1, r.2, r.3), omega (arith, even, e, ag, r.1, r.2, r.3))
reach n a g (inr (inr e)) al ag r =
    let whole : a % 4 ≡ 0 = rw e at al in
    (omega (arith, whole, e, ag, r.1, r.2, r.3), omega (arith, whole, e, ag, r.1, r.2, r.3))

pub stores_refused : StoresAreRefused
stores_refused m n a v g x w al h r =
    let q = guard_places STACK_START m.guards g x.guards h in
    let begins = reach n a g w al q.1 r in
    guarded_refused n m a v g x w (rw al refl) h begins.0 begins.1

pub runs_refused : RunsAreRefused
runs_refused m a words k x l inside before h =
    let at = word_address a k in
    let q = guard_places STACK_START m.guards at x.guards h in
    let whole : (at % 4 == 0) ≡ true = rw (q.1) refl in
    let refused = guarded_refused 4 m at (slice_index words k) at x (inr (inr refl)) whole h (omega arith) (omega arith) in
    stop_at_first m a words k (SavedSlot at) l inside before (ap (λ (p : Result (Unit {0}) BusFault × Memory). p.0) refused)

-- ---- where a store is refused as SavedSlot

held : (o : Option BusFault) (m n : Memory) (why : BusFault) → (unless_fault o m n).0 ≡ Err why → o ≡ Some why
held None m n why e = absurd (cc)
held (Some other) m n why e = cc

some_segment : (n a g : ℕ) (f : Segment → Option BusFault) (ss : List Segment) (P : Type 0) → ((s : Segment) → f s ≡ Some (SavedSlot g) → P)
    → fault_in f n ss a ≡ Some (SavedSlot g) → P
some_segment n a g f [] P k e = absurd (cc)
some_segment n a g f (s ∷ more) P k e = by_cases (holds s a n) e (some_segment n a g f more P k)
  where
    by_cases : (t : Bool) → cond t (f s) (fault_in f n more a) ≡ Some (SavedSlot g) → (fault_in f n more a ≡ Some (SavedSlot g) → P) → P
    by_cases true e next = k s e
    by_cases false e next = next e

hit_of : (n : ℕ) (guards : List ℕ) (s : Segment) (a g : ℕ) → store_fault n guards s a ≡ Some (SavedSlot g) → guard_hit guards a n ≡ Some g
hit_of n guards s a g e = go (a % n == 0) s.write (guard_hit guards a n) (is_closed a) refl e
  where
    go : (t w : Bool) (o : Option ℕ) (c : Bool) → is_closed a ≡ c → cond (not t) (Some (Unaligned a)) (cond (not w) (Some (ReadOnly a)) (slot_fault o a)) ≡ Some (SavedSlot g) → o ≡ Some g
    go true true (Some x) c q e = cc
    go true true None true q e = absurd (let f : Some (Protected a) ≡ Some (SavedSlot g) = rw q at e in cc)
    go true true None false q e = absurd (let f : None ≡ Some (SavedSlot g) = rw q at e in cc)
    go true false o c q e = absurd (cc)
    go false w o c q e = absurd (cc)

hit_some : (guards : List ℕ) (a n g : ℕ) → guard_hit guards a n ≡ Some g → Has guards g × (a < g + 4) × (g < a + n)
hit_some [] a n g e = absurd (cc)
hit_some (x ∷ more) a n g e = go (nat_lt a (x + 4)) refl (nat_lt x (a + n)) refl e (hit_some more a n g)
  where
    found : (a < x + 4) → (x < a + n) → x ≡ g → Has (x ∷ more) g × (a < g + 4) × (g < a + n)
    found p q e = (inl e, omega (arith, p, e), omega (arith, q, e))

    later : Has more g × (a < g + 4) × (g < a + n) → Has (x ∷ more) g × (a < g + 4) × (g < a + n)
    later h = (inr h.0, h.1, h.2)

    go : (t : Bool) → nat_lt a (x + 4) ≡ t → (u : Bool) → nat_lt x (a + n) ≡ u → cond (t && u) (Some x) (guard_hit more a n) ≡ Some g
        → (guard_hit more a n ≡ Some g → Has more g × (a < g + 4) × (g < a + n)) → Has (x ∷ more) g × (a < g + 4) × (g < a + n)
    go true p true q e next = found (ltb-true a (x + 4) p) (ltb-true x (a + n) q) (cc)
    go true p false q e next = later (next e)
    go false p u q e next = later (next e)

some_byte : (n : ℕ) → IsWidth n → 0 < n
some_byte n (inl e) = omega (arith, e)
some_byte n (inr (inl e)) = omega (arith, e)
some_byte n (inr (inr e)) = omega (arith, e)

pub only_guards : OnlyGuardsRefuse
only_guards m n a v g w e =
    let fault = held (fault_in (λ s. store_fault n m.guards s a) n m.segments a) m (record m { segments = store_number n m.segments a v }) (SavedSlot g) e in
    let hit = some_segment n a g (λ s. store_fault n m.guards s a) m.segments (guard_hit m.guards a n ≡ Some g) (λ s p. hit_of n m.guards s a g p) fault in
    let h = hit_some m.guards a n g hit in
    let some = some_byte n w in
    (h.0, (g - a, omega (arith, h.1, h.2, some), omega (arith, h.1, h.2), omega (arith, h.1, h.2)))

-- ---- what is guarded stays

guards_of : (m new : Memory) → new ≡ record m { segments = new.segments } → new.guards ≡ m.guards
guards_of m new e = ap (λ (x : Memory). x.guards) e

pub words_stay : GuardedWordsStay
words_stay = record {
  store = λ m new n a v e. record { words = λ g h. store_keeps n m a v new g e h; guards = guards_of m new (store_only n m a v new e) };
  run = λ m new a words e. record { words = λ g h. run_keeps m a words new g e h; guards = guards_of m new (run_done m a words new e) };
}
