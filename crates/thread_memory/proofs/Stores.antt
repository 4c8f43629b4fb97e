-- A store of a thread is the store below it, but where it would reach a guarded word.
use Rattle.std.proofs.Common.{◌≡◌, ℕ, ◌+◌, ◌%◌, ◌<◌, ◌≤◌, inl, inr, Bool, true, false, not, ◌==◌, ◌&&◌, nat_lt, cond, List, [], ◌∷◌, Option, Some, None, Result, Err, refl, ap, ◌∙◌, arith}
use Rattle.std.proofs.lemmas.Bool.{ltb-true, and_parts, eqb-true}
use Rattle.eh_bus.specs.Segment.{Segment, holds}
use Rattle.eh_bus.specs.Lists.{Has}
use Rattle.eh_bus.specs.Place.{IsWidth}
use Rattle.eh_bus.specs.Map.{IsMap}
use Rattle.eh_bus.specs.Memory.{Memory, fault_in, store_number, store, store_fault, slot_fault, guard_hit, unless_fault}
use Rattle.eh_bus.specs.declared.fault.BusFault.{BusFault}
use Rattle.eh_bus.specs.declared.fault.BusFault.TheVariants.{Unaligned, ReadOnly, SavedSlot}
use Rattle.eh_bus.proofs.PartLaws.{guarded_refused, guard_places}
use Rattle.eh_bus.specs.declared.map.TheConstants.{STACK_START}
use Rattle.thread_memory.specs.Seen.{thread_view, aligned_hit}

-- a fault that is the same in each segment is the same
pub fault_same : (n a : ℕ) (f g : Segment → Option BusFault) (ss : List Segment) → ((s : Segment) → f s ≡ g s) → fault_in f n ss a ≡ fault_in g n ss a
fault_same n a f g [] k = refl
fault_same n a f g (s ∷ more) k = by_cases (holds s a n) (k s) (fault_same n a f g more k)
  where
    by_cases : (t : Bool) → f s ≡ g s → fault_in f n more a ≡ fault_in g n more a → cond t (f s) (fault_in f n more a) ≡ cond t (g s) (fault_in g n more a)
    by_cases true e next = e
    by_cases false e next = next

-- guards play no part where no aligned store reaches one
pub fault_free : (n : ℕ) (guards : List ℕ) (s : Segment) (a : ℕ) → aligned_hit guards n a ≡ None → store_fault n guards s a ≡ store_fault n [] s a
fault_free n guards s a e = go (a % n == 0) refl e
  where
    go : (t : Bool) → (a % n == 0) ≡ t → cond t (guard_hit guards a n) None ≡ None
        → cond (not t) (Some (Unaligned a)) (cond (not s.write) (Some (ReadOnly a)) (slot_fault (guard_hit guards a n) a))
        ≡ cond (not t) (Some (Unaligned a)) (cond (not s.write) (Some (ReadOnly a)) (slot_fault None a))
    go true t e = rw e refl
    go false t e = refl

pub record Found (guards : List ℕ) (n a g : ℕ) : Type 0 where
  pub has : Has guards g
  pub below : a < g + 4
  pub above : g < a + n

pub hit_found : (guards : List ℕ) (n a g : ℕ) → guard_hit guards a n ≡ Some g → Found guards n a g
hit_found [] n a g e = absurd (cc)
hit_found (x ∷ more) n a g e = go (nat_lt a (x + 4) && nat_lt x (a + n)) refl e (hit_found more n a g)
  where
    some : {u v : ℕ} → Some u ≡ Some v → u ≡ v
    some e = cc

    go : (t : Bool) → (nat_lt a (x + 4) && nat_lt x (a + n)) ≡ t → cond t (Some x) (guard_hit more a n) ≡ Some g
        → (guard_hit more a n ≡ Some g → Found more n a g) → Found (x ∷ more) n a g
    go true t e next =
        let p = and_parts _ _ t in
        let q : x ≡ g = some e in
        rw (← q) (record { has = inl refl; below = ltb-true _ _ p.0; above = ltb-true _ _ p.1 })
    go false t e next = let f = next e in record { has = inr f.has; below = f.below; above = f.above }

pub record Reaches (guards : List ℕ) (n a g : ℕ) : Type 0 where
  pub aligned : (a % n == 0) ≡ true
  pub hit : guard_hit guards a n ≡ Some g

pub reaches : (guards : List ℕ) (n a g : ℕ) → aligned_hit guards n a ≡ Some g → Reaches guards n a g
reaches guards n a g e = go (a % n == 0) refl e
  where
    go : (t : Bool) → (a % n == 0) ≡ t → cond t (guard_hit guards a n) None ≡ Some g → Reaches guards n a g
    go true t e = record { aligned = t; hit = e }
    go false t e = absurd (cc)

-- an aligned access that reaches a guarded word begins in it
begins : (n a g : ℕ) → IsWidth n → (a % n == 0) ≡ true → g % 4 ≡ 0 → a < g + 4 → g < a + n → g ≤ a
begins n a g (inl e) t z l h = omega (arith, e)
begins n a g (inr (inl e)) t z l h = let q = eqb-true _ _ t in let r : a % 2 ≡ 0 = rw e at q in omega (arith, e)
begins n a g (inr (inr e)) t z l h = let q = eqb-true _ _ t in let r : a % 4 ≡ 0 = rw e at q in omega (arith, e)

-- a store that reaches a guarded word is refused
pub store_reaches : (n : ℕ) (m : Memory) (a v g : ℕ) → IsMap m → IsWidth n → aligned_hit m.guards n a ≡ Some g → store n m a v ≡ (Err (SavedSlot g), m)
store_reaches n m a v g x w e =
    let r = reaches m.guards n a g e in
    let f = hit_found m.guards n a g r.hit in
    let p = guard_places STACK_START m.guards g x.guards f.has in
    guarded_refused n m a v g x w r.aligned f.has (begins n a g w r.aligned p.1 f.below f.above) f.below

-- any other is the store below
pub store_through : (n : ℕ) (m : Memory) (guards : List ℕ) (thread a v : ℕ) (r : Result (Unit {0}) BusFault) (m' : Memory)
    → m.guards ≡ [] → aligned_hit guards n a ≡ None → (r, m') ≡ store n m a v → (r, thread_view m' guards thread) ≡ store n (thread_view m guards thread) a v
store_through n m guards thread a v r m' z e s =
    let same : fault_in (λ t. store_fault n guards t a) n m.segments a ≡ fault_in (λ t. store_fault n m.guards t a) n m.segments a =
    rw z (fault_same n a (λ t. store_fault n guards t a) (λ t. store_fault n [] t a) m.segments (λ t. fault_free n guards t a e))
    in
    rw same (go (fault_in (λ t. store_fault n m.guards t a) n m.segments a) s)
  where
    go : (o : Option BusFault) → (r, m') ≡ unless_fault o m (record m { segments = store_number n m.segments a v })
        → (r, thread_view m' guards thread) ≡ unless_fault o (thread_view m guards thread) (record (thread_view m guards thread) { segments = store_number n m.segments a v })
    go (Some x) s = ap (λ (p : Result (Unit {0}) BusFault × Memory). (p.0, thread_view p.1 guards thread)) s
    go None s = ap (λ (p : Result (Unit {0}) BusFault × Memory). (p.0, thread_view p.1 guards thread)) s

-- and the memory below stays without guarded words
pub store_plain : (n : ℕ) (m : Memory) (a v : ℕ) (r : Result (Unit {0}) BusFault) (m' : Memory) → m.guards ≡ [] → (r, m') ≡ store n m a v → m'.guards ≡ []
store_plain n m a v r m' z s = go (fault_in (λ t. store_fault n m.guards t a) n m.segments a) s
  where
    go : (o : Option BusFault) → (r, m') ≡ unless_fault o m (record m { segments = store_number n m.segments a v }) → m'.guards ≡ []
    go (Some x) s = ap (λ (p : Result (Unit {0}) BusFault × Memory). p.1.guards) s ∙ z
    go None s = ap (λ (p : Result (Unit {0}) BusFault × Memory). p.1.guards) s ∙ z
