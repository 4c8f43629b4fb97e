-- A run of stores of a thread is the run below it, but where it would reach a guarded word.
use Rattle.std.proofs.Common.{◌≡◌, ℕ, zero, suc, length, get_or, drop, le-leb, ◌+◌, ◌%◌, ◌^◌, ◌<◌, ◌≤◌, inl, inr, Bool, true, false, ◌==◌, cond, List, [], ◌∷◌, Option, Some, None, Result, Err, refl, sym, ap, ◌∙◌, arith}
use Rattle.std.proofs.lemmas.Bool.{eqb-true, le-ltb}
use Rattle.eh_bus.specs.Guards.{AreGuards}
use Rattle.eh_bus.specs.Segment.{Segment, holds}
use Rattle.eh_bus.specs.Map.{AreSegments}
use Rattle.eh_bus.specs.Memory.{Memory, fault_in, store_run, run_fault, store_words, first_fault, store_fault, slot_fault, guard_hit, is_closed, unless_fault}
use Rattle.eh_bus.specs.declared.fault.BusFault.{BusFault}
use Rattle.eh_bus.specs.declared.fault.BusFault.TheVariants.{SavedSlot}
use Rattle.eh_bus.specs.declared.map.TheConstants.{STACK_END, STACK_START, POOL_START, POOL_END}
use Rattle.std.proofs.lemmas.List.{at_drop_more}
use Rattle.eh_bus.proofs.AccessLaws.{passes, fault_some}
use Rattle.eh_bus.proofs.Kept.{inside}
use Rattle.eh_bus.proofs.PartLaws.{parts, stack_fault, guard_places}
use Rattle.eh_bus.proofs.UndoLaws.{fault_top}
use Rattle.thread_memory.specs.Seen.{thread_view, aligned_hit, IsOutside}
use Rattle.thread_memory.proofs.Stores.{fault_same, fault_free, reaches, hit_found}

open_above : (a : ℕ) → POOL_END ≤ a → is_closed a ≡ false
open_above a h = rw (le-leb POOL_START a (omega arith), le-ltb a POOL_END h) refl

-- a word of the stack is stored but where it is guarded
pub stack_word : (guards : List ℕ) (ss : List Segment) (a : ℕ) → AreSegments ss → (a % 4 == 0) ≡ true → STACK_START ≤ a → a + 4 ≤ STACK_END
    → fault_in (λ s. store_fault 4 guards s a) 4 ss a ≡ slot_fault (guard_hit guards a 4) a
stack_word guards ss a x t l h =
    let p = parts ss x in
    rw (stack_fault ss p (λ s. store_fault 4 guards s a) 4 a l h, t, (p.stack_at).writes) refl

-- a guarded word among those of the stack is the fault
pub run_stops : (guards : List ℕ) (ss : List Segment) (a w g : ℕ) (ws : List ℕ) → AreSegments ss → (a % 4 == 0) ≡ true → STACK_START ≤ a → a + 4 ≤ STACK_END
    → guard_hit guards a 4 ≡ Some g → run_fault guards ss a (w ∷ ws) ≡ Some (SavedSlot g)
run_stops guards ss a w g ws x t l h e = rw (stack_word guards ss a x t l h, e) refl

-- and over any other the run goes on
pub run_goes : (guards : List ℕ) (ss : List Segment) (a w : ℕ) (ws : List ℕ) → AreSegments ss → (a % 4 == 0) ≡ true → STACK_START ≤ a → a + 4 ≤ STACK_END
    → guard_hit guards a 4 ≡ None → run_fault guards ss a (w ∷ ws) ≡ run_fault guards ss ((a + 4) % 2 ^ 32) ws
run_goes guards ss a w ws x t l h e = rw (stack_word guards ss a x t l h, e, open_above a (omega arith)) refl

-- an access that some segment holds lies where each that holds it does
held_below : (n a top : ℕ) (f : Segment → Option BusFault) (ss : List Segment)
    → ((i : ℕ) (d : Segment) → i < length ss → holds (get_or ss i d) a n ≡ true → a + n ≤ top) → fault_in f n ss a ≡ None → a + n ≤ top
held_below n a top f [] k e = absurd (cc)
held_below n a top f (s ∷ more) k e = by_cases (holds s a n) refl e (held_below n a top f more (λ i d l h. k (suc i) d (omega arith) h))
  where
    by_cases : (t : Bool) → holds s a n ≡ t → cond t (f s) (fault_in f n more a) ≡ None → (fault_in f n more a ≡ None → a + n ≤ top) → a + n ≤ top
    by_cases true h e next = k 0 s (omega arith) h
    by_cases false h e next = next e

-- below the stack no segment ends above the pool
below_stack : (a : ℕ) (f : Segment → Option BusFault) (ss : List Segment) → AreSegments ss → a < STACK_START → fault_in f 4 ss a ≡ None → a + 4 ≤ POOL_END
below_stack a f ss x l e = held_below 4 a POOL_END f ss at e
  where
    at : (i : ℕ) (d : Segment) → i < length ss → holds (get_or ss i d) a 4 ≡ true → a + 4 ≤ POOL_END
    at zero d k h = let s = x.stack d in let p = inside (get_or ss 0 d) a 4 h in absurd (omega (arith, p.low, s.starts))
    at (suc zero) d k h = let s = x.pool d in let p = inside (get_or ss 1 d) a 4 h in omega (arith, p.low, p.high, s.starts, s.sized)
    at (suc (suc i)) d k h = let s = x.image (suc (suc i)) d (omega arith) k in let p = inside (get_or ss (suc (suc i)) d) a 4 h in omega (arith, p.low, p.high, s)

-- outside the stack no guarded word is reached
free_outside : (guards : List ℕ) (a : ℕ) → AreGuards guards → IsOutside a → aligned_hit guards 4 a ≡ None
free_outside guards a r o = go (aligned_hit guards 4 a) refl o
  where
    go : (h : Option ℕ) → aligned_hit guards 4 a ≡ h → IsOutside a → h ≡ None
    go None e o = refl
    go (Some g) e o =
        let q = reaches guards 4 a g e in
        let f = hit_found guards 4 a g q.hit in
        let p = guard_places STACK_START guards g r f.has in
        absurd (out q.aligned (eqb-true _ _ q.aligned) p f.below f.above o)
      where
        out : (a % 4 == 0) ≡ true → a % 4 ≡ 0 → (STACK_START ≤ g) × (g % 4 ≡ 0) × (g + 4 ≤ STACK_END) → a < g + 4 → g < a + 4 → IsOutside a → ⊥
        out t z p b u (inl f) = absurd (let e : true ≡ false = sym t ∙ f in cc)
        out t z p b u (inr (inl l)) = absurd (omega (arith, p.0, p.1))
        out t z p b u (inr (inr h)) = absurd (omega (arith, p.2, p.1))

-- a word that may be stored outside the stack is followed by one outside it
next_outside : (a : ℕ) (ss : List Segment) → AreSegments ss → IsOutside a → fault_in (λ s. store_fault 4 [] s a) 4 ss a ≡ None → IsOutside ((a + 4) % 2 ^ 32)
next_outside a ss x (inl t) e =
    absurd (let p : (a % 4 == 0) ≡ true = fault_some 4 a (λ s. store_fault 4 [] s a) ss ((a % 4 == 0) ≡ true) (λ s f. (passes 4 [] s a f).aligned) e in let q : true ≡ false = sym p ∙ t in cc)
next_outside a ss x (inr (inl l)) e = let b = below_stack a (λ s. store_fault 4 [] s a) ss x l e in inr (inl (omega arith))
next_outside a ss x (inr (inr h)) e = absurd (let t = fault_top 4 a (λ s. store_fault 4 [] s a) ss x e in omega arith)

-- so from there on guards play no part
pub same_outside : (guards : List ℕ) (ss : List Segment) (a : ℕ) (ws : List ℕ) → AreGuards guards → AreSegments ss → IsOutside a → run_fault guards ss a ws ≡ run_fault [] ss a ws
same_outside guards ss a [] r x o = refl
same_outside guards ss a (w ∷ ws) r x o =
    rw (fault_same 4 a (λ s. store_fault 4 guards s a) (λ s. store_fault 4 [] s a) ss (λ s. fault_free 4 guards s a (free_outside guards a r o)))
    (go (fault_in (λ s. store_fault 4 [] s a) 4 ss a) refl (λ q. same_outside guards ss ((a + 4) % 2 ^ 32) ws r x q))
  where
    go : (f : Option BusFault) → fault_in (λ s. store_fault 4 [] s a) 4 ss a ≡ f
        → (IsOutside ((a + 4) % 2 ^ 32) → run_fault guards ss ((a + 4) % 2 ^ 32) ws ≡ run_fault [] ss ((a + 4) % 2 ^ 32) ws)
        → first_fault f (run_fault guards ss ((a + 4) % 2 ^ 32) ws) ≡ first_fault f (run_fault [] ss ((a + 4) % 2 ^ 32) ws)
    go (Some y) f next = refl
    go None f next = next (next_outside a ss x o f)

-- ---- the run from the word at place i on

pub stops_at : (guards : List ℕ) (ss : List Segment) (a i g : ℕ) (words : List ℕ) → i < length words → AreSegments ss → (a % 4 == 0) ≡ true → STACK_START ≤ a → a + 4 ≤ STACK_END
    → guard_hit guards a 4 ≡ Some g → run_fault guards ss a (drop i words) ≡ Some (SavedSlot g)
stops_at guards ss a i g words l x t b h e = at_drop_more (run_fault guards ss a) words i 0 l ∙ run_stops guards ss a (get_or words i 0) g (drop (i + 1) words) x t b h e

pub goes_at : (guards : List ℕ) (ss : List Segment) (a i : ℕ) (words : List ℕ) → i < length words → AreSegments ss → (a % 4 == 0) ≡ true → STACK_START ≤ a → a + 4 ≤ STACK_END
    → guard_hit guards a 4 ≡ None → run_fault guards ss a (drop i words) ≡ run_fault guards ss ((a + 4) % 2 ^ 32) (drop (i + 1) words)
goes_at guards ss a i words l x t b h e = at_drop_more (run_fault guards ss a) words i 0 l ∙ run_goes guards ss a (get_or words i 0) (drop (i + 1) words) x t b h e

-- ---- runs

-- a run that reaches a guarded word first is refused
pub run_reaches : (m : Memory) (a g : ℕ) (ws : List ℕ) → run_fault m.guards m.segments a ws ≡ Some (SavedSlot g) → store_run m a ws ≡ (Err (SavedSlot g), m)
run_reaches m a g ws e = rw e refl

-- any other is the run below
pub run_through : (m : Memory) (guards : List ℕ) (thread a : ℕ) (ws : List ℕ) (r : Result (Unit {0}) BusFault) (m' : Memory)
    → m.guards ≡ [] → run_fault guards m.segments a ws ≡ run_fault [] m.segments a ws → (r, m') ≡ store_run m a ws → (r, thread_view m' guards thread) ≡ store_run (thread_view m guards thread) a ws
run_through m guards thread a ws r m' z e s =
    let same : run_fault guards m.segments a ws ≡ run_fault m.guards m.segments a ws = rw z e in
    rw same (go (run_fault m.guards m.segments a ws) s)
  where
    go : (o : Option BusFault) → (r, m') ≡ unless_fault o m (record m { segments = store_words m.segments a ws })
        → (r, thread_view m' guards thread) ≡ unless_fault o (thread_view m guards thread) (record (thread_view m guards thread) { segments = store_words m.segments a ws })
    go (Some x) s = ap (λ (p : Result (Unit {0}) BusFault × Memory). (p.0, thread_view p.1 guards thread)) s
    go None s = ap (λ (p : Result (Unit {0}) BusFault × Memory). (p.0, thread_view p.1 guards thread)) s

pub run_plain : (m : Memory) (a : ℕ) (ws : List ℕ) (r : Result (Unit {0}) BusFault) (m' : Memory) → m.guards ≡ [] → (r, m') ≡ store_run m a ws → m'.guards ≡ []
run_plain m a ws r m' z s = go (run_fault m.guards m.segments a ws) s
  where
    go : (o : Option BusFault) → (r, m') ≡ unless_fault o m (record m { segments = store_words m.segments a ws }) → m'.guards ≡ []
    go (Some x) s = ap (λ (p : Result (Unit {0}) BusFault × Memory). p.1.guards) s ∙ z
    go None s = ap (λ (p : Result (Unit {0}) BusFault × Memory). p.1.guards) s ∙ z
