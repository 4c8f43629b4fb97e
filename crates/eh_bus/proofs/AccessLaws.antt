-- The laws of load, store and store_run that a simulation uses.
use Rattle.std.proofs.Common.{◌≡◌, ℕ, zero, suc, ◌+◌, ◌-◌, ◌*◌, ◌%◌, ◌^◌, ◌<◌, ◌≤◌, ◌⊎◌, inl, inr, Bool, true, false, not, ◌&&◌, ◌==◌, nat_lt, cond, List, [], ◌∷◌, length, get_or, Option, Some, None, Result, Ok, Err, refl, sym, ap, ◌∙◌, arith}
use Rattle.std.proofs.lemmas.Bool.{ltb-false}
use Rattle.std.proofs.lemmas.Nat.{and_mask}
use Rattle.std.specs.Prelude.{bit_and}
use Rattle.eh_bus.specs.Place.{IsWidth}
use Rattle.eh_bus.specs.Segment.{Segment, Apart, holds}
use Rattle.eh_bus.specs.Lists.{Has}
use Rattle.eh_bus.specs.Memory.{Memory, fault_in, number_in, store_number, load_number, load, store, store_run, run_fault, store_words, first_fault, load_fault, store_fault, slot_fault, guard_hit, is_closed, or_fault, unless_fault}
use Rattle.eh_bus.specs.declared.fault.BusFault.{BusFault}
use Rattle.eh_bus.specs.declared.fault.BusFault.TheVariants.{Unaligned, ReadOnly, SavedSlot, Protected}
use Rattle.eh_bus.proofs.WordLaws.{written_other, written_same, written_fault}

-- ---- faults

-- where one fault test passes, so does another that it implies
pub fault_less : (n a : ℕ) (f g : Segment → Option BusFault) (ss : List Segment) → ((s : Segment) → f s ≡ None → g s ≡ None) → fault_in f n ss a ≡ None → fault_in g n ss a ≡ None
fault_less n a f g [] k e = cc
fault_less n a f g (s ∷ more) k e = by_cases (holds s a n) refl (fault_less n a f g more k)
  where
    by_cases : (t : Bool) → holds s a n ≡ t → (fault_in f n more a ≡ None → fault_in g n more a ≡ None) → cond t (g s) (fault_in g n more a) ≡ None
    by_cases true h next = k s (rw h at e)
    by_cases false h next = next (rw h at e)

-- some segment holds the access
pub fault_some : (n a : ℕ) (f : Segment → Option BusFault) (ss : List Segment) (P : Type 0) → ((s : Segment) → f s ≡ None → P) → fault_in f n ss a ≡ None → P
fault_some n a f [] P k e = absurd (cc)
fault_some n a f (s ∷ more) P k e = by_cases (holds s a n) refl (fault_some n a f more P k)
  where
    by_cases : (t : Bool) → holds s a n ≡ t → (fault_in f n more a ≡ None → P) → P
    by_cases true h next = k s (rw h at e)
    by_cases false h next = next (rw h at e)

-- the remainder by the size of an access is a mask's
pub width_mask : (a n : ℕ) → IsWidth n → bit_and a (n - 1) ≡ a % n
width_mask a n (inl e) = rw e (and_mask a 0)
width_mask a n (inr (inl e)) = rw e (and_mask a 1)
width_mask a n (inr (inr e)) = rw e (and_mask a 2)

-- what a store that is done has passed
pub record Passes (n : ℕ) (guards : List ℕ) (s : Segment) (a : ℕ) : Type 0 where
  pub aligned : (a % n == 0) ≡ true
  pub writes : s.write ≡ true
  pub free : guard_hit guards a n ≡ None
  pub opened : is_closed a ≡ false

pub passes : (n : ℕ) (guards : List ℕ) (s : Segment) (a : ℕ) → store_fault n guards s a ≡ None → Passes n guards s a
passes n guards s a e = go (a % n == 0) refl s.write refl (guard_hit guards a n) refl (is_closed a) refl e
  where
    go : (t : Bool) → (a % n == 0) ≡ t → (w : Bool) → s.write ≡ w → (o : Option ℕ) → guard_hit guards a n ≡ o → (c : Bool) → is_closed a ≡ c
        → cond (not t) (Some (Unaligned a)) (cond (not w) (Some (ReadOnly a)) (slot_fault o a)) ≡ None → Passes n guards s a
    go true t true w None o false c e = record { aligned = t; writes = w; free = o; opened = c }
    go true t true w None o true c e = absurd (let f : Some (Protected a) ≡ None = rw c at e in cc)
    go true t true w (Some g) o c d e = absurd (cc)
    go true t false w o p c d e = absurd (cc)
    go false t w p o q c d e = absurd (cc)

pub hit_none : (guards : List ℕ) (a n g : ℕ) → guard_hit guards a n ≡ None → Has guards g → Apart a n g 4
hit_none [] a n g e h = absurd h
hit_none (x ∷ more) a n g e h = by_cases (nat_lt a (x + 4)) refl (nat_lt x (a + n)) refl (hit_none more a n g) e h
  where
    apart : (t u : Bool) → nat_lt a (x + 4) ≡ t → nat_lt x (a + n) ≡ u → (t && u) ≡ false → Apart a n x 4
    apart true false t u e = inl (ltb-false _ _ u)
    apart false u t v e = inr (ltb-false _ _ t)
    apart true true t u e = absurd (cc)

    here : (t : Bool) → (nat_lt a (x + 4) && nat_lt x (a + n)) ≡ t → cond t (Some x) (guard_hit more a n) ≡ None → (x ≡ g) ⊎ Has more g → (guard_hit more a n ≡ None → Has more g → Apart a n g 4) → Apart a n g 4
    here true t e h next = absurd (cc)
    here false t e (inl p) next = let q = apart _ _ refl refl t in rw p at q
    here false t e (inr p) next = next e p

    by_cases : (t : Bool) → nat_lt a (x + 4) ≡ t → (u : Bool) → nat_lt x (a + n) ≡ u → (guard_hit more a n ≡ None → Has more g → Apart a n g 4) → guard_hit (x ∷ more) a n ≡ None → Has (x ∷ more) g → Apart a n g 4
    by_cases t p u q next e h = here _ refl e h next

pub load_fault_none : (n a : ℕ) → (a % n == 0) ≡ true → is_closed a ≡ false → load_fault n a ≡ None
load_fault_none n a t c = rw (t, c)

-- ---- one store

pub record Stored (n : ℕ) (m : Memory) (a v : ℕ) (m' : Memory) : Type 0 where
  pub after : m' ≡ record m { segments = store_number n m.segments a v }
  pub passed : fault_in (λ s. store_fault n m.guards s a) n m.segments a ≡ None

pub stored : (n : ℕ) (m : Memory) (a v : ℕ) (m' : Memory) → store n m a v ≡ (Ok tt, m') → Stored n m a v m'
stored n m a v m' e = go (fault_in (λ s. store_fault n m.guards s a) n m.segments a) refl e
  where
    go : (o : Option BusFault) → fault_in (λ s. store_fault n m.guards s a) n m.segments a ≡ o
        → unless_fault o m (record m { segments = store_number n m.segments a v }) ≡ (Ok tt, m') → Stored n m a v m'
    go None f e = record { after = sym (ap (λ (p : Result (Unit {0}) BusFault × Memory). p.1) e); passed = f }
    go (Some x) f e = absurd (let p : Err x ≡ Ok tt = ap (λ (p : Result (Unit {0}) BusFault × Memory). p.0) e in cc)

-- a load elsewhere is as before
pub store_apart : (n k : ℕ) (m : Memory) (a v : ℕ) (m' : Memory) (b : ℕ) → store n m a v ≡ (Ok tt, m') → Apart a n b k → load k m' b ≡ load k m b
store_apart n k m a v m' b e o =
    let s = stored n m a v m' e in
    rw (s.after, written_fault n k a b v (λ s. load_fault k b) m.segments (λ s bs. refl), written_other n k a b v m.segments o)

-- a store is apart from each guarded word
pub store_misses : (n : ℕ) (m : Memory) (a v : ℕ) (m' : Memory) (g : ℕ) → store n m a v ≡ (Ok tt, m') → Has m.guards g → Apart a n g 4
store_misses n m a v m' g e h =
    let s = stored n m a v m' e in
    hit_none m.guards a n g (fault_some n a (λ s. store_fault n m.guards s a) m.segments (guard_hit m.guards a n ≡ None) (λ d p. (passes n m.guards d a p).free) s.passed) h

-- a guarded word stays
pub store_keeps : (n : ℕ) (m : Memory) (a v : ℕ) (m' : Memory) (g : ℕ) → store n m a v ≡ (Ok tt, m') → Has m.guards g → load 4 m' g ≡ load 4 m g
store_keeps n m a v m' g e h = store_apart n 4 m a v m' g e (store_misses n m a v m' g e h)

-- what was stored is loaded
pub store_back : (n : ℕ) (m : Memory) (a v : ℕ) (m' : Memory) → store n m a v ≡ (Ok tt, m') → v < 256 ^ n → load n m' a ≡ Ok v
store_back n m a v m' e l =
    let s = stored n m a v m' e in
    let f = λ (d : Segment). store_fault n m.guards d a in
    let fine = fault_less n a f (λ d. load_fault n a) m.segments (λ d p. let q = passes n m.guards d a p in load_fault_none n a q.aligned q.opened) s.passed in
    rw (s.after, written_fault n n a a v (λ d. load_fault n a) m.segments (λ d bs. refl), fine, written_same n a v f m.segments l s.passed)

-- a store that is done changes segments alone
pub store_only : (n : ℕ) (m : Memory) (a v : ℕ) (m' : Memory) → store n m a v ≡ (Ok tt, m') → m' ≡ record m { segments = m'.segments }
store_only n m a v m' e = let s = stored n m a v m' e in rw s.after refl

-- a part of a guarded word stays
pub store_keeps_part : (n k : ℕ) (m : Memory) (a v : ℕ) (m' : Memory) (g b : ℕ) → store n m a v ≡ (Ok tt, m') → Has m.guards g → g ≤ b → b + k ≤ g + 4 → load k m' b ≡ load k m b
store_keeps_part n k m a v m' g b e h low high = store_apart n k m a v m' b e (part (store_misses n m a v m' g e h))
  where
    part : Apart a n g 4 → Apart a n b k
    part (inl p) = inl (omega arith)
    part (inr p) = inr (omega arith)

-- a store that is refused changes nothing
pub store_refused : (n : ℕ) (m : Memory) (a v : ℕ) (x : BusFault) (m' : Memory) → store n m a v ≡ (Err x, m') → m' ≡ m
store_refused n m a v x m' e = go (fault_in (λ s. store_fault n m.guards s a) n m.segments a) e
  where
    go : (o : Option BusFault) → unless_fault o m (record m { segments = store_number n m.segments a v }) ≡ (Err x, m') → m' ≡ m
    go None e = absurd (let p : Ok tt ≡ Err x = ap (λ (p : Result (Unit {0}) BusFault × Memory). p.0) e in cc)
    go (Some y) e = sym (ap (λ (p : Result (Unit {0}) BusFault × Memory). p.1) e)

-- a store that would hit a guard is a trap that names it, and nothing is stored
pub store_trapped : (m : Memory) (a v g : ℕ) → fault_in (λ s. store_fault 4 m.guards s a) 4 m.segments a ≡ Some (SavedSlot g) → store 4 m a v ≡ (Err (SavedSlot g), m)
store_trapped m a v g e = rw e

-- ---- words stored upwards, as one store after the other

pub record Splits (m : Memory) (a w : ℕ) (ws : List ℕ) (m' : Memory) : Type 0 where
  pub mid : Memory
  pub first : store 4 m a w ≡ (Ok tt, mid)
  pub rest : store_run mid ((a + 4) % 2 ^ 32) ws ≡ (Ok tt, m')

pub run_fault_written : (gs : List ℕ) (ss : List Segment) (a b v : ℕ) (ws : List ℕ) → run_fault gs (store_number 4 ss b v) a ws ≡ run_fault gs ss a ws
run_fault_written gs ss a b v [] = refl
run_fault_written gs ss a b v (w ∷ ws) = rw (written_fault 4 4 b a v (λ s. store_fault 4 gs s a) ss (λ s bs. refl), run_fault_written gs ss ((a + 4) % 2 ^ 32) b v ws)

pub splits : (m : Memory) (a w : ℕ) (ws : List ℕ) (m' : Memory) → store_run m a (w ∷ ws) ≡ (Ok tt, m') → Splits m a w ws m'
splits m a w ws m' e = go (fault_in (λ s. store_fault 4 m.guards s a) 4 m.segments a) refl (run_fault m.guards m.segments ((a + 4) % 2 ^ 32) ws) refl e
  where
    go : (o : Option BusFault) → fault_in (λ s. store_fault 4 m.guards s a) 4 m.segments a ≡ o → (p : Option BusFault) → run_fault m.guards m.segments ((a + 4) % 2 ^ 32) ws ≡ p
        → unless_fault (first_fault o p) m (record m { segments = store_words (store_number 4 m.segments a w) ((a + 4) % 2 ^ 32) ws }) ≡ (Ok tt, m') → Splits m a w ws m'
    go None f None g e = record {
      mid = record m { segments = store_number 4 m.segments a w };
      first = rw f;
      rest = rw (run_fault_written m.guards m.segments ((a + 4) % 2 ^ 32) a w ws, g) e;
    }
    go None f (Some x) g e = absurd (let p : Err x ≡ Ok tt = ap (λ (p : Result (Unit {0}) BusFault × Memory). p.0) e in cc)
    go (Some x) f p g e = absurd (let p : Err x ≡ Ok tt = ap (λ (p : Result (Unit {0}) BusFault × Memory). p.0) e in cc)

pub record Ran (m : Memory) (a : ℕ) (ws : List ℕ) (m' : Memory) : Type 0 where
  pub after : m' ≡ record m { segments = store_words m.segments a ws }
  pub passed : run_fault m.guards m.segments a ws ≡ None

pub ran : (m : Memory) (a : ℕ) (ws : List ℕ) (m' : Memory) → store_run m a ws ≡ (Ok tt, m') → Ran m a ws m'
ran m a ws m' e = go (run_fault m.guards m.segments a ws) refl e
  where
    go : (o : Option BusFault) → run_fault m.guards m.segments a ws ≡ o
        → unless_fault o m (record m { segments = store_words m.segments a ws }) ≡ (Ok tt, m') → Ran m a ws m'
    go None f e = record { after = sym (ap (λ (p : Result (Unit {0}) BusFault × Memory). p.1) e); passed = f }
    go (Some x) f e = absurd (let p : Err x ≡ Ok tt = ap (λ (p : Result (Unit {0}) BusFault × Memory). p.0) e in cc)

-- store_run changes segments alone
pub run_done : (m : Memory) (a : ℕ) (ws : List ℕ) (m' : Memory) → store_run m a ws ≡ (Ok tt, m') → m' ≡ record m { segments = m'.segments }
run_done m a ws m' e = let s = ran m a ws m' e in rw s.after refl

-- a run that is refused changes nothing
pub run_refused : (m : Memory) (a : ℕ) (ws : List ℕ) (x : BusFault) (m' : Memory) → store_run m a ws ≡ (Err x, m') → m' ≡ m
run_refused m a ws x m' e = go (run_fault m.guards m.segments a ws) e
  where
    go : (o : Option BusFault) → unless_fault o m (record m { segments = store_words m.segments a ws }) ≡ (Err x, m') → m' ≡ m
    go None e = absurd (let p : Ok tt ≡ Err x = ap (λ (p : Result (Unit {0}) BusFault × Memory). p.0) e in cc)
    go (Some y) e = sym (ap (λ (p : Result (Unit {0}) BusFault × Memory). p.1) e)

pub run_keeps : (m : Memory) (a : ℕ) (ws : List ℕ) (m' : Memory) (g : ℕ) → store_run m a ws ≡ (Ok tt, m') → Has m.guards g → load 4 m' g ≡ load 4 m g
run_keeps m a [] m' g e h = let p : m ≡ m' = ap (λ (p : Result (Unit {0}) BusFault × Memory). p.1) e in rw p
run_keeps m a (w ∷ ws) m' g e h =
    let s = splits m a w ws m' e in
    let same = (stored 4 m a w s.mid s.first).after in
    run_keeps s.mid ((a + 4) % 2 ^ 32) ws m' g s.rest (rw same h) ∙ store_keeps 4 m a w s.mid g s.first h

-- a run of stores leaves what is apart from it
pub run_apart : (k : ℕ) (m : Memory) (a : ℕ) (ws : List ℕ) (m' : Memory) (b : ℕ) → store_run m a ws ≡ (Ok tt, m') → a + 4 * length ws < 2 ^ 32 → Apart a (4 * length ws) b k → load k m' b ≡ load k m b
run_apart k m a [] m' b e l h = let p : m ≡ m' = ap (λ (p : Result (Unit {0}) BusFault × Memory). p.1) e in rw p
run_apart k m a (w ∷ ws) m' b e l h =
    let s = splits m a w ws m' e in
    let next : (a + 4) % 2 ^ 32 ≡ a + 4 = omega arith in
    run_apart k s.mid (a + 4) ws m' b (rw next at s.rest) (omega arith) (rest h) ∙ store_apart 4 k m a w s.mid b s.first (first h)
  where
    first : Apart a (4 * length (w ∷ ws)) b k → Apart a 4 b k
    first (inl p) = inl (omega arith)
    first (inr p) = inr p

    rest : Apart a (4 * length (w ∷ ws)) b k → Apart (a + 4) (4 * length ws) b k
    rest (inl p) = inl (omega arith)
    rest (inr p) = inr (omega arith)

abbrev pub Words : List ℕ → Type 0
Words [] = Unit {0}
Words (w ∷ ws) = (w < 2 ^ 32) × Words ws

pub run_back : (m : Memory) (a : ℕ) (ws : List ℕ) (m' : Memory) (i : ℕ) → store_run m a ws ≡ (Ok tt, m') → a + 4 * length ws < 2 ^ 32 → Words ws → i < length ws → load 4 m' (a + 4 * i) ≡ Ok (get_or ws i 0)
run_back m a [] m' i e l w h = absurd (omega arith)
run_back m a (w ∷ ws) m' zero e l ok h =
    let s = splits m a w ws m' e in
    let next : (a + 4) % 2 ^ 32 ≡ a + 4 = omega arith in
    let same : a + 4 * zero ≡ a = omega arith in
    rw same (run_apart 4 s.mid (a + 4) ws m' a (rw next at s.rest) (omega arith) (inr (omega arith)) ∙ store_back 4 m a w s.mid s.first ok.0)
run_back m a (w ∷ ws) m' (suc i) e l ok h =
    let s = splits m a w ws m' e in
    let next : (a + 4) % 2 ^ 32 ≡ a + 4 = omega arith in
    let same : a + 4 * suc i ≡ a + 4 + 4 * i = omega arith in
    rw same (run_back s.mid (a + 4) ws m' i (rw next at s.rest) (omega arith) ok.1 (omega arith))

-- ---- what can be loaded can still be loaded

-- a load that is done has no fault
pub loads_done : (k : ℕ) (ss : List Segment) (b w : ℕ) → load_number k ss b ≡ Ok w → fault_in (λ s. load_fault k b) k ss b ≡ None
loads_done k ss b w e = go (fault_in (λ s. load_fault k b) k ss b) e
  where
    go : (o : Option BusFault) → or_fault o (number_in k ss b) ≡ Ok w → o ≡ None
    go None e = refl
    go (Some x) e = absurd (cc)

pub still_loads : (n k : ℕ) (m : Memory) (a v : ℕ) (m' : Memory) (b w : ℕ) → store n m a v ≡ (Ok tt, m') → load k m b ≡ Ok w → (w' : ℕ) × (load k m' b ≡ Ok w')
still_loads n k m a v m' b w e l =
    let s = stored n m a v m' e in
    (number_in k (store_number n m.segments a v) b, rw (s.after, written_fault n k a b v (λ s. load_fault k b) m.segments (λ s bs. refl), loads_done k m.segments b w l))

pub still_run : (k : ℕ) (m : Memory) (a : ℕ) (ws : List ℕ) (m' : Memory) (b w : ℕ) → store_run m a ws ≡ (Ok tt, m') → load k m b ≡ Ok w → (w' : ℕ) × (load k m' b ≡ Ok w')
still_run k m a [] m' b w e l = let p : m ≡ m' = ap (λ (p : Result (Unit {0}) BusFault × Memory). p.1) e in (w, rw (← p) l)
still_run k m a (x ∷ ws) m' b w e l =
    let s = splits m a x ws m' e in
    let f = still_loads 4 k m a x s.mid b w s.first l in
    still_run k s.mid ((a + 4) % 2 ^ 32) ws m' b f.0 s.rest f.1
