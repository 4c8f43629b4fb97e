-- Stores leave the closed words of the pool, and what is apart from the bytes that they store to.
use Rattle.std.proofs.Common.{◌≡◌, ℕ, suc, ◌+◌, ◌-◌, ◌*◌, ◌%◌, ◌^◌, ◌<◌, ◌≤◌, ◌⊎◌, inl, inr, Bool, true, false, ◌&&◌, ◌==◌, nat_le, nat_lt, List, [], ◌∷◌, length, Ok, Result, refl, ap, ◌∙◌, arith}
use Rattle.std.proofs.lemmas.Bool.{cases_lt, leb-true, ltb-true, le-leb, lt-ltb}
use Rattle.std.proofs.lemmas.Bool.Decides.{nat_tests}
use Rattle.eh_bus.specs.Segment.{Segment, Apart}
use Rattle.eh_bus.specs.Memory.{Memory, fetch, host_load, store, store_run, store_fault, fetch_fault, is_closed}
use Rattle.eh_bus.specs.declared.fault.BusFault.{BusFault}
use Rattle.eh_bus.proofs.AccessLaws.{stored, splits, store_apart, fault_some, passes, Passes}
use Rattle.eh_bus.proofs.WordLaws.{written_other, written_fault}
use Rattle.thumb_core.specs.Stores.{Misses, SameApart}

-- the widths of a store
abbrev pub IsWidth : ℕ → Type 0
IsWidth n = (n ≡ 1) ⊎ ((n ≡ 2) ⊎ (n ≡ 4))

-- what a store that is done has passed
store_passes : (n : ℕ) (m : Memory) (a v : ℕ) (m' : Memory) (P : Type 0) → ((d : Segment) → Passes n m.guards d a → P) → store n m a v ≡ (Ok tt, m') → P
store_passes n m a v m' P k e =
    let s = stored n m a v m' e in
    fault_some n a (λ s. store_fault n m.guards s a) m.segments P (λ d p. k d (passes n m.guards d a p)) s.passed

-- ---- closed words

record IsClosed (a : ℕ) : Type 0 where
  low : 0x38000000 ≤ a
  high : a < 0x38008000
  slot : a % 512 < 128

closed_in : (a : ℕ) → is_closed a ≡ true → IsClosed a
closed_in a e = go (nat_le 0x38000000 a) refl (nat_lt a 0x38008000) refl (nat_lt (a % 512) 128) refl e
  where
    go : (t : Bool) → nat_le 0x38000000 a ≡ t → (u : Bool) → nat_lt a 0x38008000 ≡ u → (w : Bool) → nat_lt (a % 512) 128 ≡ w
        → (t && (u && w)) ≡ true → IsClosed a
    go true t true u true w e = record { low = leb-true _ _ t; high = ltb-true _ _ u; slot = ltb-true _ _ w }
    go false t u v w x e = absurd (cc)
    go true t false u w x e = absurd (cc)
    go true t true u false w e = absurd (cc)

closed_from : (a : ℕ) → 0x38000000 ≤ a → a < 0x38008000 → a % 512 < 128 → is_closed a ≡ true
closed_from a l h s = rw (le-leb 0x38000000 a l, lt-ltb a 0x38008000 h, lt-ltb (a % 512) 128 s)

-- an access that begins within a closed word is closed
closed_word : (a d : ℕ) → is_closed a ≡ true → a % 4 ≡ 0 → d < 4 → is_closed (a + d) ≡ true
closed_word a d c al l = let i = closed_in a c in closed_from (a + d) (omega (arith, i.low)) (omega (arith, i.high)) (omega (arith, i.slot))

rest : (x : ℕ) → (x == 0) ≡ true → x ≡ 0
rest x e = grind (arith, nat_tests)

width_below : (n a g : ℕ) → IsWidth n → (a % n == 0) ≡ true → g % 4 ≡ 0 → a < g → a + n ≤ g
width_below n a g (inl one) al gl l = rw one (omega arith)
width_below n a g (inr (inl two)) al gl l = let e = rest (a % n) al in let f = rw two at e in rw two (omega arith)
width_below n a g (inr (inr four)) al gl l = let e = rest (a % n) al in let f = rw four at e in rw four (omega arith)

closed_apart : (n a g : ℕ) → IsWidth n → (a % n == 0) ≡ true → g % 4 ≡ 0 → is_closed a ≡ false → is_closed g ≡ true → Apart a n g 4
closed_apart n a g w al gl ca cg = by_order (cases_lt a g) (cases_lt a (g + 4))
  where
    open_word : g ≤ a → a < g + 4 → ⊥
    open_word l h =
        let e : g + (a - g) ≡ a = omega arith in
        let c = rw e at (closed_word g (a - g) cg gl (omega arith)) in
        cc

    below : a < g → a + n ≤ g
    below l = width_below n a g w al gl l

    by_order : (a < g) ⊎ (g ≤ a) → (a < g + 4) ⊎ (g + 4 ≤ a) → Apart a n g 4
    by_order (inl l) o = inl (below l)
    by_order (inr l) (inl h) = absurd (open_word l h)
    by_order (inr l) (inr h) = inr h

pub store_closed : (n : ℕ) (m : Memory) (a v : ℕ) (m' : Memory) (g : ℕ) → IsWidth n → store n m a v ≡ (Ok tt, m') → g % 4 ≡ 0 → is_closed g ≡ true → host_load m' g ≡ host_load m g
store_closed n m a v m' g w e gl cg =
    let o : Apart a n g 4 = store_passes n m a v m' (Apart a n g 4) (λ d p. closed_apart n a g w p.aligned gl p.opened cg) e in
    rw ((stored n m a v m' e).after, written_other n 4 a g v m.segments o)

pub run_closed : (m : Memory) (a : ℕ) (ws : List ℕ) (m' : Memory) (g : ℕ) → store_run m a ws ≡ (Ok tt, m') → g % 4 ≡ 0 → is_closed g ≡ true → host_load m' g ≡ host_load m g
run_closed m a [] m' g e gl cg = let p : m ≡ m' = ap (λ (p : Result (Unit {0}) BusFault × Memory). p.1) e in rw p
run_closed m a (w ∷ ws) m' g e gl cg =
    let s = splits m a w ws m' e in
    run_closed s.mid ((a + 4) % 2 ^ 32) ws m' g s.rest gl cg ∙ store_closed 4 m a w s.mid g (inr (inr refl)) s.first gl cg

-- ---- what is apart from a store

-- an aligned store of a word's address does not wrap
no_wrap : (n a : ℕ) → IsWidth n → (a % n == 0) ≡ true → a < 2 ^ 32 → a + n ≤ 2 ^ 32
no_wrap n a w al l = width_below n a (2 ^ 32) w al refl l

misses_apart : (n a k b : ℕ) → a + n ≤ 2 ^ 32 → 0 < n → 0 < k → Misses (record { start = a; size = n }) b k → Apart a n b k
misses_apart n a k b l p q miss = by_order (cases_lt b (a + n)) (cases_lt a (b + k))
  where
    meets : b < a + n → a < b + k → (cases : (b < a) ⊎ (a ≤ b)) → ⊥
    meets h g (inl o) = miss (a - b) (omega arith) (0, (p, omega arith))
    meets h g (inr o) = miss 0 q (b - a, (omega arith, omega arith))

    by_order : (b < a + n) ⊎ (a + n ≤ b) → (a < b + k) ⊎ (b + k ≤ a) → Apart a n b k
    by_order (inr h) o = inl h
    by_order (inl h) (inr o) = inr o
    by_order (inl h) (inl g) = absurd (meets h g (cases_lt b a))

width_some : (n : ℕ) → IsWidth n → 0 < n
width_some n (inl e) = rw e (omega arith)
width_some n (inr (inl e)) = rw e (omega arith)
width_some n (inr (inr e)) = rw e (omega arith)

fetch_apart : (n : ℕ) (m : Memory) (a v : ℕ) (m' : Memory) (b : ℕ) → store n m a v ≡ (Ok tt, m') → Apart a n b 2 → fetch m' b ≡ fetch m b
fetch_apart n m a v m' b e o =
    rw ((stored n m a v m' e).after, written_fault n 2 a b v (λ s. fetch_fault s b) m.segments (λ s bs. refl), written_other n 2 a b v m.segments o)

pub store_same : (n : ℕ) (m : Memory) (a v : ℕ) (m' : Memory) → IsWidth n → a < 2 ^ 32 → store n m a v ≡ (Ok tt, m') → SameApart (record { start = a; size = n }) m m'
store_same n m a v m' w l e =
    let far : (k b : ℕ) → 0 < k → Misses (record { start = a; size = n }) b k → Apart a n b k =
    λ k b q miss. misses_apart n a k b (no_wrap n a w (store_passes n m a v m' ((a % n == 0) ≡ true) (λ d p. p.aligned) e) l) (width_some n w) q miss in
    record {
      loads = λ k b q miss. store_apart n k m a v m' b e (far k b q miss);
      fetches = λ b miss. fetch_apart n m a v m' b e (far 2 b (omega arith) miss);
    }

first_misses : (a n b k : ℕ) → Misses (record { start = a; size = 4 * suc n }) b k → Misses (record { start = a; size = 4 }) b k
first_misses a n b k miss i l c = miss i l (c.0, (omega (arith, c.1.0), c.1.1))

rest_misses : (a n b k : ℕ) → Misses (record { start = a; size = 4 * suc n }) b k → Misses (record { start = (a + 4) % 2 ^ 32; size = 4 * n }) b k
rest_misses a n b k miss i l c = miss i l (4 + c.0, (omega (arith, c.1.0), omega (arith, c.1.1)))

pub run_same : (m : Memory) (a : ℕ) (ws : List ℕ) (m' : Memory) → a < 2 ^ 32 → store_run m a ws ≡ (Ok tt, m') → SameApart (record { start = a; size = 4 * length ws }) m m'
run_same m a [] m' l e =
    let p : m ≡ m' = ap (λ (p : Result (Unit {0}) BusFault × Memory). p.1) e in
    rw (← p) (record { loads = λ k b q miss. refl; fetches = λ b miss. refl })
run_same m a (w ∷ ws) m' l e =
    let s = splits m a w ws m' e in
    let one = store_same 4 m a w s.mid (inr (inr refl)) l s.first in
    let more = run_same s.mid ((a + 4) % 2 ^ 32) ws m' (omega arith) s.rest in
    record {
      loads = λ k b q miss. more.loads k b q (rest_misses a (length ws) b k miss) ∙ one.loads k b q (first_misses a (length ws) b k miss);
      fetches = λ b miss. more.fetches b (rest_misses a (length ws) b 2 miss) ∙ one.fetches b (first_misses a (length ws) b 2 miss);
    }
