-- The stack and the pool as segments, and the laws of accesses that lie in them.
use Rattle.std.proofs.Common.{◌≡◌, ℕ, zero, suc, ◌+◌, ◌-◌, ◌%◌, ◌^◌, ◌<◌, ◌≤◌, ◌⊎◌, inl, inr, Bool, true, false, ◌&&◌, ◌==◌, nat_lt, nat_le, cond, List, [], ◌∷◌, get_or, drop, map, Option, Some, None, Result, Ok, Err, refl, sym, ap, ◌∙◌, arith, le-leb}
use Rattle.std.proofs.lemmas.Bool.{ltb-true, ltb-false, leb-true, leb-false, lt-leb, le-ltb, lt-ltb, eqb-true}
use Rattle.byteorder.specs.Endian.{little_from, little_number}
use Rattle.std.proofs.lemmas.List.{get_or-drop}
use Rattle.eh_bus.specs.Segment.{Segment, Apart, holds, number_at}
use Rattle.eh_bus.specs.Lists.{Has}
use Rattle.eh_bus.specs.Guards.{RiseFrom}
use Rattle.eh_bus.specs.Place.{IsWidth}
use Rattle.eh_bus.specs.Map.{AreSegments, IsData, IsMap, SameMap}
use Rattle.eh_bus.specs.Built.{GivesImage, initial_memory, segment_of, zeros_at}
use Rattle.eh_word.specs.Bytes.{zeros}
use Rattle.eh_bus.specs.Memory.{Memory, fault_in, number_in, store_number, load_number, load, fetch, fetches, store, store_run, load_fault, store_fault, guard_hit, is_closed, host_load, host_store}
use Rattle.eh_bus.specs.declared.fault.BusFault.{BusFault}
use Rattle.eh_bus.specs.declared.fault.BusFault.TheVariants.{SavedSlot}
use Rattle.eh_bus.specs.declared.segment.SegmentSpec.{SegmentSpec}
use Rattle.eh_bus.proofs.Kept.{length_with}
use Rattle.eh_bus.proofs.WordLaws.{written_other, written_same, written_fault}
use Rattle.eh_bus.proofs.AccessLaws.{passes, stored, splits, fault_some}
use Rattle.eh_bus.proofs.MapLaws.{map_refl}
use Rattle.eh_bus.proofs.BuiltLemmas.{zeros_data}
use Rattle.eh_bus.specs.declared.map.TheConstants.{CLOSED_SIZE, IMAGE_END, POOL_END, POOL_SIZE, POOL_START, SLOT_SIZE, STACK_END, STACK_SIZE, STACK_START}

-- the segments of a bus, taken apart
pub record Parts (ss : List Segment) : Type 0 where
  pub stack : Segment
  pub pool : Segment
  pub image : List Segment
  pub is : ss ≡ stack ∷ pool ∷ image
  pub stack_at : IsData stack STACK_START STACK_SIZE
  pub pool_at : IsData pool POOL_START POOL_SIZE

pub parts : (ss : List Segment) → AreSegments ss → Parts ss
parts [] p = absurd (let t = p.two in omega arith)
parts (s ∷ []) p = absurd (let t = p.two in omega arith)
parts (s ∷ t ∷ image) p = record { stack = s; pool = t; image = image; is = refl; stack_at = p.stack s; pool_at = p.pool s }

pub data_holds : (s : Segment) (start size a n : ℕ) → IsData s start size → start ≤ a → a + n ≤ start + size → holds s a n ≡ true
data_holds s start size a n d l h = rw (d.starts, d.sized, le-leb start a l) (le-leb (a - start + n) size (omega arith))

pub data_misses : (s : Segment) (start size a n : ℕ) → IsData s start size → a < start → holds s a n ≡ false
data_misses s start size a n d l = rw (d.starts, lt-leb start a l) refl

-- ---- the pool

pub in_pool : (ss : List Segment) (p : Parts ss) (n a : ℕ) → POOL_START ≤ a → a + n ≤ POOL_END → 0 < n → number_in n ss a ≡ number_at n p.pool a
in_pool ss p n a l h z =
    rw (p.is, data_misses p.stack STACK_START STACK_SIZE a n p.stack_at (omega arith), data_holds p.pool POOL_START POOL_SIZE a n p.pool_at l (omega arith)) refl

pub pool_fault : (ss : List Segment) (p : Parts ss) (f : Segment → Option BusFault) (n a : ℕ) → POOL_START ≤ a → a + n ≤ POOL_END → 0 < n → fault_in f n ss a ≡ f p.pool
pool_fault ss p f n a l h z =
    rw (p.is, data_misses p.stack STACK_START STACK_SIZE a n p.stack_at (omega arith), data_holds p.pool POOL_START POOL_SIZE a n p.pool_at l (omega arith)) refl

-- a word that the host stored is loaded back
pub host_back : (m : Memory) (a v : ℕ) → AreSegments m.segments → POOL_START ≤ a → a + 4 ≤ POOL_END → v < 2 ^ 32 → host_load (host_store m a v) a ≡ v
host_back m a v x l h s =
    let p = parts m.segments x in
    written_same 4 a v (λ d. None) m.segments s (pool_fault m.segments p (λ d. None) 4 a l h (omega arith))

-- a word elsewhere is as before
pub host_other : (m : Memory) (a v b : ℕ) → Apart a 4 b 4 → host_load (host_store m a v) b ≡ host_load m b
host_other m a v b o = written_other 4 4 a b v m.segments o

-- and so is a load elsewhere
pub host_apart : (k : ℕ) (m : Memory) (a v b : ℕ) → Apart a 4 b k → load_number k (host_store m a v).segments b ≡ load_number k m.segments b
host_apart k m a v b o = rw (written_fault 4 k a b v (λ s. load_fault k b) m.segments (λ s bs. refl), written_other 4 k a b v m.segments o) refl

-- the host's stores keep the map
pub host_map : (m : Memory) (a v : ℕ) → AreSegments m.segments → POOL_START ≤ a → a + 4 ≤ POOL_END → SameMap m.segments (host_store m a v).segments
host_map m a v x l h =
    let p = parts m.segments x in
    let t = data_holds p.pool POOL_START POOL_SIZE a 4 p.pool_at l (omega arith) in
    rw (p.is, data_misses p.stack STACK_START STACK_SIZE a 4 p.stack_at (omega arith), t) (
      record { start = refl; size = refl; write = refl; exec = refl; fixed = λ e. refl },
      (
        record { start = refl; size = length_with 4 a v p.pool t; write = refl; exec = refl; fixed = λ e. absurd (let g : true ≡ false = sym (p.pool_at).writes ∙ e in cc) },
        map_refl p.image,
      ),
    )

-- an access of one of the three sizes lies in one word
pub one_word : (n a : ℕ) → IsWidth n → (a % n == 0) ≡ true → (0 < n) × (a % 4 + n ≤ 4)
one_word n a (inl e) h = let g : a % 1 ≡ 0 = omega arith in (omega arith, omega arith)
one_word n a (inr (inl e)) h = let f = eqb-true _ _ h in let g : a % 2 ≡ 0 = rw e at f in (omega arith, omega arith)
one_word n a (inr (inr e)) h = let f = eqb-true _ _ h in let g : a % 4 ≡ 0 = rw e at f in (omega arith, omega arith)

-- two words, or parts of them, meet only in the same word
open_apart : (n a b : ℕ) → a % 4 + n ≤ 4 → b % 4 ≡ 0 → ((b ≤ a) → (a < b + 4) → ⊥) → Apart a n b 4
open_apart n a b w f x = go (nat_le b a) refl (nat_lt a (b + 4)) refl
  where
    go : (t : Bool) → nat_le b a ≡ t → (u : Bool) → nat_lt a (b + 4) ≡ u → Apart a n b 4
    go false t u v = let o = leb-false b a t in inl (omega arith)
    go true t false u = let o = ltb-false a (b + 4) u in inr (omega arith)
    go true t true u = absurd (x (leb-true b a t) (ltb-true a (b + 4) u))

-- a word of the closed part
pub record IsClosedWord (b : ℕ) : Type 0 where
  pub low : POOL_START ≤ b
  pub high : b < POOL_END
  pub closed : b % SLOT_SIZE < CLOSED_SIZE
  pub aligned : b % 4 ≡ 0

closed_byte : (b a : ℕ) → IsClosedWord b → b ≤ a → a < b + 4 → is_closed a ≡ true
closed_byte b a c l h =
    let low = c.low in let high = c.high in let closed = c.closed in let aligned = c.aligned in
    rw (le-leb POOL_START a (omega arith), lt-ltb a POOL_END (omega arith), lt-ltb (a % SLOT_SIZE) CLOSED_SIZE (omega arith)) refl

pub closed_apart : (n a b : ℕ) → a % 4 + n ≤ 4 → is_closed a ≡ false → IsClosedWord b → Apart a n b 4
closed_apart n a b w e c = open_apart n a b w c.aligned (λ l h. let f : true ≡ false = sym (closed_byte b a c l h) ∙ e in cc)

-- a store leaves the words of the closed part
pub store_leaves_closed : (n : ℕ) (m : Memory) (a v : ℕ) (m' : Memory) (b : ℕ) → IsWidth n → store n m a v ≡ (Ok tt, m') → IsClosedWord b → host_load m' b ≡ host_load m b
store_leaves_closed n m a v m' b w e c =
    let s = stored n m a v m' e in
    let o = fault_some n a (λ d. store_fault n m.guards d a) m.segments (Apart a n b 4)
    (λ d p. let q = passes n m.guards d a p in closed_apart n a b (one_word n a w q.aligned).1 q.opened c) s.passed in
    rw s.after (written_other n 4 a b v m.segments o)

pub run_leaves_closed : (m : Memory) (a : ℕ) (ws : List ℕ) (m' : Memory) (b : ℕ) → store_run m a ws ≡ (Ok tt, m') → IsClosedWord b → host_load m' b ≡ host_load m b
run_leaves_closed m a [] m' b e c = let p : m ≡ m' = ap (λ (p : Result (Unit {0}) BusFault × Memory). p.1) e in rw p refl
run_leaves_closed m a (w ∷ ws) m' b e c =
    let s = splits m a w ws m' e in
    run_leaves_closed s.mid ((a + 4) % 2 ^ 32) ws m' b s.rest c ∙ store_leaves_closed 4 m a w s.mid b (inr (inr refl)) s.first c

-- ---- the stack

pub stack_fault : (ss : List Segment) (p : Parts ss) (f : Segment → Option BusFault) (n a : ℕ) → STACK_START ≤ a → a + n ≤ STACK_END → fault_in f n ss a ≡ f p.stack
stack_fault ss p f n a l h = rw (p.is, data_holds p.stack STACK_START STACK_SIZE a n p.stack_at l h) refl

open_above : (a : ℕ) → POOL_END ≤ a → is_closed a ≡ false
open_above a h = rw (le-leb POOL_START a (omega arith), le-ltb a POOL_END h) refl

-- the words of the stack can be loaded
pub stack_loads : (ss : List Segment) → AreSegments ss → (a : ℕ) → STACK_START ≤ a → a + 4 ≤ STACK_END → a % 4 ≡ 0 → (v : ℕ) × (load_number 4 ss a ≡ Ok v)
stack_loads ss x a l h e =
    let p = parts ss x in
    (number_in 4 ss a, rw (stack_fault ss p (λ s. load_fault 4 a) 4 a l h, e, open_above a (omega arith)) refl)

-- and stored where no guard stands
pub stack_stores : (n : ℕ) (m : Memory) (a v : ℕ) → AreSegments m.segments → STACK_START ≤ a → a + n ≤ STACK_END → (a % n == 0) ≡ true → guard_hit m.guards a n ≡ None
    → store n m a v ≡ (Ok tt, record m { segments = store_number n m.segments a v })
stack_stores n m a v x l h e g =
    let p = parts m.segments x in
    rw (stack_fault m.segments p (λ s. store_fault n m.guards s a) n a l h, e, (p.stack_at).writes, g, open_above a (omega arith)) refl

-- the guarded word that an access reaches is the one that is found
pub hit_one : (low : ℕ) (gs : List ℕ) (a n g : ℕ) → RiseFrom low gs → Has gs g → 0 < n → a % 4 + n ≤ 4 → g ≤ a → a < g + 4 → guard_hit gs a n ≡ Some g
hit_one low [] a n g r h z w l u = absurd h
hit_one low (x ∷ more) a n g r h z w l u = go (nat_lt a (x + 4)) refl (nat_lt x (a + n)) refl h (λ k. hit_one (x + 4) more a n g r.1.1 k z w l u)
  where
    go : (t : Bool) → nat_lt a (x + 4) ≡ t → (s : Bool) → nat_lt x (a + n) ≡ s → (x ≡ g) ⊎ Has more g → (Has more g → guard_hit more a n ≡ Some g)
        → cond (t && s) (Some x) (guard_hit more a n) ≡ Some g
    go true t true s (inl e) next = ap Some e
    go true t false s (inl e) next = let o = ltb-false x (a + n) s in absurd (omega arith)
    go false t s q (inl e) next = let o = ltb-false a (x + 4) t in absurd (omega arith)
    go true t false s (inr k) next = next k
    go false t s q (inr k) next = next k
    go true t true s (inr k) next = let o = above (x + 4) more r.1.1 k in let p = ltb-true a (x + 4) t in absurd (omega arith)
      where
        above : (low : ℕ) (gs : List ℕ) → RiseFrom low gs → Has gs g → low ≤ g
        above low [] r h = absurd h
        above low (y ∷ ys) r (inl e) = omega (arith, r.0)
        above low (y ∷ ys) r (inr k) = let o = above (y + 4) ys r.1.1 k in omega (arith, r.0)

pub guard_places : (low : ℕ) (gs : List ℕ) (g : ℕ) → RiseFrom low gs → Has gs g → (low ≤ g) × (g % 4 ≡ 0) × (g + 4 ≤ STACK_END)
guard_places low [] g r h = absurd h
guard_places low (x ∷ more) g r (inl e) = let t = top (x + 4) more r.1.1 in (omega (arith, r.0), rw (← e) r.1.0, omega arith)
  where
    top : (low : ℕ) (gs : List ℕ) → RiseFrom low gs → low ≤ STACK_END
    top low [] r = r
    top low (y ∷ ys) r = let o = top (y + 4) ys r.1.1 in omega (arith, r.0)
guard_places low (x ∷ more) g r (inr k) = let p = guard_places (x + 4) more g r.1.1 k in (omega (arith, r.0, p.0), p.1, p.2)

-- a store that reaches a guarded word is refused with that word's address, whichever of its bytes it reaches
pub guarded_refused : (n : ℕ) (m : Memory) (a v g : ℕ) → IsMap m → IsWidth n → (a % n == 0) ≡ true → Has m.guards g → g ≤ a → a < g + 4 → store n m a v ≡ (Err (SavedSlot g), m)
guarded_refused n m a v g x w e h l u =
    let p = parts m.segments x.segments in
    let q = guard_places STACK_START m.guards g x.guards h in
    let one = one_word n a w e in
    let hit = hit_one STACK_START m.guards a n g x.guards h one.0 one.1 l u in
    let low : STACK_START ≤ a = omega (arith, q.0) in
    let high : a + n ≤ STACK_END = omega (arith, q.1, q.2, one.1) in
    rw (stack_fault m.segments p (λ s. store_fault n m.guards s a) n a low high, e, (p.stack_at).writes, hit) refl

-- ---- the image

pub image_loads : (ss : List Segment) (p : Parts ss) (n a : ℕ) → a < IMAGE_END → load_number n ss a ≡ load_number n p.image a
image_loads ss p n a h =
    rw (p.is, data_misses p.stack STACK_START STACK_SIZE a n p.stack_at (omega arith), data_misses p.pool POOL_START POOL_SIZE a n p.pool_at (omega arith)) refl

pub image_fetches : (ss : List Segment) (p : Parts ss) (a : ℕ) → a < IMAGE_END → fetches ss a ≡ fetches p.image a
image_fetches ss p a h =
    rw (p.is, data_misses p.stack STACK_START STACK_SIZE a 2 p.stack_at (omega arith), data_misses p.pool POOL_START POOL_SIZE a 2 p.pool_at (omega arith)) refl

-- ---- zeros

zero_from : (i n : ℕ) (xs : List ℕ) → ((k : ℕ) → get_or xs k 0 ≡ 0) → little_from i n xs ≡ 0
zero_from i zero xs h = refl
zero_from i (suc n) xs h = rw (h i, zero_from (suc i) n xs h) refl

pub get_or-zeros : (n k : ℕ) → get_or (zeros n) k 0 ≡ 0
unfolding zeros
get_or-zeros zero k = refl
get_or-zeros (suc n) zero = refl
get_or-zeros (suc n) (suc k) = get_or-zeros n k

pub zeros_number : (n i size : ℕ) → little_number n (drop i (zeros size)) ≡ 0
zeros_number n i size = zero_from 0 n (drop i (zeros size)) (λ k. rw (get_or-drop, get_or-zeros size (i + k)) refl)

-- ---- what was just built

pub built_pool : (specs : List SegmentSpec) (a : ℕ) → POOL_START ≤ a → a + 4 ≤ POOL_END → host_load (initial_memory specs) a ≡ 0
built_pool specs a l h =
    rw (
      data_misses (zeros_at STACK_START STACK_SIZE) STACK_START STACK_SIZE a 4 (zeros_data STACK_START STACK_SIZE) (omega arith),
      data_holds (zeros_at POOL_START POOL_SIZE) POOL_START POOL_SIZE a 4 (zeros_data POOL_START POOL_SIZE) l (omega arith),
    )
    (zeros_number 4 (a - POOL_START) POOL_SIZE)

pub built_stack : (specs : List SegmentSpec) (a : ℕ) → STACK_START ≤ a → a + 4 ≤ STACK_END → a % 4 ≡ 0 → load 4 (initial_memory specs) a ≡ Ok 0
built_stack specs a l h e =
    rw (
      data_holds (zeros_at STACK_START STACK_SIZE) STACK_START STACK_SIZE a 4 (zeros_data STACK_START STACK_SIZE) l (omega arith),
      e,
      open_above a (omega arith),
      zeros_number 4 (a - STACK_START) STACK_SIZE,
    )
    refl

pub built_image : (specs : List SegmentSpec) (n a : ℕ) → a < IMAGE_END → load n (initial_memory specs) a ≡ load_number n (map segment_of specs) a
built_image specs n a h =
    rw (
      data_misses (zeros_at STACK_START STACK_SIZE) STACK_START STACK_SIZE a n (zeros_data STACK_START STACK_SIZE) (omega arith),
      data_misses (zeros_at POOL_START POOL_SIZE) POOL_START POOL_SIZE a n (zeros_data POOL_START POOL_SIZE) (omega arith),
    )
    refl

pub built_fetch : (specs : List SegmentSpec) (a : ℕ) → a < IMAGE_END → fetch (initial_memory specs) a ≡ fetches (map segment_of specs) a
built_fetch specs a h =
    rw (
      data_misses (zeros_at STACK_START STACK_SIZE) STACK_START STACK_SIZE a 2 (zeros_data STACK_START STACK_SIZE) (omega arith),
      data_misses (zeros_at POOL_START POOL_SIZE) POOL_START POOL_SIZE a 2 (zeros_data POOL_START POOL_SIZE) (omega arith),
    )
    refl

pub gives_image : (specs : List SegmentSpec) → GivesImage specs (initial_memory specs)
gives_image specs = record {
  loads = λ n a h. built_image specs n a h;
  fetches = λ a h. built_fetch specs a h;
  pool = λ a l h. built_pool specs a l h;
  stack = λ a l h e. built_stack specs a l h e;
}
