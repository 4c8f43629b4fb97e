-- Stores keep the map, and code is fetched as before.
use Rattle.std.proofs.Common.{◌≡◌, ℕ, ◌%◌, Bool, true, false, not, ◌&&◌, ◌==◌, nat_lt, ◌⊎◌, inl, inr, cond, List, [], ◌∷◌, Some, None, Ok, length, get_or, zero, suc, ◌+◌, ◌^◌, ◌<◌, ◌≤◌, Result, refl, sym, ap, ◌∙◌, arith, lit≤, if◌then◌else◌}
use Rattle.eh_bus.specs.Segment.{Segment, AreBytes, holds, number_at, with_number_at}
use Rattle.eh_bus.specs.Memory.{Memory, fault_in, number_in, store_number, store, store_run, load_number, fetch, fetches, fetch_fault, or_fault, store_fault, host_store, with_guard, without_guards_below, stays_guarded}
use Rattle.std.proofs.lemmas.Bool.{ltb-true, ltb-false}
use Rattle.std.specs.Prelude.{IsTrue, All}
use Rattle.eh_bus.specs.Map.{SameMap, SameSegment, CodeIsFixed, AreApart, IsMap, IsFixed, Keeps, flat_home}
use Rattle.eh_bus.specs.Built.{CanBuild, initial_memory}
use Rattle.eh_bus.specs.declared.segment.SegmentSpec.{SegmentSpec}
use Rattle.eh_bus.proofs.BuiltLemmas.{built_segments, image_bytes}
use Rattle.eh_bus.proofs.GuardOrder.{inserted_rises, filter_rises}
use Rattle.eh_bus.specs.declared.fault.BusFault.{BusFault}
use Rattle.eh_bus.specs.declared.fault.BusFault.TheVariants.{NotExecutable, Unaligned, ReadOnly}
use Rattle.eh_bus.proofs.Kept.{Inside, inside, length_with, kept, run_kept}
use Rattle.eh_bus.proofs.AccessLaws.{passes, stored, splits, ran}
use Rattle.eh_bus.specs.declared.map.TheConstants.{STACK_END, STACK_START}

pub map_refl : (ss : List Segment) → SameMap ss ss
map_refl [] = tt
map_refl (s ∷ ss) = (record { start = refl; size = refl; write = refl; exec = refl; fixed = λ e. refl }, map_refl ss)

pub map_trans : (ss ts us : List Segment) → SameMap ss ts → SameMap ts us → SameMap ss us
map_trans [] [] us p q = q
map_trans [] (t ∷ ts) us p q = absurd p
map_trans (s ∷ ss) [] us p q = absurd p
map_trans (s ∷ ss) (t ∷ ts) [] p q = absurd q
map_trans (s ∷ ss) (t ∷ ts) (u ∷ us) p q =
    let a = p.0 in let b = q.0 in
    (record { start = b.start ∙ a.start; size = b.size ∙ a.size; write = b.write ∙ a.write; exec = b.exec ∙ a.exec; fixed = λ e. b.fixed (a.write ∙ e) ∙ a.fixed e }, map_trans ss ts us p.1 q.1)

written_map : (n a v : ℕ) (guards : List ℕ) (ss : List Segment) → fault_in (λ s. store_fault n guards s a) n ss a ≡ None → SameMap ss (store_number n ss a v)
written_map n a v guards [] e = tt
written_map n a v guards (s ∷ ss) e = by_cases (holds s a n) refl (written_map n a v guards ss) e
  where
    by_cases : (t : Bool) → holds s a n ≡ t → (fault_in (λ s. store_fault n guards s a) n ss a ≡ None → SameMap ss (store_number n ss a v))
        → cond t (store_fault n guards s a) (fault_in (λ s. store_fault n guards s a) n ss a) ≡ None → SameMap (s ∷ ss) (cond t (with_number_at n s a v ∷ ss) (s ∷ store_number n ss a v))
    by_cases true h next e =
        let w = (passes n guards s a e).writes in
        (record { start = refl; size = length_with n a v s h; write = refl; exec = refl; fixed = λ f. absurd (let g : true ≡ false = sym w ∙ f in cc) }, map_refl ss)
    by_cases false h next e = (record { start = refl; size = refl; write = refl; exec = refl; fixed = λ f. refl }, next e)

pub store_map : (n : ℕ) (m : Memory) (a v : ℕ) (m' : Memory) → store n m a v ≡ (Ok tt, m') → SameMap m.segments m'.segments
store_map n m a v m' e = let s = stored n m a v m' e in rw s.after (written_map n a v m.guards m.segments s.passed)

pub run_map : (m : Memory) (a : ℕ) (ws : List ℕ) (m' : Memory) → store_run m a ws ≡ (Ok tt, m') → SameMap m.segments m'.segments
run_map m a [] m' e = let p : m ≡ m' = ap (λ (p : Result (Unit {0}) BusFault × Memory). p.1) e in rw (← p) (map_refl m.segments)
run_map m a (w ∷ ws) m' e =
    let s = splits m a w ws m' e in
    map_trans _ _ _ (store_map 4 m a w s.mid s.first) (run_map s.mid ((a + 4) % 2 ^ 32) ws m' s.rest)

both : (b : Bool) (x y : BusFault) (v w : ℕ) → or_fault (cond (not b) (Some x) (Some y)) v ≡ or_fault (cond (not b) (Some x) (Some y)) w
both true x y v w = refl
both false x y v w = refl

-- an instruction is fetched as before
fetched : (a : ℕ) (ss ts : List Segment) → SameMap ss ts → CodeIsFixed ss
    → or_fault (fault_in (λ s. fetch_fault s a) 2 ts a) (number_in 2 ts a) ≡ or_fault (fault_in (λ s. fetch_fault s a) 2 ss a) (number_in 2 ss a)
fetched a [] [] p x = refl
fetched a [] (t ∷ ts) p x = absurd p
fetched a (s ∷ ss) [] p x = absurd p
fetched a (s ∷ ss) (t ∷ ts) p x =
    let q = p.0 in
    let h : holds t a 2 ≡ holds s a 2 = rw (q.start, q.size) refl in
    go (holds s a 2) refl (h) (s.exec) refl (s.write) refl (a % 2 == 0) x.0 (fetched a ss ts p.1 x.1)
  where
    go : (b : Bool) → holds s a 2 ≡ b → holds t a 2 ≡ holds s a 2 → (e : Bool) → s.exec ≡ e → (w : Bool) → s.write ≡ w → (al : Bool) → (s.write && s.exec) ≡ false
        → or_fault (fault_in (λ s. fetch_fault s a) 2 ts a) (number_in 2 ts a) ≡ or_fault (fault_in (λ s. fetch_fault s a) 2 ss a) (number_in 2 ss a)
        → or_fault (fault_in (λ s. fetch_fault s a) 2 (t ∷ ts) a) (number_in 2 (t ∷ ts) a) ≡ or_fault (fault_in (λ s. fetch_fault s a) 2 (s ∷ ss) a) (number_in 2 (s ∷ ss) a)
    go false b h e u w o al x next = rw (h, b) next
    go true b h false u w o al x next = rw (h, b, (p.0).exec, u) (both (a % 2 == 0) (Unaligned a) (NotExecutable a) (number_at 2 t a) (number_at 2 s a))
    go true b h true u true o al x next = absurd (let f = rw (o, u) at x in (cc))
    go true b h true u false o al x next = rw (h, b, (p.0).exec, u, (p.0).start, (p.0).fixed o) refl

pub fetch_same : (m m' : Memory) (a : ℕ) → SameMap m.segments m'.segments → CodeIsFixed m.segments → fetch m' a ≡ fetch m a
fetch_same m m' a p x = fetched a m.segments m'.segments p x

-- ---- what a read-only segment holds is loaded as before

pub fixed_loads : (n a : ℕ) (ss ts : List Segment) → SameMap ss ts → IsFixed n ss a → load_number n ts a ≡ load_number n ss a
fixed_loads n a [] [] p x = refl
fixed_loads n a [] (t ∷ ts) p x = absurd p
fixed_loads n a (s ∷ ss) [] p x = absurd p
fixed_loads n a (s ∷ ss) (t ∷ ts) p x =
    let q = p.0 in
    let h : holds t a n ≡ holds s a n = rw (q.start, q.size) refl in
    go (holds s a n) refl h s.write refl x (fixed_loads n a ss ts p.1)
  where
    go : (b : Bool) → holds s a n ≡ b → holds t a n ≡ holds s a n → (w : Bool) → s.write ≡ w
        → cond b (cond w (Some (ReadOnly a)) None) (fault_in (λ s. if s.write then Some (ReadOnly a) else None) n ss a) ≡ None
        → (IsFixed n ss a → load_number n ts a ≡ load_number n ss a) → load_number n (t ∷ ts) a ≡ load_number n (s ∷ ss) a
    go true b h true w x next = absurd (cc)
    go true b h false w x next = rw (h, b, (p.0).start, (p.0).fixed w) refl
    go false b h w o x next = rw (h, b) (next x)

-- and so it is fetched
pub fixed_fetches : (a : ℕ) (ss ts : List Segment) → SameMap ss ts → IsFixed 2 ss a → fetches ts a ≡ fetches ss a
fixed_fetches a [] [] p x = refl
fixed_fetches a [] (t ∷ ts) p x = absurd p
fixed_fetches a (s ∷ ss) [] p x = absurd p
fixed_fetches a (s ∷ ss) (t ∷ ts) p x =
    let q = p.0 in
    let h : holds t a 2 ≡ holds s a 2 = rw (q.start, q.size) refl in
    go (holds s a 2) refl h s.write refl x (fixed_fetches a ss ts p.1)
  where
    go : (b : Bool) → holds s a 2 ≡ b → holds t a 2 ≡ holds s a 2 → (w : Bool) → s.write ≡ w
        → cond b (cond w (Some (ReadOnly a)) None) (fault_in (λ s. if s.write then Some (ReadOnly a) else None) 2 ss a) ≡ None
        → (IsFixed 2 ss a → fetches ts a ≡ fetches ss a) → fetches (t ∷ ts) a ≡ fetches (s ∷ ss) a
    go true b h true w x next = absurd (cc)
    go true b h false w x next = rw (h, b, (p.0).exec, (p.0).start, (p.0).fixed w) refl
    go false b h w o x next = rw (h, b) (next x)

-- so all that keeps the map keeps what read-only segments give
pub keeps : (m m' : Memory) → SameMap m.segments m'.segments → m'.home ≡ m.home → Keeps m m'
keeps m m' p h = record { map = p; home = h; loads = λ n a x. fixed_loads n a _ _ p x; fetches = λ a x. fixed_fetches a _ _ p x }

-- ---- the facts of every bus stay

pub length_map : (ss ts : List Segment) → SameMap ss ts → length ts ≡ length ss
length_map [] [] p = refl
length_map [] (t ∷ ts) p = absurd p
length_map (s ∷ ss) [] p = absurd p
length_map (s ∷ ss) (t ∷ ts) p = ap suc (length_map ss ts p.1)

pub map_at : (ss ts : List Segment) → SameMap ss ts → (i : ℕ) (d : Segment) → SameSegment (get_or ss i d) (get_or ts i d)
map_at [] [] p i d = record { start = refl; size = refl; write = refl; exec = refl; fixed = λ e. refl }
map_at [] (t ∷ ts) p i d = absurd p
map_at (s ∷ ss) [] p i d = absurd p
map_at (s ∷ ss) (t ∷ ts) p zero d = p.0
map_at (s ∷ ss) (t ∷ ts) p (suc i) d = map_at ss ts p.1 i d

pub store_is_map : (n : ℕ) (m : Memory) (a v : ℕ) (m' : Memory) → store n m a v ≡ (Ok tt, m') → IsMap m → IsMap m'
store_is_map n m a v m' e x = let s = stored n m a v m' e in rw s.after (record { segments = kept n a v m.segments x.segments; guards = x.guards; home = x.home })

pub run_is_map : (m : Memory) (a : ℕ) (ws : List ℕ) (m' : Memory) → store_run m a ws ≡ (Ok tt, m') → IsMap m → IsMap m'
run_is_map m a ws m' e x =
    let s = ran m a ws m' e in
    rw s.after (record { segments = run_kept ws a m.segments x.segments; guards = x.guards; home = x.home })

pub host_is_map : (m : Memory) (a v : ℕ) → IsMap m → IsMap (host_store m a v)
host_is_map m a v x = record { segments = kept 4 a v m.segments x.segments; guards = x.guards; home = x.home }

pub guarded_is_map : (m : Memory) (a : ℕ) → a % 4 ≡ 0 → STACK_START ≤ a → a < STACK_END → IsMap m → IsMap (with_guard m a)
guarded_is_map m a e l h x = record { segments = x.segments; guards = inserted_rises STACK_START a m.guards l e h x.guards; home = x.home }

pub released_is_map : (m : Memory) (a : ℕ) → IsMap m → IsMap (without_guards_below m a)
released_is_map m a x = record { segments = x.segments; guards = filter_rises (stays_guarded m.home a) STACK_START m.guards x.guards; home = x.home }

pub built_is_map : (specs : List SegmentSpec) → CanBuild specs → All (λ (spec : SegmentSpec). AreBytes spec.bytes.now) specs → IsMap (initial_memory specs)
built_is_map specs p b = record { segments = built_segments specs p (image_bytes specs b); guards = lit≤ tt; home = flat_home }

-- ---- segments that are apart

pub one_apart : (s : Segment) → AreApart (s ∷ [])
one_apart s a zero zero d h k x y = refl
one_apart s a zero (suc j) d h k x y = absurd (omega arith)
one_apart s a (suc i) j d h k x y = absurd (omega arith)

-- one ends before the other starts
abbrev pub Disjoint : Segment → Segment → Type 0
Disjoint s t = (s.start + length s.bytes ≤ t.start) ⊎ (t.start + length t.bytes ≤ s.start)

disjoint_not : (s t : Segment) (a : ℕ) → Disjoint s t → IsTrue (holds s a 1) → IsTrue (holds t a 1) → ⊥
disjoint_not s t a d x y = go d (inside s a 1 x) (inside t a 1 y)
  where
    go : Disjoint s t → Inside s a 1 → Inside t a 1 → ⊥
    go (inl o) p q = absurd (omega (arith, p.low, p.high, q.low, q.high))
    go (inr o) p q = absurd (omega (arith, p.low, p.high, q.low, q.high))

pub disjoint_apart : (ss : List Segment) → ((i j : ℕ) (d : Segment) → i < j → j < length ss → Disjoint (get_or ss i d) (get_or ss j d)) → AreApart ss
disjoint_apart ss p a i j d h k x y = go (nat_lt i j) refl (nat_lt j i) refl
  where
    go : (t : Bool) → nat_lt i j ≡ t → (u : Bool) → nat_lt j i ≡ u → i ≡ j
    go true t u v = absurd (disjoint_not (get_or ss i d) (get_or ss j d) a (p i j d (ltb-true i j t) k) x y)
    go false t true u = absurd (disjoint_not (get_or ss j d) (get_or ss i d) a (p j i d (ltb-true j i u) h) y x)
    go false t false u = let o = ltb-false i j t in let q = ltb-false j i u in omega arith

pub two_apart : (s t : Segment) → Disjoint s t → AreApart (s ∷ t ∷ [])
two_apart s t o = disjoint_apart (s ∷ t ∷ []) at
  where
    at : (i j : ℕ) (d : Segment) → i < j → j < length (s ∷ t ∷ []) → Disjoint (get_or (s ∷ t ∷ []) i d) (get_or (s ∷ t ∷ []) j d)
    at i zero d h k = absurd (omega arith)
    at zero (suc zero) d h k = o
    at (suc i) (suc zero) d h k = absurd (omega arith)
    at i (suc (suc j)) d h k = absurd (omega arith)
