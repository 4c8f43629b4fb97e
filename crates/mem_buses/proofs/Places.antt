-- The first segment that holds an access.
use Rattle.std.proofs.Common.{◌≡◌, ℕ, zero, suc, ◌+◌, ◌-◌, ◌<◌, get_or, le-leb, Bool, true, false, List, [], ◌∷◌, length, Option, Some, None, IfSome, refl, arith, rules, ap, sym, drop, ◌%◌, ◌^◌}
use Rattle.std.specs.List.{position_from}
use Rattle.eh_bus.specs.Segment.{Segment, holds}
use Rattle.std.proofs.lemmas.List.{at_drop_more, get_or_default}
use Rattle.eh_bus.specs.Memory.{fault_in, number_in, store_number, run_fault, first_fault, store_fault}
use Rattle.eh_bus.specs.Place.{IsPlace}
use Rattle.eh_bus.specs.Map.{AreApart}
use Rattle.eh_bus.proofs.Kept.{inside}
use Rattle.eh_bus.specs.declared.fault.BusFault.{BusFault}
use Rattle.eh_bus.specs.declared.fault.BusFault.TheVariants.{Unmapped}

here : (n : ℕ) (s : Segment) (more : List Segment) (a : ℕ) → holds s a n ≡ true → IsPlace n (s ∷ more) a 0
here n s more a h = record {
  inside = omega arith;
  holding = λ d. search (rules, h);
  fault = λ d f. rw h;
  number = λ d. rw h;
  change = λ d v. rw h;
}

later : (n : ℕ) (s : Segment) (more : List Segment) (a i : ℕ) → holds s a n ≡ false → IsPlace n more a i → IsPlace n (s ∷ more) a (suc i)
later n s more a i h p = record {
  inside = omega arith;
  holding = p.holding;
  fault = λ d f. rw h (p.fault d f);
  number = λ d. rw h (p.number d);
  change = λ d v. rw h (ap (λ ss. s ∷ ss) (p.change d v));
}

-- from place k on
from_place : (n a : ℕ) (segments : List Segment) (k i : ℕ) → position_from (λ s. holds s a n) k segments ≡ Some i → (j : ℕ) × (i ≡ k + j) × IsPlace n segments a j
from_place n a [] k i e = cc
from_place n a (s ∷ more) k i e = by_cases (holds s a n) refl (from_place n a more (k + 1) i)
  where
    by_cases : (b : Bool) → holds s a n ≡ b → (position_from (λ s. holds s a n) (k + 1) more ≡ Some i → (j : ℕ) × (i ≡ k + 1 + j) × IsPlace n more a j)
        → (j : ℕ) × (i ≡ k + j) × IsPlace n (s ∷ more) a j
    by_cases true h next =
        let f : Some k ≡ Some i = rw h at e in
        let g : k ≡ i = cc in
        (0, omega arith, here n s more a h)
    by_cases false h next =
        let f = rw h at e in
        let p = next f in
        (suc p.0, omega (arith, p.1), later n s more a p.0 h p.2)

pub is_place : (n a : ℕ) (segments : List Segment) (i : ℕ) → position_from (λ s. holds s a n) 0 segments ≡ Some i → IsPlace n segments a i
is_place n a segments i e =
    let p = from_place n a segments 0 i e in
    let same : p.0 ≡ i = omega (arith, p.1) in
    rw same at p.2

nowhere : (n a : ℕ) (f : Segment → Option BusFault) (segments : List Segment) (k : ℕ) → position_from (λ s. holds s a n) k segments ≡ None → fault_in f n segments a ≡ Some (Unmapped a)
nowhere n a f [] k e = refl
nowhere n a f (s ∷ more) k e = by_cases (holds s a n) refl (nowhere n a f more (k + 1))
  where
    by_cases : (b : Bool) → holds s a n ≡ b → (position_from (λ s. holds s a n) (k + 1) more ≡ None → fault_in f n more a ≡ Some (Unmapped a))
        → fault_in f n (s ∷ more) a ≡ Some (Unmapped a)
    by_cases true h next = let g : Some k ≡ None = rw h at e in cc
    by_cases false h next = rw h (next (rw h at e))

pub unmapped : (n a : ℕ) (segments : List Segment) → position_from (λ s. holds s a n) 0 segments ≡ None → (f : Segment → Option BusFault) → fault_in f n segments a ≡ Some (Unmapped a)
unmapped n a segments e f = nowhere n a f segments 0 e

pub if_place : (n a : ℕ) (segments : List Segment) (place : Option ℕ) → place ≡ position_from (λ s. holds s a n) 0 segments → IfSome place (IsPlace n segments a)
if_place n a segments None e = tt
if_place n a segments (Some i) e = is_place n a segments i (sym e)

pub unwritten : (n a v : ℕ) (segments : List Segment) → fault_in (λ s. None) n segments a ≡ Some (Unmapped a) → store_number n segments a v ≡ segments
unwritten n a v [] e = refl
unwritten n a v (s ∷ more) e = by_cases (holds s a n) refl (unwritten n a v more)
  where
    by_cases : (b : Bool) → holds s a n ≡ b → (fault_in (λ s. None) n more a ≡ Some (Unmapped a) → store_number n more a v ≡ more) → store_number n (s ∷ more) a v ≡ s ∷ more
    by_cases true h next = let g : None ≡ Some (Unmapped a) = rw h at e in cc
    by_cases false h next = rw h (ap (λ ss. s ∷ ss) (next (rw h at e)))

pub run_fault_at : (guards : List ℕ) (segments : List Segment) (a i : ℕ) (words : List ℕ) → i < length words
    → run_fault guards segments a (drop i words)
    ≡ first_fault (fault_in (λ s. store_fault 4 guards s a) 4 segments a) (run_fault guards segments ((a + 4) % 2 ^ 32) (drop (i + 1) words))
run_fault_at guards segments a i words h = at_drop_more (run_fault guards segments a) words i 0 h

pub unread : (n a : ℕ) (segments : List Segment) → fault_in (λ s. None) n segments a ≡ Some (Unmapped a) → number_in n segments a ≡ 0
unread n a [] e = refl
unread n a (s ∷ more) e = by_cases (holds s a n) refl (unread n a more)
  where
    by_cases : (b : Bool) → holds s a n ≡ b → (fault_in (λ s. None) n more a ≡ Some (Unmapped a) → number_in n more a ≡ 0) → number_in n (s ∷ more) a ≡ 0
    by_cases true h next = let g : None ≡ Some (Unmapped a) = rw h at e in cc
    by_cases false h next = rw h (next (rw h at e))

-- ---- where no address lies in two segments, a segment that holds the access is the first one

tail_apart : (s : Segment) (more : List Segment) → AreApart (s ∷ more) → AreApart more
tail_apart s more p b i j d h k x y = let e : suc i ≡ suc j = p b (suc i) (suc j) d (omega arith) (omega arith) x y in omega arith

-- what holds an access holds its first byte
holds_first : (s : Segment) (a n : ℕ) → 0 < n → holds s a n ≡ true → holds s a 1 ≡ true
holds_first s a n z h = let p = inside s a n h in rw (le-leb s.start a p.low, le-leb (a - s.start + 1) (length s.bytes) (omega (arith, p.high))) refl

pub by_holding : (n a : ℕ) (ss : List Segment) (i : ℕ) → AreApart ss → 0 < n → i < length ss → ((d : Segment) → holds (get_or ss i d) a n ≡ true) → IsPlace n ss a i
by_holding n a [] i p z l h = absurd (omega arith)
by_holding n a (s ∷ more) zero p z l h = here n s more a (h s)
by_holding n a (s ∷ more) (suc i) p z l h = by_cases (holds s a n) refl (by_holding n a more i (tail_apart s more p) z (omega arith) h)
  where
    by_cases : (t : Bool) → holds s a n ≡ t → IsPlace n more a i → IsPlace n (s ∷ more) a (suc i)
    by_cases true t next = absurd (let e : 0 ≡ suc i = p a 0 (suc i) s (omega arith) l (holds_first s a n z t) (holds_first (get_or more i s) a n z (h s)) in omega arith)
    by_cases false t next = later n s more a i t next

-- the same for an element that was read
pub by_read : (n a : ℕ) (ss : List Segment) (i : ℕ) (s : Segment) → AreApart ss → 0 < n → i < length ss → s ≡ get_or ss i s → holds s a n ≡ true → IsPlace n ss a i
by_read n a ss i s p z l e h = by_holding n a ss i p z l (λ d. rw (get_or_default ss i d s l, ← e) h)
