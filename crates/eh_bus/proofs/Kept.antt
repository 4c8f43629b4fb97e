-- What a write leaves of the map.
use Rattle.std.proofs.Common.{◌≡◌, ℕ, zero, suc, ◌+◌, ◌-◌, ◌%◌, ◌^◌, ◌<◌, ◌≤◌, Bool, true, false, cond, List, [], ◌∷◌, length, get_or, refl, ap, ◌∙◌, arith}
use Rattle.std.proofs.lemmas.Bool.{and_parts, leb-true}
use Rattle.std.proofs.lemmas.List.{length-append, length-take, length-drop}
use Rattle.std.specs.Prelude.{IsTrue, All}
use Rattle.byteorder.specs.Numbers.{length-bytes_low_first}
use Rattle.eh_bus.specs.Segment.{Segment, AreBytes, holds, with_number_at}
use Rattle.eh_bus.specs.Memory.{store_number, store_words}
use Rattle.eh_bus.specs.Map.{AreSegments, IsData}
use Rattle.eh_bus.proofs.ByteLaws.{with_bytes}

pub record Inside (s : Segment) (a n : ℕ) : Type 0 where
  pub low : s.start ≤ a
  pub high : a - s.start + n ≤ length s.bytes

pub inside : (s : Segment) (a n : ℕ) → holds s a n ≡ true → Inside s a n
inside s a n h =
    let p = and_parts _ _ h in
    record { low = leb-true _ _ p.0; high = leb-true _ _ p.1 }

pub length_with : (n a v : ℕ) (s : Segment) → holds s a n ≡ true → length (with_number_at n s a v).bytes ≡ length s.bytes
length_with n a v s h =
    let p = inside s a n h in
    simp (length-append, length-take, length-drop, length-bytes_low_first) (omega (arith, p.low, p.high))

-- the place and the rights of a segment
pub record SameSpan (s t : Segment) : Type 0 where
  pub start : t.start ≡ s.start
  pub size : length t.bytes ≡ length s.bytes
  pub write : t.write ≡ s.write
  pub exec : t.exec ≡ s.exec

pub written_span : (n a v : ℕ) (ss : List Segment) (i : ℕ) (d : Segment) → SameSpan (get_or ss i d) (get_or (store_number n ss a v) i d)
written_span n a v [] i d = record { start = refl; size = refl; write = refl; exec = refl }
written_span n a v (s ∷ more) i d = at_a (holds s a n) refl i (λ j. written_span n a v more j d)
  where
    at_a : (t : Bool) → holds s a n ≡ t → (i : ℕ) → ((j : ℕ) → SameSpan (get_or more j d) (get_or (store_number n more a v) j d))
        → SameSpan (get_or (s ∷ more) i d) (get_or (cond t (with_number_at n s a v ∷ more) (s ∷ store_number n more a v)) i d)
    at_a true h zero next = record { start = refl; size = length_with n a v s h; write = refl; exec = refl }
    at_a true h (suc j) next = record { start = refl; size = refl; write = refl; exec = refl }
    at_a false h zero next = record { start = refl; size = refl; write = refl; exec = refl }
    at_a false h (suc j) next = next j

pub length_written : (n a v : ℕ) (ss : List Segment) → length (store_number n ss a v) ≡ length ss
length_written n a v [] = refl
length_written n a v (s ∷ more) = at_a (holds s a n) (length_written n a v more)
  where
    at_a : (t : Bool) → length (store_number n more a v) ≡ length more → length (cond t (with_number_at n s a v ∷ more) (s ∷ store_number n more a v)) ≡ length (s ∷ more)
    at_a true next = refl
    at_a false next = ap suc next

same_data : (s t : Segment) (start size : ℕ) → SameSpan s t → IsData s start size → IsData t start size
same_data s t start size e d =
    record { starts = e.start ∙ d.starts; sized = e.size ∙ d.sized; writes = e.write ∙ d.writes; no_code = e.exec ∙ d.no_code }

same_holds : (s t : Segment) (a n : ℕ) → SameSpan s t → IsTrue (holds t a n) → IsTrue (holds s a n)
same_holds s t a n e h = rw (e.start, e.size) at h

-- the facts on the segments of a bus speak of their places and rights, and of bytes
pub kept_by : (ss ts : List Segment) → length ts ≡ length ss → ((i : ℕ) (d : Segment) → SameSpan (get_or ss i d) (get_or ts i d)) → All (λ (s : Segment). AreBytes s.bytes) ts
    → AreSegments ss → AreSegments ts
kept_by ss ts l same b p = record {
  bytes = b;
  two = rw l p.two;
  stack = λ d. same_data _ _ _ _ (same 0 d) (p.stack d);
  pool = λ d. same_data _ _ _ _ (same 1 d) (p.pool d);
  image = λ i d low h. let e = same i d in let h' = rw l at h in rw (e.start, e.size) (p.image i d low h');
  apart = λ b i j d h k x y. p.apart b i j d (rw l at h) (rw l at k) (same_holds _ _ b 1 (same i d) x) (same_holds _ _ b 1 (same j d) y);
}

written_bytes : (n a v : ℕ) (ss : List Segment) → All (λ (s : Segment). AreBytes s.bytes) ss → All (λ (s : Segment). AreBytes s.bytes) (store_number n ss a v)
written_bytes n a v [] b = b
written_bytes n a v (s ∷ more) b = λ i d h. at_a (holds s a n) i d h (λ j l. written_bytes n a v more (λ k e m. b (suc k) e (omega arith)) j d l)
  where
    at_a : (t : Bool) (i : ℕ) (d : Segment) → i < length (cond t (with_number_at n s a v ∷ more) (s ∷ store_number n more a v))
        → ((j : ℕ) → j < length (store_number n more a v) → AreBytes (get_or (store_number n more a v) j d).bytes)
        → AreBytes (get_or (cond t (with_number_at n s a v ∷ more) (s ∷ store_number n more a v)) i d).bytes
    at_a true zero d h next = with_bytes n a v s (b 0 s (omega arith))
    at_a true (suc j) d h next = b (suc j) d (omega arith)
    at_a false zero d h next = b 0 s (omega arith)
    at_a false (suc j) d h next = next j (omega arith)

pub kept : (n a v : ℕ) (ss : List Segment) → AreSegments ss → AreSegments (store_number n ss a v)
kept n a v ss p = kept_by ss (store_number n ss a v) (length_written n a v ss) (written_span n a v ss) (written_bytes n a v ss p.bytes) p

pub run_kept : (words : List ℕ) (a : ℕ) (ss : List Segment) → AreSegments ss → AreSegments (store_words ss a words)
run_kept [] a ss p = p
run_kept (w ∷ words) a ss p = run_kept words ((a + 4) % 2 ^ 32) (store_number 4 ss a w) (kept 4 a w ss p)
