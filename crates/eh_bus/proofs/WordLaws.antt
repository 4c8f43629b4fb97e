-- What a write leaves and gives back, segment by segment.
use Rattle.std.proofs.Common.{◌≡◌, ℕ, zero, suc, ◌+◌, ◌-◌, ◌^◌, ◌<◌, ◌≤◌, ◌⊎◌, Bool, true, false, cond, List, [], ◌∷◌, ◌++◌, length, get_or, take, drop, Option, None, refl, arith}
use Rattle.std.proofs.lemmas.List.{places, drop_at, length-take-le, get_or-drop}
use Rattle.byteorder.specs.Endian.{little_from, little_bytes}
use Rattle.byteorder.specs.Numbers.{length-bytes_low_first, little_number-reads_back}
use Rattle.eh_bus.specs.Segment.{Segment, Apart, holds, number_at, with_number_at}
use Rattle.eh_bus.specs.Memory.{fault_in, number_in, store_number}
use Rattle.eh_bus.specs.declared.fault.BusFault.{BusFault}
use Rattle.eh_bus.proofs.Kept.{Inside, inside, length_with}

-- the number reads its n bytes alone
pub little_same : (i n : ℕ) (xs ys : List ℕ) → ((k : ℕ) → k < n → get_or xs (i + k) 0 ≡ get_or ys (i + k) 0) → little_from i n xs ≡ little_from i n ys
little_same i zero xs ys h = refl
little_same i (suc n) xs ys h =
    let first : get_or xs i 0 ≡ get_or ys i 0 = let e = h 0 (omega arith) in rw Rattle.std.proofs.Math.Nat.add-zero at e in
    let more = little_same (suc i) n xs ys (λ k l. let e = h (suc k) (omega arith) in let s : i + suc k ≡ suc i + k = omega arith in rw s at e) in
    rw (first, more)

pub other_byte : (i n k : ℕ) (new bs : List ℕ) → length new ≡ n → i + n ≤ length bs → ((k < i) ⊎ (i + n ≤ k))
    → get_or (take i bs ++ (new ++ drop (i + n) bs)) k 0 ≡ get_or bs k 0
other_byte i n k new bs e h o = grind (arith, places)

number_other : (n m a b v : ℕ) (s : Segment) → holds s a n ≡ true → holds s b m ≡ true → Apart a n b m → number_at m (with_number_at n s a v) b ≡ number_at m s b
number_other n m a b v s h g o =
    let p = inside s a n h in
    let q = inside s b m g in
    little_same 0 m _ _ (λ k l. rw (get_or-drop, get_or-drop) (other_byte (a - s.start) n (b - s.start + (0 + k)) (little_bytes n v) s.bytes (length-bytes_low_first 0 n v) p.high (apart k l p q o)))
  where
    apart : (k : ℕ) → k < m → Inside s a n → Inside s b m → Apart a n b m → ((b - s.start + (0 + k) < a - s.start) ⊎ (a - s.start + n ≤ b - s.start + (0 + k)))
    apart k l p q o = grind arith

number_same : (n a v : ℕ) (s : Segment) → holds s a n ≡ true → v < 256 ^ n → number_at n (with_number_at n s a v) a ≡ v
number_same n a v s h l =
    let p = inside s a n h in
    let i = a - s.start in
    let e : length (take i s.bytes) ≡ i = length-take-le i s.bytes (omega (arith, p.high)) in
    rw (drop_at (take i s.bytes) (little_bytes n v ++ drop (i + n) s.bytes) i e) (little_number-reads_back n v _ l)

pub holds_with : (n m a b v : ℕ) (s : Segment) → holds s a n ≡ true → holds (with_number_at n s a v) b m ≡ holds s b m
holds_with n m a b v s h = rw (length_with n a v s h)

pub written_other : (n m a b v : ℕ) (ss : List Segment) → Apart a n b m → number_in m (store_number n ss a v) b ≡ number_in m ss b
written_other n m a b v [] o = refl
written_other n m a b v (s ∷ more) o = at_a (holds s a n) refl (holds s b m) refl (written_other n m a b v more o)
  where
    at_a : (t : Bool) → holds s a n ≡ t → (u : Bool) → holds s b m ≡ u → number_in m (store_number n more a v) b ≡ number_in m more b
        → number_in m (cond t (with_number_at n s a v ∷ more) (s ∷ store_number n more a v)) b ≡ cond u (number_at m s b) (number_in m more b)
    at_a true h true g next = rw (holds_with n m a b v s h, g) (number_other n m a b v s h g o)
    at_a true h false g next = rw (holds_with n m a b v s h, g)
    at_a false h true g next = rw g
    at_a false h false g next = rw g next

pub written_same : (n a v : ℕ) (f : Segment → Option BusFault) (ss : List Segment) → v < 256 ^ n → fault_in f n ss a ≡ None → number_in n (store_number n ss a v) a ≡ v
written_same n a v f [] l e = cc
written_same n a v f (s ∷ more) l e = at_a (holds s a n) refl (written_same n a v f more l)
  where
    at_a : (t : Bool) → holds s a n ≡ t → (fault_in f n more a ≡ None → number_in n (store_number n more a v) a ≡ v)
        → number_in n (cond t (with_number_at n s a v ∷ more) (s ∷ store_number n more a v)) a ≡ v
    at_a true h next = rw (holds_with n n a a v s h, h) (number_same n a v s h l)
    at_a false h next = rw h (next (rw h at e))

-- a fault that looks at the rights alone is as before
pub written_fault : (n m a b v : ℕ) (f : Segment → Option BusFault) (ss : List Segment) → ((s : Segment) (bs : List ℕ) → f (record s { bytes = bs }) ≡ f s)
    → fault_in f m (store_number n ss a v) b ≡ fault_in f m ss b
written_fault n m a b v f [] k = refl
written_fault n m a b v f (s ∷ more) k = at_a (holds s a n) refl (written_fault n m a b v f more k)
  where
    at_a : (t : Bool) → holds s a n ≡ t → fault_in f m (store_number n more a v) b ≡ fault_in f m more b
        → fault_in f m (cond t (with_number_at n s a v ∷ more) (s ∷ store_number n more a v)) b ≡ cond (holds s b m) (f s) (fault_in f m more b)
    at_a true h next = rw (holds_with n m a b v s h, k s (with_number_at n s a v).bytes)
    at_a false h next = rw next
