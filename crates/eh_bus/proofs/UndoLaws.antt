-- A store is undone by storing what stood there before.
use Rattle.std.proofs.Common.{◌≡◌, ℕ, zero, suc, ◌+◌, ◌-◌, ◌*◌, ◌%◌, ◌^◌, ◌<◌, ◌≤◌, ◌⊎◌, inl, inr, Bool, true, false, cond, nat_lt, List, [], ◌∷◌, ◌++◌, length, get_or, take, drop, Option, Some, None, Ok, refl, sym, ap, ◌∙◌, arith, append_assoc}
use Rattle.std.proofs.lemmas.List.{places, drop_at, take_at, take-append-drop, drop-drop, length-take-le, length-append, length-drop}
use Rattle.std.proofs.lemmas.List.Elements.{All-drop}
use Rattle.std.proofs.lemmas.Bool.{ltb-true, ltb-false}
use Rattle.std.proofs.lemmas.Grind.{same_number_lists}
use Rattle.byteorder.specs.Endian.{little_bytes}
use Rattle.byteorder.specs.Numbers.{length-bytes_low_first}
use Rattle.eh_bus.specs.Segment.{Segment, AreBytes, Apart, holds, number_at, with_number_at}
use Rattle.eh_bus.specs.Memory.{Memory, fault_in, number_in, store_number, load_number, load, store, store_run, run_fault, store_words, first_fault, load_fault, store_fault, or_fault, host_load, host_store}
use Rattle.eh_bus.specs.Map.{AreSegments, IsMap}
use Rattle.eh_bus.specs.Undo.{Undoable, WordUndoable, RunUndoable}
use Rattle.eh_bus.specs.declared.fault.BusFault.{BusFault}
use Rattle.eh_bus.specs.Built.{zeros_at}
use Rattle.eh_bus.specs.declared.map.TheConstants.{STACK_END, POOL_START, POOL_END}
use Rattle.eh_bus.proofs.PartLaws.{parts, pool_fault}
use Rattle.eh_bus.proofs.Kept.{Inside, inside, kept}
use Rattle.eh_bus.proofs.ByteLaws.{bytes_back}
use Rattle.eh_bus.proofs.WordLaws.{other_byte, holds_with, written_other, written_fault}
use Rattle.eh_bus.proofs.AccessLaws.{stored, Ran, ran, passes, fault_less, load_fault_none, run_fault_written}

-- ---- one segment

list_back : (i n v : ℕ) (old new bs : List ℕ) → length new ≡ n → i + n ≤ length bs → old ≡ take n (drop i bs)
    → take i (take i bs ++ (new ++ drop (i + n) bs)) ++ (old ++ drop (i + n) (take i bs ++ (new ++ drop (i + n) bs))) ≡ bs
list_back i n v old new bs e h o =
    let first : length (take i bs) ≡ i = length-take-le i bs (omega arith) in
    let two : length (take i bs ++ new) ≡ i + n = length-append (take i bs) new ∙ (omega (arith, first, e)) in
    let low : take i (take i bs ++ (new ++ drop (i + n) bs)) ≡ take i bs = take_at (take i bs) (new ++ drop (i + n) bs) i first in
    let high : drop (i + n) (take i bs ++ (new ++ drop (i + n) bs)) ≡ drop (i + n) bs = rw (← append_assoc (take i bs) new (drop (i + n) bs)) (drop_at (take i bs ++ new) (drop (i + n) bs) (i + n) two) in
    rw (low, high, o, ← drop-drop n i bs, take-append-drop n (drop i bs), take-append-drop i bs) refl

seg_back : (n a v : ℕ) (s : Segment) → holds s a n ≡ true → AreBytes s.bytes → with_number_at n (with_number_at n s a v) a (number_at n s a) ≡ s
seg_back n a v s h b =
    let p = inside s a n h in
    let i = a - s.start in
    let room : n ≤ length (drop i s.bytes) = rw length-drop (omega (arith, p.high)) in
    let o = bytes_back n (drop i s.bytes) room (All-drop (λ x. x < 256) i s.bytes b) in
    ap (λ (bs : List ℕ). record s { bytes = bs }) (list_back i n v (little_bytes n (number_at n s a)) (little_bytes n v) s.bytes (length-bytes_low_first 0 n v) p.high o)

pub new_byte : (i n k : ℕ) (new bs : List ℕ) → length new ≡ n → i + n ≤ length bs → i ≤ k → k < i + n
    → get_or (take i bs ++ (new ++ drop (i + n) bs)) k 0 ≡ get_or new (k - i) 0
new_byte i n k new bs e h l m = grind (arith, places)

pub length_put : (i n : ℕ) (new bs : List ℕ) → length new ≡ n → i + n ≤ length bs → length (take i bs ++ (new ++ drop (i + n) bs)) ≡ length bs
length_put i n new bs e h = grind (arith, places)

-- numbers that have no byte in common are written in either order
list_swap : (i n j m : ℕ) (xs ys bs : List ℕ) → length xs ≡ n → length ys ≡ m → i + n ≤ length bs → j + m ≤ length bs → Apart i n j m
    → take i (take j bs ++ (ys ++ drop (j + m) bs)) ++ (xs ++ drop (i + n) (take j bs ++ (ys ++ drop (j + m) bs)))
    ≡ take j (take i bs ++ (xs ++ drop (i + n) bs)) ++ (ys ++ drop (j + m) (take i bs ++ (xs ++ drop (i + n) bs)))
list_swap i n j m xs ys bs e f h k o =
    let l = length_put i n xs bs e h in
    let r = length_put j m ys bs f k in
    let h2 : i + n ≤ length (take j bs ++ (ys ++ drop (j + m) bs)) = rw r h in
    let k2 : j + m ≤ length (take i bs ++ (xs ++ drop (i + n) bs)) = rw l k in
    same_number_lists _ _ (length_put i n xs _ e h2 ∙ r ∙ sym (length_put j m ys _ f k2 ∙ l)) (λ q z. at q h2 k2 (nat_lt q i) refl (nat_lt q (i + n)) refl (nat_lt q j) refl (nat_lt q (j + m)) refl)
  where
    at : (q : ℕ)
        → i + n ≤ length (take j bs ++ (ys ++ drop (j + m) bs)) → j + m ≤ length (take i bs ++ (xs ++ drop (i + n) bs))
        → (t : Bool) → nat_lt q i ≡ t → (u : Bool) → nat_lt q (i + n) ≡ u → (v : Bool) → nat_lt q j ≡ v → (w : Bool) → nat_lt q (j + m) ≡ w
        → get_or (take i (take j bs ++ (ys ++ drop (j + m) bs)) ++ (xs ++ drop (i + n) (take j bs ++ (ys ++ drop (j + m) bs)))) q 0
        ≡ get_or (take j (take i bs ++ (xs ++ drop (i + n) bs)) ++ (ys ++ drop (j + m) (take i bs ++ (xs ++ drop (i + n) bs)))) q 0
    at q h2 k2 false t true u v v' w w' =
        let a = ltb-false q i t in let b = ltb-true q (i + n) u in
        new_byte i n q xs _ e h2 a b ∙ sym (other_byte j m q ys _ f k2 (clear o a b) ∙ new_byte i n q xs bs e h a b)
      where
        clear : Apart i n j m → i ≤ q → q < i + n → ((q < j) ⊎ (j + m ≤ q))
        clear (inl p) a b = inl (omega arith)
        clear (inr p) a b = inr (omega arith)
    at q h2 k2 t t' u u' false v true w =
        let a = ltb-false q j v in let b = ltb-true q (j + m) w in
        other_byte i n q xs _ e h2 (clear o a b) ∙ new_byte j m q ys bs f k a b ∙ sym (new_byte j m q ys _ f k2 a b)
      where
        clear : Apart i n j m → j ≤ q → q < j + m → ((q < i) ⊎ (i + n ≤ q))
        clear (inl p) a b = inr (omega arith)
        clear (inr p) a b = inl (omega arith)
    at q h2 k2 true t u u' true v w w' =
        let a = ltb-true q i t in let b = ltb-true q j v in
        other_byte i n q xs _ e h2 (inl a) ∙ other_byte j m q ys bs f k (inl b) ∙ sym (other_byte j m q ys _ f k2 (inl b) ∙ other_byte i n q xs bs e h (inl a))
    at q h2 k2 true t u u' false v false w =
        let a = ltb-true q i t in let b = ltb-false q (j + m) w in
        other_byte i n q xs _ e h2 (inl a) ∙ other_byte j m q ys bs f k (inr b) ∙ sym (other_byte j m q ys _ f k2 (inr b) ∙ other_byte i n q xs bs e h (inl a))
    at q h2 k2 false t false u true v w w' =
        let a = ltb-false q (i + n) u in let b = ltb-true q j v in
        other_byte i n q xs _ e h2 (inr a) ∙ other_byte j m q ys bs f k (inl b) ∙ sym (other_byte j m q ys _ f k2 (inl b) ∙ other_byte i n q xs bs e h (inr a))
    at q h2 k2 false t false u false v false w =
        let a = ltb-false q (i + n) u in let b = ltb-false q (j + m) w in
        other_byte i n q xs _ e h2 (inr a) ∙ other_byte j m q ys bs f k (inr b) ∙ sym (other_byte j m q ys _ f k2 (inr b) ∙ other_byte i n q xs bs e h (inr a))

seg_swap : (n m a b v u : ℕ) (s : Segment) → holds s a n ≡ true → holds s b m ≡ true → Apart a n b m
    → with_number_at n (with_number_at m s b u) a v ≡ with_number_at m (with_number_at n s a v) b u
seg_swap n m a b v u s h g o =
    let p = inside s a n h in
    let q = inside s b m g in
    ap (λ (bs : List ℕ). record s { bytes = bs })
    (list_swap (a - s.start) n (b - s.start) m (little_bytes n v) (little_bytes m u) s.bytes (length-bytes_low_first 0 n v) (length-bytes_low_first 0 m u) p.high q.high (apart p q o))
  where
    apart : Inside s a n → Inside s b m → Apart a n b m → Apart (a - s.start) n (b - s.start) m
    apart p q (inl o) = inl (omega (arith, p.low, q.low))
    apart p q (inr o) = inr (omega (arith, p.low, q.low))

-- ---- all segments

written_back : (n a v : ℕ) (f : Segment → Option BusFault) (ss : List Segment) → fault_in f n ss a ≡ None → ((k : ℕ) (d : Segment) → k < length ss → AreBytes (get_or ss k d).bytes)
    → store_number n (store_number n ss a v) a (number_in n ss a) ≡ ss
written_back n a v f [] e b = refl
written_back n a v f (s ∷ more) e b = at_a (holds s a n) refl (λ e. written_back n a v f more e (λ k d l. b (suc k) d (omega arith)))
  where
    at_a : (t : Bool) → holds s a n ≡ t → (fault_in f n more a ≡ None → store_number n (store_number n more a v) a (number_in n more a) ≡ more)
        → store_number n (cond t (with_number_at n s a v ∷ more) (s ∷ store_number n more a v)) a (cond t (number_at n s a) (number_in n more a)) ≡ s ∷ more
    at_a true h next = rw (holds_with n n a a v s h, h) (ap (λ x. x ∷ more) (seg_back n a v s h (b 0 s (omega arith))))
    at_a false h next = rw h (ap (λ ss. s ∷ ss) (next (rw h at e)))

written_swap : (n m a b v u : ℕ) (ss : List Segment) → Apart a n b m → store_number n (store_number m ss b u) a v ≡ store_number m (store_number n ss a v) b u
written_swap n m a b v u [] o = refl
written_swap n m a b v u (s ∷ more) o = at_a (holds s a n) refl (holds s b m) refl (written_swap n m a b v u more o)
  where
    at_a : (t : Bool) → holds s a n ≡ t → (w : Bool) → holds s b m ≡ w → store_number n (store_number m more b u) a v ≡ store_number m (store_number n more a v) b u
        → store_number n (cond w (with_number_at m s b u ∷ more) (s ∷ store_number m more b u)) a v ≡ store_number m (cond t (with_number_at n s a v ∷ more) (s ∷ store_number n more a v)) b u
    at_a true h true g next = rw (holds_with m n b a u s g, holds_with n m a b v s h, h, g) (ap (λ x. x ∷ more) (seg_swap n m a b v u s h g o))
    at_a true h false g next = rw (holds_with n m a b v s h, h, g) refl
    at_a false h true g next = rw (holds_with m n b a u s g, h, g) refl
    at_a false h false g next = rw (h, g) (ap (λ ss. s ∷ ss) next)

run_swap : (a v : ℕ) (ws : List ℕ) (b : ℕ) (ss : List Segment) → Apart a 4 b (4 * length ws) → b + 4 * length ws < 2 ^ 32
    → store_words (store_number 4 ss a v) b ws ≡ store_number 4 (store_words ss b ws) a v
run_swap a v [] b ss o l = refl
run_swap a v (w ∷ ws) b ss o l =
    let next : (b + 4) % 2 ^ 32 ≡ b + 4 = omega arith in
    rw (written_swap 4 4 b a w v ss (first o), next) (run_swap a v ws (b + 4) (store_number 4 ss b w) (rest o) (omega arith))
  where
    first : Apart a 4 b (4 * length (w ∷ ws)) → Apart b 4 a 4
    first (inl p) = inr p
    first (inr p) = inl (omega arith)

    rest : Apart a 4 b (4 * length (w ∷ ws)) → Apart a 4 (b + 4) (4 * length ws)
    rest (inl p) = inl (omega arith)
    rest (inr p) = inr (omega arith)

-- ---- one store

-- what is stored could be loaded
store_loads : (n : ℕ) (m : Memory) (a v : ℕ) (m' : Memory) → store n m a v ≡ (Ok tt, m') → load n m a ≡ Ok (number_in n m.segments a)
store_loads n m a v m' e =
    let s = stored n m a v m' e in
    let f = λ (d : Segment). store_fault n m.guards d a in
    let fine = fault_less n a f (λ d. load_fault n a) m.segments (λ d p. let q = passes n m.guards d a p in load_fault_none n a q.aligned q.opened) s.passed in
    rw fine refl

loaded : (n : ℕ) (ss : List Segment) (a v : ℕ) → load_number n ss a ≡ Ok v → v ≡ number_in n ss a
loaded n ss a v e = go (fault_in (λ s. load_fault n a) n ss a) e
  where
    go : (o : Option BusFault) → or_fault o (number_in n ss a) ≡ Ok v → v ≡ number_in n ss a
    go None e = cc
    go (Some x) e = absurd (cc)

store_back_to : (n : ℕ) (m : Memory) (a v : ℕ) (m' : Memory) → IsMap m → store n m a v ≡ (Ok tt, m') → store n m' a (number_in n m.segments a) ≡ (Ok tt, m)
store_back_to n m a v m' x e =
    let s = stored n m a v m' e in
    let f = λ (d : Segment). store_fault n m.guards d a in
    rw (s.after, written_fault n n a a v f m.segments (λ d bs. refl), s.passed, written_back n a v f m.segments s.passed ((x.segments).bytes)) refl

pub store_undoable : (n : ℕ) (m : Memory) (a v : ℕ) (m' : Memory) → IsMap m → store n m a v ≡ (Ok tt, m') → Undoable n m a m'
store_undoable n m a v m' x e = record {
  loads = (number_in n m.segments a, store_loads n m a v m' e);
  back = λ w l. rw (loaded n m.segments a w l) (store_back_to n m a v m' x e);
}

-- and the host's word is stored back
host_back_to : (m : Memory) (a v : ℕ) (f : Segment → Option BusFault) → IsMap m → fault_in f 4 m.segments a ≡ None → host_store (host_store m a v) a (host_load m a) ≡ m
host_back_to m a v f x e = ap (λ (ss : List Segment). record m { segments = ss }) (written_back 4 a v f m.segments e ((x.segments).bytes))

pub word_undoable : (m : Memory) (a v : ℕ) (m' : Memory) → IsMap m → store 4 m a v ≡ (Ok tt, m') → WordUndoable m a m'
word_undoable m a v m' x e =
    let s = stored 4 m a v m' e in
    record { store = store_undoable 4 m a v m' x e; host = rw s.after (host_back_to m a v (λ d. store_fault 4 m.guards d a) x s.passed) }

pub host_undone : (m : Memory) (a v : ℕ) → IsMap m → a % 4 ≡ 0 → POOL_START ≤ a → a < POOL_END → host_store (host_store m a v) a (host_load m a) ≡ m
host_undone m a v x e l h =
    let p = parts m.segments x.segments in
    host_back_to m a v (λ d. None) x (pool_fault m.segments p (λ d. None) 4 a l (omega arith) (omega arith))

-- ---- a run of stores

fault_place : (n a : ℕ) (f : Segment → Option BusFault) (ss : List Segment) → fault_in f n ss a ≡ None → (i : ℕ) × (i < length ss) × ((d : Segment) → holds (get_or ss i d) a n ≡ true)
fault_place n a f [] e = absurd (cc)
fault_place n a f (s ∷ more) e = by_cases (holds s a n) refl (fault_place n a f more)
  where
    by_cases : (t : Bool) → holds s a n ≡ t → (fault_in f n more a ≡ None → (i : ℕ) × (i < length more) × ((d : Segment) → holds (get_or more i d) a n ≡ true))
        → (i : ℕ) × (i < length (s ∷ more)) × ((d : Segment) → holds (get_or (s ∷ more) i d) a n ≡ true)
    by_cases true h next = (0, omega arith, λ d. h)
    by_cases false h next = let p = next (rw h at e) in (suc p.0, omega (arith, p.1), p.2)

-- an access that is done ends by the end of the stack
pub fault_top : (n a : ℕ) (f : Segment → Option BusFault) (ss : List Segment) → AreSegments ss → fault_in f n ss a ≡ None → a + n ≤ STACK_END
fault_top n a f ss x e = let p = fault_place n a f ss e in go p.0 p.1 (inside (get_or ss p.0 (zeros_at 0 0)) a n (p.2 (zeros_at 0 0)))
  where
    go : (i : ℕ) → i < length ss → Inside (get_or ss i (zeros_at 0 0)) a n → a + n ≤ STACK_END
    go zero l q = let s = x.stack (zeros_at 0 0) in omega (arith, q.low, q.high, s.starts, s.sized)
    go (suc zero) l q = let s = x.pool (zeros_at 0 0) in omega (arith, q.low, q.high, s.starts, s.sized)
    go (suc (suc i)) l q = let s = x.image (suc (suc i)) (zeros_at 0 0) (omega arith) l in omega (arith, q.low, q.high, s)

-- and so does a run
run_top : (gs : List ℕ) (ss : List Segment) (a w : ℕ) (ws : List ℕ) → AreSegments ss → run_fault gs ss a (w ∷ ws) ≡ None → a + 4 * length (w ∷ ws) ≤ STACK_END
run_top gs ss a w [] x e = go (fault_in (λ s. store_fault 4 gs s a) 4 ss a) refl e
  where
    go : (o : Option BusFault) → fault_in (λ s. store_fault 4 gs s a) 4 ss a ≡ o → first_fault o None ≡ None → a + 4 * length (w ∷ []) ≤ STACK_END
    go (Some y) f e = absurd (cc)
    go None f e = let t = fault_top 4 a (λ s. store_fault 4 gs s a) ss x f in omega arith
run_top gs ss a w (v ∷ more) x e = go (fault_in (λ s. store_fault 4 gs s a) 4 ss a) refl e (run_top gs ss (a + 4) v more x)
  where
    go : (o : Option BusFault) → fault_in (λ s. store_fault 4 gs s a) 4 ss a ≡ o → first_fault o (run_fault gs ss ((a + 4) % 2 ^ 32) (v ∷ more)) ≡ None
        → (run_fault gs ss (a + 4) (v ∷ more) ≡ None → a + 4 + 4 * length (v ∷ more) ≤ STACK_END) → a + 4 * length (w ∷ v ∷ more) ≤ STACK_END
    go (Some y) f e next = absurd (cc)
    go None f e next =
        let t = fault_top 4 a (λ s. store_fault 4 gs s a) ss x f in
        let same : (a + 4) % 2 ^ 32 ≡ a + 4 = omega arith in
        let r = next (rw same at e) in
        omega arith

run_low : (gs : List ℕ) (ss : List Segment) (a : ℕ) (ws : List ℕ) → a < 2 ^ 32 → AreSegments ss → run_fault gs ss a ws ≡ None → a + 4 * length ws < 2 ^ 32
run_low gs ss a [] l x e = omega arith
run_low gs ss a (w ∷ ws) l x e = let t = run_top gs ss a w ws x e in omega arith

pub record Both (gs : List ℕ) (ss : List Segment) (a : ℕ) (ws : List ℕ) : Type 0 where
  pub first : fault_in (λ s. store_fault 4 gs s a) 4 ss a ≡ None
  pub rest : run_fault gs ss ((a + 4) % 2 ^ 32) ws ≡ None

both : (gs : List ℕ) (ss : List Segment) (a w : ℕ) (ws : List ℕ) → run_fault gs ss a (w ∷ ws) ≡ None → Both gs ss a ws
both gs ss a w ws e = go (fault_in (λ s. store_fault 4 gs s a) 4 ss a) refl e
  where
    go : (o : Option BusFault) → fault_in (λ s. store_fault 4 gs s a) 4 ss a ≡ o → first_fault o (run_fault gs ss ((a + 4) % 2 ^ 32) ws) ≡ None → Both gs ss a ws
    go None f e = record { first = f; rest = e }
    go (Some x) f e = absurd (cc)

-- the words that stand where these are stored
abbrev words_under : List ℕ → List Segment → ℕ → List ℕ
words_under [] ss a = []
words_under (w ∷ ws) ss a = number_in 4 ss a ∷ words_under ws ss (a + 4)

length-under : (ws : List ℕ) (ss : List Segment) (a : ℕ) → length (words_under ws ss a) ≡ length ws
length-under [] ss a = refl
length-under (w ∷ ws) ss a = ap suc (length-under ws ss (a + 4))

word_under : (ws : List ℕ) (ss : List Segment) (a i : ℕ) → i < length ws → get_or (words_under ws ss a) i 0 ≡ number_in 4 ss (a + 4 * i)
word_under [] ss a i h = absurd (omega arith)
word_under (w ∷ ws) ss a zero h = let e : a + 4 * 0 ≡ a = omega arith in rw e refl
word_under (w ∷ ws) ss a (suc i) h = let e : a + 4 * suc i ≡ a + 4 + 4 * i = omega arith in rw e (word_under ws ss (a + 4) i (omega arith))

under_same : (ws : List ℕ) (ss : List Segment) (a b v : ℕ) → a + 4 ≤ b → words_under ws (store_number 4 ss a v) b ≡ words_under ws ss b
under_same [] ss a b v h = refl
under_same (w ∷ ws) ss a b v h = rw (written_other 4 4 a b v ss (inl h), under_same ws ss a (b + 4) v (omega arith)) refl

run_back_to : (gs : List ℕ) (a : ℕ) (ws : List ℕ) (ss : List Segment) → AreSegments ss → run_fault gs ss a ws ≡ None → a + 4 * length ws < 2 ^ 32
    → store_words (store_words ss a ws) a (words_under ws ss a) ≡ ss
run_back_to gs a [] ss x e l = refl
run_back_to gs a (w ∷ ws) ss x e l =
    let next : (a + 4) % 2 ^ 32 ≡ a + 4 = omega arith in
    let f = both gs ss a w ws e in
    let old = number_in 4 ss a in
    let olds = words_under ws ss (a + 4) in
    let mid = store_number 4 ss a w in
    let new = store_words mid (a + 4) ws in
    let rest : run_fault gs mid (a + 4) ws ≡ None = run_fault_written gs ss (a + 4) a w ws ∙ rw next at f.rest in
    let back = run_back_to gs (a + 4) ws mid (kept 4 a w ss x) rest (omega arith) in
    let undone : store_words new (a + 4) olds ≡ mid = rw (under_same ws ss a (a + 4) w (omega arith)) at back in
    let size = length-under ws ss (a + 4) in
    let swap = run_swap a old olds (a + 4) new (inl (omega arith)) (omega arith) in
    let one = written_back 4 a w (λ s. store_fault 4 gs s a) ss f.first x.bytes in
    let first : store_words ss a (w ∷ ws) ≡ new = ap (λ (p : ℕ). store_words mid p ws) next in
    let step : store_words new a (words_under (w ∷ ws) ss a) ≡ store_words (store_number 4 new a old) (a + 4) olds = ap (λ (p : ℕ). store_words (store_number 4 new a old) p olds) next in
    ap (λ (s : List Segment). store_words s a (words_under (w ∷ ws) ss a)) first ∙ step ∙ swap ∙ ap (λ (s : List Segment). store_number 4 s a old) undone ∙ one

run_fault_run : (gs : List ℕ) (b : ℕ) (ws : List ℕ) (ss : List Segment) (a : ℕ) (vs : List ℕ) → run_fault gs (store_words ss b ws) a vs ≡ run_fault gs ss a vs
run_fault_run gs b [] ss a vs = refl
run_fault_run gs b (w ∷ ws) ss a vs = run_fault_run gs ((b + 4) % 2 ^ 32) ws (store_number 4 ss b w) a vs ∙ run_fault_written gs ss a b w vs

-- only how many words are stored tells whether they can be
run_fault_count : (gs : List ℕ) (ss : List Segment) (a : ℕ) (vs ws : List ℕ) → length vs ≡ length ws → run_fault gs ss a vs ≡ run_fault gs ss a ws
run_fault_count gs ss a [] [] e = refl
run_fault_count gs ss a [] (w ∷ ws) e = absurd (omega arith)
run_fault_count gs ss a (v ∷ vs) [] e = absurd (omega arith)
run_fault_count gs ss a (v ∷ vs) (w ∷ ws) e = rw (run_fault_count gs ss ((a + 4) % 2 ^ 32) vs ws (omega arith)) refl

run_loads : (gs : List ℕ) (ss : List Segment) (a : ℕ) (ws : List ℕ) (i : ℕ) → run_fault gs ss a ws ≡ None → a + 4 * length ws < 2 ^ 32 → i < length ws → load_number 4 ss (a + 4 * i) ≡ Ok (number_in 4 ss (a + 4 * i))
run_loads gs ss a [] i e l h = absurd (omega arith)
run_loads gs ss a (w ∷ ws) zero e l h =
    let f = both gs ss a w ws e in
    let same : a + 4 * zero ≡ a = omega arith in
    let fine = fault_less 4 a (λ d. store_fault 4 gs d a) (λ d. load_fault 4 a) ss (λ d p. let q = passes 4 gs d a p in load_fault_none 4 a q.aligned q.opened) f.first in
    rw (same, fine) refl
run_loads gs ss a (w ∷ ws) (suc i) e l h =
    let f = both gs ss a w ws e in
    let next : (a + 4) % 2 ^ 32 ≡ a + 4 = omega arith in
    let same : a + 4 * suc i ≡ a + 4 + 4 * i = omega arith in
    rw same (run_loads gs ss (a + 4) ws i (rw next at f.rest) (omega arith) (omega arith))

pub run_undoable : (m : Memory) (a : ℕ) (ws : List ℕ) (m' : Memory) → a < 2 ^ 32 → IsMap m → store_run m a ws ≡ (Ok tt, m') → RunUndoable (length ws) m a m'
run_undoable m a ws m' small x e =
    let s = ran m a ws m' e in
    let low = run_low m.guards m.segments a ws small x.segments s.passed in
    record {
      loads = λ i h. (number_in 4 m.segments (a + 4 * i), run_loads m.guards m.segments a ws i s.passed low h);
      back = λ words count l. back s low words count (same words count l);
    }
  where
    same : (words : List ℕ) → length words ≡ length ws → ((i : ℕ) → i < length ws → load 4 m (a + 4 * i) ≡ Ok (get_or words i 0)) → words ≡ words_under ws m.segments a
    same words count l =
        same_number_lists words _ (count ∙ sym (length-under ws m.segments a))
        (λ i h. loaded 4 m.segments (a + 4 * i) (get_or words i 0) (l i (omega (arith, count))) ∙ sym (word_under ws m.segments a i (omega (arith, count))))

    back : Ran m a ws m' → a + 4 * length ws < 2 ^ 32 → (words : List ℕ) → length words ≡ length ws → words ≡ words_under ws m.segments a → store_run m' a words ≡ (Ok tt, m)
    back s low words count e =
        let fine : run_fault m.guards (store_words m.segments a ws) a words ≡ None = run_fault_run m.guards a ws m.segments a words ∙ run_fault_count m.guards m.segments a words ws count ∙ s.passed in
        let undone : store_words (store_words m.segments a ws) a words ≡ m.segments = rw e (run_back_to m.guards a ws m.segments x.segments s.passed low) in
        rw (s.after, fine, undone) refl
