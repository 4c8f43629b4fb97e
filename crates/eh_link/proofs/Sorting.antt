-- The stable sort of rows by their starts is the one that puts each row after those with the same start.
use Rattle.std.proofs.Common.{◌≡◌, ℕ, zero, suc, ◌==◌, length, get_or, subst, ◌<◌, ◌≤◌, Bool, true, false, cond, not, ◌&&◌, ◌⊎◌, inl, inr, nat_lt, nat_eq, List, [], ◌∷◌, ◌++◌, filter, fold, refl, sym, ap, ◌∙◌, arith, append_assoc}
use Rattle.std.proofs.Math.Path.{fun_ext}
use Rattle.std.proofs.lemmas.List.{append-nil}
use Rattle.std.specs.Ordering.{nat_cmp, is_lt}
use Rattle.std.specs.declared.cmp.Ordering.TheVariants.{Less, Equal, Greater}
use Rattle.std.specs.List.Sorted.{ties, IsNonDecreasingBy, IsStableByKey, IsPermutation}
use Rattle.std.proofs.lemmas.List.Sorted.{IsPermutation-refl, IsPermutation-sym, IsPermutation-cons, IsPermutation-trans, IsPermutation-middle, IsPermutation-append_left}
use Rattle.std.proofs.lemmas.Bool.Decides.{nat_tests}
use Rattle.eh_codes.specs.declared.row.Entry.{Entry}
use Rattle.eh_codes.specs.declared.row.EntryBody.TheVariants.{CantUnwind}
use Rattle.eh_link.specs.Index.{row_among, in_order}

-- the starts don't fall, from `low` on
abbrev pub Ascending : ℕ → List Entry → Type 0
Ascending low [] = Unit {0}
Ascending low (r ∷ rows) = (low ≤ r.start) × Ascending r.start rows

-- whether two rows have the same start
abbrev pub tie : Entry → Entry → Bool
tie x y = not (nat_lt x.start y.start) && not (nat_lt y.start x.start)

same_test : (p q : Bool) → p ≡ false → q ≡ false → (not p && not q) ≡ true
same_test true q e f = absurd cc
same_test false true e f = absurd cc
same_test false false e f = refl

first_test : (p q : Bool) → p ≡ true → (not p && not q) ≡ false
first_test true q e = refl
first_test false q e = absurd cc

second_test : (p q : Bool) → q ≡ true → (not p && not q) ≡ false
second_test true q e = refl
second_test false true e = refl
second_test false false e = absurd cc

is_below : (m n : ℕ) (b : Bool) → b ≡ nat_lt m n → m < n → b ≡ true
is_below m n true e h = refl
is_below m n false e h = absurd (grind (arith, nat_tests))

isnt_below : (m n : ℕ) (b : Bool) → b ≡ nat_lt m n → n ≤ m → b ≡ false
isnt_below m n true e h = absurd (grind (arith, nat_tests))
isnt_below m n false e h = refl

tie_same : (x y : Entry) → x.start ≡ y.start → tie x y ≡ true
tie_same x y e = same_test _ _ (isnt_below x.start y.start _ refl (omega arith)) (isnt_below y.start x.start _ refl (omega arith))

tie_below : (x y : Entry) → x.start < y.start → tie x y ≡ false
tie_below x y h = first_test _ _ (is_below x.start y.start _ refl h)

tie_above : (x y : Entry) → y.start < x.start → tie x y ≡ false
tie_above x y h = second_test _ _ (is_below y.start x.start _ refl h)

-- ---- rows that ascend

-- a row below them has the start of none
none_ties : (k : Entry) (low : ℕ) (rows : List Entry) → Ascending low rows → k.start < low → filter (tie k) rows ≡ []
none_ties k low [] a h = refl
none_ties k low (r ∷ rows) a h = rw (tie_below k r (omega (arith, a.0))) (none_ties k r.start rows a.1 (omega (arith, a.0)))

among_ascends_at : (low : ℕ) (r : Entry) (rows : List Entry) (row : Entry) (b : Bool) → b ≡ nat_lt row.start r.start → low ≤ row.start → low ≤ r.start
    → Ascending r.start rows → (r.start ≤ row.start → Ascending r.start (row_among rows row)) → Ascending low (cond b (row ∷ r ∷ rows) (r ∷ row_among rows row))
among_ascends_at low r rows row true e h k a next = let lt : row.start < r.start = grind (arith, nat_tests) in (h, (omega arith, a))
among_ascends_at low r rows row false e h k a next = let ge : r.start ≤ row.start = grind (arith, nat_tests) in (k, next ge)

among_ascends : (low : ℕ) (rows : List Entry) (row : Entry) → Ascending low rows → low ≤ row.start → Ascending low (row_among rows row)
among_ascends low [] row a h = (h, tt)
among_ascends low (r ∷ rows) row a h =
    among_ascends_at low r rows row (nat_lt row.start r.start) refl h a.0 a.1 (λ ge. among_ascends r.start rows row a.1 ge)

-- ---- the rows of one start keep their order

kept_tail : (b : Bool) (r : Entry) (xs ys zs : List Entry) → xs ≡ ys ++ zs → cond b (r ∷ xs) xs ≡ cond b (r ∷ ys) ys ++ zs
kept_tail true r xs ys zs e = ap (λ rest. r ∷ rest) e
kept_tail false r xs ys zs e = e

put_first : (b : Bool) (row : Entry) (xs : List Entry) → (b ≡ true → xs ≡ []) → cond b (row ∷ xs) xs ≡ xs ++ cond b (row ∷ []) []
put_first true row xs h = rw (h refl) refl
put_first false row xs h = sym (append-nil xs)

tied_start : (k row : Entry) → tie k row ≡ true → k.start ≡ row.start
tied_start k row h = grind (arith, nat_tests, tie_below k row, tie_above k row)

among_keeps_at : (k r : Entry) (rows : List Entry) (row : Entry) (b : Bool) → b ≡ nat_lt row.start r.start → Ascending r.start rows
    → filter (tie k) (row_among rows row) ≡ filter (tie k) rows ++ filter (tie k) (row ∷ [])
    → filter (tie k) (cond b (row ∷ r ∷ rows) (r ∷ row_among rows row)) ≡ filter (tie k) (r ∷ rows) ++ filter (tie k) (row ∷ [])
among_keeps_at k r rows row true e a next =
    put_first (tie k row) row (filter (tie k) (r ∷ rows)) (λ t.
    let same = tied_start k row t in
    let lt : row.start < r.start = grind (arith, nat_tests) in
    none_ties k r.start (r ∷ rows) (omega arith, a) (omega arith))
among_keeps_at k r rows row false e a next = kept_tail (tie k r) r _ _ _ next

among_keeps : (k : Entry) (low : ℕ) (rows : List Entry) (row : Entry) → Ascending low rows
    → filter (tie k) (row_among rows row) ≡ filter (tie k) rows ++ filter (tie k) (row ∷ [])
among_keeps k low [] row a = refl
among_keeps k low (r ∷ rows) row a =
    among_keeps_at k r rows row (nat_lt row.start r.start) refl a.1 (among_keeps k r.start rows row a.1)

fold_ascends : (sorted rows : List Entry) → Ascending 0 sorted → Ascending 0 (fold row_among sorted rows)
fold_ascends sorted [] a = a
fold_ascends sorted (row ∷ rows) a = fold_ascends (row_among sorted row) rows (among_ascends 0 sorted row a (omega arith))

filter_cons : (k row : Entry) (rows : List Entry) → filter (tie k) (row ∷ rows) ≡ filter (tie k) (row ∷ []) ++ filter (tie k) rows
filter_cons k row rows = cases (tie k row)
  where
    cases : (b : Bool) → cond b (row ∷ filter (tie k) rows) (filter (tie k) rows) ≡ cond b (row ∷ []) [] ++ filter (tie k) rows
    cases true = refl
    cases false = refl

fold_keeps : (k : Entry) (sorted rows : List Entry) → Ascending 0 sorted → filter (tie k) (fold row_among sorted rows) ≡ filter (tie k) sorted ++ filter (tie k) rows
fold_keeps k sorted [] a = sym (append-nil (filter (tie k) sorted))
fold_keeps k sorted (row ∷ rows) a =
    fold_keeps k (row_among sorted row) rows (among_ascends 0 sorted row a (omega arith))
    ∙ rw (among_keeps k 0 sorted row a, filter_cons k row rows, append_assoc) refl

pub order_ascends : (rows : List Entry) → Ascending 0 (in_order rows)
unfolding in_order
order_ascends rows = fold_ascends [] rows tt

pub order_keeps : (k : Entry) (rows : List Entry) → filter (tie k) (in_order rows) ≡ filter (tie k) rows
unfolding in_order
order_keeps k rows = fold_keeps k [] rows tt

-- ---- rows in rising order are told by the rows of each start

head_of : (x y : Entry) (xs ys : List Entry) → x ∷ xs ≡ y ∷ ys → x ≡ y
head_of x y xs ys e = cc

tail_of : (x : Entry) (b : Bool) (xs ys : List Entry) → cond b (x ∷ xs) xs ≡ cond b (x ∷ ys) ys → xs ≡ ys
tail_of x true xs ys e = cc
tail_of x false xs ys e = e

first_kept : (x : Entry) (xs : List Entry) → filter (tie x) (x ∷ xs) ≡ x ∷ filter (tie x) xs
first_kept x xs = rw (tie_same x x refl) refl

order_at : (m n : ℕ) (b c : Bool) → b ≡ nat_lt m n → c ≡ nat_lt n m → (m < n) ⊎ ((n < m) ⊎ (m ≡ n))
order_at m n true c e f = inl (grind (arith, nat_tests))
order_at m n false true e f = inr (inl (grind (arith, nat_tests)))
order_at m n false false e f =
    let up : n ≤ m = grind (arith, nat_tests) in
    let down : m ≤ n = grind (arith, nat_tests) in
    inr (inr (omega arith))

order_of : (m n : ℕ) → (m < n) ⊎ ((n < m) ⊎ (m ≡ n))
order_of m n = order_at m n (nat_lt m n) (nat_lt n m) refl refl

unique : (low : ℕ) (xs ys : List Entry) → Ascending low xs → Ascending low ys → ((k : Entry) → filter (tie k) xs ≡ filter (tie k) ys) → xs ≡ ys
unique low [] [] a b same = refl
unique low [] (y ∷ ys) a b same = let e : [] ≡ y ∷ filter (tie y) ys = same y ∙ first_kept y ys in absurd cc
unique low (x ∷ xs) [] a b same = let e : [] ≡ x ∷ filter (tie x) xs = sym (same x) ∙ first_kept x xs in absurd cc
unique low (x ∷ xs) (y ∷ ys) a b same =
    elim (order_of x.start y.start) [
      | inl lt ↦ let e : [] ≡ x ∷ filter (tie x) xs = sym (none_ties x y.start (y ∷ ys) (omega arith, b.1) lt) ∙ sym (same x) ∙ first_kept x xs in absurd cc
      | inr (inl gt) ↦ let e : [] ≡ y ∷ filter (tie y) ys = sym (none_ties y x.start (x ∷ xs) (omega arith, a.1) gt) ∙ same y ∙ first_kept y ys in absurd cc
      | inr (inr eq) ↦
          let heads : x ∷ filter (tie x) xs ≡ y ∷ filter (tie x) ys = sym (first_kept x xs) ∙ same x ∙ rw (tie_same x y eq) refl in
          let head : x ≡ y = head_of x y _ _ heads in
          let above : Ascending x.start ys = rw head b.1 in
          let rest : xs ≡ ys = unique x.start xs ys a.1 above (λ k. tail_of x (tie k x) _ _ (same k ∙ rw (← head) refl)) in
          rw (head, rest) refl
    ]

-- ---- what the sort gives

from_order : (x : Entry) (xs : List Entry) → IsNonDecreasingBy (λ (r : Entry). r.start) (x ∷ xs) → Ascending x.start xs
from_order x [] up = tt
from_order x (y ∷ ys) up = (up 0 1 x (omega arith) (omega arith), from_order y ys (λ i j d le lt. up (suc i) (suc j) d (omega arith) (omega arith)))

ascends : (xs : List Entry) → IsNonDecreasingBy (λ (r : Entry). r.start) xs → Ascending 0 xs
ascends [] up = tt
ascends (x ∷ xs) up = (omega arith, from_order x xs up)

less_by : (b c : Bool) → is_lt (cond b Less (cond c Equal Greater)) ≡ b
less_by true c = refl
less_by false true = refl
less_by false false = refl

less_is : (m n : ℕ) → is_lt (nat_cmp m n) ≡ nat_lt m n
less_is m n = less_by (nat_lt m n) (nat_eq m n)

same_tie : (k r : Entry) → ties (λ (x y : Entry). is_lt (nat_cmp x.start y.start)) k r ≡ tie k r
same_tie k r = rw (less_is k.start r.start, less_is r.start k.start) refl

same_filter : (k : Entry) (rows : List Entry) → filter (ties (λ (x y : Entry). is_lt (nat_cmp x.start y.start)) k) rows ≡ filter (tie k) rows
same_filter k rows = ap (λ (p : Entry → Bool). filter p rows) (fun_ext (same_tie k))

pub sorted_is : (xs ys : List Entry) → IsNonDecreasingBy (λ (r : Entry). r.start) ys → IsStableByKey (λ (r : Entry). r.start) nat_cmp xs ys → ys ≡ in_order xs
sorted_is xs ys up stable =
    unique 0 ys (in_order xs) (ascends ys up) (order_ascends xs)
    (λ k. sym (same_filter k ys) ∙ stable k ∙ same_filter k xs ∙ sym (order_keeps k xs))

-- ---- the rows of the index are those that were sorted

from_low : (low : ℕ) (rows : List Entry) (j : ℕ) (d : Entry) → Ascending low rows → j < length rows → low ≤ (get_or rows j d).start
from_low low [] j d a h = absurd (omega arith)
from_low low (r ∷ rows) zero d a h = a.0
from_low low (r ∷ rows) (suc j) d a h = omega (arith, a.0, from_low r.start rows j d a.1 (omega arith))

pub never_falls : (low : ℕ) (rows : List Entry) → Ascending low rows → IsNonDecreasingBy (λ (r : Entry). r.start) rows
never_falls low [] a i j d le lt = absurd (omega arith)
never_falls low (r ∷ rows) a zero zero d le lt = omega arith
never_falls low (r ∷ rows) a zero (suc j) d le lt = from_low r.start rows j d a.1 (omega arith)
never_falls low (r ∷ rows) a (suc i) zero d le lt = absurd (omega arith)
never_falls low (r ∷ rows) a (suc i) (suc j) d le lt = never_falls r.start rows a.1 i j d (omega arith) (omega arith)

pub order_never_falls : (rows : List Entry) → IsNonDecreasingBy (λ (r : Entry). r.start) (in_order rows)
order_never_falls rows = never_falls 0 (in_order rows) (order_ascends rows)

-- one row more, in its place
among_moves : (rows : List Entry) (row : Entry) → IsPermutation (row ∷ rows) (row_among rows row)
among_moves [] row = IsPermutation-refl (row ∷ [])
among_moves (first ∷ more) row = at (nat_lt row.start first.start) (among_moves more row)
  where
    at : (b : Bool) → IsPermutation (row ∷ more) (row_among more row) → IsPermutation (row ∷ first ∷ more) (cond b (row ∷ first ∷ more) (first ∷ row_among more row))
    at true next = IsPermutation-refl (row ∷ first ∷ more)
    at false next =
        IsPermutation-trans (row ∷ first ∷ more) (first ∷ row ∷ more) (first ∷ row_among more row)
        (IsPermutation-sym (first ∷ row ∷ more) (row ∷ first ∷ more) (IsPermutation-middle (first ∷ []) row more))
        (IsPermutation-cons first (row ∷ more) (row_among more row) next)

fold_moves : (sorted rows : List Entry) → IsPermutation (sorted ++ rows) (fold row_among sorted rows)
fold_moves sorted [] = subst (λ xs. IsPermutation xs sorted) (sym (append-nil sorted)) (IsPermutation-refl sorted)
fold_moves sorted (row ∷ rows) =
    IsPermutation-trans (sorted ++ row ∷ rows) (row_among sorted row ++ rows) (fold row_among (row_among sorted row) rows)
    (IsPermutation-trans (sorted ++ row ∷ rows) (row ∷ (sorted ++ rows)) (row_among sorted row ++ rows)
    (IsPermutation-middle sorted row rows)
    (IsPermutation-append_left rows (row ∷ sorted) (row_among sorted row) (among_moves sorted row)))
    (fold_moves (row_among sorted row) rows)

pub order_moves : (rows : List Entry) → IsPermutation rows (in_order rows)
unfolding in_order
order_moves rows = fold_moves [] rows

-- rows with one start
starts_at : (start : ℕ) (d r : Entry) → d.start ≡ start → (r.start == start) ≡ tie d r
starts_at start d r e = by_test (r.start == start) refl (tie d r) refl
  where
    by_test : (p : Bool) → p ≡ (r.start == start) → (q : Bool) → q ≡ tie d r → p ≡ q
    by_test true f true g = refl
    by_test true f false g = absurd (let same : r.start ≡ start = grind (arith, nat_tests) in let t = tie_same d r (e ∙ sym same) in cc)
    by_test false f true g = absurd (let same = tied_start d r (sym g) in grind (arith, nat_tests))
    by_test false f false g = refl

pub order_keeps_starts : (start : ℕ) (rows : List Entry) → filter (λ (r : Entry). r.start == start) (in_order rows) ≡ filter (λ (r : Entry). r.start == start) rows
order_keeps_starts start rows =
    let d : Entry = record { start = start; body = CantUnwind } in
    let same : (λ (r : Entry). r.start == start) ≡ tie d = fun_ext (λ r. starts_at start d r refl) in
    ap (λ (p : Entry → Bool). filter p (in_order rows)) same ∙ order_keeps d rows ∙ ap (λ (p : Entry → Bool). filter p rows) (sym same)
