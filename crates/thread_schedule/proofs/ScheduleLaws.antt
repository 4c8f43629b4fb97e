-- Schedules, a text at a time.
use Rattle.std.proofs.Common.{◌≡◌, ℕ, zero, suc, ◌+◌, Bool, true, false, cond, List, [], ◌∷◌, ◌++◌, length, replicate, filter, Option, Some, None, Ok, refl, ap, arith}
use Rattle.std.specs.List.{position_from}
use Rattle.thread_schedule.specs.Laws.{AreDigits, NoneIsBad, DigitsAreRead, LineFeedsPass, FirstBadIsNamed, NoDigitIsNamed}
use Rattle.thread_schedule.specs.Schedules.{is_digit, is_bad, schedule_of, some_digits, unless_bad}
use Rattle.thread_schedule.specs.declared.schedule.TheConstants.{LINE_FEED}

no_digit_bad : (i : ℕ) (text : List ℕ) → AreDigits text → position_from is_bad i text ≡ None
no_digit_bad i [] d = refl
no_digit_bad i (b ∷ more) d = rw d.0 (no_digit_bad (i + 1) more d.1)

all_kept : (text : List ℕ) → AreDigits text → filter is_digit text ≡ text
all_kept [] d = refl
all_kept (b ∷ more) d = rw d.0 (ap (λ xs. b ∷ xs) (all_kept more d.1))

pub law_of_digits : DigitsAreRead
unfolding schedule_of
law_of_digits digit more d = rw (no_digit_bad 0 (digit ∷ more) d, all_kept (digit ∷ more) d) refl

-- ---- line feeds

none_with : (i j : ℕ) (before after : List ℕ) → position_from is_bad i (before ++ after) ≡ None → position_from is_bad j (before ++ LINE_FEED ∷ after) ≡ None
none_with i j [] after e = moved i (j + 1) after e
  where
    moved : (i j : ℕ) (text : List ℕ) → position_from is_bad i text ≡ None → position_from is_bad j text ≡ None
    moved i j [] e = refl
    moved i j (b ∷ more) e = go (is_bad b) e (moved (i + 1) (j + 1) more)
      where
        go : (t : Bool) → cond t (Some i) (position_from is_bad (i + 1) more) ≡ None → (position_from is_bad (i + 1) more ≡ None → position_from is_bad (j + 1) more ≡ None)
            → cond t (Some j) (position_from is_bad (j + 1) more) ≡ None
        go true e next = absurd (cc)
        go false e next = next e
none_with i j (b ∷ before) after e = go (is_bad b) e (none_with (i + 1) (j + 1) before after)
  where
    go : (t : Bool) → cond t (Some i) (position_from is_bad (i + 1) (before ++ after)) ≡ None
        → (position_from is_bad (i + 1) (before ++ after) ≡ None → position_from is_bad (j + 1) (before ++ LINE_FEED ∷ after) ≡ None)
        → cond t (Some j) (position_from is_bad (j + 1) (before ++ LINE_FEED ∷ after)) ≡ None
    go true e next = absurd (cc)
    go false e next = next e

kept_with : (before after : List ℕ) → filter is_digit (before ++ LINE_FEED ∷ after) ≡ filter is_digit (before ++ after)
kept_with [] after = refl
kept_with (b ∷ before) after = go (is_digit b) (kept_with before after)
  where
    go : (t : Bool) → filter is_digit (before ++ LINE_FEED ∷ after) ≡ filter is_digit (before ++ after)
        → cond t (b ∷ filter is_digit (before ++ LINE_FEED ∷ after)) (filter is_digit (before ++ LINE_FEED ∷ after)) ≡ cond t (b ∷ filter is_digit (before ++ after)) (filter is_digit (before ++ after))
    go true e = ap (λ xs. b ∷ xs) e
    go false e = e

pub record Reads (text digits : List ℕ) : Type 0 where
  pub good : position_from is_bad 0 text ≡ None
  pub some : some_digits (filter is_digit text) (length text) ≡ Ok digits

reads : (text digits : List ℕ) → schedule_of text ≡ Ok digits → Reads text digits
unfolding schedule_of
reads text digits e = go (position_from is_bad 0 text) refl e
  where
    go : (o : Option ℕ) → position_from is_bad 0 text ≡ o → unless_bad o text ≡ Ok digits → Reads text digits
    go None f e = record { good = f; some = e }
    go (Some at) f e = absurd (cc)

at_any_end : (xs digits : List ℕ) (m n : ℕ) → some_digits xs m ≡ Ok digits → some_digits xs n ≡ Ok digits
at_any_end [] digits m n e = absurd (cc)
at_any_end (x ∷ xs) digits m n e = e

pub law_of_feeds : LineFeedsPass
unfolding schedule_of
law_of_feeds before after digits e =
    let r = reads (before ++ after) digits e in
    rw (none_with 0 0 before after r.good, kept_with before after)
    (at_any_end (filter is_digit (before ++ after)) digits (length (before ++ after)) (length (before ++ LINE_FEED ∷ after)) r.some)

-- ---- refusals

first_bad : (i b : ℕ) (before after : List ℕ) → NoneIsBad before → is_bad b ≡ true → position_from is_bad i (before ++ b ∷ after) ≡ Some (i + length before)
first_bad i b [] after n e = let z : i + 0 ≡ i = omega arith in rw (e, z) refl
first_bad i b (x ∷ before) after n e = let s : i + length (x ∷ before) ≡ i + 1 + length before = omega arith in rw (n.0, s) (first_bad (i + 1) b before after n.1 e)

pub law_of_bad : FirstBadIsNamed
unfolding schedule_of
law_of_bad before after b n e = let z : 0 + length before ≡ length before = omega arith in rw (first_bad 0 b before after n e, z) refl

feeds_good : (i n : ℕ) → position_from is_bad i (replicate n LINE_FEED) ≡ None
feeds_good i zero = refl
feeds_good i (suc n) = feeds_good (i + 1) n

none_kept : (n : ℕ) → filter is_digit (replicate n LINE_FEED) ≡ []
none_kept zero = refl
none_kept (suc n) = none_kept n

feeds_length : (n : ℕ) → length (replicate n LINE_FEED) ≡ n
feeds_length zero = refl
feeds_length (suc n) = ap suc (feeds_length n)

pub law_of_none : NoDigitIsNamed
unfolding schedule_of
law_of_none n = rw (feeds_good 0 n, none_kept n, feeds_length n) refl
