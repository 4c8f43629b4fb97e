-- The search of the table, by a test of every first byte of a range.
use Rattle.std.proofs.Common.{◌≡◌, ℕ, zero, suc, ◌+◌, ◌<◌, ◌≤◌, Bool, true, false, not, ◌&&◌, ◌||◌, ◌==◌, bit_and, cond, List, [], ◌∷◌, Option, None, refl, arith, ap}
use Rattle.eh_codes.specs.declared.code.UnwindCode.{UnwindCode}
use Rattle.eh_codes.specs.Table.{Row, rows, operand_front, read_code_by, first_fit, code_front}

-- each of the n numbers from k up passes
abbrev pub all_from : (ℕ → Bool) → ℕ → ℕ → Bool
all_from p zero k = true
all_from p (suc n) k = p k && all_from p n (k + 1)

pub both : (a b : Bool) → (a && b) ≡ true → (a ≡ true) × (b ≡ true)
both true b h = (refl, h)
both false b h = cc

all_from_step : (p : ℕ → Bool) (k m : ℕ) → p k ≡ true → (k + 1 ≤ m → p m ≡ true) → k ≤ m → p m ≡ true
all_from_step p k m here later low = grind arith

pub all_from_at : (p : ℕ → Bool) (n k : ℕ) → all_from p n k ≡ true → (m : ℕ) → k ≤ m → m < k + n → p m ≡ true
all_from_at p zero k h m low high = absurd (omega arith)
all_from_at p (suc n) k h m low high =
    let two = both (p k) (all_from p n (k + 1)) h in
    all_from_step p k m two.0 (λ l. all_from_at p n (k + 1) two.1 m l (omega arith)) low

-- which rows fit a first byte
abbrev pub marks : List Row → ℕ → List Bool
marks [] first = []
marks (row ∷ rest) first = (bit_and first row.mask == row.value) ∷ marks rest first

abbrev pub same : Bool → Bool → Bool
same true b = b
same false b = not b

abbrev pub are_marks : List Bool → List Row → ℕ → Bool
are_marks [] [] first = true
are_marks [] (row ∷ rest) first = false
are_marks (m ∷ ms) [] first = false
are_marks (m ∷ ms) (row ∷ rest) first = same (bit_and first row.mask == row.value) m && are_marks ms rest first

-- what the marked rows say
abbrev pub by_marked : List Bool → List Row → ℕ → List ℕ → Option (UnwindCode × ℕ)
by_marked [] rs first more = None
by_marked (m ∷ ms) [] first more = None
by_marked (true ∷ ms) (row ∷ rest) first more = let later = by_marked ms rest first more in read_code_by row first (operand_front row.operand more) later
by_marked (false ∷ ms) (row ∷ rest) first more = by_marked ms rest first more

is_marked : (row : Row) (rest : List Row) (first : ℕ) (more : List ℕ) (ms : List Bool) (fits m : Bool) → same fits m ≡ true → first_fit rest first more ≡ by_marked ms rest first more →
    read_code_by row first (cond fits (operand_front row.operand more) None) (first_fit rest first more) ≡ by_marked (m ∷ ms) (row ∷ rest) first more
is_marked row rest first more ms true true s e = ap (read_code_by row first (operand_front row.operand more)) e
is_marked row rest first more ms true false s e = cc
is_marked row rest first more ms false true s e = cc
is_marked row rest first more ms false false s e = e

fit_by_marks : (ms : List Bool) (rs : List Row) (first : ℕ) (more : List ℕ) → are_marks ms rs first ≡ true → first_fit rs first more ≡ by_marked ms rs first more
fit_by_marks [] [] first more h = refl
fit_by_marks [] (row ∷ rest) first more h = cc
fit_by_marks (m ∷ ms) [] first more h = cc
fit_by_marks (m ∷ ms) (row ∷ rest) first more h =
    let two = both (same (bit_and first row.mask == row.value) m) (are_marks ms rest first) h in
    is_marked row rest first more ms (bit_and first row.mask == row.value) m two.0 (fit_by_marks ms rest first more two.1)

-- the n first bytes from low up fit the rows that low fits
pub front_like : (low n : ℕ) → all_from (are_marks (marks rows low) rows) n low ≡ true →
    (first : ℕ) → low ≤ first → first < low + n → (more : List ℕ) → code_front first more ≡ by_marked (marks rows low) rows first more
unfolding code_front
front_like low n h first above below more =
    fit_by_marks (marks rows low) rows first more (all_from_at (are_marks (marks rows low) rows) n low h first above below)

implied : (a b : Bool) → (not a || b) ≡ true → a ≡ true → b ≡ true
implied true b h e = h
implied false b h e = cc

-- of the n first bytes from low up, those that pass a test fit the rows that `like` fits
pub front_where : (when : ℕ → Bool) (like low n : ℕ) → all_from (λ first. not (when first) || are_marks (marks rows like) rows first) n low ≡ true →
    (first : ℕ) → low ≤ first → first < low + n → when first ≡ true → (more : List ℕ) → code_front first more ≡ by_marked (marks rows like) rows first more
unfolding code_front
front_where when like low n h first above below w more =
    fit_by_marks (marks rows like) rows first more (implied (when first) _ (all_from_at (λ first. not (when first) || are_marks (marks rows like) rows first) n low h first above below) w)
