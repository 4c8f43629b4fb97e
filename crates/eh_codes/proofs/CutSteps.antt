-- One code more is cut off the front.
use Rattle.std.proofs.Common.{◌≡◌, ℕ, zero, suc, ◌+◌, ◌-◌, ◌≤◌, ◌==◌, Bool, true, false, bit_and, cond, List, [], ◌∷◌, length, take, drop, Option, Some, None, refl, arith, ◌∙◌, ap, sym}
use Rattle.std.specs.Prelude.{Result, Ok, Err, option_map, nat_le, nat_lt, slice_index, ◌&&◌}
use Rattle.std.specs.Option.{option_map_or}
use Rattle.std.specs.Result.{result_ok}
use Rattle.std.specs.List.{prefix_len}
use Rattle.std.proofs.lemmas.Bool.Decides.{nat_tests}
use Rattle.eh_word.specs.declared.fault.WordFault.{WordFault}
use Rattle.eh_word.specs.declared.fault.WordFault.TheVariants.{Ends, TooWide}
use Rattle.eh_word.specs.Words.{uleb128_front, has_more, base_128}
use Rattle.eh_codes.specs.declared.code.UnwindCode.{UnwindCode}
use Rattle.eh_codes.specs.Table.{Row, Operand, Nothing, Byte, Number, rows, operand_front, read_code_by, first_fit, code_front}
use Rattle.eh_codes.specs.Cut.{Is, Bad, split_codes_after, split_codes_from}

-- what is found at the front has no more bytes than there are
abbrev Within : {X : Type 0} → ℕ → Option (X × ℕ) → Type 0
Within most None = Unit {0}
Within most (Some found) = found.1 ≤ most

number_cases : (size last n : ℕ) (short wide : Bool) → nat_le size last ≡ short →
    Within {X = ℕ} size (result_ok (cond {A = Result (ℕ × ℕ) WordFault} short (Err Ends) (cond wide (Err TooWide) (Ok (n, last + 1)))))
number_cases size last n true wide s = tt
number_cases size last n false true s = tt
number_cases size last n false false s = grind (arith, nat_tests)

number_within : (more : List ℕ) → Within (length more) (result_ok (uleb128_front more))
number_within more =
    let last : ℕ = prefix_len has_more (take 4 more) in
    number_cases (length more) last (base_128 (take (last + 1) more)) (nat_le (length more) last) (last == 4 && nat_lt 15 (slice_index more 4)) refl

operand_within : (operand : Operand) (more : List ℕ) → Within (length more) (operand_front operand more)
operand_within Nothing more = omega arith
operand_within (Byte mask value) [] = tt
operand_within (Byte mask value) (next ∷ more) = one (bit_and next mask == value)
  where
    one : (fits : Bool) → Within {X = ℕ} (suc (length more)) (cond fits (Some (next, 1)) None)
    one true = omega arith
    one false = tt
operand_within Number more = number_within more

abbrev pub CodeWithin : ℕ → Option (UnwindCode × ℕ) → Type 0
CodeWithin most None = Unit {0}
CodeWithin most (Some found) = (1 ≤ found.1) × (found.1 ≤ suc most)

meant : (most n : ℕ) (code : Option UnwindCode) → n ≤ most → CodeWithin most (option_map (λ code. (code, 1 + n)) code)
meant most n None h = tt
meant most n (Some code) h = (omega arith, omega arith)

read_within : (row : Row) (first most : ℕ) (o : Option (ℕ × ℕ)) (later : Option (UnwindCode × ℕ)) → Within most o → CodeWithin most later → CodeWithin most (read_code_by row first o later)
read_within row first most None later h l = l
read_within row first most (Some next) later h l = meant most next.1 (row.means first next.0) h

tested : (fits : Bool) (most : ℕ) (o : Option (ℕ × ℕ)) → Within most o → Within most (cond fits o None)
tested true most o h = h
tested false most o h = tt

fit_within : (rs : List Row) (first : ℕ) (more : List ℕ) → CodeWithin (length more) (first_fit rs first more)
fit_within [] first more = tt
fit_within (row ∷ rest) first more =
    read_within row first (length more) (cond (bit_and first row.mask == row.value) (operand_front row.operand more) None) (first_fit rest first more)
    (tested (bit_and first row.mask == row.value) (length more) (operand_front row.operand more) (operand_within row.operand more)) (fit_within rest first more)

-- a code has a byte, and no more than there are
pub front_within : (first : ℕ) (more : List ℕ) (code : UnwindCode) (size : ℕ) → code_front first more ≡ Some (code, size) → (1 ≤ size) × (size ≤ suc (length more))
unfolding code_front
front_within first more code size is =
    let all : CodeWithin (length more) (first_fit rows first more) = fit_within rows first more in
    let some : CodeWithin (length more) (Some (code, size)) = rw is at all in
    some

-- the bytes of a code are passed over
pub cut_past : (within place : ℕ) (more : List ℕ) → within ≤ length more → split_codes_after within place more ≡ split_codes_from (place + within) (drop within more)
unfolding split_codes_from
cut_past zero place more h = ap (λ p. split_codes_after 0 p more) (let e : place ≡ place + 0 = omega arith in e)
cut_past (suc within) place [] h = refl
cut_past (suc within) place (byte ∷ more) h =
    cut_past within (place + 1) more (omega arith) ∙ ap (λ p. split_codes_after 0 p (drop within more)) (let e : place + 1 + within ≡ place + suc within = omega arith in e)

dropped : (size : ℕ) (first : ℕ) (more : List ℕ) → 1 ≤ size → drop size (first ∷ more) ≡ drop (size - 1) more
dropped zero first more h = absurd (omega arith)
dropped (suc n) first more h = ap (λ k. drop k more) (let e : n ≡ suc n - 1 = omega arith in e)

-- a code is the first item, and the bytes after it give the others
pub cut_one : (place first : ℕ) (more : List ℕ) (code : UnwindCode) (size : ℕ) → code_front first more ≡ Some (code, size) →
    split_codes_from place (first ∷ more) ≡ Is code ∷ split_codes_from (place + size) (drop size (first ∷ more))
unfolding split_codes_from
cut_one place first more code size is =
    let bounds = front_within first more code size is in
    ap (λ found. option_map_or (λ (found : UnwindCode × ℕ). Is found.0 ∷ split_codes_after (found.1 - 1) (place + 1) more) found (Bad place ∷ [])) is
    ∙ ap (λ l. Is code ∷ l) (cut_past (size - 1) (place + 1) more (omega (arith, bounds.0, bounds.1))
    ∙ ap (λ p. split_codes_after 0 p (drop (size - 1) more)) (let e : place + 1 + (size - 1) ≡ place + size = omega (arith, bounds.0) in e)
    ∙ ap (λ l. split_codes_after 0 (place + size) l) (sym (dropped size first more bounds.0)))

-- bytes that begin no code are the last item
pub cut_bad : (place first : ℕ) (more : List ℕ) → code_front first more ≡ None → split_codes_from place (first ∷ more) ≡ Bad place ∷ []
unfolding split_codes_from
cut_bad place first more is = ap (λ found. option_map_or (λ (found : UnwindCode × ℕ). Is found.0 ∷ split_codes_after (found.1 - 1) (place + 1) more) found (Bad place ∷ [])) is

pub cut_nothing : (place : ℕ) → split_codes_from place [] ≡ []
unfolding split_codes_from
cut_nothing place = refl
