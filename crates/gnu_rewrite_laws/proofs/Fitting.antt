-- The numbers of the rewritten parts are of 32 bits, and their names have no zero byte.
use Rattle.std.proofs.Common.{◌≡◌, ◌≢◌, ℕ, zero, suc, ◌+◌, ◌/◌, ◌%◌, ◌<◌, ◌≤◌, ◌^◌, ◌&&◌, Bool, true, false, cond, not, nat_eq, nat_lt, codes, List, [], ◌∷◌, ◌++◌, map, filter, All, Option, Some, None, refl, sym, subst, arith}
use Rattle.std.specs.Prelude.{find}
use Rattle.std.specs.List.{list_all, list_any, flat_map, range_with_len, starts_with}
use Rattle.std.proofs.lemmas.Bool.Decides.{nat_tests}
use Rattle.std.proofs.lemmas.List.Concat.{flat_map-cons}
use Rattle.std.proofs.lemmas.List.Elements.{All-head, All-tail}
use Rattle.eh_word.specs.Address.{hex_digit, address_text}
use Rattle.eh_word.specs.Names.{same_bytes}
use Rattle.elf_image.specs.Segments.{Segment, holds, segment_end, RiseFrom}
use Rattle.elf_image.specs.Functions.{Function, segment_at, FunctionsFrom}
use Rattle.elf_image.specs.Image.{Image, NamedAddress, IsWithinCode, symbol_in, type_symbols_of}
use Rattle.elf_image.specs.declared.limits.TheConstants.{ADDRESS_LIMIT}
use Rattle.elf_write.specs.Parts.{IsWord, HasNoZero, SymbolsFit}
use Rattle.elf_write.specs.declared.parts.OwnSymbol.{OwnSymbol}
use Rattle.gnu_rewrite.specs.Symbols.{kept_names, type_name}
use Rattle.gnu_rewrite_laws.proofs.Words.{Placed}
use Rattle.gnu_rewrite_laws.proofs.Table.{Name, named_own, function_own, mark_own, all_own}
use Rattle.gnu_rewrite_laws.proofs.Marks.{Mark, begins, marks_over, marks_for, marks_all}
use Rattle.gnu_rewrite_laws.proofs.Parts.{name_at, names_in, names_of, types_of, types_in}

-- ---- names

no_zero_both : (xs ys : List ℕ) → HasNoZero xs → HasNoZero ys → HasNoZero (xs ++ ys)
no_zero_both [] ys h k = k
no_zero_both (x ∷ xs) ys h k = (h.0, no_zero_both xs ys h.1 k)

test_some : (n : ℕ) → not (nat_eq n 0) ≡ true → n ≢ 0
test_some n h = grind (arith, nat_tests)

plain_step : (b c : Bool) → (b && c) ≡ true → (b ≡ true) × (c ≡ true)
plain_step true true h = (refl, refl)
plain_step true false h = absurd cc
plain_step false c h = absurd cc

plain : (xs : List ℕ) → list_all (λ x. not (nat_eq x 0)) xs ≡ true → HasNoZero xs
plain [] h = tt
plain (x ∷ xs) h = let both = plain_step (not (nat_eq x 0)) (list_all (λ x. not (nat_eq x 0)) xs) h in (test_some x both.0, plain xs both.1)

plain_all : (xs : List ℕ) → All (λ b. b ≢ 0) xs → HasNoZero xs
plain_all [] h = tt
plain_all (x ∷ xs) h = (All-head (λ (b : ℕ). b ≢ 0) x xs h, plain_all xs (All-tail (λ (b : ℕ). b ≢ 0) x xs h))

digit_some : (n : ℕ) → hex_digit n ≢ 0
digit_some n = by (nat_lt n 10)
  where
    by : (b : Bool) → cond b (48 + n) (55 + n) ≢ 0
    by true h = omega (arith, h)
    by false h = omega (arith, h)

digits_plain : (n : ℕ) (ks : List ℕ) → HasNoZero (map (λ k. hex_digit (n / 16 ^ k % 16)) ks)
digits_plain n [] = tt
digits_plain n (k ∷ ks) = (digit_some (n / 16 ^ k % 16), digits_plain n ks)

pub type_plain : (a : ℕ) → HasNoZero (type_name a)
unfolding type_name
type_plain a = no_zero_both (codes "_ZTI") (address_text a) (plain (codes "_ZTI") refl) (digits_plain a (7 ∷ 6 ∷ 5 ∷ 4 ∷ 3 ∷ 2 ∷ 1 ∷ 0 ∷ []))

-- ---- names with their addresses

abbrev pub NamesFit : List Name → Type 0
NamesFit [] = Unit {0}
NamesFit (n ∷ more) = HasNoZero n.0 × IsWord n.1 × NamesFit more

abbrev pub AllPlain : List (List ℕ) → Type 0
AllPlain [] = Unit {0}
AllPlain (name ∷ more) = HasNoZero name × AllPlain more

names_both : (xs ys : List Name) → NamesFit xs → NamesFit ys → NamesFit (xs ++ ys)
names_both [] ys h k = k
names_both (x ∷ xs) ys h k = (h.0, h.1, names_both xs ys h.2 k)

abbrev pub WordIn : Option ℕ → Type 0
WordIn None = Unit {0}
WordIn (Some a) = IsWord a

abbrev pub NamedIn : Option NamedAddress → Type 0
NamedIn None = Unit {0}
NamedIn (Some n) = IsWord n.address

found_step : (b : Bool) (n : NamedAddress) (o : Option NamedAddress) → IsWord n.address → NamedIn o → NamedIn (cond b (Some n) o)
found_step true n o h k = h
found_step false n o h k = k

found : (p : NamedAddress → Bool) (symbols : List NamedAddress) → Placed symbols → NamedIn (find p symbols)
found p [] h = tt
found p (n ∷ symbols) h = found_step (p n) n (find p symbols) h.0 (found p symbols h.1)

pub symbol_word : (image : Image) (name : List ℕ) → Placed image.symbols → WordIn (symbol_in image name)
symbol_word image name h = by (find (λ n. same_bytes n.name name) image.symbols) (found (λ n. same_bytes n.name name) image.symbols h)
  where
    by : (o : Option NamedAddress) → NamedIn o → WordIn (Rattle.std.specs.Prelude.option_map (λ (n : NamedAddress). n.address) o)
    by None h = tt
    by (Some n) h = h

name_fits : (name : List ℕ) (o : Option ℕ) → HasNoZero name → WordIn o → NamesFit (name_at name o)
name_fits name None h k = tt
name_fits name (Some a) h k = (h, k, tt)

names_fit : (image : Image) (names : List (List ℕ)) → AllPlain names → Placed image.symbols → NamesFit (names_in image names)
names_fit image [] h k = tt
names_fit image (name ∷ names) h k =
    subst NamesFit (sym (flat_map-cons (λ name. name_at name (symbol_in image name)) name names))
    (names_both (name_at name (symbol_in image name)) (names_in image names) (name_fits name (symbol_in image name) h.0 (symbol_word image name k)) (names_fit image names h.1 k))

plain_names : (names : List (List ℕ)) → list_all (λ name. list_all (λ x. not (nat_eq x 0)) name) names ≡ true → AllPlain names
plain_names [] h = tt
plain_names (name ∷ names) h =
    let both = plain_step (list_all (λ x. not (nat_eq x 0)) name) (list_all (λ name. list_all (λ x. not (nat_eq x 0)) name) names) h in
    (plain name both.0, plain_names names both.1)

kept_plain : AllPlain kept_names
kept_plain = plain_names kept_names refl

abbrev AllWords : List ℕ → Type 0
AllWords [] = Unit {0}
AllWords (a ∷ more) = IsWord a × AllWords more

types_fit : (addresses : List ℕ) → AllWords addresses → NamesFit (types_of addresses)
types_fit [] h = tt
types_fit (a ∷ addresses) h = (type_plain a, h.0, types_fit addresses h.1)

type_step : (b : Bool) (n : NamedAddress) (more : List NamedAddress) → IsWord n.address → AllWords (map (λ (n : NamedAddress). n.address) more) → AllWords (map (λ (n : NamedAddress). n.address) (cond b (n ∷ more) more))
type_step true n more h k = (h, k)
type_step false n more h k = k

type_words : (symbols : List NamedAddress) → Placed symbols → AllWords (type_symbols_of symbols)
type_words [] h = tt
type_words (n ∷ symbols) h =
    type_step (starts_with nat_eq n.name (codes "_ZTI")) n (filter (λ m. starts_with nat_eq m.name (codes "_ZTI")) symbols) h.0 (type_words symbols h.1)

-- ---- functions and marks

segment_low : (low : ℕ) (segments : List Segment) → RiseFrom low segments → low ≤ ADDRESS_LIMIT
segment_low low [] h = h
segment_low low (s ∷ segments) h = omega (arith, h.0, segment_low (s.start + s.size) segments h.3)

holder_low : (a low : ℕ) (segments : List Segment) (s : Segment) → RiseFrom low segments → segment_at segments a ≡ Some s → segment_end s ≤ ADDRESS_LIMIT
holder_low a low [] s h e = absurd cc
holder_low a low (x ∷ segments) s h e = by (holds a x) e (λ f. holder_low a (x.start + x.size) segments s h.3 f)
  where
    by : (b : Bool) → cond b (Some x) (segment_at segments a) ≡ Some s → (segment_at segments a ≡ Some s → segment_end s ≤ ADDRESS_LIMIT) → segment_end s ≤ ADDRESS_LIMIT
    by true e later = let same : x ≡ s = cc in subst (λ (t : Segment). segment_end t ≤ ADDRESS_LIMIT) same (segment_low (x.start + x.size) segments h.3)
    by false e later = later e

pub function_low : (segments : List Segment) (f : Function) → RiseFrom 0 segments → IsWithinCode segments f → f.end ≤ ADDRESS_LIMIT
function_low segments f h w = omega (arith, w.within, holder_low f.start 0 segments w.segment h w.holder)

fit_both : (xs ys : List OwnSymbol) → SymbolsFit xs → SymbolsFit ys → SymbolsFit (xs ++ ys)
fit_both [] ys h k = k
fit_both (x ∷ xs) ys h k = (h.0, h.1, h.2, fit_both xs ys h.3 k)

fit_names : (names : List Name) → NamesFit names → SymbolsFit (map named_own names)
fit_names [] h = tt
fit_names (n ∷ names) h = (h.0, h.1, omega arith, fit_names names h.2)

fit_functions : (segments : List Segment) (low : ℕ) (fs : List Function) → RiseFrom 0 segments → FunctionsFrom low fs → All (IsWithinCode segments) fs → SymbolsFit (map function_own fs)
fit_functions segments low [] r h w = tt
fit_functions segments low (f ∷ fs) r h w =
    let one = All-head (IsWithinCode segments) f fs w in
    let high = function_low segments f r one in (
      plain_all f.name one.named,
      omega (arith, high, h.1),
      omega (arith, high),
      fit_functions segments f.end fs r h.2 (All-tail (IsWithinCode segments) f fs w),
    )

fit_step : (b : Bool) (code : ℕ → Bool) (a : ℕ) (xs : List ℕ) (rest : List Mark) → a < 2 ^ 32 → SymbolsFit (map mark_own (map (λ x. (x, code x)) xs ++ rest))
    → SymbolsFit (map mark_own (map (λ x. (x, code x)) (cond b (a ∷ xs) xs) ++ rest))
fit_step true code a xs rest h k = (tt, h, omega arith, k)
fit_step false code a xs rest h k = k

fit_over : (code : ℕ → Bool) (start a n : ℕ) (rest : List Mark) → a + n ≤ ADDRESS_LIMIT → SymbolsFit (map mark_own rest) → SymbolsFit (map mark_own (marks_over code start a n ++ rest))
fit_over code start a zero rest h k = k
fit_over code start a (suc n) rest h k =
    fit_step (begins code start a) code a (filter (begins code start) (range_with_len (a + 1) n)) rest (omega (arith, h)) (fit_over code start (a + 1) n rest (omega (arith, h)) k)

fit_for : (b : Bool) (code : ℕ → Bool) (start size : ℕ) (rest : List Mark) → start + size ≤ ADDRESS_LIMIT → SymbolsFit (map mark_own rest)
    → SymbolsFit (map mark_own (cond b (marks_over code start start size) [] ++ rest))
fit_for true code start size rest h k = fit_over code start start size rest h k
fit_for false code start size rest h k = k

fit_marks : (code : ℕ → Bool) (low : ℕ) (segments : List Segment) → RiseFrom low segments → SymbolsFit (map mark_own (marks_all code segments))
fit_marks code low [] h = tt
fit_marks code low (s ∷ segments) h =
    subst (λ (ms : List Mark). SymbolsFit (map mark_own ms)) (sym (flat_map-cons (marks_for code) s segments))
    (fit_for s.exec code s.start s.size (marks_all code segments) (segment_low (s.start + s.size) segments h.3) (fit_marks code (s.start + s.size) segments h.3))

-- ---- all of them

pub all_fit : (image : Image) (code : ℕ → Bool) → RiseFrom 0 image.segments → FunctionsFrom 0 image.functions → All (IsWithinCode image.segments) image.functions → Placed image.symbols
    → SymbolsFit (all_own (names_of image) image.functions (types_in image) (marks_all code image.segments))
all_fit image code rise from within placed =
    fit_both (map named_own (names_of image) ++ map function_own image.functions ++ map named_own (types_in image)) (map mark_own (marks_all code image.segments))
    (fit_both (map named_own (names_of image) ++ map function_own image.functions) (map named_own (types_in image))
    (fit_both (map named_own (names_of image)) (map function_own image.functions) (fit_names (names_of image) (names_fit image kept_names kept_plain placed))
    (fit_functions image.segments 0 image.functions rise from within))
    (fit_names (types_in image) (types_fit (type_symbols_of image.symbols) (type_words image.symbols placed))))
    (fit_marks code 0 image.segments rise)
