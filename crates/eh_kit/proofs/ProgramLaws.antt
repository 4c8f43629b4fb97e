-- The laws above the numbers and the functions of a generated program.
use Rattle.std.proofs.Common.{◌≡◌, ◌≢◌, ℕ, zero, suc, ◌+◌, ◌/◌, ◌%◌, ◌<◌, ◌≤◌, nat_lt, true, false, List, [], ◌∷◌, ◌++◌, length, map, take, refl, sym, ap, ◌∙◌, arith, add-one, zero-add}
use Rattle.std.specs.Prelude.{All, AllPairs, codes, decimal}
use Rattle.std.specs.List.{range_with_len}
use Rattle.std.proofs.lemmas.Bool.Decides.{nat_tests}
use Rattle.std.proofs.lemmas.Fmt.{decimal_injective}
use Rattle.std.proofs.lemmas.List.{take-append-le}
use Rattle.std.proofs.lemmas.List.Elements.{All-cons}
use Rattle.std.proofs.lemmas.List.FromFn.{length-map-range_with_len, take-map-range_with_len}
use Rattle.std.proofs.lemmas.List.Kept.{AllPairs-cons}
use Rattle.eh_kit.specs.declared.program.FunctionName.{FunctionName}
use Rattle.eh_kit.specs.declared.program.FunctionName.TheVariants.{Main, Numbered, Boom}
use Rattle.eh_kit.specs.declared.program.FunctionKind.{FunctionKind}
use Rattle.eh_kit.specs.declared.program.FunctionKind.TheVariants.{CatchAll}
use Rattle.eh_kit.specs.declared.program.Caller.{Caller}
use Rattle.eh_kit.specs.declared.program_text.TheConstants.{MAX_FUNCTIONS}
use Rattle.eh_kit.specs.Program.{random_number, kind_numbered, kind_of, nth_caller, callers}
use Rattle.eh_kit.specs.ProgramText.{name_text}
use Rattle.eh_kit.specs.Laws.{DrawnAsRand, FirstOfNumberOne, EachCallsTheNext, NamesDiffer, LongerBeginsAlike, function_names}

-- ---- numbers

lower_bits : (n : ℕ) → n % 4 ≡ n % 32768 % 4
lower_bits n = omega arith

pub drawn_as_rand : DrawnAsRand
unfolding random_number
drawn_as_rand = (refl, λ x. ap (λ (n : ℕ). kind_numbered n) (lower_bits (x / 65536)))

pub first_of_number_one : FirstOfNumberOne
unfolding random_number
first_of_number_one = refl

-- ---- calls

name_of : Caller → FunctionName
name_of f = f.name

calls_from : (number functions a k : ℕ) → a + suc k ≡ functions
    → Numbered a ∷ map (λ (f : Caller). f.callee) (map (nth_caller number functions) (range_with_len a (suc k)))
    ≡ map (λ (f : Caller). f.name) (map (nth_caller number functions) (range_with_len a (suc k))) ++ Boom ∷ []
calls_from number functions a zero e =
    let last : nat_lt (a + 1) functions ≡ false = grind (arith, nat_tests) in
    rw last refl
calls_from number functions a (suc k) e =
    let more : nat_lt (a + 1) functions ≡ true = grind (arith, nat_tests) in
    rw more (ap (λ (l : List FunctionName). Numbered a ∷ l) (calls_from number functions (a + 1) k (omega arith)))

pub each_calls_the_next : EachCallsTheNext
each_calls_the_next number zero h = absurd (omega arith)
each_calls_the_next number (suc k) h = calls_from number (suc k) 0 k (zero-add (suc k))

-- ---- names

-- the names of functions from a number on, and `boom`
abbrev names_from : ℕ → ℕ → ℕ → ℕ → List (List ℕ)
names_from number functions a k = map name_text (map (λ (f : Caller). f.name) (map (nth_caller number functions) (range_with_len a k)) ++ Boom ∷ [])

tail_same : (x y : ℕ) (xs ys : List ℕ) → x ∷ xs ≡ y ∷ ys → xs ≡ ys
tail_same x y xs ys e = cc

begins_other : (x y : ℕ) (xs ys : List ℕ) → x ≢ y → x ∷ xs ≢ y ∷ ys
begins_other x y xs ys n e = let same : x ≡ y = cc in n same

nothing : {X : Type 0} (P : X → Type 0) → All P []
nothing P k d h = absurd (omega arith)

no_pairs : {X : Type 0} (R : X → X → Type 0) → AllPairs R []
no_pairs R i j d h k = absurd (omega arith)

from_main : (number functions a k : ℕ) → All (λ t. codes "main" ≢ t) (names_from number functions a k)
from_main number functions a zero = All-cons (λ t. codes "main" ≢ t) (codes "boom") [] (begins_other 109 98 (codes "ain") (codes "oom") (omega arith)) (nothing (λ t. codes "main" ≢ t))
from_main number functions a (suc k) = All-cons (λ t. codes "main" ≢ t) (codes "f" ++ decimal a) (names_from number functions (a + 1) k) (begins_other 109 102 (codes "ain") (decimal a) (omega arith)) (from_main number functions (a + 1) k)

from_one : (number functions x a k : ℕ) → x < a → a + k ≤ MAX_FUNCTIONS → All (λ t. codes "f" ++ decimal x ≢ t) (names_from number functions a k)
from_one number functions x a zero h m = All-cons (λ t. codes "f" ++ decimal x ≢ t) (codes "boom") [] (begins_other 102 98 (decimal x) (codes "oom") (omega arith)) (nothing (λ t. codes "f" ++ decimal x ≢ t))
from_one number functions x a (suc k) h m =
    All-cons (λ t. codes "f" ++ decimal x ≢ t) (codes "f" ++ decimal a) (names_from number functions (a + 1) k)
    (λ e. let same : x ≡ a = decimal_injective x a (omega arith) (omega arith) (tail_same 102 102 (decimal x) (decimal a) e) in absurd (omega arith))
    (from_one number functions x (a + 1) k (omega arith) (omega arith))

apart_from : (number functions a k : ℕ) → a + k ≤ MAX_FUNCTIONS → AllPairs (λ s t. s ≢ t) (names_from number functions a k)
apart_from number functions a zero m = AllPairs-cons (λ s t. s ≢ t) (codes "boom") [] (nothing (λ t. codes "boom" ≢ t)) (no_pairs (λ s t. s ≢ t))
apart_from number functions a (suc k) m =
    AllPairs-cons (λ s t. s ≢ t) (codes "f" ++ decimal a) (names_from number functions (a + 1) k)
    (from_one number functions a (a + 1) k (omega arith) (omega arith))
    (apart_from number functions (a + 1) k (omega arith))

pub names_differ : NamesDiffer
names_differ number functions m =
    AllPairs-cons (λ s t. s ≢ t) (codes "main") (names_from number functions 0 functions) (from_main number functions 0 functions)
    (apart_from number functions 0 functions (omega arith))

-- ---- longer programs

-- names are by the number alone
named : (number functions a k : ℕ) → map (λ (f : Caller). f.name) (map (nth_caller number functions) (range_with_len a k)) ≡ map (λ i. Numbered i) (range_with_len a k)
named number functions a zero = refl
named number functions a (suc k) = ap (λ (l : List FunctionName). Numbered a ∷ l) (named number functions (a + 1) k)

-- what a function does is by the number that is drawn for it
done : (number functions a k : ℕ) → map (λ (f : Caller). f.kind) (map (nth_caller number functions) (range_with_len a k)) ≡ map (λ i. kind_of (random_number number (i + 1))) (range_with_len a k)
done number functions a zero = refl
done number functions a (suc k) = ap (λ (l : List FunctionKind). kind_of (random_number number (a + 1)) ∷ l) (done number functions (a + 1) k)

first_named : (functions all : ℕ) → functions ≤ all → take functions (map (λ i. Numbered i) (range_with_len 0 all) ++ Boom ∷ []) ≡ map (λ i. Numbered i) (range_with_len 0 functions)
first_named functions all h =
    let many : functions ≤ length (map (λ i. Numbered i) (range_with_len 0 all)) = omega (arith, length-map-range_with_len (λ i. Numbered i) 0 all) in
    take-append-le functions (map (λ i. Numbered i) (range_with_len 0 all)) (Boom ∷ []) many ∙ take-map-range_with_len (λ i. Numbered i) 0 all functions h

names_first : (number functions all : ℕ) → functions ≤ all → take (functions + 1) (function_names number all) ≡ Main ∷ map (λ i. Numbered i) (range_with_len 0 functions)
names_first number functions all h = rw (add-one functions, named number all 0 all) (ap (λ (l : List FunctionName). Main ∷ l) (first_named functions all h))

kinds_first : (number functions more : ℕ) → take (functions + 1) (map (λ (f : Caller). f.kind) (callers number (functions + more))) ≡ map (λ (f : Caller). f.kind) (callers number functions)
kinds_first number functions more =
    rw (add-one functions, done number (functions + more) 0 (functions + more), done number functions 0 functions)
    (ap (λ (l : List FunctionKind). CatchAll ∷ l) (take-map-range_with_len (λ i. kind_of (random_number number (i + 1))) 0 (functions + more) functions (omega arith)))

pub longer_begins_alike : LongerBeginsAlike
longer_begins_alike number functions more = (names_first number functions (functions + more) (omega arith) ∙ sym (names_first number functions functions (omega arith)), kinds_first number functions more)
