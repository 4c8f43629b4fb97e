-- A list without a number that stands twice, as a test and as a fact.
use Rattle.std.proofs.Common.{◌≡◌, ℕ, ◌==◌, ◌||◌, ◌&&◌, not, Bool, true, false, List, [], ◌∷◌, IsTrue, ◌↔◌, refl, sym}
use Rattle.std.specs.List.{list_any, AllByRecursion, IsDistinct}
use Rattle.eh_codes.specs.Cut.{Item}
use Rattle.eh_bytecode.specs.Once.{popped_registers, PopsOnce}
use Rattle.frame_entries.specs.Unwinding.{are_distinct, pop_once}

or_false : (a b : Bool) → a ≡ false → b ≡ false → (a || b) ≡ false
or_false false b p q = q
or_false true b p q = p

false_or : (a b : Bool) → (a || b) ≡ false → (a ≡ false) × (b ≡ false)
false_or false b p = (refl, p)
false_or true b p = cc

none_any : (x : ℕ) (xs : List ℕ) → AllByRecursion (λ y. (x == y) ≡ false) xs → list_any (λ y. x == y) xs ≡ false
none_any x [] h = refl
none_any x (y ∷ more) (h, t) = or_false (x == y) _ h (none_any x more t)

any_none : (x : ℕ) (xs : List ℕ) → list_any (λ y. x == y) xs ≡ false → AllByRecursion (λ y. (x == y) ≡ false) xs
any_none x [] h = tt
any_none x (y ∷ more) h = let both = false_or (x == y) (list_any (λ z. x == z) more) h in (both.0, any_none x more both.1)

and_not : (a b : Bool) → a ≡ false → b ≡ true → (not a && b) ≡ true
and_not false b p q = q
and_not true b p q = cc

not_and : (a b : Bool) → (not a && b) ≡ true → (a ≡ false) × (b ≡ true)
not_and false b p = (refl, p)
not_and true b p = cc

distinct_test : (xs : List ℕ) → IsDistinct (λ j k. j == k) xs → are_distinct xs ≡ true
unfolding IsDistinct
distinct_test [] h = refl
distinct_test (x ∷ more) (h, t) = and_not (list_any (λ y. x == y) more) _ (none_any x more h) (distinct_test more t)

test_distinct : (xs : List ℕ) → are_distinct xs ≡ true → IsDistinct (λ j k. j == k) xs
unfolding IsDistinct
test_distinct [] h = tt
test_distinct (x ∷ more) h = let both = not_and (list_any (λ y. x == y) more) (are_distinct more) h in (any_none x more both.0, test_distinct more both.1)

same_tests : (a b : Bool) → (a ≡ true → b ≡ true) → (b ≡ true → a ≡ true) → a ≡ b
same_tests true b f g = sym (f refl)
same_tests false true f g = g refl
same_tests false false f g = refl

-- a test that tells whether codes pop no register twice is the one of the definition
pub once : (b : Bool) (items : List Item) → (IsTrue b ↔ PopsOnce items) → b ≡ pop_once items
unfolding pop_once
once b items h = same_tests b (are_distinct (popped_registers items)) (λ t. distinct_test (popped_registers items) (h.0 t)) (λ t. h.1 (test_distinct (popped_registers items) t))
