-- The function that holds an address begins there, or none does.
use Rattle.std.specs.Prelude.{MatchOption, slice_get, option_map}
use Rattle.std.proofs.Common.{◌≡◌, ℕ, ◌+◌, ◌-◌, ◌<◌, ◌≤◌, ◌==◌, ◌||◌, Bool, true, false, List, [], ◌∷◌, length, Option, Some, None, suc, refl, sym, arith}
use Rattle.std.proofs.lemmas.Option.{slice_get_within}
use Rattle.std.proofs.lemmas.Bool.Decides.{nat_tests}
use Rattle.std.specs.List.{position_from}
use Rattle.elf_image.specs.Functions.{Function, FunctionsFrom, is_inside}
use Rattle.run_images.specs.Start.{begins_function}

starts_past : (low start a : ℕ) → low ≤ start → a < low → (start == a) ≡ false
starts_past low start a h below = grind (arith, nat_tests)

none_below : (functions : List Function) (low a : ℕ) → FunctionsFrom low functions → a < low → begins_function functions a ≡ false
none_below [] low a h below = refl
none_below (f ∷ more) low a h below =
    let first : f.start < f.end = h.1 in
    let above : low ≤ f.start = h.0 in
    rw (starts_past low f.start a h.0 below) (none_below more f.end a h.2 (omega arith))

-- an address that a function does not hold is not its start
not_inside : (start end a : ℕ) (name : List ℕ) → start < end → is_inside a (record { name = name; start = start; end = end }) ≡ false → (start == a) ≡ false
not_inside start end a name h e = grind (arith, nat_tests)

inside_below : (f : Function) (a : ℕ) → is_inside a f ≡ true → a < f.end
inside_below f a e = grind (arith, nat_tests)

or_false : (b c : Bool) → c ≡ false → (b || c) ≡ b
or_false true c e = refl
or_false false c e = e

pub starts_none : (functions : List Function) (k low a : ℕ) → FunctionsFrom low functions → position_from (is_inside a) k functions ≡ None
    → false ≡ begins_function functions a
starts_none [] k low a h e = refl
starts_none (f ∷ more) k low a h e = go (is_inside a f) refl (starts_none more (k + 1) f.end a h.2)
  where
    go : (b : Bool) → is_inside a f ≡ b → (position_from (is_inside a) (k + 1) more ≡ None → false ≡ begins_function more a) → false ≡ begins_function (f ∷ more) a
    go true is rest = absurd (let no = rw is at e in cc)
    go false is rest = rw (not_inside f.start f.end a f.name h.1 is) (rest (rw is at e))

none_is : (n : ℕ) → None ≡ Some n → ⊥
none_is n e = cc

pub starts_some : (functions : List Function) (k low a n : ℕ) → FunctionsFrom low functions → position_from (is_inside a) k functions ≡ Some n
    → (k ≤ n) × MatchOption (slice_get functions (n - k)) ⊥ (λ (f : Function). (f.start == a) ≡ begins_function functions a)
starts_some [] k low a n h e = absurd (none_is n e)
starts_some (f ∷ more) k low a n h e = go (is_inside a f) refl (starts_some more (k + 1) f.end a n h.2)
  where
    go : (b : Bool) → is_inside a f ≡ b
        → (position_from (is_inside a) (k + 1) more ≡ Some n → (k + 1 ≤ n) × MatchOption (slice_get more (n - (k + 1))) ⊥ (λ (g : Function). (g.start == a) ≡ begins_function more a))
        → (k ≤ n) × MatchOption (slice_get (f ∷ more) (n - k)) ⊥ (λ (g : Function). (g.start == a) ≡ begins_function (f ∷ more) a)
    go true is rest =
        let found : Some k ≡ Some n = rw is at e in
        let same : k ≡ n = cc in
        let first : n - k ≡ 0 = omega arith in
        (omega arith, rw first (sym (or_false _ _ (none_below more f.end a h.2 (inside_below f a is)))))
    go false is rest =
        let later = rest (rw is at e) in
        let above : k + 1 ≤ n = later.0 in
        let next : n - k ≡ suc (n - (k + 1)) = omega arith in
        let skips : begins_function (f ∷ more) a ≡ begins_function more a = rw (not_inside f.start f.end a f.name h.1 is) refl in
        (omega arith, rw (next, skips) later.1)

some_start : (o : Option Function) (start a : ℕ) (b : Bool) → option_map (λ (f : Function). f.start) o ≡ Some start
    → MatchOption o ⊥ (λ (f : Function). (f.start == a) ≡ b) → (start == a) ≡ b
some_start None start a b e h = absurd h
some_start (Some f) start a b e h = let same : f.start ≡ start = cc in rw (← same) h

some_within : (functions : List Function) (n : ℕ) (o : Option Function) (P : Function → Type 0) → slice_get functions n ≡ o → MatchOption o ⊥ P → n < length functions
some_within functions n None P e h = absurd h
some_within functions n (Some f) P e h = slice_get_within functions n f e

-- the number that the search gives
pub number_within : (functions : List Function) (a n : ℕ) → FunctionsFrom 0 functions → Some n ≡ position_from (is_inside a) 0 functions → n < length functions
number_within functions a n h e =
    let zero_less : n - 0 ≡ n = omega arith in
    some_within functions n _ _ refl (rw zero_less at (starts_some functions 0 0 a n h (sym e)).1)

pub number_starts : (functions : List Function) (a n start : ℕ) → FunctionsFrom 0 functions → Some n ≡ position_from (is_inside a) 0 functions
    → option_map (λ (f : Function). f.start) (slice_get functions n) ≡ Some start → (start == a) ≡ begins_function functions a
number_starts functions a n start h e is =
    let zero_less : n - 0 ≡ n = omega arith in
    some_start (slice_get functions n) start a _ is (rw zero_less at (starts_some functions 0 0 a n h (sym e)).1)
