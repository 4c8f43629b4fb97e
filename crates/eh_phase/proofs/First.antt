-- The first of a list that gives something.
use Rattle.std.proofs.Common.{◌≡◌, List, [], ◌∷◌, ◌++◌, map, refl, sym, ◌∙◌, ap, Option, Some, None, true}
use Rattle.std.specs.Option.{is_some}
use Rattle.eh_phase.specs.Firsts.{first_some, or_else}

pub or_past : {B : Type 0} (o more : Option B) → o ≡ None → or_else o more ≡ more
or_past None more e = refl
or_past (Some x) more e = absurd cc

pub or_here : {B : Type 0} (o more : Option B) → is_some o ≡ true → or_else o more ≡ o
or_here None more e = absurd cc
or_here (Some x) more e = refl

pub or_assoc : {B : Type 0} (o p q : Option B) → or_else (or_else o p) q ≡ or_else o (or_else p q)
or_assoc None p q = refl
or_assoc (Some x) p q = refl

-- the first element gives nothing
pub first_past : {A B : Type 0} (f : A → Option B) (x : A) (more : List A) → f x ≡ None → first_some f (x ∷ more) ≡ first_some f more
unfolding first_some
first_past f x more e = or_past (f x) (first_some f more) e

-- the first element gives something
pub first_here : {A B : Type 0} (f : A → Option B) (x : A) (more : List A) → is_some (f x) ≡ true → first_some f (x ∷ more) ≡ f x
unfolding first_some
first_here f x more e = or_here (f x) (first_some f more) e

pub first_none : {A B : Type 0} (f : A → Option B) → first_some f [] ≡ None
unfolding first_some
first_none f = refl

pub first-append : {A B : Type 0} (f : A → Option B) (xs ys : List A) → first_some f (xs ++ ys) ≡ or_else (first_some f xs) (first_some f ys)
unfolding first_some
first-append f [] ys = refl
first-append f (x ∷ more) ys = ap (or_else (f x)) (first-append f more ys) ∙ sym (or_assoc (f x) (first_some f more) (first_some f ys))

pub first-map : {A B C : Type 0} (f : B → Option C) (h : A → B) (xs : List A) → first_some f (map h xs) ≡ first_some (λ x. f (h x)) xs
unfolding first_some
first-map f h [] = refl
first-map f h (x ∷ more) = ap (or_else (f (h x))) (first-map f h more)

-- two functions that give the same
pub first_same : {A B : Type 0} (f g : A → Option B) (xs : List A) → ((x : A) → f x ≡ g x) → first_some f xs ≡ first_some g xs
unfolding first_some
first_same f g [] same = refl
first_same f g (x ∷ more) same = ap (λ o. or_else o (first_some f more)) (same x) ∙ ap (or_else (g x)) (first_same f g more same)

pub first_gives : {A B : Type 0} (f : A → Option B) (x : A) (more : List A) (y : B) → f x ≡ Some y → first_some f (x ∷ more) ≡ Some y
unfolding first_some
first_gives f x more y e = ap (λ o. or_else o (first_some f more)) e
