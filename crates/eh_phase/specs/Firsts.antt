-- The first result in a list.
use Rattle.std.specs.Prelude.{List, [], ◌∷◌, Option, Some, None}

abbrev pub or_else : {A : Type 0} → Option A → Option A → Option A
or_else (Some x) more = Some x
or_else None more = more

-- the result for the first item that has one
unfoldable pub first_some : {A B : Type 0} → (A → Option B) → List A → Option B
first_some f [] = None
first_some f (x ∷ more) = or_else (f x) (first_some f more)
