-- The answers for all of a list, one after the other.
use Rattle.std.proofs.Common.{◌≡◌, ℕ, ◌+◌, ◌<◌, List, [], ◌∷◌, ◌++◌, Result, Ok, Err, refl, sym, ap, ◌∙◌, append_assoc, append-nil, get_or, drop, length}
use Rattle.std.proofs.lemmas.List.{drop_more}
use Rattle.cmd_input.specs.Sources.{all_answers, and_rest}

-- answers so far before those of the rest
abbrev pub after : {B : Type 0} → List B → Result (List B) (List ℕ) → Result (List B) (List ℕ)
after sofar (Ok rest) = Ok (sofar ++ rest)
after sofar (Err line) = Err line

after_one : {B : Type 0} (sofar : List B) (y : B) (rest : Result (List B) (List ℕ)) → after sofar (and_rest (Ok y) rest) ≡ after (sofar ++ y ∷ []) rest
after_one sofar y (Ok answers) = ap Ok (sym (append_assoc sofar (y ∷ []) answers))
after_one sofar y (Err line) = refl

one_more : {A B : Type 0} (f : A → Result B (List ℕ)) (sofar : List B) (x : A) (y : B) (more : List A)
    → f x ≡ Ok y → after sofar (all_answers f (x ∷ more)) ≡ after (sofar ++ y ∷ []) (all_answers f more)
unfolding all_answers
one_more f sofar x y more e = rw e (after_one sofar y (all_answers f more))

no_more : {A B : Type 0} (f : A → Result B (List ℕ)) (sofar : List B) (x : A) (line : List ℕ) (more : List A)
    → f x ≡ Err line → after sofar (all_answers f (x ∷ more)) ≡ Err line
unfolding all_answers
no_more f sofar x line more e = rw e refl

all_done : {A B : Type 0} (f : A → Result B (List ℕ)) (sofar : List B) → after sofar (all_answers f []) ≡ Ok sofar
unfolding all_answers
all_done f sofar = rw append-nil refl

-- the item of a loop is the first that is left
pub item_first : {A : Type 0} (xs : List A) (i : ℕ) (x : A) → i < length xs → x ≡ get_or xs i x → drop i xs ≡ x ∷ drop (i + 1) xs
item_first xs i x h e = drop_more xs i x h ∙ ap (λ y. y ∷ drop (i + 1) xs) (sym e)

-- an answer joins those so far
pub joined : {A B : Type 0} (f : A → Result B (List ℕ)) (sofar all : List B) (x : A) (y : B) (rest more : List A)
    → rest ≡ x ∷ more → f x ≡ Ok y → all ≡ sofar ++ y ∷ [] → after sofar (all_answers f rest) ≡ after all (all_answers f more)
joined f sofar all x y rest more e h a = rw (e, a) (one_more f sofar x y more h)

-- a refusal is the whole answer
pub refused_at : {A B : Type 0} (f : A → Result B (List ℕ)) (sofar : List B) (x : A) (line : List ℕ) (rest more : List A)
    → rest ≡ x ∷ more → f x ≡ Err line → after sofar (all_answers f rest) ≡ Err line
refused_at f sofar x line rest more e h = rw e (no_more f sofar x line more h)

-- nothing is left
pub ended : {A B : Type 0} (f : A → Result B (List ℕ)) (sofar : List B) (rest : List A) → rest ≡ [] → after sofar (all_answers f rest) ≡ Ok sofar
ended f sofar rest e = rw e (all_done f sofar)
