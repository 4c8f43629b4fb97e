-- Tests of the items of a list, one after the other.
use Rattle.std.proofs.Common.{◌≡◌, ◌||◌, Bool, true, false, List, [], ◌∷◌, refl, sym, ap, ◌∙◌}
use Rattle.std.specs.List.{list_any}

false_or : (a b : Bool) → a ≡ false → b ≡ (a || b)
false_or false b p = refl
false_or true b p = cc

true_or : (a b : Bool) → a ≡ true → true ≡ (a || b)
true_or true b p = refl
true_or false b p = cc

-- the first item fails the test
pub any_past : {X : Type 0} → (test : X → Bool) (x : X) (items more : List X) → items ≡ x ∷ more → test x ≡ false → list_any test more ≡ list_any test items
any_past test x items more e h = false_or (test x) (list_any test more) h ∙ sym (ap (λ l. list_any test l) e)

-- it passes
pub any_here : {X : Type 0} → (test : X → Bool) (x : X) (items more : List X) → items ≡ x ∷ more → test x ≡ true → true ≡ list_any test items
any_here test x items more e h = true_or (test x) (list_any test more) h ∙ sym (ap (λ l. list_any test l) e)

-- there is none
pub any_none : {X : Type 0} → (test : X → Bool) (items : List X) → items ≡ [] → false ≡ list_any test items
any_none test items e = sym (ap (λ l. list_any test l) e)
