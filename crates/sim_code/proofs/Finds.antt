-- What a search of a list finds is in it.
use Rattle.std.proofs.Common.{◌≡◌, Bool, true, false, cond, List, [], ◌∷◌, Some, refl, subst}
use Rattle.std.specs.Prelude.{Contains, find}
use Rattle.std.proofs.lemmas.Option.{same_Some, none-some}
use Rattle.frame_dataflow.proofs.Work.{contains_head, contains_tail}

pub found_in : {X : Type 0} (q : X → Bool) (xs : List X) (s : X) → find q xs ≡ Some s → Contains xs s × (q s ≡ true)
found_in q [] s e = absurd (none-some s e)
found_in q (x ∷ xs) s e = go (q x) refl e (found_in q xs s)
  where
    go : (b : Bool) → q x ≡ b → cond b (Some x) (find q xs) ≡ Some s → (find q xs ≡ Some s → Contains xs s × (q s ≡ true)) → Contains (x ∷ xs) s × (q s ≡ true)
    go true is e later = let w : x ≡ s = same_Some x s e in (subst (λ y. Contains (x ∷ xs) y) w (contains_head x xs), subst (λ y. q y ≡ true) w is)
    go false is e later = let w = later e in (contains_tail s x xs w.0, w.1)
