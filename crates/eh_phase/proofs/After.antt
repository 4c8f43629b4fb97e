-- The items from an address on, one by one.
use Rattle.std.proofs.Common.{◌≡◌, ℕ, List, [], ◌∷◌, refl, ◌∙◌, Option, Some, None, true, false, Bool, cond, Result}
use Rattle.std.specs.Prelude.{◌&&◌, not, ◌==◌}
use Rattle.eh_desc.specs.declared.descriptor.Desc.{Desc}
use Rattle.eh_desc.specs.declared.descriptor.DescFault.{DescFault}
use Rattle.eh_phase.specs.Firsts.{first_some}
use Rattle.eh_phase.specs.Phases.{stands_at, from_descriptor, from_address}
use Rattle.eh_phase.proofs.First.{first_past, first_gives}

-- what is left to look at, where the items may still stand in front of the address
abbrev pub left : Bool → ℕ → List (Result Desc DescFault) → List (Result Desc DescFault)
left true at items = from_descriptor at items
left false at items = items

pub left_from : (at : ℕ) (items : List (Result Desc DescFault)) → left (not (at == 0)) at items ≡ from_address at items
left_from at items = go (at == 0)
  where
    go : (b : Bool) → left (not b) at items ≡ cond b items (from_descriptor at items)
    go true = refl
    go false = refl

pub left_past : {B : Type 0} (f : Result Desc DescFault → Option B) (before : Bool) (at : ℕ) (i : Result Desc DescFault) (more : List (Result Desc DescFault))
    → (before && not (stands_at at i)) ≡ true → first_some f (left before at (i ∷ more)) ≡ first_some f (left true at more)
unfolding from_descriptor
left_past f false at i more e = absurd cc
left_past f true at i more e = go (stands_at at i) e
  where
    go : (b : Bool) → not b ≡ true → first_some f (cond b (i ∷ more) (from_descriptor at more)) ≡ first_some f (from_descriptor at more)
    go true e = absurd cc
    go false e = refl

begun : {B : Type 0} (f : Result Desc DescFault → Option B) (before : Bool) (at : ℕ) (i : Result Desc DescFault) (more : List (Result Desc DescFault))
    → (before && not (stands_at at i)) ≡ false → first_some f (left before at (i ∷ more)) ≡ first_some f (i ∷ more)
unfolding from_descriptor
begun f false at i more e = refl
begun f true at i more e = go (stands_at at i) e
  where
    go : (b : Bool) → not b ≡ false → first_some f (cond b (i ∷ more) (from_descriptor at more)) ≡ first_some f (i ∷ more)
    go true e = refl
    go false e = absurd cc

pub left_on : {B : Type 0} (f : Result Desc DescFault → Option B) (before : Bool) (at : ℕ) (i : Result Desc DescFault) (more : List (Result Desc DescFault))
    → (before && not (stands_at at i)) ≡ false → f i ≡ None → first_some f (left before at (i ∷ more)) ≡ first_some f (left false at more)
left_on f before at i more e k = begun f before at i more e ∙ first_past f i more k

pub left_gives : {B : Type 0} (f : Result Desc DescFault → Option B) (before : Bool) (at : ℕ) (i : Result Desc DescFault) (more : List (Result Desc DescFault)) (x : B)
    → (before && not (stands_at at i)) ≡ false → f i ≡ Some x → first_some f (left before at (i ∷ more)) ≡ Some x
left_gives f before at i more x e k = begun f before at i more e ∙ first_gives f i more x k

pub left_none : {B : Type 0} (f : Result Desc DescFault → Option B) (before : Bool) (at : ℕ) → first_some f (left before at []) ≡ None
unfolding from_descriptor first_some
left_none f true at = refl
left_none f false at = refl
