-- The paths of a type: lists of steps to bases (docs/rules/types-and-matching.md).
use Rattle.std.specs.Prelude.{ℕ, ℤ, zero, suc, ◌+◌, ◌%◌, ◌^◌, Bool, List, [], ◌∷◌, map, Option, Some, None, if◌then◌else◌}
use Rattle.std.specs.List.{fold, flat_map, list_all}
use Rattle.std.specs.Int.{cast_unsigned, w32}
use Rattle.eh_types.specs.declared.kind.Base.{Base}
use Rattle.eh_types.specs.Graph.{Row, bases_of}

-- all paths of a type with fewer than n steps, depth first: the path without steps, and then those through each base in order
unfoldable pub paths : List Row → ℕ → ℕ → List (List Base)
paths g zero ty = []
paths g (suc n) ty = [] ∷ flat_map (λ b. map (λ steps. b ∷ steps) (paths g n b.ty)) (bases_of g ty)

-- the type that a path of ty leads to
abbrev pub end_of : ℕ → List Base → ℕ
end_of ty steps = fold (λ reached b. b.ty) ty steps

-- a path is public where each of its steps is
abbrev pub is_public : List Base → Bool
is_public steps = list_all (λ b. b.is_public) steps

-- the sum of an address and an offset, as a word
abbrev pub at_offset : ℕ → ℤ → ℕ
at_offset a offset = (a + cast_unsigned w32 offset) % 2 ^ 32

-- a path's subobject is identified by the type that its last virtual step reaches, None for the whole object ..
abbrev pub root_of : List Base → Option ℕ
root_of steps = fold (λ root b. if b.is_virtual then Some b.ty else root) None steps

-- .. and by the sum of the offsets after that step
abbrev pub offset_of : List Base → ℕ
offset_of steps = fold (λ offset b. if b.is_virtual then 0 else at_offset offset b.offset) 0 steps
