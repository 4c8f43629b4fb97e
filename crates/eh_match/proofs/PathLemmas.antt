-- What a walk knows of a path is what the definitions say of its steps.
use Rattle.std.proofs.Common.{◌≡◌, ℕ, List, [], ◌∷◌, Bool, true, false, Some, Result, refl, arith, ◌∙◌, ap}
use Rattle.std.specs.Prelude.{◌&&◌, if◌then◌else◌}
use Rattle.std.specs.List.{fold, list_all}
use Rattle.eh_bus.specs.Segment.{Segment}
use Rattle.eh_types.specs.declared.kind.Base.{Base}
use Rattle.eh_match.specs.declared.path.Path.{Path}
use Rattle.eh_match.specs.Paths.{end_of, is_public, root_of, offset_of, at_offset}
use Rattle.eh_match.specs.Address.{address}
use Rattle.eh_match.specs.Walk.{empty_path, along, path_of}

and_assoc : (a b c : Bool) → (a && b) && c ≡ a && (b && c)
and_assoc true b c = refl
and_assoc false b c = refl

-- what holds of a path of these steps
abbrev pub summary : List Segment → ℕ → Result ℕ ℕ → List Base → Path
summary segments ty at steps = record { ty = end_of ty steps; is_public = is_public steps; root = root_of steps; offset = offset_of steps; at = address segments at steps }

-- the same after a path
abbrev further : List Segment → Path → List Base → Path
further segments p steps = record {
  ty = fold (λ reached (b : Base). b.ty) p.ty steps;
  is_public = p.is_public && list_all (λ (b : Base). b.is_public) steps;
  root = fold (λ root (b : Base). if b.is_virtual then Some b.ty else root) p.root steps;
  offset = fold (λ offset (b : Base). if b.is_virtual then 0 else at_offset offset b.offset) p.offset steps;
  at = address segments p.at steps;
}

path_of_further : (segments : List Segment) (p : Path) (steps : List Base) → path_of segments p steps ≡ further segments p steps
path_of_further segments p [] = grind arith
path_of_further segments p (b ∷ more) = path_of_further segments (along segments p b) more ∙ ap (λ is_public. record (further segments (along segments p b) more) { is_public = is_public }) (and_assoc p.is_public b.is_public (list_all (λ (c : Base). c.is_public) more))

pub path_of_whole : (segments : List Segment) (ty : ℕ) (at : Result ℕ ℕ) (steps : List Base) → path_of segments (empty_path ty at) steps ≡ summary segments ty at steps
path_of_whole segments ty at steps = path_of_further segments (empty_path ty at) steps
