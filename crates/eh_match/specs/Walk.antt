-- What a walk over the bases carries.
use Rattle.std.specs.Prelude.{ℕ, Bool, true, ◌==◌, ◌&&◌, List, Option, Some, None, Result, if◌then◌else◌}
use Rattle.std.specs.List.{fold}
use Rattle.eh_bus.specs.Segment.{Segment}
use Rattle.eh_types.specs.declared.kind.Base.{Base}
use Rattle.eh_types.specs.Graph.{Row, same_type}
use Rattle.eh_match.specs.declared.path.Path.{Path}
use Rattle.eh_match.specs.declared.seen.BaseLookup.{BaseLookup}
use Rattle.eh_match.specs.declared.seen.BaseLookup.TheVariants.{Nothing, One, Parted}
use Rattle.eh_match.specs.Paths.{at_offset}
use Rattle.eh_match.specs.Address.{address_after_step}
use Rattle.eh_match.specs.Subobjects.{same_root}

-- no step
abbrev pub empty_path : ℕ → Result ℕ ℕ → Path
empty_path ty at = record { ty = ty; is_public = true; root = None; offset = 0; at = at }

-- a step further
abbrev pub along : List Segment → Path → Base → Path
along segments p b = record {
  ty = b.ty;
  is_public = p.is_public && b.is_public;
  root = if b.is_virtual then Some b.ty else p.root;
  offset = if b.is_virtual then 0 else at_offset p.offset b.offset;
  at = address_after_step segments p.at b;
}

abbrev pub path_of : List Segment → Path → List Base → Path
path_of segments p steps = fold (along segments) p steps

abbrev pub is_alike : List Row → Path → Path → Bool
is_alike g p q = p.offset == q.offset && same_root g p.root q.root

abbrev pub public_at : Path → Option (Result ℕ ℕ)
public_at p = if p.is_public then Some p.at else None

abbrev pub or_public_address : Option (Result ℕ ℕ) → Path → Option (Result ℕ ℕ)
or_public_address (Some a) p = Some a
or_public_address None p = public_at p

abbrev pub with_path : List Row → BaseLookup → Path → BaseLookup
with_path g Nothing p = One p (public_at p)
with_path g (One first held) p = if is_alike g first p then One first (or_public_address held p) else Parted
with_path g Parted p = Parted

unfoldable pub with_path_if_wanted : List Row → ℕ → BaseLookup → Path → BaseLookup
with_path_if_wanted g wanted seen p = if same_type g p.ty wanted then with_path g seen p else seen

abbrev pub public_address : BaseLookup → Option (Result ℕ ℕ)
public_address Nothing = None
public_address (One first held) = held
public_address Parted = None
