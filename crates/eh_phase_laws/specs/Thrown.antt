-- What the descriptors of a frame do with a thrown object (IHI 0038, "Phase 1 unwinding"; docs/rules/phases-and-exceptions.md): laws that relate the search
-- to the match of the thrown type with the types that the descriptors name.
use Rattle.std.specs.Prelude.{◌≡◌, ℕ, ◌<◌, Bool, List, ◌∷◌, Option, Result, Ok, unwrap_or}
use Rattle.eh_bus.specs.Segment.{Segment}
use Rattle.elf_image.specs.Image.{Image}
use Rattle.thumb_core.specs.declared.ends.Cause.{Cause}
use Rattle.eh_types.specs.Graph.{Row}
use Rattle.eh_match.specs.declared.rules.Match.{Match}
use Rattle.eh_match.specs.declared.rules.Match.TheVariants.{Failed, Object, PointerToBase, Unreadable}
use Rattle.eh_match.specs.Rules.{match_of}
use Rattle.eh_desc.specs.declared.descriptor.CatchType.TheVariants.{All, One}
use Rattle.eh_desc.specs.declared.descriptor.DescKind.TheVariants.{Catch, Spec}
use Rattle.eh_desc.specs.declared.descriptor.Desc.{Desc}
use Rattle.eh_desc.specs.declared.descriptor.DescFault.{DescFault}
use Rattle.eh_desc.specs.Grammar.{type_in}
use Rattle.eh_phase.specs.declared.verdict.Thrown.{Thrown}
use Rattle.eh_phase.specs.declared.phase1.Found.{Found}
use Rattle.eh_phase.specs.declared.phase1.Found.TheVariants as found
use Rattle.eh_phase.specs.Calls.{meeting}
use Rattle.eh_phase.specs.Phases.{Frame, phase1}
use Rattle.eh_phase_laws.specs.Catches.{frames, IsInside}

-- an image with its types, a memory, and what is thrown there
pub record Throw : Type 0 where
  pub image : Image
  pub types : List Row
  pub memory : List Segment
  pub what : Thrown

-- how the thrown object is caught as a type
abbrev pub match_as : Throw → ℕ → Match
match_as t wanted = match_of t.types t.memory t.what.ty t.what.object wanted

-- what the search finds if the innermost frame has these descriptors
abbrev pub search : Throw → Frame → List (Result Desc DescFault) → List Frame → Cause → Found
search t f items outer last = phase1 (meeting t.image t.types t.memory t.what) (frames f items outer last)

-- a descriptor of the innermost frame stops the throw, and its handler is given this
abbrev pub barrier_at : Frame → Desc → Match → Found
barrier_at f d hit = found.Barrier (record { sp = f.sp; desc = d.at; site = f.site; hit = hit })

-- a catch of everything stops every object, with the object itself; a catch of a type depends on the match of the thrown object with it
pub record Catches (t : Throw) (f : Frame) (d : Desc) (pad : ℕ) (reference : Bool) (more : List (Result Desc DescFault)) (outer : List Frame) (last : Cause) : Type 0 where
  pub everything : d.kind ≡ Catch pad reference All → search t f (Ok d ∷ more) outer last ≡ barrier_at f d (Object t.what.object)
  pub object : (type x : ℕ) → d.kind ≡ Catch pad reference (One type) → match_as t type ≡ Object x → search t f (Ok d ∷ more) outer last ≡ barrier_at f d (Object x)
  pub pointer : (type x : ℕ) → d.kind ≡ Catch pad reference (One type) → match_as t type ≡ PointerToBase x → search t f (Ok d ∷ more) outer last ≡ barrier_at f d (PointerToBase x)
  pub silent : (type : ℕ) → d.kind ≡ Catch pad reference (One type) → match_as t type ≡ Failed → search t f (Ok d ∷ more) outer last ≡ search t f more outer last
  pub unreadable : (type a : ℕ) → d.kind ≡ Catch pad reference (One type) → match_as t type ≡ Unreadable a → search t f (Ok d ∷ more) outer last ≡ found.ObjectRead a

abbrev pub CatchesAskTheMatch : Type 0
CatchesAskTheMatch =
    (t : Throw) (f : Frame) (d : Desc) (pad : ℕ) (reference : Bool) (more : List (Result Desc DescFault)) (outer : List Frame) (last : Cause)
    → IsInside f.site d → Catches t f d pad reference more outer last

-- the match of the thrown object with type i of a specification; a word that names no type is type 0
abbrev pub match_as_spec_type : Throw → ℕ → ℕ → Option ℕ → ℕ → Match
match_as_spec_type t types count pad i = match_as t (unwrap_or (type_in t.image.segments (Spec types count pad) i) 0)

-- the object isn't caught as one of the types below type i
abbrev pub NoneBelow : Throw → ℕ → ℕ → Option ℕ → ℕ → Type 0
NoneBelow t types count pad i = (j : ℕ) → j < i → match_as_spec_type t types count pad j ≡ Failed

-- a specification stops an object, with the object itself, that matches none of its types; the first type that matches lets it pass
pub record Specifies (t : Throw) (f : Frame) (d : Desc) (types count : ℕ) (pad : Option ℕ) (more : List (Result Desc DescFault)) (outer : List Frame) (last : Cause) : Type 0 where
  pub violated : NoneBelow t types count pad count → search t f (Ok d ∷ more) outer last ≡ barrier_at f d (Object t.what.object)
  pub object : (i x : ℕ) → i < count → NoneBelow t types count pad i → match_as_spec_type t types count pad i ≡ Object x → search t f (Ok d ∷ more) outer last ≡ search t f more outer last
  pub pointer : (i x : ℕ) → i < count → NoneBelow t types count pad i → match_as_spec_type t types count pad i ≡ PointerToBase x → search t f (Ok d ∷ more) outer last ≡ search t f more outer last
  pub unreadable : (i a : ℕ) → i < count → NoneBelow t types count pad i → match_as_spec_type t types count pad i ≡ Unreadable a → search t f (Ok d ∷ more) outer last ≡ found.ObjectRead a

abbrev pub SpecificationsAskTheMatch : Type 0
SpecificationsAskTheMatch =
    (t : Throw) (f : Frame) (d : Desc) (types count : ℕ) (pad : Option ℕ) (more : List (Result Desc DescFault)) (outer : List Frame) (last : Cause)
    → IsInside f.site d → d.kind ≡ Spec types count pad → Specifies t f d types count pad more outer last
