-- The consequences of the rules, in the terms of the standard: laws of the list of paths (docs/rules/types-and-matching.md).
use Rattle.std.specs.Prelude.{◌≡◌, ◌≢◌, ◌↔◌, ℕ, pos, negsuc, zero, suc, ◌+◌, ◌-◌, ◌<◌, ◌/◌, ◌%◌, ◌^◌, ◌&&◌, Bool, true, false, not, List, [], ◌∷◌, ◌++◌, length, map, find, Contains, Some, None, Result, Ok, Err}
use Rattle.std.specs.List.{flat_map, list_all, sum_by, AllPass}
use Rattle.std.specs.Int.{cast_unsigned, w32}
use Rattle.eh_bus.specs.Segment.{Segment}
use Rattle.eh_bus.specs.Memory.{load_number}
use Rattle.eh_bus.specs.declared.fault.BusFault.{BusFault}
use Rattle.eh_types.specs.declared.kind.Base.{Base}
use Rattle.eh_types.specs.declared.kind.TypeKind.TheVariants.{Pointer}
use Rattle.eh_types.specs.declared.graph.TheConstants.{MOST_PATHS}
use Rattle.eh_types.specs.Graph.{Row, row_of, kind_of, bases_of, same_type, IsCounted}
use Rattle.eh_match.specs.declared.rules.Match.{Match}
use Rattle.eh_match.specs.declared.rules.Match.TheVariants.{Failed, Object, PointerToBase, Unreadable}
use Rattle.eh_match.specs.Paths.{paths, end_of, is_public, root_of, offset_of, at_offset}
use Rattle.eh_match.specs.Address.{address}
use Rattle.eh_match.specs.Subobjects.{same_subobject}
use Rattle.eh_match.specs.Rules.{is_class_type, object_at, match_of}

-- ---- equal types

-- a type is caught as itself, wherever its object is
abbrev pub TypesMatchThemselves : Type 0
TypesMatchThemselves = (g : List Row) (segments : List Segment) (ty object : ℕ) → ty ≢ 0 → match_of g segments ty object ty ≡ Object object

-- type 0 matches nothing and is matched by nothing
abbrev pub ZeroMatchesNothing : Type 0
ZeroMatchesNothing = (g : List Row) (segments : List Segment) (ty object : ℕ) → (match_of g segments 0 object ty ≡ Failed) × (match_of g segments ty object 0 ≡ Failed)

-- a type that the graph doesn't have matches no other type, and no other type matches it
abbrev pub UnheldTypesStandAlone : Type 0
UnheldTypesStandAlone =
    (g : List Row) (segments : List Segment) (ty other object : ℕ) → row_of g ty ≡ None → ty ≢ other
    → (match_of g segments ty object other ≡ Failed) × (match_of g segments other object ty ≡ Failed)

-- ---- paths

-- steps from a type: each is to a base of the type that the one before it reaches
abbrev pub IsChain : List Row → ℕ → List Base → Type 0
IsChain g ty [] = Unit {0}
IsChain g ty (b ∷ more) = Contains (bases_of g ty) b × IsChain g b.ty more

-- the paths of a type are exactly these chains, however long: no bound cuts one off
abbrev pub PathsAreAllChains : Type 0
PathsAreAllChains = (g : List Row) (count : ℕ → ℕ) → IsCounted g count → (ty : ℕ) (steps : List Base) → Contains (paths g MOST_PATHS ty) steps ↔ IsChain g ty steps

-- they are in depth-first order, in the order of the bases, and there are as many as are counted
pub record IsDepthFirst (g : List Row) (count : ℕ → ℕ) (ty : ℕ) : Type 0 where
  pub order : paths g MOST_PATHS ty ≡ [] ∷ flat_map (λ b. map (λ steps. b ∷ steps) (paths g MOST_PATHS b.ty)) (bases_of g ty)
  pub number : length (paths g MOST_PATHS ty) ≡ count ty

abbrev pub PathsGoDepthFirst : Type 0
PathsGoDepthFirst = (g : List Row) (count : ℕ → ℕ) → IsCounted g count → (ty : ℕ) → IsDepthFirst g count ty

-- ---- the names of subobjects

-- steps of which none is virtual
abbrev pub are_plain : List Base → Bool
are_plain steps = list_all (λ b. not b.is_virtual) steps

-- the sum of their offsets, modulo 2 ^ 32
abbrev pub span : List Base → ℕ
span steps = sum_by (λ b. cast_unsigned w32 b.offset) steps % 2 ^ 32

-- a path without a virtual step is identified by the sum of its offsets in the whole object
abbrev pub PlainPathsAreNamed : Type 0
PlainPathsAreNamed = (steps : List Base) → are_plain steps ≡ true → (root_of steps ≡ None) × (offset_of steps ≡ span steps)

-- any other path by the type that its last virtual step reaches, and the sum of the offsets after that step
abbrev pub VirtualPathsAreNamed : Type 0
VirtualPathsAreNamed =
    (before after : List Base) (step : Base) → step.is_virtual ≡ true → are_plain after ≡ true
    → (root_of (before ++ step ∷ after) ≡ Some step.ty) × (offset_of (before ++ step ∷ after) ≡ span after)

-- whether two paths lead to the same subobject, by whether they have a virtual step
pub record AreTold (g : List Row) : Type 0 where
  -- two paths within the whole object lead to one subobject if and only if their offsets are equal
  pub plain : (one other : List Base) → are_plain one ≡ true → are_plain other ≡ true → (same_subobject g one other ≡ true) ↔ (span one ≡ span other)
  -- a subobject within the whole object is never one within a virtual base
  pub mixed : (one before after : List Base) (step : Base) → are_plain one ≡ true → step.is_virtual ≡ true → are_plain after ≡ true
      → (same_subobject g one (before ++ step ∷ after) ≡ false) × (same_subobject g (before ++ step ∷ after) one ≡ false)
  -- two within virtual bases are one if and only if these have one type, and the offsets in it are equal
  pub by_virtual : (before after before' after' : List Base) (step step' : Base)
      → step.is_virtual ≡ true → are_plain after ≡ true → step'.is_virtual ≡ true → are_plain after' ≡ true
      → (same_subobject g (before ++ step ∷ after) (before' ++ step' ∷ after') ≡ true) ↔ ((same_type g step.ty step'.ty ≡ true) × (span after ≡ span after'))

abbrev pub SubobjectsAreTold : Type 0
SubobjectsAreTold = (g : List Row) → AreTold g

-- a path is public where each of its steps is
abbrev pub PathsArePublicByStep : Type 0
PathsArePublicByStep = (steps : List Base) → (is_public steps ≡ true) ↔ AllPass (λ b. b.is_public) steps

-- ---- addresses

-- steps that aren't virtual add their offsets, and read nothing
abbrev pub PlainStepsAdd : Type 0
PlainStepsAdd =
    (segments : List Segment) (a : ℕ) (steps : List Base) → a < 2 ^ 32 → are_plain steps ≡ true
    → address segments (Ok a) steps ≡ Ok ((a + sum_by (λ b. cast_unsigned w32 b.offset) steps) % 2 ^ 32)

-- offsets are signed
abbrev pub OffsetsAreSigned : Type 0
OffsetsAreSigned = (a k : ℕ) → a < 2 ^ 32 → (a + k < 2 ^ 32 → at_offset a (pos k) ≡ a + k) × (k < a → at_offset a (negsuc k) ≡ a - (k + 1))

-- A virtual step adds the word at its offset of the vtable, whose address is the first word of the object so far. If one of the two
-- words can't be loaded, the answer is that word's address.
pub record IsByTheVtable (segments : List Segment) (a : ℕ) (step : Base) (more : List Base) : Type 0 where
  pub added : (vtable distance : ℕ) → load_number 4 segments a ≡ Ok vtable → load_number 4 segments (at_offset vtable step.offset) ≡ Ok distance
      → address segments (Ok a) (step ∷ more) ≡ address segments (Ok ((a + distance) % 2 ^ 32)) more
  pub no_vtable : (fault : BusFault) → load_number 4 segments a ≡ Err fault → address segments (Ok a) (step ∷ more) ≡ Err a
  pub no_distance : (vtable : ℕ) (fault : BusFault) → load_number 4 segments a ≡ Ok vtable → load_number 4 segments (at_offset vtable step.offset) ≡ Err fault
      → address segments (Ok a) (step ∷ more) ≡ Err (at_offset vtable step.offset)

abbrev pub VirtualStepsGoByTheVtable : Type 0
VirtualStepsGoByTheVtable = (segments : List Segment) (a : ℕ) (step : Base) (more : List Base) → step.is_virtual ≡ true → IsByTheVtable segments a step more

-- the address of a path is that of its last steps, from the address of its first ones
abbrev pub AddressesFollow : Type 0
AddressesFollow =
    (segments : List Segment) (at : Result ℕ ℕ) (before after : List Base) → address segments at (before ++ after) ≡ address segments (address segments at before) after

-- ---- classes

-- two classes, neither of which is the other
pub record AreClasses (g : List Row) (thrown wanted : ℕ) : Type 0 where
  pub thrown_given : thrown ≢ 0
  pub wanted_given : wanted ≢ 0
  pub thrown_class : is_class_type g thrown ≡ true
  pub wanted_class : is_class_type g wanted ≡ true
  pub unequal : same_type g thrown wanted ≡ false

-- a chain of steps to a wanted type
pub record LeadsTo (g : List Row) (ty wanted : ℕ) (steps : List Base) : Type 0 where
  pub chain : IsChain g ty steps
  pub ends : same_type g (end_of ty steps) wanted ≡ true

-- if no path to the wanted class is public, the class isn't caught: so with private or protected bases only, and without any path
abbrev pub NoPublicPathFails : Type 0
NoPublicPathFails =
    (g : List Row) (count : ℕ → ℕ) (segments : List Segment) (thrown object wanted : ℕ) → IsCounted g count → AreClasses g thrown wanted
    → ((steps : List Base) → LeadsTo g thrown wanted steps → is_public steps ≡ false) → match_of g segments thrown object wanted ≡ Failed

-- if two paths lead to different subobjects, the class isn't caught, public or not
abbrev pub PartedBasesFail : Type 0
PartedBasesFail =
    (g : List Row) (count : ℕ → ℕ) (segments : List Segment) (thrown object wanted : ℕ) (one other : List Base) → IsCounted g count → AreClasses g thrown wanted
    → LeadsTo g thrown wanted one → LeadsTo g thrown wanted other → same_subobject g one other ≡ false → match_of g segments thrown object wanted ≡ Failed

-- if all paths lead to one subobject and one of them is public, the class is caught at the address of the first public one
abbrev pub OneBaseIsCaught : Type 0
OneBaseIsCaught =
    (g : List Row) (count : ℕ → ℕ) (segments : List Segment) (thrown object wanted : ℕ) (steps : List Base) → IsCounted g count → AreClasses g thrown wanted
    → LeadsTo g thrown wanted steps → is_public steps ≡ true → ((other : List Base) → LeadsTo g thrown wanted other → same_subobject g steps other ≡ true)
    → (first : List Base) × (find (λ p. is_public p && same_type g (end_of thrown p) wanted) (paths g MOST_PATHS thrown) ≡ Some first)
    × (match_of g segments thrown object wanted ≡ object_at (Some (address segments (Ok object) first)))

-- one path alone, public: its address is the answer
abbrev pub OnePathIsCaught : Type 0
OnePathIsCaught =
    (g : List Row) (count : ℕ → ℕ) (segments : List Segment) (thrown object wanted : ℕ) (steps : List Base) → IsCounted g count → AreClasses g thrown wanted
    → LeadsTo g thrown wanted steps → is_public steps ≡ true → ((other : List Base) → LeadsTo g thrown wanted other → other ≡ steps)
    → match_of g segments thrown object wanted ≡ object_at (Some (address segments (Ok object) steps))

-- without a virtual step it is the object's address and the sum of the offsets
abbrev pub OnePlainPathIsCaught : Type 0
OnePlainPathIsCaught =
    (g : List Row) (count : ℕ → ℕ) (segments : List Segment) (thrown object wanted : ℕ) (steps : List Base) → IsCounted g count → AreClasses g thrown wanted
    → LeadsTo g thrown wanted steps → is_public steps ≡ true → ((other : List Base) → LeadsTo g thrown wanted other → other ≡ steps)
    → object < 2 ^ 32 → are_plain steps ≡ true → match_of g segments thrown object wanted ≡ Object ((object + sum_by (λ b. cast_unsigned w32 b.offset) steps) % 2 ^ 32)

-- ---- the diamond

-- two bases of the wanted class at different offsets, neither virtual: it isn't caught
abbrev pub TwoPlainBasesFail : Type 0
TwoPlainBasesFail =
    (g : List Row) (count : ℕ → ℕ) (segments : List Segment) (thrown object wanted : ℕ) (one other : List Base) → IsCounted g count → AreClasses g thrown wanted
    → LeadsTo g thrown wanted one → LeadsTo g thrown wanted other → are_plain one ≡ true → are_plain other ≡ true → span one ≢ span other
    → match_of g segments thrown object wanted ≡ Failed

-- a virtual base and one that isn't are two subobjects, wherever they are
abbrev pub PlainAndVirtualBaseFail : Type 0
PlainAndVirtualBaseFail =
    (g : List Row) (count : ℕ → ℕ) (segments : List Segment) (thrown object wanted : ℕ) (one before after : List Base) (step : Base) → IsCounted g count → AreClasses g thrown wanted
    → LeadsTo g thrown wanted one → LeadsTo g thrown wanted (before ++ step ∷ after) → are_plain one ≡ true → step.is_virtual ≡ true → are_plain after ≡ true
    → match_of g segments thrown object wanted ≡ Failed

-- a path whose last step is virtual
pub record EndsVirtual (steps : List Base) : Type 0 where
  pub before : List Base
  pub step : Base
  pub is_virtual : step.is_virtual ≡ true
  pub parts : steps ≡ before ++ step ∷ []

-- if every path ends in a virtual step to the wanted class, it is one subobject, and is caught if one path is public
abbrev pub VirtualBaseIsOne : Type 0
VirtualBaseIsOne =
    (g : List Row) (count : ℕ → ℕ) (segments : List Segment) (thrown object wanted : ℕ) (steps : List Base) → IsCounted g count → AreClasses g thrown wanted
    → LeadsTo g thrown wanted steps → is_public steps ≡ true → ((other : List Base) → LeadsTo g thrown wanted other → EndsVirtual other)
    → (first : List Base) × (find (λ p. is_public p && same_type g (end_of thrown p) wanted) (paths g MOST_PATHS thrown) ≡ Some first)
    × (match_of g segments thrown object wanted ≡ object_at (Some (address segments (Ok object) first)))

-- ---- pointers

-- two pointers, neither of which is the other
pub record ArePointers (g : List Row) (thrown wanted flags from wanted_flags to : ℕ) : Type 0 where
  pub thrown_given : thrown ≢ 0
  pub wanted_given : wanted ≢ 0
  pub thrown_pointer : kind_of g thrown ≡ Some (Pointer flags from)
  pub wanted_pointer : kind_of g wanted ≡ Some (Pointer wanted_flags to)
  pub unequal : same_type g thrown wanted ≡ false

-- The wanted flags keep const (bit 0) and volatile (bit 1). They don't add that a function is transaction-safe (bit 5) or noexcept (bit
-- 6).
pub record Suits (flags wanted : ℕ) : Type 0 where
  pub const : flags % 2 ≡ 1 → wanted % 2 ≡ 1
  pub volatile : flags / 2 % 2 ≡ 1 → wanted / 2 % 2 ≡ 1
  pub transaction_safe : wanted / 32 % 2 ≡ 1 → flags / 32 % 2 ≡ 1
  pub noexcept : wanted / 64 % 2 ≡ 1 → flags / 64 % 2 ≡ 1

-- a pointer to a function is caught as one to a transaction-safe or noexcept function only if it is one itself
abbrev pub PromisesAreKept : Type 0
PromisesAreKept =
    (g : List Row) (segments : List Segment) (thrown object wanted flags from wanted_flags to : ℕ) → ArePointers g thrown wanted flags from wanted_flags to
    → (wanted_flags / 32 % 2 ≡ 1 → flags / 32 % 2 ≡ 0 → match_of g segments thrown object wanted ≡ Failed)
    × (wanted_flags / 64 % 2 ≡ 1 → flags / 64 % 2 ≡ 0 → match_of g segments thrown object wanted ≡ Failed)

-- a pointer to const isn't caught as a pointer to non-const, nor one to volatile as one to non-volatile
abbrev pub QualifiersAreKept : Type 0
QualifiersAreKept =
    (g : List Row) (segments : List Segment) (thrown object wanted flags from wanted_flags to : ℕ) → ArePointers g thrown wanted flags from wanted_flags to
    → (flags % 2 ≡ 1 → wanted_flags % 2 ≡ 0 → match_of g segments thrown object wanted ≡ Failed)
    × (flags / 2 % 2 ≡ 1 → wanted_flags / 2 % 2 ≡ 0 → match_of g segments thrown object wanted ≡ Failed)

-- the match of a pointer p whose pointee has this match
abbrev pub pointer_result : ℕ → Match → Match
pointer_result p Failed = Failed
pointer_result zero (Object a) = PointerToBase 0
pointer_result zero (PointerToBase a) = PointerToBase 0
pointer_result zero (Unreadable refused) = PointerToBase 0
pointer_result (suc p) (Object a) = PointerToBase a
pointer_result (suc p) (PointerToBase a) = PointerToBase a
pointer_result (suc p) (Unreadable refused) = Unreadable refused

-- A pointer to a class is caught as a pointer to another class if the object that it points to would be, at the address that this
-- gives. A null pointer stays null.
abbrev pub PointersFollowTheirPointees : Type 0
PointersFollowTheirPointees =
    (g : List Row) (segments : List Segment) (thrown object wanted flags from wanted_flags to p : ℕ) → ArePointers g thrown wanted flags from wanted_flags to
    → AreClasses g from to → Suits flags wanted_flags → load_number 4 segments object ≡ Ok p
    → match_of g segments thrown object wanted ≡ pointer_result p (match_of g segments from p to)

-- the match of a pointer that can't be loaded, at this address, if its pointee had this match
abbrev pub unreadable_pointer_result : ℕ → Match → Match
unreadable_pointer_result refused Failed = Failed
unreadable_pointer_result refused (Object a) = Unreadable refused
unreadable_pointer_result refused (PointerToBase a) = Unreadable refused
unreadable_pointer_result refused (Unreadable other) = Unreadable refused

-- if the thrown pointer can't be loaded, the answer is its own address, provided that some object would be caught
abbrev pub UnreadPointersAreNamed : Type 0
UnreadPointersAreNamed =
    (g : List Row) (segments : List Segment) (thrown object wanted flags from wanted_flags to a : ℕ) (fault : BusFault) → ArePointers g thrown wanted flags from wanted_flags to
    → AreClasses g from to → Suits flags wanted_flags → load_number 4 segments object ≡ Err fault
    → match_of g segments thrown object wanted ≡ unreadable_pointer_result object (match_of g segments from a to)
