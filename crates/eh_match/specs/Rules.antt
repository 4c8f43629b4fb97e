-- Whether a thrown type is caught as a wanted one, and what is caught (docs/rules/types-and-matching.md).
use Rattle.std.specs.Prelude.{ℕ, zero, suc, Bool, true, false, not, ◌==◌, ◌&&◌, ◌||◌, List, length, slice_index, Option, Some, None, Result, Ok, Err, option_map, if◌then◌else◌}
use Rattle.std.specs.Int.{bit_at}
use Rattle.eh_bus.specs.Segment.{Segment}
use Rattle.eh_types.specs.declared.kind.TypeKind.{TypeKind}
use Rattle.eh_types.specs.declared.kind.TypeKind.TheVariants.{Other, Fundamental, Class, Si, Vmi, Pointer}
use Rattle.eh_types.specs.Graph.{Row, kind_of, name_of, same_type}
use Rattle.eh_match.specs.declared.rules.TheConstants.{VOID_NAME, FUNCTION_MARK, CONST_BIT, VOLATILE_BIT, TRANSACTION_SAFE_BIT, NOEXCEPT_BIT}
use Rattle.eh_match.specs.declared.rules.Match.{Match}
use Rattle.eh_match.specs.declared.rules.Match.TheVariants.{Failed, Object, PointerToBase, Unreadable}
use Rattle.eh_match.specs.declared.rules.Pointing.{Pointing}
use Rattle.eh_match.specs.Address.{load_or_address, address}
use Rattle.eh_match.specs.Subobjects.{chosen}

abbrev pub is_class : Option TypeKind → Bool
is_class None = false
is_class (Some Other) = false
is_class (Some Fundamental) = false
is_class (Some Class) = true
is_class (Some (Si base)) = true
is_class (Some Vmi) = true
is_class (Some (Pointer flags pointee)) = false

abbrev pub is_fundamental : Option TypeKind → Bool
is_fundamental None = false
is_fundamental (Some Other) = false
is_fundamental (Some Fundamental) = true
is_fundamental (Some Class) = false
is_fundamental (Some (Si base)) = false
is_fundamental (Some Vmi) = false
is_fundamental (Some (Pointer flags pointee)) = false

-- what a pointer points to, none for any other type
abbrev pub pointer_of : Option TypeKind → Option Pointing
pointer_of None = None
pointer_of (Some Other) = None
pointer_of (Some Fundamental) = None
pointer_of (Some Class) = None
pointer_of (Some (Si base)) = None
pointer_of (Some Vmi) = None
pointer_of (Some (Pointer flags pointee)) = Some (record { flags = flags; pointee = pointee })

-- a thrown or a wanted type that is a class
abbrev pub is_class_type : List Row → ℕ → Bool
is_class_type g ty = is_class (kind_of g ty)

abbrev pub is_void : List Row → ℕ → Bool
is_void g ty = is_fundamental (kind_of g ty) && (length (name_of g ty) == 1 && slice_index (name_of g ty) 0 == VOID_NAME)

abbrev pub is_function : List Row → ℕ → Bool
is_function g ty = not (length (name_of g ty) == 0) && slice_index (name_of g ty) 0 == FUNCTION_MARK

-- ---- what is caught, by where the base stands, if there is one

abbrev pub object_at : Option (Result ℕ ℕ) → Match
object_at None = Failed
object_at (Some (Ok a)) = Object a
object_at (Some (Err refused)) = Unreadable refused

-- a null pointer stays null; if the pointer itself can't be loaded, no base is looked for
abbrev pub pointer_to : Result ℕ ℕ → Result ℕ ℕ → Match
pointer_to (Ok zero) at = PointerToBase 0
pointer_to (Ok (suc p)) (Ok a) = PointerToBase a
pointer_to (Ok (suc p)) (Err refused) = Unreadable refused
pointer_to (Err refused) at = Unreadable refused

abbrev pub pointer_at : Result ℕ ℕ → Option (Result ℕ ℕ) → Match
pointer_at pointer None = Failed
pointer_at pointer (Some at) = pointer_to pointer at

-- the address of the subobject of a wanted type in an object, by the first public path to it
abbrev pub base_at : List Row → List Segment → ℕ → Result ℕ ℕ → ℕ → Option (Result ℕ ℕ)
base_at g segments ty at wanted = option_map (address segments at) (chosen g ty wanted)

-- ---- pointers: the thrown one is the word at the object

abbrev pub pointee_match : List Row → List Segment → ℕ → ℕ → ℕ → Match
pointee_match g segments from object to =
    if same_type g from to then Object object else (
    if is_void g to then (if is_function g from then Failed else Object object) else (
    if is_class_type g from && is_class_type g to then pointer_at (load_or_address segments object) (base_at g segments from (load_or_address segments object) to) else Failed))

-- a bit is set in the first flags and not in the second
abbrev pub is_dropped : ℕ → ℕ → ℕ → Bool
is_dropped bit flags wanted = bit_at flags bit == 1 && bit_at wanted bit == 0

-- the thrown pointer's pointee is const or volatile, and the wanted one's isn't
abbrev pub loses_qualifier : ℕ → ℕ → Bool
loses_qualifier flags wanted = is_dropped CONST_BIT flags wanted || is_dropped VOLATILE_BIT flags wanted

-- the wanted pointer's function is transaction-safe or noexcept, and the thrown one's isn't
abbrev pub adds_promise : ℕ → ℕ → Bool
adds_promise flags wanted = is_dropped TRANSACTION_SAFE_BIT wanted flags || is_dropped NOEXCEPT_BIT wanted flags

abbrev pub pointer_match : List Row → List Segment → ℕ → Option Pointing → Option Pointing → Match
pointer_match g segments object None wanted = Failed
pointer_match g segments object (Some thrown) None = Failed
pointer_match g segments object (Some thrown) (Some wanted) = if loses_qualifier thrown.flags wanted.flags || adds_promise thrown.flags wanted.flags then Failed else pointee_match g segments thrown.pointee object wanted.pointee

-- ---- all types

abbrev pub unequal_match : List Row → List Segment → ℕ → ℕ → ℕ → Match
unequal_match g segments thrown object wanted = if is_class_type g thrown && is_class_type g wanted then object_at (base_at g segments thrown (Ok object) wanted) else pointer_match g segments object (pointer_of (kind_of g thrown)) (pointer_of (kind_of g wanted))

unfoldable pub match_of : List Row → List Segment → ℕ → ℕ → ℕ → Match
match_of g segments thrown object wanted = if thrown == 0 || wanted == 0 then Failed else (if same_type g thrown wanted then Object object else unequal_match g segments thrown object wanted)
