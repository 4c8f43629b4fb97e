-- A type's kind, name and bases, from the words at its address (Itanium C++ ABI, "Run-Time Type Information (RTTI)";
-- docs/rules/types-and-matching.md).
use Rattle.std.specs.Prelude.{ℕ, ◌+◌, ◌*◌, ◌/◌, ◌%◌, ◌^◌, ◌==◌, ◌||◌, nat_lt, Bool, true, false, if◌then◌else◌, ℤ, pos, ◌-ℤ◌, List, [], ◌∷◌, length, map, Option, Some, None, Result, Ok, Err}
use Rattle.std.specs.List.{range_with_len}
use Rattle.elf_image.specs.Segments.{Segment}
use Rattle.elf_image.specs.Image.{Image}
use Rattle.eh_types.specs.declared.kind.Base.{Base}
use Rattle.eh_types.specs.declared.kind.TypeKind.{TypeKind}
use Rattle.eh_types.specs.declared.kind.TypeKind.TheVariants.{Other, Fundamental, Class, Si, Vmi, Pointer}
use Rattle.eh_types.specs.declared.fault.TypeFault.{TypeFault}
use Rattle.eh_types.specs.declared.fault.TypeFault.TheVariants.{Unreadable, Writable, NameTooLong}
use Rattle.eh_types.specs.declared.types.TheConstants.{NAME_LIMIT, NAME, BASES, BASE_SIZE}
use Rattle.eh_types.specs.declared.vtables.TheConstants.{SECOND}
use Rattle.eh_types.specs.declared.words.TheConstants.{WORD_SIZE}
use Rattle.eh_types.specs.Graph.{Row}
use Rattle.eh_types.specs.Vtables.{vtables_of, kind_by}
use Rattle.eh_types.specs.Words.{word, words_from, name_at}

-- ---- bases

-- the signed number in the bits from 8 on
abbrev pub offset_in : ℕ → ℤ
offset_in flags = if nat_lt (flags / 256) (2 ^ 23) then pos (flags / 256) else pos (flags / 256) -ℤ pos (2 ^ 24)

-- bit 0 of the second word is set for a virtual base, bit 1 for a public one
unfoldable pub base_by : ℕ → ℕ → Base
base_by ty flags = record { ty = ty; offset = offset_in flags; is_virtual = flags % 2 == 1; is_public = flags / 2 % 2 == 1 }

-- base k of a list
unfoldable pub base_in : List Segment → ℕ → ℕ → Base
base_in segments a k = base_by (word segments (a + BASES + BASE_SIZE * k)) (word segments (a + BASES + BASE_SIZE * k + WORD_SIZE))

-- the one base of a class with a single base: public, not virtual, at its start
abbrev pub single_base : ℕ → Base
single_base ty = record { ty = ty; offset = pos 0; is_virtual = false; is_public = true }

abbrev pub base_count : List Segment → ℕ → TypeKind → ℕ
base_count segments a Other = 0
base_count segments a Fundamental = 0
base_count segments a Class = 0
base_count segments a (Si base) = 1
base_count segments a Vmi = word segments (a + SECOND)
base_count segments a (Pointer flags pointee) = 0

abbrev pub bases_at : List Segment → ℕ → TypeKind → List Base
bases_at segments a Other = []
bases_at segments a Fundamental = []
bases_at segments a Class = []
bases_at segments a (Si base) = single_base base ∷ []
bases_at segments a Vmi = map (base_in segments a) (range_with_len 0 (word segments (a + SECOND)))
bases_at segments a (Pointer flags pointee) = []

-- base k of a type with more than k bases: every kind but the one with a single base has a list
abbrev pub nth_base : List Segment → ℕ → TypeKind → ℕ → Base
nth_base segments a Other k = base_in segments a k
nth_base segments a Fundamental k = base_in segments a k
nth_base segments a Class k = base_in segments a k
nth_base segments a (Si base) k = single_base base
nth_base segments a Vmi k = base_in segments a k
nth_base segments a (Pointer flags pointee) k = base_in segments a k

-- the type of base k
abbrev pub base_type : List Segment → ℕ → TypeKind → ℕ → ℕ
base_type segments a Other k = 0
base_type segments a Fundamental k = 0
base_type segments a Class k = 0
base_type segments a (Si base) k = base
base_type segments a Vmi k = word segments (a + BASES + BASE_SIZE * k)
base_type segments a (Pointer flags pointee) k = 0

-- ---- types

-- a type begins with the words of its vtable and its name; some kinds have further ones
abbrev pub word_count : List Segment → ℕ → TypeKind → ℕ
word_count segments a Other = 2
word_count segments a Fundamental = 2
word_count segments a Class = 2
word_count segments a (Si base) = 3
word_count segments a Vmi = 4 + 2 * word segments (a + SECOND)
word_count segments a (Pointer flags pointee) = 4

-- what the type at an address is
abbrev pub kind_at : Image → ℕ → TypeKind
kind_at image a = kind_by (vtables_of image) image.segments a

-- the row of the type at an address, with this name
unfoldable pub row_named : Image → ℕ → List ℕ → Row
row_named image a text = record { at = a; kind = kind_at image a; name = text; bases = bases_at image.segments a (kind_at image a) }

-- a row that is stored without its bases, with its bases
abbrev pub row_in : List Segment → Row → Row
row_in segments r = record { at = r.at; kind = r.kind; name = r.name; bases = bases_at segments r.at r.kind }

abbrev pub rows_in : List Segment → List Row → List Row
rows_in segments rows = map (row_in segments) rows

-- The type, or its first fault, from what its words and its name are: each is missing (None), writable (true), or read-only.
abbrev pub type_or_fault : Image → ℕ → Option Bool → Option (List ℕ × Bool) → Result Row TypeFault
type_or_fault image a None name = Err (Unreadable a)
type_or_fault image a (Some writable) None = Err (Unreadable a)
type_or_fault image a (Some writable) (Some name) =
    if writable || name.1 then Err (Writable a) else (if nat_lt NAME_LIMIT (length name.0) then Err (NameTooLong a) else Ok (row_named image a name.0))

-- the type at an address, or the first fault that its words show
unfoldable pub type_at : Image → ℕ → Result Row TypeFault
type_at image a =
    type_or_fault image a (words_from image.segments a (word_count image.segments a (kind_at image a))) (name_at image.segments (word image.segments (a + NAME)))
