-- The vtables that tell the kinds of types apart (Itanium C++ ABI, "Run-Time Type Information (RTTI)"; docs/rules/types-and-matching.md).
use Rattle.std.specs.Prelude.{ℕ, ◌+◌, ◌%◌, ◌^◌, ◌==◌, Bool, false, if◌then◌else◌, List, Option, Some, None, option_map}
use Rattle.elf_image.specs.Segments.{Segment}
use Rattle.elf_image.specs.Image.{Image, symbol_in}
use Rattle.eh_types.specs.declared.kind.TypeKind.{TypeKind}
use Rattle.eh_types.specs.declared.kind.TypeKind.TheVariants.{Other, Fundamental, Class, Si, Vmi, Pointer}
use Rattle.eh_types.specs.declared.vtables.Vtables.{Vtables}
use Rattle.eh_types.specs.declared.vtables.TheConstants.{FUNDAMENTAL, CLASS, SINGLE, MANY, POINTER, VTABLE_POINT, FIRST, SECOND}
use Rattle.eh_types.specs.Words.{word}

-- the vtable pointer for a vtable's symbol; addresses are added modulo 2^32
abbrev pub vtable_at : Image → List ℕ → Option ℕ
vtable_at image name = option_map (λ a. (a + VTABLE_POINT) % 2 ^ 32) (symbol_in image name)

-- the vtable pointers of the five kinds, each None if the image doesn't define it
unfoldable pub vtables_of : Image → Vtables
vtables_of image = record {
  fundamental = vtable_at image FUNDAMENTAL.now;
  class = vtable_at image CLASS.now;
  single = vtable_at image SINGLE.now;
  many = vtable_at image MANY.now;
  pointer = vtable_at image POINTER.now;
}

abbrev pub is_at : Option ℕ → ℕ → Bool
is_at None w = false
is_at (Some a) w = a == w

-- the kind of the type at an address, which its first word tells; the first vtable that fits counts
unfoldable pub kind_by : Vtables → List Segment → ℕ → TypeKind
kind_by v segments a =
    if is_at v.fundamental (word segments a) then Fundamental
    else if is_at v.class (word segments a) then Class
    else if is_at v.single (word segments a) then Si (word segments (a + FIRST))
    else if is_at v.many (word segments a) then Vmi
    else if is_at v.pointer (word segments a) then Pointer (word segments (a + FIRST)) (word segments (a + SECOND))
    else Other
