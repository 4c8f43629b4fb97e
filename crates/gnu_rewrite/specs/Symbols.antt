-- The symbols of an image whose unwind tables are rewritten (docs/rules/gnu-tables.md). Of several symbols with one name the first counts, so
-- those that are looked up by name come first.
use Rattle.std.specs.Prelude.{ℕ, ◌-◌, Bool, if◌then◌else◌, List, [], ◌∷◌, ◌++◌, map, Option, Some, None, codes}
use Rattle.std.specs.List.{flat_map}
use Rattle.eh_word.specs.Address.{address_text}
use Rattle.elf_image.specs.Functions.{Function}
use Rattle.elf_image.specs.Image.{Image, symbol_in, type_symbols_of}
use Rattle.elf_write.specs.declared.parts.OwnSymbol.{OwnSymbol}
use Rattle.elf_write.specs.declared.parts.SymbolKind.TheVariants.{Function as IsFunction, Object, Code, Words}
use Rattle.eh_types.specs.declared.vtables.TheConstants.{FUNDAMENTAL, CLASS, SINGLE, MANY, POINTER}
use Rattle.gnu_rewrite.specs.declared.symbols.TheConstants.{PROFILE}
use Rattle.gnu_rewrite.specs.Marks.{marks_of}

abbrev pub object : List ℕ → ℕ → OwnSymbol
object name address = record { name = name; value = address; size = 0; kind = Object }

-- ---- symbols that are found by their names: the vtables of the kinds of types, and the profile

abbrev pub kept_names : List (List ℕ)
kept_names = FUNDAMENTAL.now ∷ CLASS.now ∷ SINGLE.now ∷ MANY.now ∷ POINTER.now ∷ PROFILE.now ∷ []

abbrev pub object_at : List ℕ → Option ℕ → List OwnSymbol
object_at name None = []
object_at name (Some address) = object name address ∷ []

-- where the image has one of the name, at the address of the first of them
abbrev pub symbol_of_name : Image → List ℕ → List OwnSymbol
symbol_of_name image name = object_at name (symbol_in image name)

-- ---- the others

abbrev pub function_symbol : Function → OwnSymbol
function_symbol f = record { name = f.name; value = f.start; size = f.end - f.start; kind = IsFunction }

-- a type by its address
unfoldable pub type_name : ℕ → List ℕ
type_name address = codes "_ZTI" ++ address_text address

abbrev pub type_symbol : ℕ → OwnSymbol
type_symbol address = object (type_name address) address

abbrev pub mark_symbol : ℕ × Bool → OwnSymbol
mark_symbol mark = record { name = []; value = mark.0; size = 0; kind = if mark.1 then Code else Words }

unfoldable pub symbols_of : Image → List OwnSymbol
symbols_of image =
    flat_map (symbol_of_name image) kept_names
    ++ map function_symbol image.functions
    ++ map type_symbol (type_symbols_of image.symbols)
    ++ map mark_symbol (marks_of image)
