-- The meanings of names: which labels there are, which name is defined twice or not at all, and the symbols of the image
-- (docs/rules/linking.md, "Names").
use Rattle.std.specs.Prelude.{ℕ, ◌==◌, not, ◌&&◌, ◌||◌, Bool, false, if◌then◌else◌, List, [], ◌∷◌, ◌++◌, map, filter, find, Option, None, codes}
use Rattle.std.specs.List.{list_any, flat_map}
use Rattle.std.specs.Option.{option_or, option_map}
use Rattle.std.specs.Map.{lookup}
use Rattle.eh_word.specs.Names.{same_bytes}
use Rattle.asm_relocatable.specs.declared.object.Object.{Object}
use Rattle.asm_relocatable.specs.declared.object.ObjSymbol.{ObjSymbol}
use Rattle.asm_relocatable.specs.declared.object.Mark.{Mark}
use Rattle.asm_relocatable.specs.Names.{is_local}
use Rattle.elf_write.specs.declared.parts.OwnSymbol.{OwnSymbol}
use Rattle.elf_write.specs.declared.parts.SymbolKind.{SymbolKind}
use Rattle.elf_write.specs.declared.parts.SymbolKind.TheVariants as kind
use Rattle.eh_link.specs.declared.places.Addresses.{Addresses}
use Rattle.eh_link.specs.declared.places.ImageLayout.{ImageLayout}
use Rattle.eh_link.specs.declared.names.Meaning.{Meaning}
use Rattle.eh_link.specs.Placed.{PlacedObject}
use Rattle.eh_link.specs.Layout.{align_to_word, address_in, address_at}

abbrev pub is_label : List ℕ → ObjSymbol → Bool
is_label name symbol = same_bytes name symbol.name

abbrev pub is_global : List ℕ → ObjSymbol → Bool
is_global name symbol = symbol.global && same_bytes name symbol.name

abbrev pub has_label : List ℕ → Object → Bool
has_label name object = list_any (is_label name) object.symbols

abbrev pub has_global : List ℕ → Object → Bool
has_global name object = list_any (is_global name) object.symbols

-- ---- names that are there twice

abbrev pub global_names : Object → List (List ℕ)
global_names object = map (λ symbol. symbol.name) (filter (λ symbol. symbol.global) object.symbols)

-- the first global name of an object that a later object has too
abbrev pub duplicate_of : List Object → Option (List ℕ)
duplicate_of [] = None
duplicate_of (object ∷ more) = option_or (find (λ name. list_any (has_global name) more) (global_names object)) (duplicate_of more)

-- ---- names that mean nothing

-- a label of the object, or a global one of some object
abbrev pub is_defined : List ℕ → Object → List Object → Bool
is_defined name object all = has_label name object || list_any (has_global name) all

abbrev pub field_names : Object → List (List ℕ)
field_names object = map (λ reloc. reloc.name) object.relocs

-- the first relocation name that is neither a label of its own object nor a global label
abbrev pub first_undefined : List Object → List Object → Option (List ℕ)
first_undefined all [] = None
first_undefined all (object ∷ more) = option_or (find (λ name. not (is_defined name object all)) (field_names object)) (first_undefined all more)

-- ---- what a name means

abbrev pub symbol_address : Addresses → ObjSymbol → ℕ
symbol_address at symbol = address_at (address_in symbol.section at) symbol.offset

abbrev pub meaning : Addresses → ObjSymbol → Meaning
meaning at symbol = record { address = symbol_address at symbol; function = symbol.function }

-- the first label of some kind
abbrev pub first_label : (ObjSymbol → Bool) → PlacedObject → Option Meaning
first_label wanted placed = option_map (meaning placed.at) (find wanted placed.object.symbols)

abbrev pub first_in : (ObjSymbol → Bool) → List PlacedObject → Option Meaning
first_in wanted [] = None
first_in wanted (placed ∷ more) = option_or (first_label wanted placed) (first_in wanted more)

-- the first label of a name in the object, else the first global one
abbrev pub meaning_of : List PlacedObject → PlacedObject → List ℕ → Option Meaning
meaning_of all placed name = option_or (first_label (is_label name) placed) (first_in (is_global name) all)

-- the meaning in the first of two tables of names, else in the second
abbrev pub look_up : List (List ℕ × Meaning) → List (List ℕ × Meaning) → List ℕ → Option Meaning
look_up own global name = option_or (lookup (same_bytes name) own) (lookup (same_bytes name) global)

-- the first label of a name in the object, else its meaning in a table
abbrev pub meaning_by : List (List ℕ × Meaning) → PlacedObject → List ℕ → Option Meaning
meaning_by global placed name = option_or (first_label (is_label name) placed) (lookup (same_bytes name) global)

-- ---- the entry

abbrev pub is_entry : List ℕ → ObjSymbol → Bool
is_entry name symbol = symbol.function && is_global name symbol

abbrev pub has_entry : List ℕ → List Object → Bool
has_entry name objects = list_any (λ object. list_any (is_entry name) object.symbols) objects

-- ---- the symbols of the image

abbrev pub own_symbol : List ℕ → ℕ → ℕ → SymbolKind → OwnSymbol
own_symbol name value size what = record { name = name; value = value; size = size; kind = what }

-- the mapping symbol for code or data that begins at an address
abbrev pub mark_at : ℕ → Bool → OwnSymbol
mark_at value code = if code then own_symbol (codes "$t") value 0 kind.Code else own_symbol (codes "$d") value 0 kind.Words

abbrev pub mark_symbol : Addresses → Mark → OwnSymbol
mark_symbol at mark = mark_at (address_at at.text mark.offset) mark.code

abbrev pub mark_symbols : PlacedObject → List OwnSymbol
mark_symbols placed = map (mark_symbol placed.at) placed.object.marks

-- the mapping symbol for data at the start of a section that isn't empty
abbrev pub words_between : ℕ → ℕ → List OwnSymbol
words_between start end = if start == end then [] else mark_at start false ∷ []

abbrev pub label_kind : ObjSymbol → SymbolKind
label_kind symbol = if symbol.function then kind.Function else kind.Object

-- labels with local names aren't symbols of the image
abbrev pub label_symbols : Addresses → ObjSymbol → List OwnSymbol
label_symbols at symbol =
    if is_local symbol.name then [] else own_symbol symbol.name (symbol_address at symbol) symbol.size (label_kind symbol) ∷ []

abbrev pub exported_symbols : PlacedObject → List OwnSymbol
exported_symbols placed = flat_map (label_symbols placed.at) placed.object.symbols

-- the marks of the texts, those of rodata, exception tables and index, then the labels
unfoldable pub symbols_of : ImageLayout → List PlacedObject → List OwnSymbol
symbols_of layout all =
    flat_map mark_symbols all
    ++ words_between (align_to_word layout.text_end) layout.rodata_end
    ++ words_between (align_to_word layout.rodata_end) layout.extab_end
    ++ words_between layout.index_start layout.code_end
    ++ flat_map exported_symbols all
