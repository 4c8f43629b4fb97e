-- The addresses of labels in an image: the address of their object's section plus their offset in it, also in bss
-- (docs/rules/linking.md, "Names").
use Rattle.std.specs.Prelude.{◌≡◌, ℕ, ◌+◌, ◌%◌, ◌^◌, ◌≤◌, ◌⊎◌, true, false, if◌then◌else◌, List, ◌∷◌, ◌++◌, length, All, Some, Ok}
use Rattle.eh_word.specs.Names.{same_bytes}
use Rattle.asm_relocatable.specs.declared.place.Section.{Section}
use Rattle.asm_relocatable.specs.declared.place.Section.TheVariants.{Text, Rodata, Extab, Init, Bss}
use Rattle.asm_relocatable.specs.Names.{is_local}
use Rattle.asm_relocatable.specs.declared.object.Object.{Object}
use Rattle.asm_relocatable.specs.declared.object.ObjSymbol.{ObjSymbol}
use Rattle.elf_write.specs.declared.parts.ImageParts.{ImageParts}
use Rattle.elf_write.specs.declared.parts.OwnSymbol.{OwnSymbol}
use Rattle.elf_write.specs.declared.parts.SymbolKind.TheVariants as kind
use Rattle.eh_link.specs.declared.names.Meaning.{Meaning}
use Rattle.eh_link.specs.declared.places.TheConstants.{CODE_START}
use Rattle.eh_link.specs.Placed.{PlacedObject}
use Rattle.eh_link.specs.Layout.{layout_of, data_size, place_objects}
use Rattle.eh_link.specs.Fields.{part_in, fill_object}
use Rattle.eh_link.specs.Symbols.{has_label, meaning_of}
use Rattle.eh_link.specs.LayoutLaw.{StandsAt, linked_code, linked_data}
use Rattle.eh_link.specs.Linked.{link_result}
use Rattle.link_laws.specs.MeaningLaw.{IsOneOf}

-- ---- where a part is

-- an object's bss begins at an address: a multiple of 4 after the initialized data of the second segment, within its
-- memory, and after the bss of the objects before it
pub record HasRoom (objects : List Object) (placed : PlacedObject) (one : IsOneOf objects placed) (address : ℕ) : Type 0 where
  pub is : address ≡ placed.at.bss
  pub fourth : address % 4 ≡ 0
  pub following : (layout_of objects).data_start + length (linked_data objects) ≤ address
  pub within : address + placed.object.bss ≤ (layout_of objects).data_start + data_size (layout_of objects)
  pub apart : All (λ p. p.at.bss + p.object.bss ≤ address) one.front

-- an object's section begins at an address
abbrev pub PartBegins : Section → (objects : List Object) → (placed : PlacedObject) → IsOneOf objects placed → ℕ → Type 0
PartBegins Text objects placed one address = StandsAt address (part_in Text (fill_object (place_objects objects) placed)) CODE_START (linked_code objects)
PartBegins Rodata objects placed one address = StandsAt address (part_in Rodata (fill_object (place_objects objects) placed)) CODE_START (linked_code objects)
PartBegins Extab objects placed one address = StandsAt address (part_in Extab (fill_object (place_objects objects) placed)) CODE_START (linked_code objects)
PartBegins Init objects placed one address = StandsAt address (part_in Init (fill_object (place_objects objects) placed)) (layout_of objects).data_start (linked_data objects)
PartBegins Bss objects placed one address = HasRoom objects placed one address

-- ---- labels as symbols

-- a list has an element
pub record Has {A : Type 0} (list : List A) (element : A) : Type 0 where
  pub before : List A
  pub after : List A
  pub split : list ≡ before ++ element ∷ after

-- the symbol of a label whose section is at an address: with its name, size and type
abbrev pub symbol_at : ℕ → ObjSymbol → OwnSymbol
symbol_at part symbol = record {
  name = symbol.name;
  value = (part + symbol.offset) % 2 ^ 32;
  size = symbol.size;
  kind = if symbol.function then kind.Function else kind.Object;
}

pub record IsSymbol (objects : List Object) (image : ImageParts) (placed : PlacedObject) (one : IsOneOf objects placed) (symbol : ObjSymbol) : Type 0 where
  pub part : ℕ
  pub begins : PartBegins symbol.section objects placed one part
  pub there : Has image.symbols (symbol_at part symbol)

-- each label whose name isn't local is a symbol of the image
abbrev pub LabelsAreSymbols : Type 0
LabelsAreSymbols =
    (objects : List Object) (entry : List ℕ) (image : ImageParts) (placed : PlacedObject) (one : IsOneOf objects placed) (symbol : ObjSymbol)
    → link_result objects entry ≡ Ok image → Has placed.object.symbols symbol → is_local symbol.name ≡ false → IsSymbol objects image placed one symbol

-- ---- labels as the meaning of names

-- the meaning of a name in an object: a label of that name in the object itself, or a global one if it has none
pub record IsOfLabel (objects : List Object) (placed : PlacedObject) (name : List ℕ) (meaning : Meaning) : Type 0 where
  pub home : PlacedObject
  pub one : IsOneOf objects home
  pub symbol : ObjSymbol
  pub there : Has home.object.symbols symbol
  pub named : same_bytes name symbol.name ≡ true
  pub seen : (home ≡ placed) ⊎ ((symbol.global ≡ true) × (has_label name placed.object ≡ false))
  pub part : ℕ
  pub begins : PartBegins symbol.section objects home one part
  pub address : meaning.address ≡ (part + symbol.offset) % 2 ^ 32
  pub function : meaning.function ≡ symbol.function

abbrev pub MeaningsAreOfLabels : Type 0
MeaningsAreOfLabels =
    (objects : List Object) (placed : PlacedObject) (name : List ℕ) (meaning : Meaning)
    → IsOneOf objects placed → meaning_of (place_objects objects) placed name ≡ Some meaning → IsOfLabel objects placed name meaning
