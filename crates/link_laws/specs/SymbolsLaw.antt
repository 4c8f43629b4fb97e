-- The symbols of an image that are neither labels nor marks: `$d` at the start of the read-only data, the exception
-- tables and the index. There are no others (docs/rules/linking.md, "Names"; "ELF for the Arm Architecture", "Mapping
-- symbols").
use Rattle.std.specs.Prelude.{◌≡◌, ℕ, ◌<◌, ◌⊎◌, Bool, true, false, List, [], length, Ok, codes}
use Rattle.asm_relocatable.specs.declared.place.Section.{Section}
use Rattle.asm_relocatable.specs.declared.place.Section.TheVariants.{Text, Rodata, Extab, Init, Bss}
use Rattle.asm_relocatable.specs.Names.{is_local}
use Rattle.asm_relocatable.specs.declared.object.Mark.{Mark}
use Rattle.asm_relocatable.specs.declared.object.Object.{Object}
use Rattle.asm_relocatable.specs.declared.object.ObjSymbol.{ObjSymbol}
use Rattle.asm_relocatable.specs.Fields.{bytes_at}
use Rattle.elf_write.specs.declared.parts.ImageParts.{ImageParts}
use Rattle.elf_write.specs.declared.parts.OwnSymbol.{OwnSymbol}
use Rattle.elf_write.specs.declared.parts.SymbolKind.TheVariants as kind
use Rattle.eh_link.specs.Placed.{PlacedObject}
use Rattle.eh_link.specs.Linked.{link_result}
use Rattle.link_laws.specs.MeaningLaw.{IsOneOf}
use Rattle.link_laws.specs.LabelLaw.{Has, PartBegins, symbol_at}
use Rattle.link_laws.specs.EntryLaw.{mapping_at}

-- ---- `$d` where data begins

-- `$d` at an address
abbrev pub data_at : ℕ → OwnSymbol
data_at address = record { name = codes "$d"; value = address; size = 0; kind = kind.Words }

-- a symbol is `$d` at the start of the first object's part of a section
pub record BeginsData (section : Section) (objects : List Object) (symbol : OwnSymbol) : Type 0 where
  pub first : PlacedObject
  pub one : IsOneOf objects first
  pub leads : one.front ≡ []
  pub part : ℕ
  pub begins : PartBegins section objects first one part
  pub is : symbol ≡ data_at part

pub record HasData (section : Section) (objects : List Object) (image : ImageParts) : Type 0 where
  pub symbol : OwnSymbol
  pub there : Has image.symbols symbol
  pub begins : BeginsData section objects symbol

-- the sections of the first segment that hold data
abbrev pub is_data : Section → Bool
is_data Text = false
is_data Rodata = true
is_data Extab = true
is_data Init = false
is_data Bss = false

-- if an object has read-only data, or exception tables, the image has `$d` at the start of the first object's part of
-- them
abbrev pub DataIsMarked : Type 0
DataIsMarked =
    (section : Section) (objects : List Object) (entry : List ℕ) (image : ImageParts) (placed : PlacedObject) (one : IsOneOf objects placed)
    → link_result objects entry ≡ Ok image → is_data section ≡ true → 0 < length (bytes_at section placed.object) → HasData section objects image

-- and always where the index begins
abbrev pub IndexesAreMarked : Type 0
IndexesAreMarked = (objects : List Object) (entry : List ℕ) (image : ImageParts) → link_result objects entry ≡ Ok image → Has image.symbols (data_at image.index.0)

-- ---- no others

-- a symbol is a label whose name isn't local
pub record ShowsLabel (objects : List Object) (symbol : OwnSymbol) : Type 0 where
  pub home : PlacedObject
  pub one : IsOneOf objects home
  pub label : ObjSymbol
  pub there : Has home.object.symbols label
  pub seen : is_local label.name ≡ false
  pub part : ℕ
  pub begins : PartBegins label.section objects home one part
  pub is : symbol ≡ symbol_at part label

-- a symbol is the mapping symbol of a mark
pub record ShowsMark (objects : List Object) (symbol : OwnSymbol) : Type 0 where
  pub home : PlacedObject
  pub one : IsOneOf objects home
  pub mark : Mark
  pub there : Has home.object.marks mark
  pub part : ℕ
  pub begins : PartBegins Text objects home one part
  pub is : symbol ≡ mapping_at part mark

abbrev pub NoOtherSymbols : Type 0
NoOtherSymbols =
    (objects : List Object) (entry : List ℕ) (image : ImageParts) (symbol : OwnSymbol)
    → link_result objects entry ≡ Ok image → Has image.symbols symbol
    → ShowsLabel objects symbol
    ⊎ (ShowsMark objects symbol ⊎ (BeginsData Rodata objects symbol ⊎ (BeginsData Extab objects symbol ⊎ (symbol ≡ data_at image.index.0))))
