-- The mapping symbols and the entry of the image that objects link to (docs/rules/linking.md, "Names"; "ELF for the Arm Architecture", "Mapping
-- symbols").
use Rattle.std.specs.Prelude.{◌≡◌, ℕ, ◌+◌, ◌-◌, ◌%◌, ◌^◌, true, if◌then◌else◌, List, Ok, codes}
use Rattle.eh_word.specs.Names.{same_bytes}
use Rattle.asm_relocatable.specs.declared.place.Section.TheVariants.{Text}
use Rattle.asm_relocatable.specs.declared.object.Mark.{Mark}
use Rattle.asm_relocatable.specs.declared.object.Object.{Object}
use Rattle.asm_relocatable.specs.declared.object.ObjSymbol.{ObjSymbol}
use Rattle.elf_write.specs.declared.parts.ImageParts.{ImageParts}
use Rattle.elf_write.specs.declared.parts.OwnSymbol.{OwnSymbol}
use Rattle.elf_write.specs.declared.parts.SymbolKind.TheVariants as kind
use Rattle.eh_link.specs.Placed.{PlacedObject}
use Rattle.eh_link.specs.Linked.{link_result}
use Rattle.link_laws.specs.MeaningLaw.{IsOneOf}
use Rattle.link_laws.specs.LabelLaw.{Has, PartBegins}

-- the mapping symbol of a mark of a text that begins at an address: `$t` where code begins, `$d` where data does
abbrev pub mapping_at : ℕ → Mark → OwnSymbol
mapping_at part mark = record {
  name = if mark.code then codes "$t" else codes "$d";
  value = (part + mark.offset) % 2 ^ 32;
  size = 0;
  kind = if mark.code then kind.Code else kind.Words;
}

pub record IsMapped (objects : List Object) (image : ImageParts) (placed : PlacedObject) (one : IsOneOf objects placed) (mark : Mark) : Type 0 where
  pub part : ℕ
  pub begins : PartBegins Text objects placed one part
  pub there : Has image.symbols (mapping_at part mark)

-- each mark of an object is a mapping symbol of the linked image
abbrev pub MarksAreMapped : Type 0
MarksAreMapped =
    (objects : List Object) (entry : List ℕ) (image : ImageParts) (placed : PlacedObject) (one : IsOneOf objects placed) (mark : Mark)
    → link_result objects entry ≡ Ok image → Has placed.object.marks mark → IsMapped objects image placed one mark

-- the entry of the image is a global function with the name, bit 0 clear
pub record IsEntry (objects : List Object) (entry : List ℕ) (image : ImageParts) : Type 0 where
  pub home : PlacedObject
  pub one : IsOneOf objects home
  pub symbol : ObjSymbol
  pub there : Has home.object.symbols symbol
  pub named : same_bytes entry symbol.name ≡ true
  pub global : symbol.global ≡ true
  pub function : symbol.function ≡ true
  pub part : ℕ
  pub begins : PartBegins symbol.section objects home one part
  pub address : image.entry ≡ (part + symbol.offset) % 2 ^ 32 - (part + symbol.offset) % 2 ^ 32 % 2

abbrev pub EntriesAreFunctions : Type 0
EntriesAreFunctions = (objects : List Object) (entry : List ℕ) (image : ImageParts) → link_result objects entry ≡ Ok image → IsEntry objects entry image
