-- What the names of objects that link to an image mean: each name of a field means a label, so no field stays as it was
-- (docs/rules/linking.md, "Names").
use Rattle.std.specs.Prelude.{◌≡◌, ℕ, List, ◌∷◌, ◌++◌, Option, Some, Ok}
use Rattle.asm_relocatable.specs.declared.object.Object.{Object}
use Rattle.asm_relocatable.specs.declared.object.Reloc.{Reloc}
use Rattle.elf_write.specs.declared.parts.ImageParts.{ImageParts}
use Rattle.eh_link.specs.declared.names.Meaning.{Meaning}
use Rattle.eh_link.specs.Placed.{PlacedObject}
use Rattle.eh_link.specs.Layout.{place_objects}
use Rattle.eh_link.specs.Symbols.{meaning_of}
use Rattle.eh_link.specs.Linked.{link_result}

-- one of the linked objects, with the addresses of its sections
pub record IsOneOf (objects : List Object) (placed : PlacedObject) : Type 0 where
  pub front : List PlacedObject
  pub back : List PlacedObject
  pub split : place_objects objects ≡ front ++ placed ∷ back

pub record HasMeaning (meaning : Option Meaning) : Type 0 where
  pub means : Meaning
  pub is : meaning ≡ Some means

-- the name of each field has a meaning
abbrev pub NamesHaveMeanings : Type 0
NamesHaveMeanings =
    (objects : List Object) (entry : List ℕ) (image : ImageParts) (placed : PlacedObject) (before after : List Reloc) (reloc : Reloc)
    → link_result objects entry ≡ Ok image → IsOneOf objects placed → placed.object.relocs ≡ before ++ reloc ∷ after
    → HasMeaning (meaning_of (place_objects objects) placed reloc.name)
