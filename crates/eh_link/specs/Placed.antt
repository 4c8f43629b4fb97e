-- An object, and where its parts begin (docs/rules/linking.md, "Layout").
use Rattle.asm_relocatable.specs.declared.object.Object.{Object}
use Rattle.eh_link.specs.declared.places.Addresses.{Addresses}

pub record PlacedObject : Type 0 where
  pub object : Object
  pub at : Addresses
