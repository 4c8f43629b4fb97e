-- The fields of an assembled object don't overlap and lie in their sections, so the laws on single fields hold of each.
-- There are fewer than 2^64 statements (docs/rules/linking.md, "What is proved").
use Rattle.std.specs.Prelude.{◌≡◌, ◌+◌, ◌^◌, ◌<◌, ◌≤◌, List, ◌∷◌, ◌++◌, length, Ok}
use Rattle.asm_statements.specs.declared.statement.Stmt.{Stmt}
use Rattle.asm_relocatable.specs.declared.object.Object.{Object}
use Rattle.asm_relocatable.specs.declared.object.Reloc.{Reloc}
use Rattle.asm_object.specs.Objects.{object_of}
use Rattle.asm_relocatable.specs.Relocations.{field_size}
use Rattle.asm_relocatable.specs.Fields.{bytes_at}
use Rattle.eh_link.specs.FieldLaw.{StandsAlone}

pub record StandsWholeAndAlone (object : Object) (before : List Reloc) (reloc : Reloc) (after : List Reloc) : Type 0 where
  pub alone : StandsAlone reloc.section reloc (before ++ after)
  pub whole : reloc.offset + field_size reloc ≤ length (bytes_at reloc.section object)

abbrev pub AssembledFieldsStandAlone : Type 0
AssembledFieldsStandAlone =
    (stmts : List Stmt) (object : Object) (before : List Reloc) (reloc : Reloc) (after : List Reloc)
    → length stmts < 2 ^ 64 → object_of stmts ≡ Ok object → object.relocs ≡ before ++ reloc ∷ after
    → StandsWholeAndAlone object before reloc after
