-- How sources are built, and which refusal comes first (docs/guide/command-line.md, "Several sources"). Each step is done for all sources, in
-- order, before the next step; the runtime's own source comes last.
use Rattle.std.specs.Prelude.{◌≡◌, ℕ, List, [], ◌∷◌, ◌++◌, codes, Ok, Err}
use Rattle.asm_layout.specs.declared.fault.AsmFault.{AsmFault}
use Rattle.asm_object.specs.Objects.{object_of}
use Rattle.asm_read.specs.Reading.{source_stmts}
use Rattle.asm_read.specs.declared.fault.SourceFault.{SourceFault}
use Rattle.eh_kit.specs.Stubs.{stubs_text}
use Rattle.eh_link.specs.Linked.{link_result}
use Rattle.eh_link.specs.declared.fault.LinkFault.{LinkFault}
use Rattle.elf_image.specs.declared.fault.ImageFault.{ImageFault}
use Rattle.elf_write.specs.Layout.{write_result}
use Rattle.elf_write.specs.declared.parts.ImageParts.{ImageParts}
use Rattle.asm_relocatable.specs.declared.object.Object.{Object}
use Rattle.cmd_input.specs.Building.{build_image}
use Rattle.cmd_input.specs.RefusalText.{source_line, asm_line, link_line}
use Rattle.cmd_input.specs.Sources.{NamedText, NamedStmts}
use Rattle.cmd_lines.specs.Text.{image_fault_line}

-- the sources of a program, followed by the stubs
abbrev pub with_stubs : List NamedText → List NamedText
with_stubs sources = sources ++ record { name = codes "stubs"; text = stubs_text } ∷ []

-- sources read as these statements, one after the other
abbrev pub AreRead : List NamedText → List NamedStmts → Type 0
AreRead [] [] = Unit {0}
AreRead [] (statements ∷ read) = ⊥
AreRead (source ∷ sources) [] = ⊥
AreRead (source ∷ sources) (statements ∷ read) = (statements.name ≡ source.name) × (source_stmts source.text ≡ Ok statements.stmts) × AreRead sources read

-- .. which are assembled to these objects
abbrev pub AreAssembled : List NamedStmts → List Object → Type 0
AreAssembled [] [] = Unit {0}
AreAssembled [] (object ∷ objects) = ⊥
AreAssembled (statements ∷ read) [] = ⊥
AreAssembled (statements ∷ read) (object ∷ objects) = (object_of statements.stmts ≡ Ok object) × AreAssembled read objects

-- sources, their statements and their objects, with the stubs
pub record AssemblesSources (sources : List NamedText) (objects : List Object) : Type 0 where
  pub read : List NamedStmts
  pub are_read : AreRead (with_stubs sources) read
  pub are_assembled : AreAssembled read objects

pub record BuildsAreInOrder : Type 0 where
  -- the first source that can't be read
  pub unread : (sources before after : List NamedText) (read : List NamedStmts) (source : NamedText) (fault : SourceFault)
      → with_stubs sources ≡ before ++ source ∷ after → AreRead before read → source_stmts source.text ≡ Err fault
      → build_image sources ≡ Err (source_line source.name fault)
  -- .. and if all can, the first that can't be assembled
  pub unassembled : (sources : List NamedText) (read before after : List NamedStmts) (objects : List Object) (source : NamedStmts) (fault : AsmFault)
      → AreRead (with_stubs sources) read → read ≡ before ++ source ∷ after → AreAssembled before objects → object_of source.stmts ≡ Err fault
      → build_image sources ≡ Err (asm_line source.name fault)
  -- .. and if all can, they are linked with the entry `_start`, and the image is written
  pub unlinked : (sources : List NamedText) (objects : List Object) (fault : LinkFault)
      → AssemblesSources sources objects → link_result objects (codes "_start") ≡ Err fault → build_image sources ≡ Err (link_line fault)
  pub unwritten : (sources : List NamedText) (objects : List Object) (parts : ImageParts) (fault : ImageFault)
      → AssemblesSources sources objects → link_result objects (codes "_start") ≡ Ok parts → write_result parts ≡ Err fault → build_image sources ≡ Err (image_fault_line fault)
  pub image : (sources : List NamedText) (objects : List Object) (parts : ImageParts) (bytes : List ℕ)
      → AssemblesSources sources objects → link_result objects (codes "_start") ≡ Ok parts → write_result parts ≡ Ok bytes → build_image sources ≡ Ok bytes
