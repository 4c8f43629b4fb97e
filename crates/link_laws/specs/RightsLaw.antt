-- What may be done with the segments of an image: the one with the texts is run and not written, any other is written and not run
-- (docs/rules/linking.md, "Layout").
use Rattle.std.specs.Prelude.{◌≡◌, ℕ, Bool, true, false, List, ◌∷◌, All, Ok}
use Rattle.asm_relocatable.specs.declared.object.Object.{Object}
use Rattle.elf_write.specs.declared.parts.ImageParts.{ImageParts}
use Rattle.elf_write.specs.declared.parts.OwnSegment.{OwnSegment}
use Rattle.eh_link.specs.declared.places.TheConstants.{CODE_START}
use Rattle.eh_link.specs.LayoutLaw.{linked_code}
use Rattle.eh_link.specs.Linked.{link_result}

abbrev pub IsWritten : OwnSegment → Type 0
IsWritten segment = (segment.write ≡ true) × (segment.exec ≡ false)

-- the first segment has all texts, read-only data, exception tables and the index
pub record CodeIsApart (objects : List Object) (image : ImageParts) : Type 0 where
  pub code : OwnSegment
  pub rest : List OwnSegment
  pub split : image.segments ≡ code ∷ rest
  pub start : code.start ≡ CODE_START
  pub bytes : code.bytes ≡ linked_code objects
  pub runs : code.exec ≡ true
  pub stays : code.write ≡ false
  pub written : All IsWritten rest

abbrev pub SegmentsHaveRights : Type 0
SegmentsHaveRights = (objects : List Object) (entry : List ℕ) (image : ImageParts) → link_result objects entry ≡ Ok image → CodeIsApart objects image
