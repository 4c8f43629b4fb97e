-- What the parts of an object contain, piece by piece (docs/rules/sources.md).
use Rattle.std.specs.Prelude.{ℕ, ◌==◌, ◌%◌, ◌^◌, map, not, Bool, if◌then◌else◌, List, [], ◌++◌, fold, length, Some, None}
use Rattle.asm_relocatable.specs.declared.place.Section.{Section}
use Rattle.asm_relocatable.specs.declared.place.Section.TheVariants.{Text, Rodata, Extab, Init, Bss}
use Rattle.asm_relocatable.specs.declared.object.Reloc.{Reloc}
use Rattle.asm_object.specs.declared.part.Part.{Part}
use Rattle.asm_object.specs.declared.parts.MarkedText.{MarkedText}
use Rattle.asm_object.specs.declared.parts.Sections.{Sections}
use Rattle.asm_layout.specs.declared.labels.Label.{Label}
use Rattle.asm_relocatable.specs.declared.object.IndexRow.{IndexRow}
use Rattle.asm_relocatable.specs.declared.object.Object.{Object}
use Rattle.asm_object.specs.Pieces.{Piece, mark_of}
use Rattle.asm_object.specs.Objects.{symbol_of}

-- a section with more bytes and relocations
abbrev pub part_with : Part → List ℕ → List Reloc → Part
part_with part bytes relocs = record { bytes = part.bytes ++ bytes; relocs = part.relocs ++ relocs }

-- a text after bytes were appended from a place on, or were not
abbrev pub text_with_mark : MarkedText → Bool → ℕ → Bool → MarkedText
text_with_mark text grew place code =
    if grew then record text { marks = text.marks ++ mark_of text.last place code; last = Some code } else text

abbrev pub text_with : MarkedText → Piece → MarkedText
text_with text piece =
    text_with_mark (record text { part = part_with text.part piece.bytes piece.relocs })
    (not (length piece.bytes == 0)) piece.place.offset piece.code

abbrev pub with_piece_in : Section → Sections → Piece → Sections
with_piece_in Text sections piece = record sections { text = text_with sections.text piece }
with_piece_in Rodata sections piece =
    record sections { rodata = part_with sections.rodata piece.bytes piece.relocs }
with_piece_in Extab sections piece = record sections { extab = part_with sections.extab piece.bytes piece.relocs }
with_piece_in Init sections piece = record sections { init = part_with sections.init piece.bytes piece.relocs }
with_piece_in Bss sections piece = sections

-- the sections with a piece more
abbrev pub with_piece : Sections → Piece → Sections
with_piece sections piece = with_piece_in piece.place.section sections piece

abbrev pub with_pieces : Sections → List Piece → Sections
with_pieces sections pieces = fold with_piece sections pieces

abbrev pub no_part : Part
no_part = record { bytes = []; relocs = [] }

abbrev pub no_sections : Sections
no_sections = record {
  text = record { part = no_part; marks = []; last = None };
  rodata = no_part;
  extab = no_part;
  init = no_part;
}

-- the object of sections, rows and labels
abbrev pub object_of_parts : Sections → List IndexRow → List (List ℕ × Label) → ℕ → Object
object_of_parts sections rows labels bss = record {
  text = sections.text.part.bytes;
  rodata = sections.rodata.bytes;
  extab = sections.extab.bytes;
  init = sections.init.bytes;
  bss = bss % 2 ^ 32;
  symbols = map symbol_of labels;
  marks = sections.text.marks;
  rows = rows;
  relocs = sections.text.part.relocs ++ sections.rodata.relocs ++ sections.extab.relocs ++ sections.init.relocs;
}
