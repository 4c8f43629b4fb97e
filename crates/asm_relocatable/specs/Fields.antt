-- The fields of an object that the linker fills, and the bytes of its sections (docs/rules/sources.md).
use Rattle.std.specs.Prelude.{ℕ, ◌+◌, ◌≤◌, List, [], ◌∷◌}
use Rattle.std.specs.List.{filter}
use Rattle.asm_relocatable.specs.declared.place.Section.{Section}
use Rattle.asm_relocatable.specs.declared.place.Section.TheVariants.{Text, Rodata, Extab, Init, Bss}
use Rattle.asm_relocatable.specs.declared.object.Object.{Object}
use Rattle.asm_relocatable.specs.declared.object.Reloc.{Reloc}
use Rattle.asm_relocatable.specs.Relocations.{field_size}
use Rattle.asm_relocatable.specs.Sections.{same_section}

-- fields between two offsets that follow one another without overlap
abbrev pub StandInOrder : ℕ → List Reloc → ℕ → Type 0
StandInOrder from [] end = from ≤ end
StandInOrder from (reloc ∷ more) end = (from ≤ reloc.offset) × StandInOrder (reloc.offset + field_size reloc) more end

-- the relocations of a section
abbrev pub relocs_at : Section → Object → List Reloc
relocs_at section object = filter (λ reloc. same_section reloc.section section) object.relocs

-- the bytes of a section
abbrev pub bytes_at : Section → Object → List ℕ
bytes_at Text object = object.text
bytes_at Rodata object = object.rodata
bytes_at Extab object = object.extab
bytes_at Init object = object.init
bytes_at Bss object = []
