-- Sections of an object (docs/rules/sources.md).
use Rattle.std.specs.Prelude.{Bool, true, false}
use Rattle.asm_relocatable.specs.declared.place.Section.{Section}
use Rattle.asm_relocatable.specs.declared.place.Section.TheVariants.{Text, Rodata, Extab, Init, Bss}

-- whether two sections are one
abbrev pub same_section : Section → Section → Bool
same_section Text Text = true
same_section Rodata Rodata = true
same_section Extab Extab = true
same_section Init Init = true
same_section Bss Bss = true
same_section _ _ = false
