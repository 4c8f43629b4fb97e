-- Laws of every object of statements, of which there are fewer than 2^64. Relocations are ordered by section; in a
-- section their fields follow one another, whole in its bytes, so no two overlap. Each has a kind of the standard (IHI
-- 0044). The symbol of a label is where the statements before it end.
use Rattle.std.specs.Prelude.{◌≡◌, ◌^◌, ◌<◌, ◌==◌, if◌then◌else◌, true, ℕ, List, [], ◌∷◌, ◌++◌, length, Option, Some, None, Ok}
use Rattle.std.specs.List.{list_all, list_any}
use Rattle.eh_word.specs.Names.{same_bytes}
use Rattle.asm_statements.specs.declared.statement.Stmt.{Stmt}
use Rattle.asm_statements.specs.declared.statement.StmtKind.TheVariants.{Label}
use Rattle.asm_relocatable.specs.declared.place.Place.{Place}
use Rattle.asm_relocatable.specs.declared.place.Section.{Section}
use Rattle.asm_relocatable.specs.declared.place.Section.TheVariants.{Text, Rodata, Extab, Init, Bss}
use Rattle.asm_layout.specs.Functions.{entries_of}
use Rattle.asm_layout.specs.Walks.{start, cursor_place, walk_after}
use Rattle.asm_relocatable.specs.declared.object.Object.{Object}
use Rattle.asm_relocatable.specs.declared.object.ObjSymbol.{ObjSymbol}
use Rattle.asm_relocatable.specs.declared.object.Reloc.{Reloc}
use Rattle.asm_relocatable.specs.declared.relocation.TheConstants.{R_ARM_ABS32, R_ARM_REL32, R_ARM_THM_CALL, R_ARM_TARGET2, R_ARM_PREL31, R_ARM_THM_JUMP11, R_ARM_THM_JUMP8}
use Rattle.asm_relocatable.specs.Fields.{StandInOrder, relocs_at, bytes_at}
use Rattle.asm_object.specs.Objects.{object_of}

-- the fields of a section follow one another, each whole in its bytes
abbrev pub FieldsStandInOrder : Type 0
FieldsStandInOrder =
    (stmts : List Stmt) (object : Object) (section : Section)
    → length stmts < 2 ^ 64 → object_of stmts ≡ Ok object
    → StandInOrder 0 (relocs_at section object) (length (bytes_at section object))

-- the relocations of the text come first, then those of the read-only data, the exception tables and the data
abbrev pub RelocsGoBySection : Type 0
RelocsGoBySection =
    (stmts : List Stmt) (object : Object)
    → object_of stmts ≡ Ok object
    → object.relocs ≡ relocs_at Text object ++ relocs_at Rodata object ++ relocs_at Extab object ++ relocs_at Init object

-- the kinds of a source's relocations
abbrev pub relocation_kinds : List ℕ
relocation_kinds = R_ARM_ABS32 ∷ R_ARM_REL32 ∷ R_ARM_THM_CALL ∷ R_ARM_TARGET2 ∷ R_ARM_PREL31 ∷ R_ARM_THM_JUMP11 ∷ R_ARM_THM_JUMP8 ∷ []

-- each relocation has one of these kinds
abbrev pub RelocsHaveKinds : Type 0
RelocsHaveKinds =
    (stmts : List Stmt) (object : Object)
    → object_of stmts ≡ Ok object → list_all (λ reloc. list_any (λ kind. reloc.kind == kind) relocation_kinds) object.relocs ≡ true

-- where the first symbol of a name stands
abbrev pub symbol_place : List ℕ → List ObjSymbol → Option Place
symbol_place name [] = None
symbol_place name (symbol ∷ more) =
    if same_bytes name symbol.name then Some (record { section = symbol.section; offset = symbol.offset }) else symbol_place name more

-- the symbol of a label is in the section, and at the place, where the statements before the label end
abbrev pub SymbolsStandAtTheirLabels : Type 0
SymbolsStandAtTheirLabels =
    (before more : List Stmt) (line : ℕ) (name : List ℕ) (object : Object)
    → let stmts = before ++ record { line = line; kind = Label name } ∷ more in
    length stmts < 2 ^ 64 → object_of stmts ≡ Ok object
    → symbol_place name object.symbols ≡ Some (cursor_place (walk_after (entries_of stmts) start before).at)
