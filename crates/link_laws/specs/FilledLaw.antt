-- In a linked image, each field that the assembler left to the linker satisfies the equation of its relocation, for the
-- address of its name (IHI 0044, "Relocation types"; docs/rules/linking.md, "Relocations").
use Rattle.std.specs.Prelude.{◌≡◌, ℕ, ℤ, ◌+◌, ◌/◌, ◌%◌, ◌^◌, ◌<◌, List, ◌∷◌, ◌++◌, length, Some, Ok}
use Rattle.eh_word.specs.Words.{number_at, prel31_of}
use Rattle.thumb_isa.specs.Fields.{field}
use Rattle.thumb_isa.specs.declared.instr.Instr.{Instr}
use Rattle.thumb_isa.specs.declared.instr.Instr.TheVariants.{BCond, B, Bl}
use Rattle.thumb_encode.specs.declared.code.Code.{Code}
use Rattle.thumb_encode.specs.declared.code.Code.TheVariants as code
use Rattle.asm_statements.specs.declared.statement.Stmt.{Stmt}
use Rattle.asm_relocatable.specs.declared.object.Object.{Object}
use Rattle.asm_relocatable.specs.declared.object.Reloc.{Reloc}
use Rattle.asm_relocatable.specs.declared.relocation.FieldKind.{FieldKind}
use Rattle.asm_relocatable.specs.declared.relocation.FieldKind.TheVariants.{Absolute, Relative, Prel31, Call, Jump, CondJump}
use Rattle.asm_object.specs.Objects.{object_of}
use Rattle.asm_relocatable.specs.Fields.{bytes_at}
use Rattle.asm_relocatable.specs.Relocations.{kind_of}
use Rattle.elf_write.specs.declared.parts.ImageParts.{ImageParts}
use Rattle.eh_link.specs.declared.names.Meaning.{Meaning}
use Rattle.eh_link.specs.Placed.{PlacedObject}
use Rattle.eh_link.specs.Layout.{place_objects}
use Rattle.eh_link.specs.Symbols.{meaning_of}
use Rattle.eh_link.specs.EquationLaw.{IsCodeInEach, target_of, displacement_of}
use Rattle.eh_link.specs.Linked.{link_result}
use Rattle.link_laws.specs.MeaningLaw.{IsOneOf}
use Rattle.link_laws.specs.LabelLaw.{PartBegins}
use Rattle.link_laws.specs.JoinedLaw.{NumberAt}

-- ---- what stands at an address of an image

-- the halfwords of a code
abbrev pub StandsIn : Code → ImageParts → ℕ → Type 0
StandsIn (code.Half first) image address = NumberAt 2 image address first
StandsIn (code.Pair first second) image address = NumberAt 2 image address first × NumberAt 2 image (address + 2) second

-- halfwords that decode to an instruction, in every profile that has it
pub record DecodesAt (instruction : Instr) (image : ImageParts) (address : ℕ) : Type 0 where
  pub encoding : Code
  pub there : StandsIn encoding image address
  pub means : IsCodeInEach encoding instruction

-- a word that plus its own address is the target, modulo 2 ^ 32
pub record RelativeAt (target : ℕ) (image : ImageParts) (address : ℕ) : Type 0 where
  pub word : ℕ
  pub there : NumberAt 4 image address word
  pub sum : (word + address) % 2 ^ 32 ≡ target

-- the same in bits 30 to 0, modulo 2 ^ 31, with a given bit 31. Below 2 ^ 30 an unwinder reads the target
pub record Prel31At (top target : ℕ) (image : ImageParts) (address : ℕ) : Type 0 where
  pub word : ℕ
  pub there : NumberAt 4 image address word
  pub sum : (word + address) % 2 ^ 31 ≡ target % 2 ^ 31
  pub kept : word / 2 ^ 31 ≡ top
  pub leads : target < 2 ^ 30 → prel31_of address word ≡ target

-- ---- what a field of a kind is

-- by S and T, A, the bytes of the object's section and the field's place in them: a PREL31 keeps bit 31 of the word there, and a branch
-- under a condition the condition in bits 11 to 8
abbrev pub FieldSays : FieldKind → Meaning → ℤ → List ℕ → ℕ → ImageParts → ℕ → Type 0
FieldSays Absolute meaning addend old offset image address = NumberAt 4 image address (target_of meaning addend)
FieldSays Relative meaning addend old offset image address = RelativeAt (target_of meaning addend) image address
FieldSays Prel31 meaning addend old offset image address =
    (word : ℕ) → number_at 4 old offset ≡ Some word → word < 2 ^ 32 → Prel31At (word / 2 ^ 31) (target_of meaning addend) image address
FieldSays Call meaning addend old offset image address = DecodesAt (Bl (displacement_of meaning addend address)) image address
FieldSays Jump meaning addend old offset image address = DecodesAt (B (displacement_of meaning addend address)) image address
FieldSays CondJump meaning addend old offset image address =
    (half : ℕ) → number_at 2 old offset ≡ Some half → DecodesAt (BCond (field half 8 4) (displacement_of meaning addend address)) image address

-- the field of an object at its address: its kind is known, its name has a meaning, and it holds what the kind says of
-- that
pub record FieldIsFilled (objects : List Object) (image : ImageParts) (placed : PlacedObject) (one : IsOneOf objects placed) (reloc : Reloc) : Type 0 where
  pub part : ℕ
  pub begins : PartBegins reloc.section objects placed one part
  pub kind : FieldKind
  pub number : kind_of reloc.kind ≡ Some kind
  pub meaning : Meaning
  pub means : meaning_of (place_objects objects) placed reloc.name ≡ Some meaning
  pub says : FieldSays kind meaning reloc.addend (bytes_at reloc.section placed.object) reloc.offset image (part + reloc.offset)

abbrev pub FieldsAreFilled : Type 0
FieldsAreFilled =
    (objects : List Object) (entry : List ℕ) (image : ImageParts) (placed : PlacedObject) (one : IsOneOf objects placed) (stmts : List Stmt) (before after : List Reloc) (reloc : Reloc)
    → length stmts < 2 ^ 64 → object_of stmts ≡ Ok placed.object → link_result objects entry ≡ Ok image → placed.object.relocs ≡ before ++ reloc ∷ after
    → FieldIsFilled objects image placed one reloc
