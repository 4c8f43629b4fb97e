-- The bytes of a field after relocation, if it overlaps no other field and lies in its section, satisfy the equation of
-- its relocation (IHI 0044, "Relocation types"). S is the address of its name, T is 1 if that is a function, A the
-- addend, P the field's address.
use Rattle.std.specs.Prelude.{◌≡◌, ℕ, ◌+◌, ◌/◌, ◌%◌, ◌^◌, ◌<◌, ◌≤◌, true, false, List, ◌∷◌, ◌++◌, length, bit_or, All, Option, Some, None, Ok, ℤ, pos, ◌+ℤ◌, ◌-ℤ◌}
use Rattle.std.specs.Int.{from_bool}
use Rattle.eh_word.specs.Words.{plus_offset, prel31_of, number_at}
use Rattle.thumb_isa.specs.Fields.{field}
use Rattle.thumb_isa.specs.declared.instr.Instr.{Instr}
use Rattle.thumb_isa.specs.declared.instr.Instr.TheVariants.{BCond, B, Bl}
use Rattle.thumb_isa.specs.declared.profile.Profile.{Profile}
use Rattle.thumb_isa.specs.declared.profile.Profile.TheVariants.{One, Two}
use Rattle.thumb_isa.specs.Laws.{is_late}
use Rattle.thumb_encode.specs.Codes.{IsCodeIn}
use Rattle.thumb_encode.specs.declared.code.Code.{Code}
use Rattle.thumb_encode.specs.declared.code.Code.TheVariants as code
use Rattle.eh_codes.specs.declared.row.TheConstants.{PREL31_LIMIT}
use Rattle.asm_relocatable.specs.declared.place.Section.{Section}
use Rattle.asm_relocatable.specs.declared.object.Object.{Object}
use Rattle.asm_relocatable.specs.declared.object.Reloc.{Reloc}
use Rattle.elf_write.specs.declared.parts.ImageParts.{ImageParts}
use Rattle.eh_link.specs.declared.names.Meaning.{Meaning}
use Rattle.asm_relocatable.specs.declared.relocation.FieldKind.{FieldKind}
use Rattle.asm_relocatable.specs.declared.relocation.FieldKind.TheVariants.{Absolute, Relative, Prel31, Call, Jump, CondJump}
use Rattle.eh_link.specs.Layout.{place_objects}
use Rattle.eh_link.specs.Symbols.{meaning_of}
use Rattle.eh_link.specs.Fields.{fill_fields, unreachable_in, unreachable_for}
use Rattle.asm_relocatable.specs.Sections.{same_section}
use Rattle.asm_relocatable.specs.Relocations.{kind_of, width}
use Rattle.eh_link.specs.FieldLaw.{StandsAlone}
use Rattle.eh_link.specs.Linked.{link_result}

-- ---- what fields say

-- (S + A) OR T
abbrev pub target_of : Meaning → ℤ → ℕ
target_of meaning addend = bit_or (plus_offset meaning.address addend) (from_bool meaning.function)

-- S + A - P, a whole number
abbrev pub displacement_of : Meaning → ℤ → ℕ → ℤ
displacement_of meaning addend place = (pos meaning.address +ℤ addend) -ℤ pos place

-- the word at an offset plus its address P is the target, modulo 2 ^ 32
pub record IsRelative (target place : ℕ) (bytes : List ℕ) (offset : ℕ) : Type 0 where
  pub word : ℕ
  pub there : number_at 4 bytes offset ≡ Some word
  pub sum : (word + place) % 2 ^ 32 ≡ target

-- the same in bits 30 to 0; bit 31 is that of the word before. Below 2 ^ 30 an unwinder reads the target
pub record IsPrel31 (old target place : ℕ) (bytes : List ℕ) (offset : ℕ) : Type 0 where
  pub word : ℕ
  pub there : number_at 4 bytes offset ≡ Some word
  pub sum : (word + place) % PREL31_LIMIT ≡ target % PREL31_LIMIT
  pub kept : word / PREL31_LIMIT ≡ old / PREL31_LIMIT
  pub leads : place < 2 ^ 30 → target < 2 ^ 30 → prel31_of place word ≡ target

-- the halfwords of a code stand at an offset
abbrev pub CodeAt : Code → List ℕ → ℕ → Type 0
CodeAt (code.Half first) bytes offset = number_at 2 bytes offset ≡ Some first
CodeAt (code.Pair first second) bytes offset = (number_at 2 bytes offset ≡ Some first) × (number_at 2 bytes (offset + 2) ≡ Some second)

-- a profile has an instruction: the second has all, the first all but the second's own
abbrev pub IsOf : Profile → Instr → Type 0
IsOf One instruction = is_late instruction ≡ false
IsOf Two instruction = Unit {0}

-- a code decodes to an instruction in every profile that has it
abbrev pub IsCodeInEach : Code → Instr → Type 0
IsCodeInEach encoding instruction = (p : Profile) → IsOf p instruction → IsCodeIn p encoding instruction

-- the halfwords at an offset decode to an instruction, in every profile that has it
pub record Decodes (instruction : Instr) (bytes : List ℕ) (offset : ℕ) : Type 0 where
  pub encoding : Code
  pub there : CodeAt encoding bytes offset
  pub means : IsCodeInEach encoding instruction

-- ---- the law

-- a field of a section that shares no byte with those of others: its kind, its bytes within those of the section, and what its
-- name means
pub record IsField (means : List ℕ → Option Meaning) (section : Section) (bytes : List ℕ) (others : List Reloc) (reloc : Reloc) (kind : FieldKind) (meaning : Meaning) : Type 0 where
  pub here : same_section reloc.section section ≡ true
  pub number : kind_of reloc.kind ≡ Some kind
  pub inside : reloc.offset + width kind ≤ length bytes
  pub alone : StandsAlone section reloc others
  pub name : means reloc.name ≡ Some meaning

-- what each field of a kind says, by S and T, A, P, its offset, the object's bytes of its section and those after all relocations
abbrev pub FieldsSay : FieldKind → (Meaning → ℤ → ℕ → ℕ → List ℕ → List ℕ → Type 0) → Type 0
FieldsSay kind Says =
    (means : List ℕ → Option Meaning) (section : Section) (start : ℕ) (bytes : List ℕ) (before : List Reloc) (reloc : Reloc) (after : List Reloc) (meaning : Meaning)
    → IsField means section bytes (before ++ after) reloc kind meaning → start + reloc.offset < 2 ^ 32
    → Says meaning reloc.addend (start + reloc.offset) reloc.offset bytes (fill_fields means section start bytes (before ++ reloc ∷ after))

-- the same if each branch of the section reaches its label
abbrev pub BranchesSay : FieldKind → (Meaning → ℤ → ℕ → ℕ → List ℕ → List ℕ → Type 0) → Type 0
BranchesSay kind Says =
    (means : List ℕ → Option Meaning) (section : Section) (start : ℕ) (bytes : List ℕ) (before : List Reloc) (reloc : Reloc) (after : List Reloc) (meaning : Meaning)
    → IsField means section bytes (before ++ after) reloc kind meaning → start + reloc.offset < 2 ^ 32
    → unreachable_in means section start bytes (before ++ reloc ∷ after) ≡ None
    → Says meaning reloc.addend (start + reloc.offset) reloc.offset bytes (fill_fields means section start bytes (before ++ reloc ∷ after))

abbrev pub AbsoluteFields : Type 0
AbsoluteFields = FieldsSay Absolute (λ meaning addend place offset old new. number_at 4 new offset ≡ Some (target_of meaning addend))

abbrev pub RelativeFields : Type 0
RelativeFields = FieldsSay Relative (λ meaning addend place offset old new. IsRelative (target_of meaning addend) place new offset)

abbrev pub Prel31Fields : Type 0
Prel31Fields =
    FieldsSay Prel31 (λ meaning addend place offset old new.
    (word : ℕ) → number_at 4 old offset ≡ Some word → word < 2 ^ 32 → IsPrel31 word (target_of meaning addend) place new offset)

abbrev pub Calls : Type 0
Calls = BranchesSay Call (λ meaning addend place offset old new. Decodes (Bl (displacement_of meaning addend place)) new offset)

abbrev pub Jumps : Type 0
Jumps = BranchesSay Jump (λ meaning addend place offset old new. Decodes (B (displacement_of meaning addend place)) new offset)

-- the condition is in bits 11 to 8 of the halfword that was there
abbrev pub CondJumps : Type 0
CondJumps =
    BranchesSay CondJump (λ meaning addend place offset old new.
    (half : ℕ) → number_at 2 old offset ≡ Some half → Decodes (BCond (field half 8 4) (displacement_of meaning addend place)) new offset)

-- in objects that link, each branch reaches its label
abbrev pub ImagesReach : Type 0
ImagesReach =
    (objects : List Object) (entry : List ℕ) (image : ImageParts) (section : Section)
    → link_result objects entry ≡ Ok image
    → All (λ placed. unreachable_for (meaning_of (place_objects objects) placed) placed section ≡ None) (place_objects objects)
