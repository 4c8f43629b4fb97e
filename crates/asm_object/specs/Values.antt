-- The values of names, words and numbers (docs/rules/sources.md; IHI 0044).
use Rattle.std.specs.Prelude.{ℕ, ◌-◌, ◌^◌, ℤ, pos, negsuc, ◌+ℤ◌, ◌-ℤ◌, Bool, true, nat_lt, if◌then◌else◌, List, Option, Some, None, is_some}
use Rattle.asm_statements.specs.declared.statement.Expr.{Expr}
use Rattle.asm_statements.specs.declared.statement.Expr.TheVariants as expr
use Rattle.asm_relocatable.specs.declared.place.Place.{Place}
use Rattle.asm_layout.specs.declared.word.Word.{Word}
use Rattle.asm_layout.specs.declared.word.Word.TheVariants as word
use Rattle.asm_layout.specs.Words.{low_word}
use Rattle.asm_relocatable.specs.Names.{is_local}
use Rattle.asm_relocatable.specs.declared.relocation.TheConstants.{R_ARM_ABS32, R_ARM_REL32, R_ARM_TARGET2, R_ARM_PREL31}
use Rattle.asm_object.specs.declared.value.Link.{Link}
use Rattle.eh_codes.specs.declared.words.TheConstants.{REFERENCE_MARK}
use Rattle.asm_relocatable.specs.Sections.{same_section}
use Rattle.asm_layout.specs.Labels.{NamePlace, find}

-- a local name has a label
abbrev pub is_known : List NamePlace → List ℕ → Bool
is_known labels name = if is_local name then is_some (find name labels) else true

-- the offset of one place from another of its section
abbrev pub between_places : Option Place → Option Place → Option ℤ
between_places (Some a) (Some b) = if same_section a.section b.section then Some (pos a.offset -ℤ pos b.offset) else None
between_places _ _ = None

abbrev pub distance : List NamePlace → List ℕ → List ℕ → Option ℤ
distance labels a b = between_places (find a labels) (find b labels)

abbrev pub is_word_known : List NamePlace → Expr → Bool
is_word_known labels (expr.Num _) = true
is_word_known labels (expr.Diff a b _) = is_some (distance labels a b)
is_word_known labels (expr.Of name _) = is_known labels name
is_word_known labels (expr.Prel31 name) = is_known labels name
is_word_known labels (expr.Prel31Ref name) = is_known labels name
is_word_known labels (expr.Target2 name) = is_known labels name
is_word_known labels (expr.Rel name) = is_known labels name

abbrev pub plus : Option ℤ → ℤ → Option ℤ
plus (Some m) n = Some (m +ℤ n)
plus None n = None

-- the number of a halfword or byte; names have one only in `a-b+n`
abbrev pub number : List NamePlace → Expr → Option ℤ
number labels (expr.Num n) = Some n
number labels (expr.Diff a b n) = plus (distance labels a b) n
number labels (expr.Of _ _) = None
number labels (expr.Prel31 _) = None
number labels (expr.Prel31Ref _) = None
number labels (expr.Target2 _) = None
number labels (expr.Rel _) = None

abbrev pub low_or_zero : Option ℤ → ℕ
low_or_zero (Some n) = low_word n
low_or_zero None = 0

-- the word before linking: its number, or 0 if it takes a name's address; bit 31 is set for a reference to a type
abbrev pub section_word : List NamePlace → Word → ℕ
section_word labels (word.Num n) = n
section_word labels (word.Diff a b n) = low_or_zero (plus (distance labels a b) (pos n))
section_word labels (word.Of _ _) = 0
section_word labels (word.Rel _) = 0
section_word labels (word.Target2 _) = 0
section_word labels (word.Prel31 _) = 0
section_word labels (word.Prel31Ref _) = REFERENCE_MARK

-- a number modulo 2^32 as a signed number
abbrev pub signed_word : ℕ → ℤ
signed_word n = if nat_lt n (2 ^ 31) then pos n else negsuc (0xffffffff - n)

-- a relocation without its place: its number (Arm ELF, IHI 0044), its name and its addend
abbrev pub relocation_link : ℕ → List ℕ → ℤ → Option Link
relocation_link kind name addend = Some (record { kind = kind; name = name; addend = addend })

-- the relocation of a word, if it needs one
abbrev pub link_of : Word → Option Link
link_of (word.Num _) = None
link_of (word.Diff _ _ _) = None
link_of (word.Of name n) = relocation_link R_ARM_ABS32 name (signed_word n)
link_of (word.Rel name) = relocation_link R_ARM_REL32 name (pos 0)
link_of (word.Target2 name) = relocation_link R_ARM_TARGET2 name (pos 0)
link_of (word.Prel31 name) = relocation_link R_ARM_PREL31 name (pos 0)
link_of (word.Prel31Ref name) = relocation_link R_ARM_PREL31 name (pos 0)
