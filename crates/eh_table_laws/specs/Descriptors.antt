-- What the bytes of a descriptor mean (IHI 0038, "Descriptors"; docs/rules/unwind-tables.md): laws in bytes and numbers, above the list of a
-- table's descriptors.
use Rattle.std.specs.Prelude.{◌≡◌, ℕ, ◌+◌, ◌-◌, ◌*◌, ◌%◌, ◌<◌, ◌≤◌, Bool, true, false, List, [], ◌∷◌, length, Some, None, Ok}
use Rattle.eh_desc.specs.declared.descriptor.CatchType.{CatchType}
use Rattle.eh_desc.specs.declared.descriptor.CatchType.TheVariants.{All, AllFails, One}
use Rattle.eh_desc.specs.declared.descriptor.DescKind.{DescKind}
use Rattle.eh_desc.specs.declared.descriptor.DescKind.TheVariants.{Cleanup, Catch, Spec}
use Rattle.eh_desc.specs.Grammar.{Form, items_from}
use Rattle.eh_table_laws.specs.Words.{HalfStands, WordStands, prel31_target}

-- ---- scopes

-- a length and, after it, an offset: two halfwords, or two words, whose first one isn't 0; and the place after them
abbrev pub ScopeBy : Bool → List ℕ → ℕ → ℕ → ℕ → ℕ → Type 0
ScopeBy false bytes place length offset after = HalfStands bytes place length × HalfStands bytes (place + 2) offset × (0 < length + offset) × (after ≡ place + 4)
ScopeBy true bytes place length offset after = WordStands bytes place length × WordStands bytes (place + 4) offset × (0 < length) × (after ≡ place + 8)

abbrev pub ScopeStands : Form → ℕ → ℕ → ℕ → ℕ → Type 0
ScopeStands t place length offset after = ScopeBy t.wide t.bytes place length offset after

-- at a place the list has a descriptor of this kind, whose scope has this length and begins so many bytes after the start of its
-- function; then the list goes on after it
abbrev pub IsRead : Form → ℕ → ℕ → ℕ → DescKind → ℕ → Type 0
IsRead t place length offset kind after =
    items_from t place ≡ Ok (record {
      at = (t.address + place) % 4294967296;
      next = (t.address + after) % 4294967296;
      start = (t.start + offset) % 4294967296;
      size = length;
      kind = kind;
    }) ∷ items_from t after

-- the landing pad of the word at a place: bit 0 is no part of it
abbrev pub pad_by : Form → ℕ → ℕ → ℕ
pad_by t place word = prel31_target ((t.address + place) % 4294967296) word - prel31_target ((t.address + place) % 4294967296) word % 2

-- ---- the end of the list, and a cleanup

-- a word of 0 ends the list
abbrev pub ZeroEnds : Type 0
ZeroEnds = (t : Form) (place : ℕ) → WordStands t.bytes place 0 → items_from t place ≡ []

-- a scope without marks and a landing pad are a cleanup
abbrev pub CleanupsAreRead : Type 0
CleanupsAreRead =
    (t : Form) (place length offset at pad : ℕ) → length % 2 ≡ 0 → offset % 2 ≡ 0 → ScopeStands t place length offset at → WordStands t.bytes at pad
    → IsRead t place length offset (Cleanup (pad_by t at pad)) (at + 4)

-- ---- catches

-- bit 31
abbrev pub mark : Bool → ℕ
mark true = 2147483648
mark false = 0

-- bit 0 of the length marks a catch, with a landing pad, whose bit 31 marks a reference, and a type word
abbrev pub IsCatch : Form → ℕ → CatchType → Type 0
IsCatch t type takes =
    (place length offset at pad : ℕ) (reference : Bool) → length % 2 ≡ 0 → offset % 2 ≡ 0 → pad < 2147483648
    → ScopeStands t place (length + 1) offset at → WordStands t.bytes at (pad + mark reference) → WordStands t.bytes (at + 4) type
    → IsRead t place length offset (Catch (pad_by t at pad) reference takes) (at + 8)

-- the type word FFFFFFFF is a catch of everything
abbrev pub EverythingIsCaught : Type 0
EverythingIsCaught = (t : Form) → IsCatch t 0xFFFFFFFF All

-- the type word FFFFFFFE is a catch of everything that fails
abbrev pub EverythingFails : Type 0
EverythingFails = (t : Form) → IsCatch t 0xFFFFFFFE AllFails

-- any other type word but 0 is the distance of a type from the word's own address, in bytes
abbrev pub TypesAreCaught : Type 0
TypesAreCaught =
    (t : Form) (place length offset at pad type : ℕ) (reference : Bool) → length % 2 ≡ 0 → offset % 2 ≡ 0 → pad < 2147483648
    → ScopeStands t place (length + 1) offset at → WordStands t.bytes at (pad + mark reference) → WordStands t.bytes (at + 4) type → 0 < type → type < 0xFFFFFFFE
    → IsRead t place length offset (Catch (pad_by t at pad) reference (One ((t.address + (at + 4) + type) % 4294967296))) (at + 8)

-- a type word of 0 is no type
abbrev pub NoTypeIsCaught : Type 0
NoTypeIsCaught = (t : Form) → IsCatch t 0 (One 0)

-- ---- specifications

-- bit 0 of the offset marks a specification: a number of types, at most 1024, and their words
abbrev pub SpecificationsAreRead : Type 0
SpecificationsAreRead =
    (t : Form) (place len offset at count : ℕ) → len % 2 ≡ 0 → offset % 2 ≡ 0 → count ≤ 1024 → ScopeStands t place len (offset + 1) at
    → WordStands t.bytes at count → at + 4 + 4 * count ≤ length t.bytes
    → IsRead t place len offset (Spec ((t.address + (at + 4)) % 4294967296) count None) (at + 4 + 4 * count)

-- where bit 31 of the number is set, a landing pad stands after the types
abbrev pub PaddedSpecificationsAreRead : Type 0
PaddedSpecificationsAreRead =
    (t : Form) (place len offset at count pad : ℕ) → len % 2 ≡ 0 → offset % 2 ≡ 0 → count ≤ 1024 → ScopeStands t place len (offset + 1) at
    → WordStands t.bytes at (count + 2147483648) → WordStands t.bytes (at + 4 + 4 * count) pad
    → IsRead t place len offset (Spec ((t.address + (at + 4)) % 4294967296) count (Some (pad_by t (at + 4 + 4 * count) pad))) (at + 8 + 4 * count)
