-- Descriptors follow one another, and their marks tell their kinds.
use Rattle.std.specs.Prelude.{◌≡◌, ℕ, ◌+◌, ◌*◌, ◌%◌, ◌^◌, ◌<◌, ◌≤◌, true, false, List, [], ◌∷◌, length, Some, None, Result, Ok, Err}
use Rattle.eh_word.specs.Words.{prel31_of, number_at}
use Rattle.eh_codes.specs.declared.words.TheConstants.{REFERENCE_MARK, LANDING_PAD_MARK}
use Rattle.eh_codes.specs.Rows.{even}
use Rattle.eh_codes.specs.Words.{code_words_after}
use Rattle.eh_desc.specs.declared.descriptor.Desc.{Desc}
use Rattle.eh_desc.specs.declared.descriptor.DescKind.{DescKind}
use Rattle.eh_desc.specs.declared.descriptor.DescKind.TheVariants.{Cleanup, Catch, Spec}
use Rattle.eh_desc.specs.declared.descriptor.NextDesc.{NextDesc}
use Rattle.eh_desc.specs.declared.descriptor.NextDesc.TheVariants.{One, Fault}
use Rattle.eh_desc.specs.declared.descriptor.DescFault.{DescFault}
use Rattle.eh_desc.specs.declared.descriptor.DescFault.TheVariants.{Kind}
use Rattle.eh_desc.specs.declared.descriptor.TheConstants.{MOST_TYPES}
use Rattle.eh_desc.specs.Grammar.{Form, word_at, address_at, catch_type, has_types, kind_at, table_items}

-- the first descriptor is at an address, each further one at the address `next` of the one before it, and a fault is the last item
abbrev pub Follow : ℕ → List (Result Desc DescFault) → Type 0
Follow address [] = Unit {0}
Follow address (Ok desc ∷ more) = (desc.at ≡ address) × Follow desc.next more
Follow address (Err fault ∷ more) = more ≡ []

-- the descriptors of a table follow its unwind instructions
abbrev pub DescriptorsFollow : Type 0
DescriptorsFollow =
    (start address : ℕ) (bytes : List ℕ) (first : ℕ) → number_at 4 bytes 0 ≡ Some first
    → Follow ((address + (4 + 4 * code_words_after first)) % 2 ^ 32) (table_items start address bytes)

-- each descriptor stands below the address after it
abbrev pub Rise : List (Result Desc DescFault) → Type 0
Rise [] = Unit {0}
Rise (Ok desc ∷ more) = (desc.at < desc.next) × Rise more
Rise (Err fault ∷ more) = Unit {0}

-- the addresses of a table's descriptors rise, if its bytes end below 2 ^ 32
abbrev pub DescriptorsRise : Type 0
DescriptorsRise = (start address : ℕ) (bytes : List ℕ) → address + length bytes < 2 ^ 32 → Rise (table_items start address bytes)

-- ---- marks

-- the descriptor at a place, of a scope of this length and from this offset on, and the place after it
abbrev pub IsOf : Form → ℕ → ℕ → ℕ → DescKind → ℕ → NextDesc → Type 0
IsOf t place length offset kind next found =
    found ≡ One (record { at = address_at t place; next = address_at t next; start = (t.start + offset) % 2 ^ 32; size = length; kind = kind }) next

-- the landing pad that bits 30 to 0 of the word at a place refer to; bit 0 of the address isn't part of it
abbrev pub pad_of : Form → ℕ → ℕ → ℕ
pad_of t at word = even (prel31_of (address_at t at) word)

-- the length and the offset of a scope are even; without a mark the descriptor is a cleanup
abbrev pub CleanupsHaveNoMark : Type 0
CleanupsHaveNoMark =
    (t : Form) (place length offset at pad : ℕ) → length % 2 ≡ 0 → offset % 2 ≡ 0 → word_at t at ≡ Some pad
    → IsOf t place length offset (Cleanup (pad_of t at pad)) (at + 4) (kind_at t place length offset at)

-- bit 0 of the length marks a catch, and then bit 31 of the landing pad word a catch by reference
abbrev pub CatchesMarkTheLength : Type 0
CatchesMarkTheLength =
    (t : Form) (place length offset at pad type : ℕ) → length % 2 ≡ 0 → offset % 2 ≡ 0 → pad < REFERENCE_MARK → word_at t (at + 4) ≡ Some type
    → (word_at t at ≡ Some pad
    → IsOf t place length offset (Catch (pad_of t at pad) false (catch_type (address_at t (at + 4)) type)) (at + 8) (kind_at t place (length + 1) offset at))
    × (word_at t at ≡ Some (pad + REFERENCE_MARK)
    → IsOf t place length offset (Catch (pad_of t at pad) true (catch_type (address_at t (at + 4)) type)) (at + 8) (kind_at t place (length + 1) offset at))

-- bit 0 of the offset marks a specification; if bit 31 of the number of types is set, a landing pad follows the types
abbrev pub SpecificationsMarkTheOffset : Type 0
SpecificationsMarkTheOffset =
    (t : Form) (place length offset at count : ℕ) → length % 2 ≡ 0 → offset % 2 ≡ 0 → count ≤ MOST_TYPES → has_types t (at + 4) count ≡ true
    → (word_at t at ≡ Some count
    → IsOf t place length offset (Spec (address_at t (at + 4)) count None) (at + 4 + 4 * count) (kind_at t place length (offset + 1) at))
    × ((pad : ℕ) → word_at t at ≡ Some (count + LANDING_PAD_MARK) → word_at t (at + 4 + 4 * count) ≡ Some pad
    → IsOf t place length offset (Spec (address_at t (at + 4)) count (Some (pad_of t (at + 4 + 4 * count) pad))) (at + 4 + 4 * count + 4)
    (kind_at t place length (offset + 1) at))

-- with both it is refused
abbrev pub BothMarksAreRefused : Type 0
BothMarksAreRefused =
    (t : Form) (place length offset at : ℕ) → length % 2 ≡ 0 → offset % 2 ≡ 0 → kind_at t place (length + 1) (offset + 1) at ≡ Fault Kind
