-- The descriptors of an exception table entry (IHI 0038), by cases on their words. A table is the bytes from the entry's address to the
-- end of their segment; a place is an index into them.
use Rattle.std.specs.Prelude.{ℕ, zero, suc, ◌+◌, ◌-◌, ◌*◌, ◌/◌, ◌%◌, ◌^◌, ◌==◌, not, Bool, nat_le, nat_lt, if◌then◌else◌, List, [], ◌∷◌, length, Option, Some, None, Result, Ok, Err}
use Rattle.eh_word.specs.Words.{number_at, prel31_of}
use Rattle.eh_index.specs.elf_image.Segments.{Segment}
use Rattle.eh_index.specs.Places.{bytes_at}
use Rattle.eh_codes.specs.Rows.{even}
use Rattle.eh_codes.specs.Words.{personality_of_word, code_words_after}
use Rattle.eh_codes.specs.declared.words.TheConstants.{REFERENCE_MARK, LANDING_PAD_MARK, WIDE_PERSONALITY}
use Rattle.eh_codes.specs.declared.row.Entry.{Entry}
use Rattle.eh_codes.specs.declared.row.EntryBody.{EntryBody}
use Rattle.eh_codes.specs.declared.row.EntryBody.TheVariants as body
use Rattle.eh_bytecode.specs.declared.codes.CodesFault.{CodesFault}
use Rattle.eh_bytecode.specs.Codes.{table_codes}
use Rattle.eh_desc.specs.declared.descriptor.CatchType.{CatchType}
use Rattle.eh_desc.specs.declared.descriptor.CatchType.TheVariants as catches
use Rattle.eh_desc.specs.declared.descriptor.DescKind.{DescKind}
use Rattle.eh_desc.specs.declared.descriptor.DescKind.TheVariants.{Cleanup, Catch, Spec}
use Rattle.eh_desc.specs.declared.descriptor.Desc.{Desc}
use Rattle.eh_desc.specs.declared.descriptor.NextDesc.{NextDesc}
use Rattle.eh_desc.specs.declared.descriptor.NextDesc.TheVariants.{End, One, Fault}
use Rattle.eh_desc.specs.declared.descriptor.DescFault.{DescFault}
use Rattle.eh_desc.specs.declared.descriptor.DescFault.TheVariants.{Short, Kind, Count}
use Rattle.eh_desc.specs.declared.descriptor.TheConstants.{ALL, ALL_FAILS, MOST_TYPES}

-- a table: its bytes, the address of the first, the start of its function, and whether lengths and offsets are words
pub record Form : Type 0 where
  pub bytes : List ℕ
  pub address : ℕ
  pub start : ℕ
  pub wide : Bool

abbrev pub word_at : Form → ℕ → Option ℕ
word_at t place = number_at 4 t.bytes place

abbrev pub address_at : Form → ℕ → ℕ
address_at t place = (t.address + place) % 2 ^ 32

-- the landing pad that a word refers to; bit 31 of the word and bit 0 of the address aren't part of it
abbrev pub pad_by : Form → ℕ → ℕ → ℕ
pad_by t place word = even (prel31_of (address_at t place) word)

-- the type of a type word; a word of 0 is type 0
abbrev pub type_by : ℕ → ℕ → ℕ
type_by address word = if word == 0 then 0 else (address + word) % 2 ^ 32

abbrev pub catch_type : ℕ → ℕ → CatchType
catch_type address word =
    if word == ALL then catches.All else (if word == ALL_FAILS then catches.AllFails else catches.One (type_by address word))

-- goes on with a word that is there
abbrev pub with_word : Option ℕ → (ℕ → NextDesc) → NextDesc
with_word None further = Fault Short
with_word (Some word) further = further word

-- a descriptor at a place, with its scope, its kind and the place after it
abbrev pub descriptor_of : Form → ℕ → ℕ → ℕ → DescKind → ℕ → NextDesc
descriptor_of t place len off kind next = One (record {
  at = address_at t place;
  next = address_at t next;
  start = (t.start + even off) % 2 ^ 32;
  size = even len;
  kind = kind;
}) next

-- ---- after the scope: a cleanup's landing pad; a catch's landing pad and type; a specification's count, types and landing pad

abbrev pub cleanup_at : Form → ℕ → ℕ → ℕ → ℕ → NextDesc
cleanup_at t place len off at = with_word (word_at t at) (λ pad. descriptor_of t place len off (Cleanup (pad_by t at pad)) (at + 4))

abbrev pub catch_at : Form → ℕ → ℕ → ℕ → ℕ → NextDesc
catch_at t place len off at =
    with_word (word_at t at) (λ pad. with_word (word_at t (at + 4)) (λ type.
    descriptor_of t place len off (Catch (pad_by t at pad) (nat_le REFERENCE_MARK pad) (catch_type (address_at t (at + 4)) type)) (at + 8)))

-- the types are there
abbrev pub has_types : Form → ℕ → ℕ → Bool
has_types t at count = nat_le (at + 4 * count) (length t.bytes)

abbrev pub spec_with_pad : Form → ℕ → ℕ → ℕ → ℕ → ℕ → NextDesc
spec_with_pad t place len off types count =
    with_word (word_at t (types + 4 * count)) (λ pad.
    descriptor_of t place len off (Spec (address_at t types) count (Some (pad_by t (types + 4 * count) pad))) (types + 4 * count + 4))

abbrev pub types_at : Form → ℕ → ℕ → ℕ → ℕ → ℕ → Bool → NextDesc
types_at t place len off types count padded =
    if not (has_types t types count) then Fault Short
    else (if padded then spec_with_pad t place len off types count
    else descriptor_of t place len off (Spec (address_at t types) count None) (types + 4 * count))

abbrev pub specification_at : Form → ℕ → ℕ → ℕ → ℕ → NextDesc
specification_at t place len off at =
    with_word (word_at t at) (λ count.
    if nat_lt MOST_TYPES (count % LANDING_PAD_MARK) then Fault Count else types_at t place len off (at + 4) (count % LANDING_PAD_MARK) (nat_le LANDING_PAD_MARK count))

-- bit 0 of the length and of the offset are marks
abbrev pub kind_at : Form → ℕ → ℕ → ℕ → ℕ → NextDesc
kind_at t place len off at =
    if off % 2 == 0
    then (if len % 2 == 0 then cleanup_at t place len off at else catch_at t place len off at)
    else (if len % 2 == 0 then specification_at t place len off at else Fault Kind)

-- what is at a place: a word of 0 ends the list; else its scope comes first, the length and then the offset
abbrev pub next_desc_at : Form → ℕ → NextDesc
next_desc_at t place =
    with_word (word_at t place) (λ first.
    if first == 0 then End
    else (if t.wide then with_word (word_at t (place + 4)) (λ off. kind_at t place first off (place + 8))
    else kind_at t place (first % 2 ^ 16) (first / 2 ^ 16) (place + 4)))

-- ---- the list

abbrev pub with_further_items : (ℕ → List (Result Desc DescFault)) → NextDesc → List (Result Desc DescFault)
with_further_items further End = []
with_further_items further (One desc next) = Ok desc ∷ further next
with_further_items further (Fault fault) = Err fault ∷ []

-- the descriptors from a place on, of which at most so many bytes follow
abbrev pub items_in : ℕ → Form → ℕ → List (Result Desc DescFault)
items_in zero t place = Err Short ∷ []
items_in (suc most) t place = with_further_items (λ next. items_in most t next) (next_desc_at t place)

unfoldable pub items_from : Form → ℕ → List (Result Desc DescFault)
items_from t place = items_in (length t.bytes - place) t place

-- ---- a table's descriptors stand after its codes. With personality index 2 lengths and offsets are words

abbrev pub items_after : ℕ → ℕ → List ℕ → Option ℕ → List (Result Desc DescFault)
items_after start address bytes None = []
items_after start address bytes (Some first) =
    items_from (record { bytes = bytes; address = address; start = start; wide = personality_of_word first == WIDE_PERSONALITY }) (4 + 4 * code_words_after first)

abbrev pub if_codes : Result (List ℕ) CodesFault → List (Result Desc DescFault) → List (Result Desc DescFault)
if_codes (Ok _) items = items
if_codes (Err _) items = []

abbrev pub table_items : ℕ → ℕ → List ℕ → List (Result Desc DescFault)
table_items start address bytes = if_codes (table_codes bytes) (items_after start address bytes (number_at 4 bytes 0))

abbrev pub body_items : ℕ → EntryBody → List ℕ → List (Result Desc DescFault)
body_items start (body.Table address) bytes = table_items start address bytes
body_items start _ bytes = []

-- an entry has descriptors only if it is a table whose unwind instructions can be read
abbrev pub items_of : Entry → Option (List ℕ) → List (Result Desc DescFault)
items_of e None = []
items_of e (Some bytes) = body_items e.start e.body bytes

-- ---- the types of a specification

-- the type that a type word at a place refers to; None for a word of 0
abbrev pub type_of : ℕ → Option ℕ → Option ℕ
type_of address None = None
type_of address (Some word) = if word == 0 then None else Some ((address + word) % 2 ^ 32)

-- the word at an address of a read-only segment
abbrev pub first_word : Option (List ℕ) → Option ℕ
first_word None = None
first_word (Some bytes) = number_at 4 bytes 0

-- type i of a specification, if its word is in a read-only segment
abbrev pub type_in : List Segment → DescKind → ℕ → Option ℕ
type_in segments (Spec types count _) i =
    if nat_le count i then None
    else type_of ((types + 4 * i) % 2 ^ 32) (first_word (bytes_at segments ((types + 4 * i) % 2 ^ 32)))
type_in segments _ i = None
