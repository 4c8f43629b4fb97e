-- Descriptors as they are written in a table of personality index 2 (IHI 0038, "Scope encoding" and the descriptors after it;
-- docs/rules/gnu-tables.md). Lengths and offsets are words. Each word that refers to an address is relative to its own.
use Rattle.std.specs.Prelude.{ℕ, ◌+◌, ◌-◌, ◌*◌, ◌%◌, ◌^◌, List, [], ◌∷◌, ◌++◌}
use Rattle.byteorder.specs.Endian.{little_bytes}
use Rattle.eh_codes.specs.Rows.{prel31_to}
use Rattle.eh_desc.specs.declared.descriptor.CatchType.{CatchType}
use Rattle.eh_desc.specs.declared.descriptor.CatchType.TheVariants.{All, AllFails, One}
use Rattle.eh_desc.specs.declared.descriptor.TheConstants.{ALL, ALL_FAILS}
use Rattle.gnu_compact.specs.declared.descriptor.OwnDescriptor.{OwnDescriptor}
use Rattle.gnu_compact.specs.declared.descriptor.OwnKind.{OwnKind}
use Rattle.gnu_compact.specs.declared.descriptor.OwnKind.TheVariants.{Specification, Catch, Cleanup}
use Rattle.gnu_compact.specs.declared.descriptor.TheConstants.{SCOPE_SIZE, WORD_SIZE}

-- the type word at a place: for everything, for everything and failing, or the distance to a type
abbrev pub type_word : ℕ → CatchType → ℕ
type_word place All = ALL
type_word place AllFails = ALL_FAILS
type_word place (One address) = (address + (2 ^ 32 - place)) % 2 ^ 32

abbrev pub kind_size : OwnKind → ℕ
kind_size Specification = SCOPE_SIZE + WORD_SIZE
kind_size (Catch pad takes) = SCOPE_SIZE + 2 * WORD_SIZE
kind_size (Cleanup pad) = SCOPE_SIZE + WORD_SIZE

-- the length stands in front of the offset
abbrev pub scope_bytes : ℕ → ℕ → List ℕ
scope_bytes length offset = little_bytes 4 length ++ little_bytes 4 offset

-- a landing pad and a type, the first of which stands at a place
abbrev pub landing_bytes : ℕ → ℕ → CatchType → List ℕ
landing_bytes place pad takes = little_bytes 4 (prel31_to place pad) ++ little_bytes 4 (type_word ((place + WORD_SIZE) % 2 ^ 32) takes)

-- Bit 0 of the offset marks a specification, bit 0 of the length a catch. After the scope come a specification's number of types; a
-- catch's landing pad and type; or a cleanup's landing pad.
abbrev pub kind_bytes : ℕ → ℕ → ℕ → OwnKind → List ℕ
kind_bytes place size offset Specification = scope_bytes size ((offset + 1) % 2 ^ 32) ++ little_bytes 4 0
kind_bytes place size offset (Catch pad takes) =
    scope_bytes ((size + 1) % 2 ^ 32) offset ++ landing_bytes ((place + SCOPE_SIZE) % 2 ^ 32) pad takes
kind_bytes place size offset (Cleanup pad) = scope_bytes size offset ++ little_bytes 4 (prel31_to ((place + SCOPE_SIZE) % 2 ^ 32) pad)

abbrev pub descriptor_bytes : ℕ → OwnDescriptor → List ℕ
descriptor_bytes place d = kind_bytes place d.size d.offset d.kind

-- descriptors one after the other, and a word of 0 that ends the list
abbrev pub descriptors_bytes : ℕ → List OwnDescriptor → List ℕ
descriptors_bytes place [] = little_bytes 4 0
descriptors_bytes place (d ∷ more) = descriptor_bytes place d ++ descriptors_bytes ((place + kind_size d.kind) % 2 ^ 32) more
