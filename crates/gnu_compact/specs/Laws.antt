-- A table is read as it was written (docs/rules/gnu-tables.md).
use Rattle.std.specs.Prelude.{◌≡◌, ℕ, ◌+◌, ◌%◌, ◌^◌, ◌<◌, ◌≤◌, false, List, [], ◌∷◌, ◌++◌, length, slice_index, None, Result, Ok}
use Rattle.eh_bytecode.specs.Codes.{table_codes}
use Rattle.eh_desc.specs.declared.descriptor.CatchType.{CatchType}
use Rattle.eh_desc.specs.declared.descriptor.CatchType.TheVariants.{All, AllFails, One}
use Rattle.eh_desc.specs.declared.descriptor.Desc.{Desc}
use Rattle.eh_desc.specs.declared.descriptor.DescFault.{DescFault}
use Rattle.eh_desc.specs.declared.descriptor.DescKind.{DescKind}
use Rattle.eh_desc.specs.declared.descriptor.DescKind.TheVariants as read
use Rattle.eh_desc.specs.declared.descriptor.TheConstants.{ALL_FAILS}
use Rattle.eh_desc.specs.Grammar.{table_items}
use Rattle.gnu_compact.specs.declared.codes.TheConstants.{MOST_CODES}
use Rattle.gnu_compact.specs.declared.descriptor.OwnDescriptor.{OwnDescriptor}
use Rattle.gnu_compact.specs.declared.descriptor.OwnKind.{OwnKind}
use Rattle.gnu_compact.specs.declared.descriptor.OwnKind.TheVariants.{Specification, Catch, Cleanup}
use Rattle.gnu_compact.specs.declared.descriptor.TheConstants.{SCOPE_SIZE, WORD_SIZE}
use Rattle.gnu_compact.specs.Descriptors.{type_word, kind_size}
use Rattle.gnu_compact.specs.Tables.{codes_end, table_bytes}

-- ---- which descriptors can be told

-- an even address below 2 ^ 30, which 31 bits can reach from each place below 2 ^ 30
abbrev pub IsPad : ℕ → Type 0
IsPad pad = (pad < 2 ^ 30) × (pad % 2 ≡ 0)

-- the way to a type is a word that says nothing else
abbrev pub IsTaken : ℕ → CatchType → Type 0
IsTaken place All = Unit {0}
IsTaken place AllFails = Unit {0}
IsTaken place (One address) = (address < 2 ^ 32) × (0 < type_word place (One address)) × (type_word place (One address) < ALL_FAILS)

abbrev pub IsKind : ℕ → OwnKind → Type 0
IsKind place Specification = Unit {0}
IsKind place (Catch pad takes) = IsPad pad × IsTaken (place + (SCOPE_SIZE + WORD_SIZE)) takes
IsKind place (Cleanup pad) = IsPad pad

-- a descriptor at a place: its scope is even in offset and length, and not empty
pub record IsDescriptor (place : ℕ) (d : OwnDescriptor) : Type 0 where
  pub offset_even : d.offset % 2 ≡ 0
  pub offset_low : d.offset < 2 ^ 32
  pub size_even : d.size % 2 ≡ 0
  pub size_low : d.size < 2 ^ 32
  pub some : 0 < d.size
  pub kind : IsKind place d.kind

abbrev pub AreDescriptors : ℕ → List OwnDescriptor → Type 0
AreDescriptors place [] = Unit {0}
AreDescriptors place (d ∷ more) = IsDescriptor place d × AreDescriptors (place + kind_size d.kind) more

-- ---- how they are read

-- a specification's types would stand after its count
abbrev pub read_kind : ℕ → OwnKind → DescKind
read_kind place Specification = read.Spec (place + (SCOPE_SIZE + WORD_SIZE)) 0 None
read_kind place (Catch pad takes) = read.Catch pad false takes
read_kind place (Cleanup pad) = read.Cleanup pad

abbrev pub desc_of_own : ℕ → ℕ → OwnDescriptor → Desc
desc_of_own start place d = record {
  at = place;
  next = place + kind_size d.kind;
  start = (start + d.offset) % 2 ^ 32;
  size = d.size;
  kind = read_kind place d.kind;
}

-- the items of descriptors one after the other from a place on
abbrev pub items_as : ℕ → ℕ → List OwnDescriptor → List (Result Desc DescFault)
items_as start place [] = []
items_as start place (d ∷ more) = Ok (desc_of_own start place d) ∷ items_as start (place + kind_size d.kind) more

-- how many bytes they take, with the word that ends the list
abbrev pub descriptors_size : List OwnDescriptor → ℕ
descriptors_size [] = WORD_SIZE
descriptors_size (d ∷ more) = kind_size d.kind + descriptors_size more

-- ---- the law

-- a table at a place: unwind instructions that fill their words, and descriptors, all below 2 ^ 30
pub record IsTable (place : ℕ) (codes : List ℕ) (descriptors : List OwnDescriptor) : Type 0 where
  pub bytes : (i : ℕ) → slice_index codes i < 256
  pub whole : length codes % 4 ≡ 2
  pub few : length codes ≤ MOST_CODES
  pub low : place + codes_end codes + descriptors_size descriptors ≤ 2 ^ 30
  pub each : AreDescriptors (place + codes_end codes) descriptors

-- whatever bytes follow it, it is read as these unwind instructions and these descriptors
abbrev pub TablesAreReadAsWritten : Type 0
TablesAreReadAsWritten =
    (start place : ℕ) (codes : List ℕ) (descriptors : List OwnDescriptor) (after : List ℕ)
    → IsTable place codes descriptors → ((i : ℕ) → slice_index after i < 256)
    → (table_codes (table_bytes place codes descriptors ++ after) ≡ Ok codes)
    × (table_items start place (table_bytes place codes descriptors ++ after) ≡ items_as start (place + codes_end codes) descriptors)
