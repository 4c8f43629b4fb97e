-- The new table of an accepted entry is read as the entry's unwind instructions and its new descriptors (docs/rules/gnu-tables.md, "Laws").
use Rattle.std.specs.Prelude.{◌≡◌, ℕ, ◌+◌, ◌%◌, ◌^◌, ◌<◌, ◌≤◌, List, ◌++◌, map, slice_index, All, None, Ok}
use Rattle.elf_image.specs.Segments.{segment_end}
use Rattle.elf_image.specs.Image.{Image}
use Rattle.elf_image.specs.declared.limits.TheConstants.{ADDRESS_LIMIT}
use Rattle.eh_bytecode.specs.Codes.{table_codes}
use Rattle.eh_desc.specs.Grammar.{table_items}
use Rattle.gnu_compact.specs.Tables.{codes_end, table_bytes}
use Rattle.gnu_compact.specs.Laws.{descriptors_size}
use Rattle.gnu_lsda.specs.Entries.{Form}
use Rattle.gnu_lsda.specs.Heads.{Area, area_of}
use Rattle.gnu_lsda.specs.Faults.{fault_of}
use Rattle.gnu_descriptors.specs.declared.scopes.GnuDescriptor.{GnuDescriptor}
use Rattle.gnu_descriptors.specs.Codes.{codes_of}
use Rattle.gnu_descriptors.specs.Scopes.{scopes_of}
use Rattle.gnu_compact.specs.declared.descriptor.OwnDescriptor.{OwnDescriptor}
use Rattle.gnu_verdict_laws.specs.Read.{items_at}

abbrev pub own : List GnuDescriptor → List OwnDescriptor
own scopes = map (λ s. s.descriptor) scopes

-- An accepted entry with its data area. Its segment has bytes, and its range begins and ends at even addresses of the memory map. Its
-- new table is above all segments of the image, and ends below 2 ^ 30.
pub record IsPlaced (image : Image) (f : Form) (a : Area) (place : ℕ) : Type 0 where
  pub accepted : fault_of image f ≡ None
  pub area : area_of f ≡ Ok a
  pub bytes : (i : ℕ) → slice_index f.bytes i < 256
  pub start_even : f.start % 2 ≡ 0
  pub size_even : f.size % 2 ≡ 0
  pub low : f.start + f.size ≤ ADDRESS_LIMIT
  pub above : All (λ s. segment_end s ≤ place) image.segments
  pub room : place + codes_end (codes_of f) + descriptors_size (own (scopes_of f a)) ≤ 2 ^ 30

abbrev pub RewrittenEntriesAreRead : Type 0
RewrittenEntriesAreRead =
    (image : Image) (f : Form) (a : Area) (place : ℕ) (after : List ℕ) → IsPlaced image f a place → ((i : ℕ) → slice_index after i < 256)
    → (table_codes (table_bytes place (codes_of f) (own (scopes_of f a)) ++ after) ≡ Ok (codes_of f))
    × (table_items f.start place (table_bytes place (codes_of f) (own (scopes_of f a)) ++ after) ≡ items_at f.start (place + codes_end (codes_of f)) (scopes_of f a))
