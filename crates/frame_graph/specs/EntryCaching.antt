-- What is kept of an entry that was read.
use Rattle.std.specs.Prelude.{◌≡◌, ℕ, ◌≤◌, Bool, List, Option, Some, None}
use Rattle.std.specs.List.{list_any}
use Rattle.elf_image.specs.Image.{Image}
use Rattle.eh_index.specs.eh_codes.declared.row.Entry.{Entry}
use Rattle.eh_index.specs.Covering.{covering}
use Rattle.eh_index.specs.Places.{table_of}
use Rattle.eh_index.specs.Rows.{entries_of}
use Rattle.eh_desc.specs.Grammar.{items_of}
use Rattle.frame_entries.specs.declared.unwinding.EntrySummary.{EntrySummary}
use Rattle.frame_entries.specs.Unwinding.{summary_of_body}
use Rattle.frame_entries.specs.Scopes.{Item, is_fault}

-- what is cached is how the entry unwinds, its descriptors, and whether one of them can't be read; without an entry, nothing
abbrev pub IsKept : Image → Option Entry → EntrySummary → List Item → Bool → Type 0
IsKept image None unwinding items faulty = Unit {0}
IsKept image (Some e) unwinding items faulty =
    (unwinding ≡ summary_of_body e.body (table_of image e)) × (items ≡ items_of e (table_of image e)) × (faulty ≡ list_any is_fault (items_of e (table_of image e)))

-- the entry that is kept covers an address
abbrev pub CoversTo : Image → Option Entry → Option ℕ → Type 0
CoversTo image kept None = Unit {0}
CoversTo image kept (Some last) = covering (entries_of image) last ≡ kept

-- an address lies between the start of an entry and another address, or is one of these
abbrev pub IsBetween : Option Entry → Option ℕ → ℕ → Type 0
IsBetween None last a = ⊥
IsBetween (Some e) None a = ⊥
IsBetween (Some e) (Some last) a = (e.start ≤ a) × (a ≤ last)
