-- The rows of an image's index as a list of entries (IHI 0038, "Index table entries"; docs/rules/unwind-tables.md): eight bytes for each.
use Rattle.std.specs.Prelude.{ℕ, ◌+◌, ◌*◌, ◌/◌, List, length, map}
use Rattle.std.specs.List.{range_with_len}
use Rattle.elf_image.specs.Format.{field}
use Rattle.elf_image.specs.Image.{Image}
use Rattle.eh_codes.specs.Rows.{entry_of}
use Rattle.eh_codes.specs.declared.row.Entry.{Entry}
use Rattle.eh_codes.specs.declared.row.TheConstants.{ROW_SIZE}

abbrev pub first_word : Image → ℕ → ℕ
first_word image k = field 4 image.index_bytes (ROW_SIZE * k)

abbrev pub second_word : Image → ℕ → ℕ
second_word image k = field 4 image.index_bytes (ROW_SIZE * k + 4)

-- what row k says
abbrev pub entry_at : Image → ℕ → Entry
entry_at image k = entry_of (image.index_start + ROW_SIZE * k) (first_word image k) (second_word image k)

abbrev pub entry_count : Image → ℕ
entry_count image = length image.index_bytes / ROW_SIZE

-- the entries in the order of the rows
unfoldable pub entries_of : Image → List Entry
entries_of image = map (entry_at image) (range_with_len 0 (entry_count image))
