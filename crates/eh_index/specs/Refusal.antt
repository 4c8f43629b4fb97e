-- Which index tables can't be read: the lowest row with a fault, and its first fault (docs/rules/unwind-tables.md).
use Rattle.std.specs.Prelude.{ℕ, ◌-◌, ◌%◌, ◌==◌, not, ◌&&◌, ◌||◌, nat_le, nat_lt, Bool, if◌then◌else◌, List, [], ◌∷◌, length, map, Option, Some, None, Result, Ok, Err}
use Rattle.std.specs.List.{range_with_len}
use Rattle.elf_image.specs.Image.{Image}
use Rattle.eh_codes.specs.declared.row.TheConstants.{ROW_SIZE, PREL31_LIMIT}
use Rattle.eh_index.specs.declared.fault.IndexFault.{IndexFault}
use Rattle.eh_index.specs.declared.fault.IndexFault.TheVariants.{Length, OutsideImage, Unsorted}
use Rattle.eh_index.specs.Rows.{first_word, entry_at, entry_count}
use Rattle.eh_index.specs.Places.{is_code_bound, is_table_place}

-- row k points outside the image: bit 31 of its first word is set, its start isn't in code or at its end, or its table is at a wrong
-- place
abbrev pub is_outside : Image → ℕ → Bool
is_outside image k =
    nat_le PREL31_LIMIT (first_word image k) || not (is_code_bound image.segments (entry_at image k).start)
    || not (is_table_place image.segments (entry_at image k).body)

-- row k begins below the row before it
abbrev pub is_unsorted : Image → ℕ → Bool
is_unsorted image k = nat_lt 0 k && nat_lt (entry_at image k).start (entry_at image (k - 1)).start

unfoldable pub entry_refusal : Image → ℕ → Option IndexFault
entry_refusal image k = if is_outside image k then Some (OutsideImage k) else (if is_unsorted image k then Some (Unsorted k) else None)

-- the first of several refusals
abbrev pub first_of : List (Option IndexFault) → Option IndexFault
first_of [] = None
first_of (None ∷ more) = first_of more
first_of (Some fault ∷ more) = Some fault

unfoldable pub index_refusal : Image → Option IndexFault
index_refusal image =
    if length image.index_bytes % ROW_SIZE == 0 then first_of (map (entry_refusal image) (range_with_len 0 (entry_count image))) else Some Length

abbrev pub unless_refused : {X : Type 0} → Option IndexFault → X → Result X IndexFault
unless_refused None x = Ok x
unless_refused (Some fault) x = Err fault

-- the image whose index is read, or why it isn't
abbrev pub index_or_fault : Image → Result Image IndexFault
index_or_fault image = unless_refused (index_refusal image) image
