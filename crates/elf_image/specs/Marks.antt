-- Mapping symbols ("ELF for the Arm Architecture"): where code and where data begin.
use Rattle.std.specs.Prelude.{ℕ, ◌==◌, ◌&&◌, ◌||◌, nat_le, nat_lt, Bool, true, if◌then◌else◌, List, [], length, fold, find, Option, Some, None, slice_index}
use Rattle.std.specs.Ordering.{nat_cmp}
use Rattle.std.specs.BTreeMap.{insert_entry}
use Rattle.elf_image.specs.Symbols.{Symbol}

-- `$t`, `$d` or `$a`, alone or with a dot and at least one byte after it
abbrev pub is_mark_name : List ℕ → Bool
is_mark_name name =
    slice_index name 0 == 36 && (slice_index name 1 == 116 || slice_index name 1 == 100 || slice_index name 1 == 97)
    && (length name == 2 || (slice_index name 2 == 46 && nat_le 4 (length name)))

-- a local symbol of type STT_NOTYPE with such a name
abbrev pub is_mark : Symbol → Bool
is_mark s = s.info == 0 && is_mark_name s.name

-- `$t`: Thumb code begins
abbrev pub begins_code : Symbol → Bool
begins_code s = slice_index s.name 1 == 116

abbrev pub with_mark : List (ℕ × Bool) → Symbol → List (ℕ × Bool)
with_mark marks s = if is_mark s then insert_entry nat_cmp marks s.value (begins_code s) else marks

-- addresses in ascending order, each with whether code begins there; the last at one address counts
unfoldable pub marks_of : List Symbol → List (ℕ × Bool)
marks_of symbols = fold with_mark [] symbols

-- what the last mark at or below an address says; code if there is none
abbrev pub is_code_by_marks : List (ℕ × Bool) → ℕ → Bool
is_code_by_marks marks a = fold (λ code mark. if nat_le mark.0 a then mark.1 else code) true marks

abbrev pub mark_or : ℕ → Option (ℕ × Bool) → ℕ
mark_or end None = end
mark_or end (Some mark) = mark.0

-- the address of the first mark above an address, or `end` if there is none
abbrev pub next_mark : List (ℕ × Bool) → ℕ → ℕ → ℕ
next_mark marks a end = mark_or end (find (λ mark. nat_lt a mark.0) marks)
