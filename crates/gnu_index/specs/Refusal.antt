-- Which images' tables can't be rewritten (docs/rules/gnu-tables.md): the lowest row that is refused, and too many bytes of call-site tables.
use Rattle.std.specs.Prelude.{ℕ, ◌+◌, nat_lt, if◌then◌else◌, List, [], ◌∷◌, fold, Option, Some, None, Result, Ok, Err}
use Rattle.std.specs.List.{range_with_len}
use Rattle.elf_image.specs.Image.{Image}
use Rattle.eh_index.specs.Rows.{entry_count}
use Rattle.gnu_lsda.specs.declared.fault.EntryFault.{EntryFault}
use Rattle.gnu_lsda.specs.declared.lsda.HeadFault.{HeadFault}
use Rattle.gnu_lsda.specs.Entries.{Form, generic_of, personality_in}
use Rattle.gnu_lsda.specs.Heads.{Area, area_of}
use Rattle.gnu_lsda.specs.Faults.{names_routine, fault_with}
use Rattle.gnu_index.specs.declared.refusal.GnuFault.{GnuFault}
use Rattle.gnu_index.specs.declared.refusal.GnuFault.TheVariants.{Entry, TooLarge}
use Rattle.gnu_index.specs.declared.refusal.TheConstants.{SITES_LIMIT}

-- ---- how many bytes of call-site tables are read

abbrev pub head_size : Result Area HeadFault → ℕ
head_size (Ok a) = a.size
head_size (Err fault) = 0

-- the size of an entry's call-site table, if it names the personality routine at an address and its head can be read; else 0
abbrev pub form_size : Option ℕ → Option Form → ℕ
form_size personality None = 0
form_size personality (Some f) = if names_routine f personality then head_size (area_of f) else 0

abbrev pub sites_size : Image → ℕ → ℕ
sites_size image k = form_size (personality_in image) (generic_of image k)

-- of all rows; rows that share a table read it each
unfoldable pub sites_total : Image → ℕ
sites_total image = fold (λ n k. n + sites_size image k) 0 (range_with_len 0 (entry_count image))

abbrev pub sites_refusal : Image → Option GnuFault
sites_refusal image = if nat_lt SITES_LIMIT (sites_total image) then Some TooLarge else None

-- ---- what is refused of rows

abbrev pub entry_in : ℕ → Option EntryFault → Option GnuFault
entry_in start None = None
entry_in start (Some fault) = Some (Entry (record { start = start; fault = fault }))

abbrev pub form_refusal : Image → Option ℕ → Option Form → Option GnuFault
form_refusal image personality None = None
form_refusal image personality (Some f) = entry_in f.start (fault_with image personality f)

-- the refusal of row k, after rows whose call-site tables have so many bytes: too many bytes with its own, or the entry's fault
abbrev pub row_refusal : Image → ℕ → ℕ → Option GnuFault
row_refusal image before k =
    if nat_lt SITES_LIMIT (before + sites_size image k) then Some TooLarge else form_refusal image (personality_in image) (generic_of image k)

abbrev pub or_later_fault : Option GnuFault → Option GnuFault → Option GnuFault
or_later_fault None later = later
or_later_fault (Some fault) later = Some fault

-- the first of rows
abbrev pub first_refusal : Image → ℕ → List ℕ → Option GnuFault
first_refusal image before [] = None
first_refusal image before (k ∷ more) = or_later_fault (row_refusal image before k) (first_refusal image (before + sites_size image k) more)

-- the lowest row's
unfoldable pub rows_refusal : Image → Option GnuFault
rows_refusal image = first_refusal image 0 (range_with_len 0 (entry_count image))
