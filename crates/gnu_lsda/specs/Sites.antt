-- The call-site records of a language-specific data area (docs/rules/gnu-tables.md): four ULEB128 numbers each, one record after the other.
use Rattle.std.specs.Prelude.{ℕ, zero, suc, ◌+◌, ◌-◌, nat_le, if◌then◌else◌, List, [], ◌∷◌, take, Option, Some, None, Result, Ok, Err}
use Rattle.gnu_lsda.specs.declared.records.Record.{Record}
use Rattle.gnu_lsda.specs.declared.records.RecordFault.{RecordFault}
use Rattle.gnu_lsda.specs.declared.records.RecordFault.TheVariants.{Short}
use Rattle.gnu_lsda.specs.declared.records.NextRecord.{NextRecord}
use Rattle.gnu_lsda.specs.declared.records.NextRecord.TheVariants.{End, One, Fault}
use Rattle.gnu_lsda.specs.Leb128.{uleb128_at}
use Rattle.gnu_lsda.specs.Heads.{Area}

-- goes on with a number that is there, and the place after it
abbrev pub with_number : Option (ℕ × ℕ) → (ℕ → ℕ → NextRecord) → NextRecord
with_number None further = Fault Short
with_number (Some found) further = further found.0 found.1

-- the record at a place: its start, size, landing pad and action
abbrev pub record_at : List ℕ → ℕ → NextRecord
record_at table place =
    with_number (uleb128_at table place) (λ start second. with_number (uleb128_at table second) (λ size third.
    with_number (uleb128_at table third) (λ pad fourth. with_number (uleb128_at table fourth) (λ action next.
    One (record { start = start; size = size; pad = pad; action = action }) next))))

-- at the table's end there is no more record
abbrev pub next_record_at : List ℕ → ℕ → ℕ → NextRecord
next_record_at table end place = if nat_le end place then End else record_at table place

abbrev pub with_further_records : (ℕ → List (Result Record RecordFault)) → NextRecord → List (Result Record RecordFault)
with_further_records further End = []
with_further_records further (One site next) = Ok site ∷ further next
with_further_records further (Fault fault) = Err fault ∷ []

-- the records from a place on; at most so many bytes follow it to the end
abbrev pub records_in : ℕ → List ℕ → ℕ → ℕ → List (Result Record RecordFault)
records_in zero table end place = []
records_in (suc most) table end place = with_further_records (λ next. records_in most table end next) (next_record_at table end place)

unfoldable pub records_from : List ℕ → ℕ → ℕ → List (Result Record RecordFault)
records_from table end place = records_in (end - place) table end place

-- the place after the call-site table, where the action table begins
abbrev pub table_end : Area → ℕ
table_end a = a.records + a.size

-- every record ends inside the table, and a fault is the last item
abbrev pub records_of : Area → List (Result Record RecordFault)
records_of a = records_from (take (table_end a) a.bytes) (table_end a) a.records
