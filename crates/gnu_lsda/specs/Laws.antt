-- What generic entries and their areas mean: laws above the definitions (docs/rules/gnu-tables.md).
use Rattle.std.specs.Prelude.{◌≡◌, ℕ, ◌+◌, ◌-◌, ◌*◌, ◌<◌, ◌≤◌, List, [], ◌∷◌, ◌++◌, length}
use Rattle.eh_word.specs.Words.{base_128}
use Rattle.gnu_lsda.specs.declared.leb128.SignedNumber.TheVariants.{Plus, Minus}
use Rattle.gnu_lsda.specs.declared.actions.TheConstants.{MOST_ACTIONS}
use Rattle.gnu_lsda.specs.declared.records.Record.{Record}
use Rattle.gnu_lsda.specs.declared.records.NextRecord.TheVariants.{One}
use Rattle.gnu_lsda.specs.Leb128.{span, twos_complement}
use Rattle.gnu_lsda.specs.Heads.{Area}
use Rattle.gnu_lsda.specs.Sites.{record_at, records_of}
use Rattle.gnu_lsda.specs.Chains.{actions_of}

-- Bit 6 of the last byte is the sign. If it is clear, the number is that of the digits. If it is set, a power of two is subtracted: 2
-- to the number of bits in so many bytes.
abbrev pub SignIsBit6 : Type 0
SignIsBit6 =
    (front : List ℕ) (last : ℕ) → last < 128
    → (last < 64 → twos_complement (front ++ last ∷ []) ≡ Plus (base_128 (front ++ last ∷ [])))
    × (64 ≤ last → twos_complement (front ++ last ∷ []) ≡ Minus (span (front ++ last ∷ []) - base_128 (front ++ last ∷ [])))

-- a record takes at least four bytes, and ends inside its table
abbrev pub RecordsTakeFourBytes : Type 0
RecordsTakeFourBytes =
    (table : List ℕ) (place : ℕ) (site : Record) (next : ℕ) → record_at table place ≡ One site next → (place + 4 ≤ next) × (next ≤ length table)

-- so a table has at most one record for every four bytes, and one fault
abbrev pub RecordsAreFew : Type 0
RecordsAreFew = (a : Area) → 4 * length (records_of a) ≤ a.size + 4

-- a chain has at most 64 actions, and what can't be read
abbrev pub ChainsAreShort : Type 0
ChainsAreShort = (a : Area) (action : ℕ) → length (actions_of a action) ≤ MOST_ACTIONS + 1
