-- The symbol table and its strings.
use Rattle.std.specs.Prelude.{◌≢◌, All, ℕ, ◌+◌, ◌*◌, ◌/◌, ◌==◌, not, Bool, if◌then◌else◌, List, [], ◌∷◌, length, drop, map, find, slice_index, slice_index_or, nat_lt, take_while, Option, Some, None, option_and_then}
use Rattle.std.specs.List.{range_with_len, slice_get, prefix_len}
use Rattle.elf_image.specs.Format.{field, missing, first_of}
use Rattle.elf_image.specs.declared.format.TheConstants.{SHT_SYMTAB, SHT_STRTAB}
use Rattle.elf_image.specs.declared.symbol.TheConstants.{SYMBOL_SIZE}
use Rattle.elf_image.specs.declared.fault.ImageFault.{ImageFault}
use Rattle.elf_image.specs.declared.fault.ImageFault.TheVariants.{NoSymbols}
use Rattle.elf_image.specs.declared.format.SectionHeader.{SectionHeader}

pub record Symbol : Type 0 where
  pub name : List ℕ
  pub value : ℕ
  pub size : ℕ
  -- the type in the low four bits, the binding above them
  pub info : ℕ
  pub section : ℕ

-- a name has no zero byte, as every name of a table of strings
abbrev pub HasPlainName : Symbol → Type 0
HasPlainName s = All (λ b. b ≢ 0) s.name

-- ---- where they are

abbrev pub is_symbol_table : SectionHeader → Bool
is_symbol_table s = s.kind == SHT_SYMTAB

abbrev pub if_strings : SectionHeader → Option SectionHeader
if_strings s = if s.kind == SHT_STRTAB then Some s else None

abbrev pub with_strings : List SectionHeader → SectionHeader → Option (SectionHeader × SectionHeader)
with_strings sections table = option_and_then (λ strings. Some (table, strings)) (option_and_then if_strings (slice_get sections table.link))

-- the first section of type SHT_SYMTAB, and the section of type SHT_STRTAB that its link names
unfoldable pub tables_of : List SectionHeader → Option (SectionHeader × SectionHeader)
tables_of sections = option_and_then (with_strings sections) (find is_symbol_table sections)

unfoldable pub tables_refusal : List ℕ → Option (SectionHeader × SectionHeader) → Option ImageFault
tables_refusal bytes None = Some NoSymbols
tables_refusal bytes (Some tables) = first_of (missing bytes tables.0.offset tables.0.size ∷ missing bytes tables.1.offset tables.1.size ∷ [])

-- ---- what they hold

-- the name at an offset of the strings runs to the first zero byte or to their end
abbrev pub name_at : List ℕ → ℕ → List ℕ
name_at strings at = take_while (λ b. not (b == 0)) (drop at strings)

unfoldable pub symbol_at : List ℕ → List ℕ → ℕ → Symbol
symbol_at table strings at = record {
  name = name_at strings (field 4 table at);
  value = field 4 table (at + 4);
  size = field 4 table (at + 8);
  info = slice_index table (at + 12);
  section = field 2 table (at + 14);
}

-- 16 bytes for each symbol; a rest is left out
abbrev pub symbol_count : List ℕ → ℕ
symbol_count table = length table / SYMBOL_SIZE

unfoldable pub symbols_of : List ℕ → List ℕ → List Symbol
symbols_of table strings = map (λ i. symbol_at table strings (SYMBOL_SIZE * i)) (range_with_len 0 (symbol_count table))

-- ---- the places of zero bytes, by which names are cut

abbrev pub zeros_from : ℕ → List ℕ → List ℕ
zeros_from at [] = []
zeros_from at (b ∷ more) = if b == 0 then at ∷ zeros_from (at + 1) more else zeros_from (at + 1) more

-- the first of the ascending offsets that is at least a, or the given end if there is none
abbrev pub next_zero : ℕ → List ℕ → ℕ → ℕ
next_zero a zeros end = slice_index_or zeros (prefix_len (λ z. nat_lt z a) zeros) end
