-- The size of the file (docs/rules/elf.md), from the number of symbols and the size of their names, which are known before a name is copied.
use Rattle.std.specs.Prelude.{ℕ, ◌+◌, ◌*◌, ◌||◌, nat_le, nat_lt, Bool, List, length, sum_by}
use Rattle.std.specs.List.{list_any}
use Rattle.elf_image.specs.declared.format.TheConstants.{FILE_HEADER_SIZE, PROGRAM_HEADER_SIZE, SECTION_HEADER_SIZE}
use Rattle.elf_image.specs.declared.symbol.TheConstants.{SYMBOL_SIZE}
use Rattle.elf_image.specs.declared.limits.TheConstants.{ADDRESS_LIMIT, MEMORY_LIMIT, SEGMENT_LIMIT, SYMBOL_LIMIT}
use Rattle.elf_write.specs.Layout.{align_to_word, bit, zero_terminated, contents, section_names}
use Rattle.elf_write.specs.declared.parts.OwnSegment.{OwnSegment}
use Rattle.elf_write.specs.declared.parts.OwnSymbol.{OwnSymbol}
use Rattle.elf_write.specs.declared.parts.SymbolKind.{SymbolKind}
use Rattle.elf_write.specs.declared.parts.SymbolKind.TheVariants.{Function, Object, Code, Words}
use Rattle.gnu_rewrite.specs.declared.limits.TheConstants.{FILE_LIMIT, MARK_NAME_SIZE}

-- the size of a symbol's name in the string table, with its zero byte
abbrev pub name_size : SymbolKind → List ℕ → ℕ
name_size Function name = length (zero_terminated name)
name_size Object name = length (zero_terminated name)
name_size Code name = MARK_NAME_SIZE
name_size Words name = MARK_NAME_SIZE

abbrev pub names_size : List OwnSymbol → ℕ
names_size symbols = sum_by (λ s. name_size s.kind s.name) symbols

-- the end of the program headers
abbrev pub headers_size : List OwnSegment → Bool → ℕ
headers_size segments has_index = FILE_HEADER_SIZE + PROGRAM_HEADER_SIZE * (length segments + bit has_index 1)

-- the end of the segments' bytes
abbrev pub contents_end : ℕ → List OwnSegment → ℕ
contents_end base segments = base + length (contents base segments)

-- the end of the symbol table, the strings and the names of the sections
abbrev pub names_end : List OwnSegment → Bool → ℕ → ℕ → ℕ
names_end segments has_index symbols names =
    align_to_word (contents_end (headers_size segments has_index) segments) + SYMBOL_SIZE * (1 + symbols) + (1 + names) + length (section_names segments)

-- segments, an index or none, so many symbols without the null one, with names of so many bytes
abbrev pub file_size : List OwnSegment → Bool → ℕ → ℕ → ℕ
file_size segments has_index symbols names = align_to_word (names_end segments has_index symbols names) + SECTION_HEADER_SIZE * (length segments + 4)

unfoldable pub is_too_large : List OwnSegment → Bool → ℕ → ℕ → Bool
is_too_large segments has_index symbols names =
    nat_lt MEMORY_LIMIT (sum_by (λ s. s.size) segments)
    || nat_lt SEGMENT_LIMIT (length segments)
    || nat_lt SYMBOL_LIMIT (1 + symbols)
    || list_any (λ s. nat_lt ADDRESS_LIMIT (s.start + s.size)) segments
    || nat_le FILE_LIMIT (file_size segments has_index symbols names)
