-- A table of personality index 2 as it is written (IHI 0038, "The compact model"; docs/rules/gnu-tables.md): words of unwind instructions,
-- the top byte of each first, and then descriptors.
use Rattle.std.specs.Prelude.{ℕ, ◌+◌, ◌*◌, ◌/◌, ◌%◌, ◌^◌, List, ◌∷◌, ◌++◌, length}
use Rattle.eh_bytecode.specs.Codes.{swap_word_bytes}
use Rattle.eh_codes.specs.declared.words.TheConstants.{COMPACT_TOP, WIDE_PERSONALITY}
use Rattle.gnu_compact.specs.declared.descriptor.OwnDescriptor.{OwnDescriptor}
use Rattle.gnu_compact.specs.Descriptors.{descriptors_bytes}

-- the number of words after the first with unwind instructions; the first word has two of their bytes
abbrev pub further_words : List ℕ → ℕ
further_words codes = length codes / 4 % 2 ^ 8

abbrev pub codes_end : List ℕ → ℕ
codes_end codes = 4 + 4 * further_words codes

-- the first word has the mark of the compact model with the personality index, the number of further words, and two bytes of unwind
-- instructions
abbrev pub codes_bytes : List ℕ → List ℕ
codes_bytes codes = swap_word_bytes ((COMPACT_TOP + WIDE_PERSONALITY) ∷ further_words codes ∷ codes)

abbrev pub table_bytes : ℕ → List ℕ → List OwnDescriptor → List ℕ
table_bytes place codes descriptors = codes_bytes codes ++ descriptors_bytes ((place + codes_end codes) % 2 ^ 32) descriptors
