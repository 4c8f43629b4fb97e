-- The unwind instructions of a generic entry, in the form of a table of personality index 2 (IHI 0038, "The compact model", "The
-- generic model"; docs/rules/gnu-tables.md).
use Rattle.std.specs.Prelude.{ℕ, List, [], ◌∷◌, ◌++◌, drop, Option, Some, None}
use Rattle.eh_bytecode.specs.Codes.{swap_word_bytes}
use Rattle.eh_codes.specs.declared.code.TheConstants.{FINISH}
use Rattle.gnu_lsda.specs.Entries.{Form, words_of}

-- the bytes of words, the top one of each first, without that of the first word, which is the number of further words
abbrev pub without_count : List ℕ → List ℕ
without_count words = drop 1 (swap_word_bytes words)

-- so many times "finish" fill the last word
abbrev pub codes_in : List ℕ → List ℕ
codes_in words = without_count words ++ FINISH ∷ FINISH ∷ FINISH ∷ []

abbrev pub codes_by : Option (List ℕ) → List ℕ
codes_by None = []
codes_by (Some words) = codes_in words

abbrev pub codes_of : Form → List ℕ
codes_of f = codes_by (words_of f)
