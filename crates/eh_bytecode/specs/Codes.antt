-- The bytes of an entry's unwind instructions (IHI 0038, "The compact model").
use Rattle.std.specs.Prelude.{ℕ, ◌/◌, ◌%◌, ◌^◌, ◌==◌, ◌-◌, ◌||◌, not, Bool, nat_lt, if◌then◌else◌, List, [], ◌∷◌, length, drop, Option, Some, None, Result, Ok, Err}
use Rattle.byteorder.specs.Endian.{little_number}
use Rattle.eh_codes.specs.declared.code.UnwindCode.{UnwindCode}
use Rattle.eh_codes.specs.declared.words.TheConstants.{COMPACT_MARK, MOST_PERSONALITY}
use Rattle.eh_codes.specs.Table.{code_front}
use Rattle.eh_codes.specs.Words.{personality_of_word, code_words_after, code_in_first, code_of_words}
use Rattle.eh_bytecode.specs.declared.codes.CodesFault.{CodesFault}
use Rattle.eh_bytecode.specs.declared.codes.CodesFault.TheVariants.{Short, Generic, Reserved}

-- the words with these bytes, which are little-endian
abbrev pub words_in : List ℕ → List ℕ
words_in (a ∷ b ∷ c ∷ d ∷ more) = little_number 4 (a ∷ b ∷ c ∷ d ∷ []) ∷ words_in more
words_in _ = []

-- the bytes of words, each with its top byte first, from their little-endian bytes
abbrev pub swap_word_bytes : List ℕ → List ℕ
swap_word_bytes (a ∷ b ∷ c ∷ d ∷ more) = d ∷ c ∷ b ∷ a ∷ swap_word_bytes more
swap_word_bytes _ = []

-- bits 30 to 28 aren't 0, or the personality index is above the highest
abbrev pub is_reserved : ℕ → Bool
is_reserved first = not (first / 2 ^ 28 % 2 ^ 3 == 0) || nat_lt MOST_PERSONALITY (personality_of_word first)

-- the codes of an inline entry, which has personality index 0
abbrev pub inline_codes : ℕ → Result (List ℕ) CodesFault
inline_codes word =
    if nat_lt word COMPACT_MARK then Err Generic
    else (if is_reserved word || not (personality_of_word word == 0) then Err Reserved else Ok (code_in_first word))

-- the codes of an entry in the table
abbrev pub codes_of_words : List ℕ → Result (List ℕ) CodesFault
codes_of_words [] = Err Short
codes_of_words (first ∷ more) =
    if nat_lt first COMPACT_MARK then Err Generic
    else (if is_reserved first then Err Reserved
    else (if nat_lt (length more) (code_words_after first) then Err Short else Ok (code_of_words (first ∷ more))))

unfoldable pub table_codes : List ℕ → Result (List ℕ) CodesFault
table_codes bytes = codes_of_words (words_in bytes)

-- the instruction at the front of bytes, and its length
abbrev pub first_code : List ℕ → Option (UnwindCode × ℕ)
first_code [] = None
first_code (first ∷ more) = code_front first more

-- an instruction whose first byte was taken before; the rest of it is taken from the bytes, which stay if it is None
abbrev pub code_and_rest : Option (UnwindCode × ℕ) → List ℕ → Option UnwindCode × List ℕ
code_and_rest None bytes = (None, bytes)
code_and_rest (Some found) bytes = (Some found.0, drop (found.1 - 1) bytes)
