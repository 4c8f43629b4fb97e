-- The words of an entry (IHI 0038, "The compact model"): which of their bytes are bytecode.
use Rattle.std.specs.Prelude.{ℕ, ◌/◌, ◌%◌, ◌^◌, ◌==◌, if◌then◌else◌, List, [], ◌∷◌, ◌++◌, take, drop, flat_map}

-- the bytes of a word, its top byte first
abbrev pub bytes_of_word : ℕ → List ℕ
bytes_of_word w = (w / 2 ^ 24) ∷ (w / 2 ^ 16 % 2 ^ 8) ∷ (w / 2 ^ 8 % 2 ^ 8) ∷ (w % 2 ^ 8) ∷ []

-- the number of the personality routine is the low half of an entry's top byte
abbrev pub personality_of_word : ℕ → ℕ
personality_of_word first = first / 2 ^ 24 % 16

-- how many words after the first one hold bytecode: none for personality 0; for 1 and 2 the second byte counts them
abbrev pub code_words_after : ℕ → ℕ
code_words_after first = if personality_of_word first == 0 then 0 else first / 2 ^ 16 % 2 ^ 8

-- the bytecode bytes in the first word: three for personality 0, two for 1 and 2
abbrev pub code_in_first : ℕ → List ℕ
code_in_first first = drop (if personality_of_word first == 0 then 1 else 2) (bytes_of_word first)

-- the code bytes of an entry's words
abbrev pub code_of_words : List ℕ → List ℕ
code_of_words [] = []
code_of_words (first ∷ more) = code_in_first first ++ flat_map bytes_of_word (take (code_words_after first) more)

-- the words after those that hold code
abbrev pub words_after_code : List ℕ → List ℕ
words_after_code [] = []
words_after_code (first ∷ more) = drop (code_words_after first) more
