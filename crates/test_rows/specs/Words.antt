-- The words of a question, separated by spaces.
use Rattle.std.specs.Prelude.{ℕ, Bool, List, ◌==◌}
use Rattle.std.specs.List.{before_first, after_first}

-- a space, of ASCII
abbrev pub is_space : ℕ → Bool
is_space byte = byte == 32

-- what precedes the first space, or all if there is none
abbrev pub word_in_front : List ℕ → List ℕ
word_in_front question = before_first is_space question

-- what follows the first space, or nothing if there is none
abbrev pub words_after : List ℕ → List ℕ
words_after question = after_first is_space question
