-- What files show, and the lines of one that is missing or too long (docs/rules/memory.md). Each line ends in a line feed.
use Rattle.std.specs.Prelude.{ℕ, List, ◌++◌, codes, Option}
use Rattle.eh_port.specs.declared.files.FileAnswer.{FileAnswer}
use Rattle.eh_port.specs.declared.files.FileAnswer.TheVariants.{Found, Missing, TooLong}

-- what files hold, how often a read of one has failed, the names asked for so far, and those names after one more
pub record FileState : Type 0 where
  pub held : Option (List (List ℕ × List ℕ))
  pub faults : ℕ
  pub asked : ℕ
  pub with_name : ℕ → List ℕ → ℕ

abbrev pub file_state : Option (List (List ℕ × List ℕ)) → ℕ → ℕ → (ℕ → List ℕ → ℕ) → FileState
file_state held faults asked with_name = record { held = held; faults = faults; asked = asked; with_name = with_name }

-- the file is missing or too long
abbrev pub IsUnavailable : FileAnswer → Type 0
IsUnavailable (Found bytes) = ⊥
IsUnavailable Missing = Unit {0}
IsUnavailable TooLong = Unit {0}

abbrev pub missing_line : List ℕ → List ℕ
missing_line name = name ++ codes ": missing\n"

abbrev pub too_long_line : List ℕ → List ℕ
too_long_line name = name ++ codes ": too long\n"
