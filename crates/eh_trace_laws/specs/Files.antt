-- What a list of files answers to a name and a limit (docs/rules/memory.md).
use Rattle.std.specs.Prelude.{◌≡◌, ◌≢◌, ℕ, ◌<◌, ◌≤◌, List, [], ◌∷◌, ◌++◌, length}
use Rattle.eh_port.specs.FileList.{answer_of}
use Rattle.eh_port.specs.declared.files.FileAnswer.TheVariants.{Found, Missing, TooLong}

-- none of these files has the name
abbrev pub HasNone : List (List ℕ × List ℕ) → List ℕ → Type 0
HasNone [] name = Unit {0}
HasNone (file ∷ files) name = (file.0 ≢ name) × HasNone files name

-- the first file of the name is this one
pub record IsFirst (files : List (List ℕ × List ℕ)) (name bytes : List ℕ) : Type 0 where
  pub before : List (List ℕ × List ℕ)
  pub after : List (List ℕ × List ℕ)
  pub is : files ≡ before ++ (name, bytes) ∷ after
  pub first : HasNone before name

-- its bytes are found where there are at most so many, and a name that no file has is missing
pub record FilesAreAnswered : Type 0 where
  pub found : (files : List (List ℕ × List ℕ)) (name bytes : List ℕ) (most : ℕ) → IsFirst files name bytes → length bytes ≤ most → answer_of files name most ≡ Found bytes
  pub too_long : (files : List (List ℕ × List ℕ)) (name bytes : List ℕ) (most : ℕ) → IsFirst files name bytes → most < length bytes → answer_of files name most ≡ TooLong
  pub missing : (files : List (List ℕ × List ℕ)) (name : List ℕ) (most : ℕ) → HasNone files name → answer_of files name most ≡ Missing
