-- What is refused in the contents of a command's files. The command says which bytes are refused (`Refuses`), given the input if it is
-- known.
use Rattle.std.specs.Prelude.{ℕ, List, Option, Result, Ok, Err}
use Rattle.eh_port.specs.declared.files.FileAnswer.{FileAnswer}
use Rattle.eh_port.specs.declared.files.FileAnswer.TheVariants.{Found, Missing, TooLong}
use Rattle.cmd_input.specs.Building.{build_image}
use Rattle.cmd_input.specs.Sources.{NamedText}
use Rattle.cmd_perform.specs.Yields.{RefusedWhere}

-- for the file's bytes, if it is there; otherwise nothing is refused
abbrev pub RefusedHeld : (List ℕ → Option (List ℕ) → ℕ → Type 0) → FileAnswer → Option (List ℕ) → ℕ → Type 0
RefusedHeld Refuses (Found bytes) = Refuses bytes
RefusedHeld Refuses Missing = RefusedWhere ⊥
RefusedHeld Refuses TooLong = RefusedWhere ⊥

-- for what is made of them; if nothing is, that is refused
abbrev pub RefusedMade : {T : Type 0} → (T → Option (List ℕ) → ℕ → Type 0) → Result T (List ℕ) → Option (List ℕ) → ℕ → Type 0
RefusedMade Refuses (Ok made) = Refuses made
RefusedMade Refuses (Err line) = RefusedWhere (Unit {0})

-- .. for what is made of the files, if they are there
abbrev pub RefusedFiles : {T : Type 0} → (List NamedText → Result T (List ℕ)) → (T → Option (List ℕ) → ℕ → Type 0) → Result (List NamedText) (List ℕ) → Option (List ℕ) → ℕ → Type 0
RefusedFiles make Refuses (Ok files) = RefusedMade Refuses (make files)
RefusedFiles make Refuses (Err line) = RefusedWhere ⊥

-- .. for the bytes of the image built from sources
abbrev pub RefusedSources : (List ℕ → Option (List ℕ) → ℕ → Type 0) → Result (List NamedText) (List ℕ) → Option (List ℕ) → ℕ → Type 0
RefusedSources = RefusedFiles build_image

-- no image is built, or the bytes of the built one are refused
abbrev pub IsUnfitImage : (List ℕ → Type 0) → Result (List ℕ) (List ℕ) → Type 0
IsUnfitImage Unfit (Ok bytes) = Unfit bytes
IsUnfitImage Unfit (Err line) = Unit {0}
