-- Files that are read one after the other.
use Rattle.std.proofs.Common.{◌≡◌, ℕ, List, [], ◌∷◌, ◌++◌, Option, Some, None, IfSome, Result, Ok, Err, Bor, refl, sym, ap, ◌∙◌}
use Rattle.eh_port.specs.FileList.{answer_of}
use Rattle.eh_port.specs.declared.files.FileAnswer.{FileAnswer}
use Rattle.eh_port.specs.declared.files.FileAnswer.TheVariants.{Found}
use Rattle.eh_port.specs.declared.files.FileFault.{FileFault}
use Rattle.eh_port.specs.declared.files.FileFault.TheVariants.{Failed, OutOfMemory}
use Rattle.cmd_answers.specs.declared.stop.Stop.{Stop}
use Rattle.cmd_answers.specs.declared.stop.Stop.TheVariants.{Read, Memory}
use Rattle.cmd_answers.specs.Writes.{stop_of}
use Rattle.cmd_input.specs.Building.{file_of, files_of, found_text}
use Rattle.cmd_input.specs.declared.sources.TheConstants.{FILE_LIMIT}
use Rattle.cmd_input.specs.Sources.{NamedText}
use Rattle.cmd_answers.specs.Words.{texts}
use Rattle.cmd_input.proofs.AllAnswers.{after, joined, refused_at, ended}

same_err : {T : Type 0} (a b : Stop) → ◌≡◌ {A = Result T Stop} (Err a) (Err b) → a ≡ b
same_err a b e = cc

module _ (names rest more : List (Bor (List ℕ))) (n : Bor (List ℕ)) (sofar : List NamedText) where
  -- the next file is there
  pub next_found : (all : List NamedText) (bytes : List ℕ) (told now : Option (List (List ℕ × List ℕ)))
      → rest ≡ n ∷ more → now ≡ told
      → IfSome told (λ held. files_of held (texts names) ≡ after sofar (files_of held (texts rest)))
      → IfSome now (λ held. Found bytes ≡ answer_of held n.now FILE_LIMIT)
      → all ≡ sofar ++ record { name = n.now; text = bytes } ∷ []
      → IfSome told (λ held. files_of held (texts names) ≡ after all (files_of held (texts more)))
  next_found all bytes None now e s inv found a = tt
  next_found all bytes (Some held) now e s inv found a =
      let f : Found bytes ≡ answer_of held n.now FILE_LIMIT = rw s at found in
      let source : NamedText = record { name = n.now; text = bytes } in
      let h : file_of held n.now ≡ Ok source = ap (found_text n.now) (sym f) in
      inv ∙ joined (file_of held) sofar all n.now source (texts rest) (texts more) (ap texts e) h a

  -- the next file is missing or too long
  pub next_lacks : (answer : FileAnswer) (line : List ℕ) (told now : Option (List (List ℕ × List ℕ)))
      → rest ≡ n ∷ more → now ≡ told → found_text n.now answer ≡ Err line
      → IfSome told (λ held. files_of held (texts names) ≡ after sofar (files_of held (texts rest)))
      → IfSome now (λ held. answer ≡ answer_of held n.now FILE_LIMIT)
      → IfSome told (λ held. Err line ≡ files_of held (texts names))
  next_lacks answer line None now e s l inv found = tt
  next_lacks answer line (Some held) now e s l inv found =
      let f : answer ≡ answer_of held n.now FILE_LIMIT = rw s at found in
      let h : file_of held n.now ≡ Err line = ap (found_text n.now) (sym f) ∙ l in
      sym (inv ∙ refused_at (file_of held) sofar n.now line (texts rest) (texts more) (ap texts e) h)

-- all files are there
pub all_found : (names rest : List (Bor (List ℕ))) (sofar : List NamedText) (told : Option (List (List ℕ × List ℕ)))
    → rest ≡ [] → IfSome told (λ held. files_of held (texts names) ≡ after sofar (files_of held (texts rest)))
    → IfSome told (λ held. Ok sofar ≡ files_of held (texts names))
all_found names rest sofar None e inv = tt
all_found names rest sofar (Some held) e inv = sym (inv ∙ ended (file_of held) sofar (texts rest) (ap texts e))

-- want of memory for a file is want of memory
pub wants_of : {T : Type 0} (fault : FileFault) → ◌≡◌ {A = Result T Stop} (Err (stop_of fault)) (Err Memory) → fault ≡ OutOfMemory
wants_of Failed e = absurd (let s = same_err (stop_of Failed) Memory e in no_read s)
  where
    no_read : Read ≡ Memory → ⊥
    no_read e = cc
wants_of OutOfMemory e = refl
