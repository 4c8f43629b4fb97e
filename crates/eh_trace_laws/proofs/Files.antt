-- What a list of files answers.
use Rattle.std.specs.Str.{bytes_eq}
use Rattle.std.proofs.Common.{◌≡◌, ◌≢◌, ℕ, Bool, true, false, cond, List, [], ◌∷◌, ◌++◌, length, Some, None, refl, ap, ◌∙◌}
use Rattle.std.proofs.lemmas.Bool.{le-leb, lt-leb}
use Rattle.std.proofs.lemmas.Slice.Eq.{bytes_eq-Decides}
use Rattle.eh_port.specs.FileList.{file_named, within, answer_of}
use Rattle.eh_port.specs.declared.files.FileAnswer.TheVariants.{Found, TooLong}
use Rattle.eh_trace_laws.specs.Files.{HasNone, IsFirst, FilesAreAnswered}

differs : (xs ys : List ℕ) → xs ≢ ys → bytes_eq xs ys ≡ false
differs xs ys other = go (bytes_eq xs ys) refl
  where
    go : (b : Bool) → bytes_eq xs ys ≡ b → bytes_eq xs ys ≡ false
    go true e = absurd (other ((bytes_eq-Decides xs ys).0 e))
    go false e = e

first : (before after : List (List ℕ × List ℕ)) (name bytes : List ℕ) → HasNone before name → file_named (before ++ (name, bytes) ∷ after) name ≡ Some bytes
first [] after name bytes h = ap (λ b. cond b (Some bytes) (file_named after name)) ((bytes_eq-Decides name name).1 refl)
first (file ∷ before) after name bytes h =
    ap (λ b. cond b (Some file.1) (file_named (before ++ (name, bytes) ∷ after) name)) (differs file.0 name h.0) ∙ first before after name bytes h.1

none : (files : List (List ℕ × List ℕ)) (name : List ℕ) → HasNone files name → file_named files name ≡ None
none [] name h = refl
none (file ∷ files) name h = ap (λ b. cond b (Some file.1) (file_named files name)) (differs file.0 name h.0) ∙ none files name h.1

answer_is : (files : List (List ℕ × List ℕ)) (name bytes : List ℕ) (most : ℕ) → IsFirst files name bytes → answer_of files name most ≡ within most (Some bytes)
answer_is files name bytes most f = ap (λ fs. within most (file_named fs name)) f.is ∙ ap (within most) (first f.before f.after name bytes f.first)

pub answered : FilesAreAnswered
answered = record {
  found = λ files name bytes most f h. answer_is files name bytes most f ∙ ap (λ b. cond b (Found bytes) TooLong) (le-leb (length bytes) most h);
  too_long = λ files name bytes most f h. answer_is files name bytes most f ∙ ap (λ b. cond b (Found bytes) TooLong) (lt-leb (length bytes) most h);
  missing = λ files name most h. ap (within most) (none files name h);
}
