-- When words are equal: numbers by their value, names by their bytes (docs/rules/sources.md, "Pools").
use Rattle.std.specs.Prelude.{◌==◌, ◌&&◌, Bool, false}
use Rattle.eh_word.specs.Names.{same_bytes}
use Rattle.asm_layout.specs.declared.word.Word.{Word}
use Rattle.asm_layout.specs.declared.word.Word.TheVariants.{Num, Of, Diff, Prel31, Prel31Ref, Target2, Rel}

abbrev pub same_word : Word → Word → Bool
same_word (Num m) (Num n) = m == n
same_word (Of a m) (Of b n) = same_bytes a b && (m == n)
same_word (Diff a c m) (Diff b d n) = same_bytes a b && same_bytes c d && (m == n)
same_word (Prel31 a) (Prel31 b) = same_bytes a b
same_word (Prel31Ref a) (Prel31Ref b) = same_bytes a b
same_word (Target2 a) (Target2 b) = same_bytes a b
same_word (Rel a) (Rel b) = same_bytes a b
same_word _ _ = false
