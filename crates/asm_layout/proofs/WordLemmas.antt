-- The derived `==` of words is that of their parts.
use Rattle.std.specs.Prelude.{◌≡◌}
use Rattle.std.proofs.Common.{arith}
use Rattle.asm_layout.specs.declared.word.Word.{Word}
use Rattle.asm_layout.specs.contracts.word.WordPartialEq.TheImpl as derived
use Rattle.asm_layout.specs.SameWords.{same_word}

same_at : (a b : Word) → derived.eq-value.it a b ≡ same_word a b
same_at a b = grind arith

pub derived_is : derived.eq-value.it ≡ same_word
derived_is = λ i a b. same_at a b i
