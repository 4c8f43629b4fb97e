-- What words stand for (docs/rules/sources.md).
use Rattle.std.specs.Prelude.{ℕ, ◌-◌, ◌%◌, ◌^◌, ℤ, pos, negsuc}
use Rattle.asm_statements.specs.declared.statement.Expr.{Expr}
use Rattle.asm_statements.specs.declared.statement.Expr.TheVariants as expr
use Rattle.asm_layout.specs.declared.word.Word.{Word}
use Rattle.asm_layout.specs.declared.word.Word.TheVariants.{Num, Of, Diff, Prel31, Prel31Ref, Target2, Rel}

-- a number modulo 2^32
abbrev pub low_word : ℤ → ℕ
low_word (pos n) = n % 2 ^ 32
low_word (negsuc n) = 0xffffffff - n % 2 ^ 32

-- the word that an expression gives; equal words are one value
abbrev pub word_of : Expr → Word
word_of (expr.Num n) = Num (low_word n)
word_of (expr.Of name n) = Of name (low_word n)
word_of (expr.Diff a b n) = Diff a b (low_word n)
word_of (expr.Prel31 name) = Prel31 name
word_of (expr.Prel31Ref name) = Prel31Ref name
word_of (expr.Target2 name) = Target2 name
word_of (expr.Rel name) = Rel name
