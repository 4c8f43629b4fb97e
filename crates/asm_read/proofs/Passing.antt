-- No form begins with a word that is passed over.
use Rattle.std.proofs.Common.{◌≡◌, List, ℕ, None, Some, Ok, Err, if◌then◌else◌, arith}
use Rattle.asm_read.specs.declared.token.Token.{Token}
use Rattle.asm_read.specs.declared.line.LineEnd.{LineEnd}
use Rattle.asm_read.specs.declared.choice.Statement.{Statement}
use Rattle.asm_read.specs.Operands.{stop, name_of}
use Rattle.asm_read.specs.Forms.{rows}
use Rattle.asm_read.specs.Search.{first_fit}
use Rattle.asm_read.specs.Plans.{is_passed, unknown, word_statement}
use Rattle.asm_read.proofs.Rising.{passed_over}

module _ (line : List ℕ) (token : Token) where
  pub with_form : (s : Statement) → first_fit rows (name_of line token) line token.end None ≡ Ok s → word_statement line token ≡ Ok (Some s)
  unfolding word_statement
  with_form s h = grind (arith, passed_over (name_of line token) line token.end None)

  pub with_stop : (s : LineEnd) → first_fit rows (name_of line token) line token.end None ≡ Err (Some s) → word_statement line token ≡ Err s
  unfolding word_statement
  with_stop s h = grind (arith, passed_over (name_of line token) line token.end None)

  pub without_form : first_fit rows (name_of line token) line token.end None ≡ Err None → word_statement line token ≡ (if is_passed (name_of line token) then Ok None else Err (stop token.start (unknown (name_of line token))))
  unfolding word_statement
  without_form h = grind arith
