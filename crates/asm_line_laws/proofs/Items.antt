-- What stands in a line after its word: tokens, and what a piece of a form takes whole.
use Rattle.std.proofs.Common.{ℕ, Bool, false, List, [], ◌∷◌, ℤ}
use Rattle.asm_statements.specs.declared.statement.Expr.{Expr}
use Rattle.asm_line_laws.proofs.Toks.{Tok}
use Rattle.asm_line_laws.proofs.Toks as toks
use Rattle.asm_line_laws.proofs.Lists.{list_toks, expr_toks, exprs_toks, Stands, AllStand}

pub data Item : Type 0 where
  tok : Tok → Item
  regs : List ℕ → Item
  value : (e : Expr) → Stands false e → Item
  values : (w : Bool) (e : Expr) (es : List Expr) → AllStand w e es → Item

abbrev pub reg : ℕ → Item
reg r = tok (toks.reg r)

abbrev pub word : List ℕ → Item
word w = tok (toks.word w)

abbrev pub num : ℤ → Item
num z = tok (toks.num z)

abbrev pub sign : ℕ → Item
sign b = tok (toks.sign b)

abbrev pub quote : List ℕ → Item
quote raw = tok (toks.quote raw)

-- their tokens
abbrev pub flat : List Item → List Tok
flat [] = []
flat (tok t ∷ is) = t ∷ flat is
flat (regs rs ∷ is) = toks.sign 123 ∷ list_toks rs (flat is)
flat (value e s ∷ is) = expr_toks e (flat is)
flat (values w e es s ∷ is) = exprs_toks e es (flat is)
