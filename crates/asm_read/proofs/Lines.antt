-- The lines of a text, one by one.
use Rattle.std.proofs.Common.{◌≡◌, ℕ, ◌+◌, ◌<◌, ◌≤◌, suc, List, [], ◌∷◌, length, take, drop, Ok, Err, ap, arith, append_assoc}
use Rattle.std.proofs.lemmas.List.{append-nil}
use Rattle.std.specs.List.{prefix_len}
use Rattle.std.proofs.lemmas.Bool.Decides.{nat_tests}
use Rattle.asm_read.specs.declared.read.TheConstants.{MOST_LINES}
use Rattle.asm_statements.specs.declared.statement.Stmt.{Stmt}
use Rattle.asm_read.specs.declared.fault.SourceFault.{SourceFault}
use Rattle.asm_read.specs.Fault.{fault_at}
use Rattle.asm_read.specs.Reading.{is_inside, lines_of, append_stmts, excess_fault, line_of, read_lines, source_stmts}

pub lines_step : (text : List ℕ) → 0 < length text → lines_of text ≡ take (prefix_len is_inside text) text ∷ lines_of (drop (prefix_len is_inside text + 1) text)
unfolding lines_of
lines_step [] h = absurd (omega arith)
lines_step (b ∷ []) h = grind (arith, nat_tests)
lines_step (b ∷ c ∷ bs) h =
    let p = prefix_len is_inside (c ∷ bs) in
    let e : 1 + p ≡ suc p = omega arith in
    let f : suc p + 1 ≡ suc (p + 1) = omega arith in
    grind (arith, nat_tests, lines_step (c ∷ bs) (omega arith))

-- the length of the line, and the text after it, under names
module _ (out : List Stmt) (n : ℕ) (text : List ℕ) (len : ℕ) (some : 0 < length text) where
  pub read_next : (new : List Stmt) (rest : List ℕ) → n ≤ MOST_LINES → len ≡ prefix_len is_inside text → rest ≡ drop (len + 1) text → append_stmts out (line_of n (take len text)) ≡ Ok new → append_stmts out (read_lines n (lines_of text)) ≡ append_stmts new (read_lines (n + 1) (lines_of rest))
  unfolding read_lines
  read_next new rest few el er h = grind (arith, nat_tests, lines_step text, append_assoc)

  pub read_refused : (f : SourceFault) → n ≤ MOST_LINES → len ≡ prefix_len is_inside text → line_of n (take len text) ≡ Err f → append_stmts out (read_lines n (lines_of text)) ≡ Err f
  unfolding read_lines
  read_refused f few el h = grind (arith, nat_tests, lines_step text)

  pub read_many : MOST_LINES < n → len ≡ prefix_len is_inside text → append_stmts out (read_lines n (lines_of text)) ≡ Err (fault_at n 1 (excess_fault (take len text)))
  unfolding read_lines
  read_many many el = grind (arith, nat_tests, lines_step text)

pub read_end : (out : List Stmt) (n : ℕ) (text : List ℕ) → length text ≤ 0 → append_stmts out (read_lines n (lines_of text)) ≡ Ok out
unfolding read_lines lines_of
read_end out n [] h = ap (λ x. Ok x) (append-nil out)
read_end out n (b ∷ bs) h = absurd (omega arith)

pub read_start : (text : List ℕ) → append_stmts [] (read_lines 1 (lines_of text)) ≡ source_stmts text
unfolding source_stmts
read_start text = grind arith
