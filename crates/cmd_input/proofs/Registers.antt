-- Names of registers.
use Rattle.std.proofs.Common.{◌≡◌, ℕ, Some, lit<, lit≤, refl}
use Rattle.std.proofs.lemmas.Fmt.{decimal_digit, decimal_step}
use borrow.Author.Count.{below_none, below_more}
use Rattle.asm_read.specs.Operands.{register_of}
use Rattle.cmd_lines.specs.CheckText.{register_name}
use Rattle.cmd_input.specs.Laws.{RegistersReadBack}

abbrev IsRead : ℕ → Type 0
IsRead number = register_of (register_name number) ≡ Some number

pub read_back : RegistersReadBack
read_back =
    below_more IsRead 15 (below_more IsRead 14 (below_more IsRead 13 (below_more IsRead 12 (below_more IsRead 11 (below_more IsRead 10 (below_more IsRead 9 (below_more IsRead 8 (below_more IsRead 7 (below_more IsRead 6 (below_more IsRead 5 (below_more IsRead 4 (below_more IsRead 3 (below_more IsRead 2 (below_more IsRead 1 (below_more IsRead 0 (below_none IsRead)
    (rw (decimal_digit 0 (lit< tt)) refl))
    (rw (decimal_digit 1 (lit< tt)) refl))
    (rw (decimal_digit 2 (lit< tt)) refl))
    (rw (decimal_digit 3 (lit< tt)) refl))
    (rw (decimal_digit 4 (lit< tt)) refl))
    (rw (decimal_digit 5 (lit< tt)) refl))
    (rw (decimal_digit 6 (lit< tt)) refl))
    (rw (decimal_digit 7 (lit< tt)) refl))
    (rw (decimal_digit 8 (lit< tt)) refl))
    (rw (decimal_digit 9 (lit< tt)) refl))
    (rw (decimal_step 10 (lit≤ tt) (lit< tt), decimal_digit 1 (lit< tt)) refl))
    (rw (decimal_step 11 (lit≤ tt) (lit< tt), decimal_digit 1 (lit< tt)) refl))
    (rw (decimal_step 12 (lit≤ tt) (lit< tt), decimal_digit 1 (lit< tt)) refl))
    refl)
    refl)
    refl
