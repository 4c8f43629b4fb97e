use Rattle.std.proofs.Common.{arith, ◌∙◌, sym, inl, inr}
use Rattle.eh_bytecode.proofs.TakenCodes.{no_second, low_alone_is, took_no_low, took_low}
use Rattle.eh_bytecode.proofs.codes.Codes.take_low_mask.Goals as goal
use Rattle.eh_bytecode.proofs.codes.Codes.take_low_mask.Goals.{then-next-eq0-via-then-next-eq0, then-next-eq0-via-else-next-eq0+then-next-gt15}

pub returns-in_err-next-clause-code : goal.returns-in_err-next-clause-code
returns-in_err-next-clause-code c =
    let none = sym c.copy-after.ensures ∙ c.in_err-next.ensures.steps.0 in
    no_second 0xB1 _ _ _ c.from_residual.ensures (none, none) low_alone_is

pub returns-then-next-eq0-clause-code : goal.returns-then-next-eq0-clause-code
returns-then-next-eq0-clause-code c =
    took_no_low c.in_ok-next.next _ _ (sym c.copy-after.ensures ∙ c.in_ok-next.ensures.steps) (omega arith)
    (elim c.then-next-eq0.branch [
      | then-next-eq0-via-then-next-eq0 w ↦ inl w.if-next-eq0.true
      | then-next-eq0-via-else-next-eq0+then-next-gt15 w ↦ inr w.if-next-gt15.true
    ])

pub returns-clause-code : goal.returns-clause-code
returns-clause-code c =
    took_low c.in_ok-next.next _ _ (sym c.copy-after.ensures ∙ c.in_ok-next.ensures.steps) (omega arith) c.if-next-eq0.false
