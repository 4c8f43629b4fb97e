use Rattle.std.proofs.Common.{arith, refl}
use Rattle.eh_codes.proofs.Table.{mask_sp}
use Rattle.eh_bytecode.proofs.Taking.{took_none}
use Rattle.eh_bytecode.proofs.TakenCodes.{no_second, mask_alone, took_refuse, took_mask}
use Rattle.eh_bytecode.proofs.codes.Codes.take_mask.Goals as goal
use Rattle.eh_bytecode.proofs.codes.Codes.take_mask.Goals.{else-first-eq-POP_MASK-via-then-first-eq-POP_MASK+else-next-eq0, else-first-eq-POP_MASK-via-else-first-eq-POP_MASK}

pub returns-then-first-eq1-clause-code : goal.returns-then-first-eq1-clause-code
returns-then-first-eq1-clause-code c = took_none _ _ _ (mask_sp c.args.first c.args.self.now c.requires.low c.requires.high c.if-first-eq1.true) refl

pub returns-in_err-next-clause-code : goal.returns-in_err-next-clause-code
returns-in_err-next-clause-code c =
    no_second c.args.first _ _ _ c.from_residual.ensures c.in_err-next.ensures.steps (mask_alone c.args.first c.requires.low c.requires.high (omega arith))

pub returns-then-next-eq0-clause-code : goal.returns-then-next-eq0-clause-code
returns-then-next-eq0-clause-code c = took_refuse c.args.first c.in_ok-next.next _ _ c.in_ok-next.ensures.steps c.if-first-eq-POP_MASK.true c.if-next-eq0.true

pub returns-else-first-eq-POP_MASK-clause-code : goal.returns-else-first-eq-POP_MASK-clause-code
returns-else-first-eq-POP_MASK-clause-code c =
    took_mask c.args.first c.in_ok-next.next _ _ _ _ c.in_ok-next.ensures.steps c.requires.low c.requires.high (omega arith) (omega arith)
    (elim c.else-first-eq-POP_MASK.branch [
      | else-first-eq-POP_MASK-via-then-first-eq-POP_MASK+else-next-eq0 w ↦ λ _. w.if-next-eq0.false
      | else-first-eq-POP_MASK-via-else-first-eq-POP_MASK w ↦ λ e. absurd (w.if-first-eq-POP_MASK.false e)
    ]) c.from.ensures c.from-else-first-eq-POP_MASK.ensures
