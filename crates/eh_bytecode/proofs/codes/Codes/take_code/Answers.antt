use Rattle.std.proofs.Common.{arith, refl}
use Rattle.eh_codes.proofs.Table.{raise, lower, range, range_and_lr, finish, none}
use Rattle.eh_bytecode.proofs.Taking.{took, took_none}
use Rattle.eh_bytecode.proofs.codes.Codes.take_code.Goals as goal

pub returns-then-first-lt-LOWER-clause-code : goal.returns-then-first-lt-LOWER-clause-code
returns-then-first-lt-LOWER-clause-code c = took _ _ _ 1 _ (raise c.args.first c.args.self.now (omega arith)) refl

pub returns-then-first-lt-POP_MASK-clause-code : goal.returns-then-first-lt-POP_MASK-clause-code
returns-then-first-lt-POP_MASK-clause-code c = took _ _ _ 1 _ (lower c.args.first c.args.self.now (omega arith) (omega arith)) refl

pub returns-then-first-lt-POP_RANGE_AND_LR-clause-code : goal.returns-then-first-lt-POP_RANGE_AND_LR-clause-code
returns-then-first-lt-POP_RANGE_AND_LR-clause-code c = took _ _ _ 1 _ (range c.args.first c.args.self.now (omega arith) (omega arith)) refl

pub returns-then-first-lt-FINISH-clause-code : goal.returns-then-first-lt-FINISH-clause-code
returns-then-first-lt-FINISH-clause-code c = took _ _ _ 1 _ (range_and_lr c.args.first c.args.self.now (omega arith) (omega arith)) refl

pub returns-then-first-eq-FINISH-clause-code : goal.returns-then-first-eq-FINISH-clause-code
returns-then-first-eq-FINISH-clause-code c = took _ _ _ 1 _ (finish c.args.first c.args.self.now c.if-first-eq-FINISH.true) refl

pub returns-else-first-eq-RAISE_LONG-clause-code : goal.returns-else-first-eq-RAISE_LONG-clause-code
returns-else-first-eq-RAISE_LONG-clause-code c = took_none _ _ _ (none c.args.first c.args.self.now (omega arith) (omega arith)) refl
