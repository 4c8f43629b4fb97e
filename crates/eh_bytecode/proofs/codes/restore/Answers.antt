use Rattle.std.proofs.Common.{refl, inl, inr}
use Rattle.eh_codes.proofs.Table.{restore, restore_none}
use Rattle.eh_bytecode.proofs.Taking.{took, took_none}
use Rattle.eh_bytecode.proofs.codes.restore.Goals as goal

pub returns-then-register-eq15-clause-code : goal.returns-then-register-eq15-clause-code
returns-then-register-eq15-clause-code c after =
    took_none after after _
    (restore_none c.args.first after c.requires.low c.requires.high (elim c.if-register-eq15.either [ inl sp ↦ inl sp | inr pc ↦ inr pc.1 ])) refl

pub returns-else-register-eq15-clause-code : goal.returns-else-register-eq15-clause-code
returns-else-register-eq15-clause-code c after =
    took after after _ 1 _ (restore c.args.first after c.requires.low c.requires.high c.if-register-eq15.false.0 c.if-register-eq15.false.1) refl
