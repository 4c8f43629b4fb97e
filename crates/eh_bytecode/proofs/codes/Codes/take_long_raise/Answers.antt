use Rattle.std.proofs.Common.{sym, refl}
use Rattle.eh_bytecode.proofs.Numbers.{long_found, long_refused}
use Rattle.eh_bytecode.proofs.Taking.{took_none}
use Rattle.eh_bytecode.proofs.TakenCodes.{took_long}
use Rattle.eh_bytecode.proofs.codes.Codes.take_long_raise.Goals as goal

pub returns-in-Ok-clause-code : goal.returns-in-Ok-clause-code
returns-in-Ok-clause-code c = took_long _ _ _ _ (long_found _ _ _ _ c.peek_five-count.ensures.bytes c.in-Ok.ensures) c.skip_bytes.ensures

pub returns-in-Err-clause-code : goal.returns-in-Err-clause-code
returns-in-Err-clause-code c = took_none _ _ _ (sym (long_refused _ _ _ c.peek_five-count.ensures.bytes c.in-Err.ensures)) refl
