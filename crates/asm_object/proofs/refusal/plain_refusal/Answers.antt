use Rattle.std.proofs.Common.{sym}
use Rattle.asm_object.proofs.PlainLemmas.{limited}
use Rattle.asm_object.proofs.refusal.plain_refusal.Goals as goal

pub returns-in-Some : goal.returns-in-Some
returns-in-Some c labels = rw (c.encode_refusal.ensures, c.fault_unless.ensures, c.all_within.ensures) (limited labels c.args.width c.in-Some.limit c.args.numbers.now (sym c.in-Some.ensures))
