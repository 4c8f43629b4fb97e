use Rattle.std.proofs.Common.{sym, subst, arith}
use Rattle.thumb_core.specs.Division.{IsUnsignedQuotient, IsSignedQuotient}
use Rattle.thumb_core.proofs.Divided.{unsigned_is, signed_is}
use Rattle.thumb_core.proofs.division.quotient.Goals as goal

pub returns-then-signed-clause-signed : goal.returns-then-signed-clause-signed
returns-then-signed-clause-signed c = λ is. subst (IsSignedQuotient c.args.x c.args.y) (sym c.signed_quotient.ensures) (signed_is c.args.x c.args.y (omega arith) (omega arith))

pub returns-else-signed-clause-unsigned : goal.returns-else-signed-clause-unsigned
returns-else-signed-clause-unsigned c = λ is. subst (IsUnsignedQuotient c.args.x c.args.y) (sym c.unsigned_quotient.ensures) (unsigned_is c.args.x c.args.y)
