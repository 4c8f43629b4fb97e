use Rattle.std.proofs.Common.{sym, subst}
use Rattle.frame_check.specs.Accepts.{AreRoles}
use Rattle.frame_check.proofs.Images.{no_roles}
use Rattle.frame_check.proofs.checking.check_functions.Goals as goal

pub check_each-requires-clause-roles : goal.check_each-requires-clause-roles
check_each-requires-clause-roles c = subst (λ t. AreRoles c.args.index.now _ t) (sym c.new-roles.ensures) (no_roles c.args.index.now)
