use Rattle.frame_laws.proofs.Scopes.{scopes}
use Rattle.frame_laws.proofs.scopes_are_one.Goals as goal

pub returns : goal.returns
returns c = scopes
