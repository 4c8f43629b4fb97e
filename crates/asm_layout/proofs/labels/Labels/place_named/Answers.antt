use Rattle.std.proofs.Common.{arith}
use Rattle.asm_layout.proofs.LayoutLaws.{find-named_in}
use Rattle.asm_layout.proofs.labels.Labels.place_named.Goals as goal

pub returns-in-Some : goal.returns-in-Some
returns-in-Some c = grind (arith, find-named_in c.args.name.now c.args.self.now)

pub returns-in-None : goal.returns-in-None
returns-in-None c = grind (arith, find-named_in c.args.name.now c.args.self.now)
