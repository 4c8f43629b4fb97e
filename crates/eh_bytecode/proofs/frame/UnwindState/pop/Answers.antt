use Rattle.std.proofs.Common.{◌≡◌, Bool, true, false, ◌||◌, arith}
use Rattle.eh_bytecode.proofs.Unwinds.{popped_as}
use Rattle.eh_bytecode.proofs.frame.UnwindState.pop.Goals as goal
use Rattle.eh_bytecode.proofs.frame.UnwindState.pop.Goals.{then-self, else-self}

first : (p q x : Bool) → p ≡ true → x ≡ p → x ≡ (p || q)
first true q x e f = f
first false q x e f = cc

second : (p q x : Bool) → p ≡ false → x ≡ q → x ≡ (p || q)
second true q x e f = cc
second false q x e f = f

pub returns-after-self : goal.returns-after-self
returns-after-self g c =
    popped_as c.args.self.now c.args.list c.in-Ok.bytes c.load_list.new.r _ c.if-self.self c.in-Ok.ensures.ok c.in-Ok.ensures.bytes (omega arith)
    (elim c.if-self.branch [ then-self w ↦ first _ _ _ w.if-self.true w.self-is | else-self w ↦ second _ _ _ w.if-self.false w.self-is ])
