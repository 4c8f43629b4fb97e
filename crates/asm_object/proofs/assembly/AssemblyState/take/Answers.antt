use Rattle.std.proofs.Common.{◌≡◌, ap, ◌∙◌, subst}
use Rattle.std.specs.Result.{OnOk}
use Rattle.asm_layout.specs.Faults.{first_of}
use Rattle.asm_object.proofs.GivenLemmas.{fault_one}
use Rattle.asm_object.proofs.assembly.AssemblyState.take.Goals as goal

pub returns-then-is_some-clause-first : goal.returns-then-is_some-clause-first
returns-then-is_some-clause-first c =
    let first = c.args.self.now.first in
    c.first_of-self.ensures
    ∙ ap (first_of first) c.refusal_at.ensures
    ∙ fault_one first _ _

pub returns-clause-first : goal.returns-clause-first
returns-clause-first c =
    let first = c.args.self.now.first in
    subst (λ f. OnOk c.add.result (c.add.new.self.first ≡ f))
    (c.first_of-self.ensures
    ∙ ap (first_of first) c.refusal_at.ensures
    ∙ fault_one first _ _)
    c.add.ensures.first
