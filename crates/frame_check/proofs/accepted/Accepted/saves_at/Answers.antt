use Rattle.std.proofs.Common.{◌≡◌, true, ap, ◌∙◌, subst}
use Rattle.std.specs.Prelude.{Contains}
use Rattle.elf_image.specs.Functions.{Function, is_inside}
use Rattle.frame_reach.specs.Marks.{Marks, AreMarks}
use Rattle.frame_check.specs.declared.roles.Role.{Role}
use Rattle.frame_check.specs.Roots.{flow_graph_of}
use Rattle.frame_check.specs.Accepts.{Accepted, saves_at}
use Rattle.frame_check.proofs.accepted.Accepted.saves_at.Goals as goal

pub returns-clause-saves : goal.returns-clause-saves
returns-clause-saves c =
    subst (λ (x : Accepted). (f : Function) (m : Marks) → Contains x.image.functions f → AreMarks (flow_graph_of x.image f) m → is_inside c.args.a f ≡ true → c.look_up_role.result.saves ≡ saves_at (flow_graph_of x.image f) m c.args.a)
    c.self.view_is (λ f m k am i. ap (λ (s : Role). s.saves) c.look_up_role.ensures ∙ c.self.invariant.0.roles.saves f m c.args.a k am i)

pub returns-clause-none : goal.returns-clause-none
returns-clause-none c =
    subst (λ (x : Accepted). ((f : Function) → Contains x.image.functions f → is_inside c.args.a f ≡ true → ⊥) → c.look_up_role.result.saves ≡ 0)
    c.self.view_is (λ away. ap (λ (s : Role). s.saves) c.look_up_role.ensures ∙ c.self.invariant.0.roles.blank c.args.a away)
