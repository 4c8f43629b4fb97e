-- One action more.
use Rattle.std.proofs.Common.{◌≡◌, ℕ, zero, suc, ◌-◌, List, [], ◌∷◌, refl, arith, ◌∙◌, ap, sym}
use Rattle.std.specs.Prelude.{Result, Ok, Err}
use Rattle.gnu_lsda.specs.declared.actions.Action.{Action}
use Rattle.gnu_lsda.specs.declared.actions.ActionFault.{ActionFault}
use Rattle.gnu_lsda.specs.declared.actions.NextAction.{NextAction}
use Rattle.gnu_lsda.specs.declared.actions.NextAction.TheVariants.{Last, At, Outside}
use Rattle.gnu_lsda.specs.declared.actions.Step.TheVariants.{End, One, Fault}
use Rattle.gnu_lsda.specs.Heads.{Area}
use Rattle.gnu_lsda.specs.Chains.{step_at, with_further_actions, actions_in}

-- of a chain of which no record is looked at there is no action
none_one : (a : Area) (from next : NextAction) (action : Action) → One action next ≡ step_at 0 a from → (actions : List (Result Action ActionFault)) → [] ≡ actions
none_one a Last next action e actions = absurd cc
none_one a Outside next action e actions = absurd cc
none_one a (At place) next action e actions = absurd cc

-- after its last record a chain has no action
pub ended : (most : ℕ) (a : Area) → actions_in most a Last ≡ []
unfolding actions_in
ended zero a = refl
ended (suc most) a = refl

pub over : (most : ℕ) (a : Area) (from : NextAction) → End ≡ step_at most a from → actions_in most a from ≡ []
unfolding actions_in
over zero a from e = ap (with_further_actions (λ _. [])) (sym e)
over (suc most) a from e = ap (with_further_actions (λ next. actions_in most a next)) (sym e)

pub fault : (most : ℕ) (a : Area) (from : NextAction) (why : ActionFault) → Fault why ≡ step_at most a from → actions_in most a from ≡ Err why ∷ []
unfolding actions_in
fault zero a from why e = ap (with_further_actions (λ _. [])) (sym e)
fault (suc most) a from why e = ap (with_further_actions (λ next. actions_in most a next)) (sym e)

pub one : (most : ℕ) (a : Area) (from next : NextAction) (action : Action) → One action next ≡ step_at most a from → actions_in most a from ≡ Ok action ∷ actions_in (most - 1) a next
unfolding actions_in
one zero a from next action e = ap (with_further_actions (λ _. [])) (sym e) ∙ ap (λ l. Ok action ∷ l) (none_one a from next action e (actions_in (0 - 1) a next))
one (suc most) a from next action e =
    let back : suc most - 1 ≡ most = omega arith in
    ap (with_further_actions (λ next. actions_in most a next)) (sym e) ∙ ap (λ (n : ℕ). Ok action ∷ actions_in n a next) (sym back)

-- what is left, as the iterator keeps it
pub left_one : (most left : ℕ) (a : Area) (from next : NextAction) (all : List (Result Action ActionFault)) (action : Action) → left ≡ most - 1
    → actions_in most a from ≡ all → One action next ≡ step_at most a from → all ≡ Ok action ∷ actions_in left a next
left_one most left a from next all action fewer is here = sym is ∙ one most a from next action here ∙ ap (λ (n : ℕ). Ok action ∷ actions_in n a next) (sym fewer)
