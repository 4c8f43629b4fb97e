use Rattle.std.proofs.Common.{length, ap, sym, ◌∙◌, refl, arith}
use Rattle.eh_bytecode.specs.declared.recipe.PartialRecipe.{PartialRecipe}
use Rattle.eh_bytecode.specs.Recipe.{is_far}
use Rattle.eh_bytecode.proofs.Summing.{sum_started, sum_bad, sum_ends, sum_goes, sum_nothing, last_recipe}
use Rattle.eh_bytecode.proofs.Taking.{took_code, took_nothing, took_less}
use Rattle.eh_bytecode.proofs.recipe.summarise.Goals as goal
use Rattle.eh_bytecode.proofs.recipe.summarise.Goals.{in-Some+in-Some-take_code+in-Finishes, in_default}

pub loop-first-init : goal.loop-first-init
loop-first-init c = record {
  within = omega (arith, ap length c.copy-left.ensures);
  near = ap is_far (ap (λ (s : PartialRecipe). s.vsp) c.empty_recipe-sum.ensures);
  to_do = sum_started _ _ _ c.empty_recipe-sum.ensures c.copy-left.ensures;
}

pub returns-in_default-take_code : goal.returns-in_default-take_code
returns-in_default-take_code c =
    let t = took_nothing c.in-Some.first _ _ _ c.in-Some.ensures.steps c.in_default-take_code.ensures.code in
    sym (sum_bad _ _ _ t.is t.some) ∙ c.loop-first.invariant.to_do

pub loop-first-preserved : goal.loop-first-preserved
loop-first-preserved c =
    let t = took_code c.in-Some.first _ _ _ c.in-Some-take_code.code c.in-Some.ensures.steps c.in-Some-take_code.ensures.code in
    record {
      within = omega (arith, took_less _ _ _ t, c.loop-first.invariant.within);
      near = c.in-Goes.ensures.near refl;
      to_do = sum_goes _ _ _ _ _ _ _ _ t.is c.in-Goes.ensures.added t.rest c.loop-first.invariant.within refl ∙ c.loop-first.invariant.to_do;
    }

pub returns-in-Stops : goal.returns-in-Stops
returns-in-Stops c =
    let t = took_code c.in-Some.first _ _ _ c.in-Some-take_code.code c.in-Some.ensures.steps c.in-Some-take_code.ensures.code in
    sym (sum_ends _ _ _ _ _ _ t.is c.in-Stops.ensures.added) ∙ c.loop-first.invariant.to_do

pub returns : goal.returns
returns c =
    elim c.match-next.branch [
      | in-Some+in-Some-take_code+in-Finishes w ↦
          let t = took_code w.in-Some.first _ _ _ w.in-Some-take_code.code w.in-Some.ensures.steps w.in-Some-take_code.ensures.code in
          last_recipe _ _ _ _ _ c.loop-first.invariant.to_do (sum_ends _ _ _ _ _ _ t.is w.in-Finishes.ensures.added) c.recipe.ensures w.sum-is
      | in_default w ↦
          last_recipe _ _ _ _ _ c.loop-first.invariant.to_do (sum_nothing _ _ _ (ap length w.in_default.ensures.steps.0)) c.recipe.ensures w.sum-is
    ]
