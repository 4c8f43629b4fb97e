use Rattle.std.proofs.Common.{length, ap, ◌∙◌, refl, arith}
use Rattle.eh_bytecode.proofs.Unwinds.{started, bad_answer, end_answer, finish_answer, on_nothing, on_goes, on_ends}
use Rattle.eh_bytecode.proofs.Taking.{took_code, took_nothing, took_less}
use Rattle.eh_bytecode.proofs.frame.unwind_each.Goals as goal
use Rattle.eh_bytecode.proofs.frame.unwind_each.Goals.{in-Some+in-Some-take_code+in-Finishes, in_default}

pub loop-first-init : goal.loop-first-init
loop-first-init g c = record {
  within = omega (arith, ap length c.copy-left.ensures);
  to_do = started _ _ _ _ _ c.begin_unwind-state.ensures c.copy-left.ensures;
}

pub returns-in_default-take_code : goal.returns-in_default-take_code
returns-in_default-take_code g c =
    let t = took_nothing c.in-Some.first _ _ _ c.in-Some.ensures.steps c.in_default-take_code.ensures.code in
    bad_answer _ _ _ _ _ _ _ c.loop-first.invariant.to_do t.is t.some (omega (arith, t.one, c.len.ensures, c.len-in_default-take_code.ensures))

pub loop-first-preserved : goal.loop-first-preserved
loop-first-preserved g c =
    let t = took_code c.in-Some.first _ _ _ c.in-Some-take_code.code c.in-Some.ensures.steps c.in-Some-take_code.ensures.code in
    record {
      within = omega (arith, took_less _ _ _ t, c.loop-first.invariant.within);
      to_do = on_goes _ _ _ _ _ _ _ _ _ t.is c.in-Goes.ensures t.rest c.loop-first.invariant.within refl ∙ c.loop-first.invariant.to_do;
    }

pub returns-in-Stops : goal.returns-in-Stops
returns-in-Stops g c =
    let t = took_code c.in-Some.first _ _ _ c.in-Some-take_code.code c.in-Some.ensures.steps c.in-Some-take_code.ensures.code in
    end_answer _ _ _ _ _ _ _ _ _ c.loop-first.invariant.to_do t.is c.in-Stops.ensures

pub returns : goal.returns
returns g c =
    elim c.match-next.branch [
      | in-Some+in-Some-take_code+in-Finishes w ↦
          let t = took_code w.in-Some.first _ _ _ w.in-Some-take_code.code w.in-Some.ensures.steps w.in-Some-take_code.ensures.code in
          finish_answer _ _ _ _ _ _ c.loop-first.invariant.to_do (on_ends _ _ _ _ _ _ _ t.is w.in-Finishes.ensures) c.finish.ensures w.state-is
      | in_default w ↦
          finish_answer _ _ _ _ _ _ c.loop-first.invariant.to_do (on_nothing _ _ _ _ (ap length w.in_default.ensures.steps.0)) c.finish.ensures w.state-is
    ]
