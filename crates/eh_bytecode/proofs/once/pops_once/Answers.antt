use Rattle.std.proofs.Common.{length, arith, ap, refl}
use Rattle.std.proofs.lemmas.Grind.{common_steps}
use Rattle.eh_bytecode.proofs.Fresh.{left_start, left_bad, left_empty, left_over, left_twice, left_on, clear_marks, all_clear}
use Rattle.eh_bytecode.proofs.Taking.{took_code, took_nothing, took_less}
use Rattle.eh_bytecode.proofs.once.pops_once.Goals as goal

pub loop-first-init : goal.loop-first-init
loop-first-init c = record {
  within = omega (arith, ap length c.copy-left.ensures);
  size = refl;
  to_do = left_start c.args.codes.now c.copy-left.result clear_marks all_clear c.copy-left.ensures;
}

pub returns-in_default-take_code : goal.returns-in_default-take_code
returns-in_default-take_code c =
    let t = took_nothing c.in-Some.first _ _ _ c.in-Some.ensures.steps c.in_default-take_code.ensures.code in
    left_bad c.args.codes.now c.loop-first.left c.loop-first.seen _ _ t.is t.some refl c.loop-first.invariant.to_do

pub returns-in_default-list_of : goal.returns-in_default-list_of
returns-in_default-list_of c =
    let t = took_code c.in-Some.first _ _ _ c.in-Some-take_code.code c.in-Some.ensures.steps c.in-Some-take_code.ensures.code in
    left_over c.args.codes.now c.loop-first.left c.loop-first.seen _ c.in-Some-take_code.code t.size _ _ t.is c.list_of.ensures c.in_default-list_of.is refl c.loop-first.invariant.to_do

pub returns-then-not-mark : goal.returns-then-not-mark
returns-then-not-mark c =
    let t = took_code c.in-Some.first _ _ _ c.in-Some-take_code.code c.in-Some.ensures.steps c.in-Some-take_code.ensures.code in
    left_twice c.args.codes.now c.loop-first.left c.loop-first.seen c.mark.new.seen _ c.in-Some-take_code.code t.size _ c.in-Some-list_of.list _ _ t.is c.list_of.ensures c.in-Some-list_of.is c.mark.ensures c.if-not-mark.true refl
    c.loop-first.invariant.to_do

pub loop-first-preserved : goal.loop-first-preserved
loop-first-preserved c =
    let t = took_code c.in-Some.first _ _ _ c.in-Some-take_code.code c.in-Some.ensures.steps c.in-Some-take_code.ensures.code in
    record {
      within = omega (arith, took_less _ _ _ t, c.loop-first.invariant.within);
      size = grind (arith, common_steps);
      to_do =
          left_on c.args.codes.now c.loop-first.left c.take_code.new.self c.loop-first.seen c.mark.new.seen _ c.in-Some-take_code.code t.size _ c.in-Some-list_of.list _ t.is c.list_of.ensures c.in-Some-list_of.is c.mark.ensures
          c.if-not-mark.false t.rest c.loop-first.invariant.within refl c.loop-first.invariant.to_do;
    }

pub returns : goal.returns
returns c = left_empty c.args.codes.now c.loop-first.left c.loop-first.seen _ _ (ap length c.in_default.ensures.steps.0) refl c.loop-first.invariant.to_do
