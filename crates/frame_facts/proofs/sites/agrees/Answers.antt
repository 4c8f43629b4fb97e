use Rattle.std.proofs.Common.{arith, sym, ◌∙◌}
use Rattle.frame_facts.specs.Agrees.{fails_register}
use Rattle.frame_facts.proofs.Walks.{reg_next, reg_stop, reg_end}
use Rattle.frame_facts.proofs.Agreeing.{agreed_fails, agreed_lost, agreed_ok}
use Rattle.frame_facts.proofs.sites.agrees.Goals as goal

pub loop-reg-preserved : goal.loop-reg-preserved
loop-reg-preserved c = reg_next (fails_register c.args.p.now c.args.r.now c.args.is_call c.at_site-here.result) c.loop-reg.reg (omega arith) (sym c.fails_register.ensures ∙ c.if-fails_register.false) ∙ c.loop-reg.invariant

pub returns-then-fails_register : goal.returns-then-fails_register
returns-then-fails_register c =
    agreed_fails c.args.p.now c.args.r.now c.args.is_call c.args.fact.now c.at_site-here.result c.loop-reg.reg c.at_site-here.ensures
    (sym c.loop-reg.invariant ∙ reg_stop (fails_register c.args.p.now c.args.r.now c.args.is_call c.at_site-here.result) c.loop-reg.reg (omega arith) (sym c.fails_register.ensures ∙ c.if-fails_register.true))

pub returns-then-is_lost : goal.returns-then-is_lost
returns-then-is_lost c =
    agreed_lost c.args.p.now c.args.r.now c.args.is_call c.args.fact.now c.at_site-here.result c.at_site-here.ensures
    (sym c.loop-reg.invariant ∙ reg_end (fails_register c.args.p.now c.args.r.now c.args.is_call c.at_site-here.result) c.loop-reg.reg (omega arith)) (sym c.is_lost.ensures ∙ c.if-is_lost.true)

pub returns : goal.returns
returns c =
    agreed_ok c.args.p.now c.args.r.now c.args.is_call c.args.fact.now c.at_site-here.result c.at_site-here.ensures
    (sym c.loop-reg.invariant ∙ reg_end (fails_register c.args.p.now c.args.r.now c.args.is_call c.at_site-here.result) c.loop-reg.reg (omega arith)) (sym c.is_lost.ensures ∙ c.if-is_lost.false)
