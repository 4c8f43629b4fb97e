use Rattle.std.proofs.Common.{option_copied, ap, sym, ◌∙◌}
use Rattle.frame_flow.specs.Framed.{framed_view}
use Rattle.frame_flow.proofs.Merging.{put_fresh, put_vaguer, parts_at, stays_same, met_other}
use Rattle.frame_flow.proofs.work.merge.Goals as goal

pub returns-in-None : goal.returns-in-None
returns-in-None c =
    put_fresh (framed_view c.args.x.now) _ _ _ _ _ _ _ (sym c.get.ensures ∙ ap option_copied c.in-None.is) c.put.ensures.facts c.put.ensures.work c.put.ensures.spent

pub returns-then-is_meeting : goal.returns-then-is_meeting
returns-then-is_meeting c =
    stays_same (framed_view c.args.x.now) _ _ _ _ c.in-Some.held.now (sym c.get.ensures ∙ ap option_copied c.in-Some.is) (sym c.is_meeting.ensures ∙ c.if-is_meeting.true)

pub returns-in-None-join : goal.returns-in-None-join
returns-in-None-join c =
    parts_at (framed_view c.args.x.now) _ _ _ _ _ _ c.in-Some.held.now c.depth_cause.result (sym c.get.ensures ∙ ap option_copied c.in-Some.is) (sym c.in-None-join.ensures) c.depth_cause.ensures

pub returns-in-Some-join : goal.returns-in-Some-join
returns-in-Some-join c =
    let met = sym c.in-Some-join.ensures in
    put_vaguer (framed_view c.args.x.now) _ _ _ _ c.in-Some.held.now c.in-Some-join.met _ _ _ (sym c.get.ensures ∙ ap option_copied c.in-Some.is) met
    (met_other c.args.fact.now c.in-Some.held.now c.in-Some-join.met met (sym c.is_meeting.ensures ∙ c.if-is_meeting.false)) c.put-in-Some-join.ensures.facts c.put-in-Some-join.ensures.work c.put-in-Some-join.ensures.spent
