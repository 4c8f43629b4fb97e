use Rattle.std.proofs.Common.{◌∙◌}
use Rattle.cmd_perform.proofs.WalkReports.{answers_frames}
use Rattle.cmd_perform.proofs.walk.answer_frames.Goals as goal

pub returns-in-NotSite : goal.returns-in-NotSite
returns-in-NotSite g c = rw c.in-NotSite.is c.answer_run.ensures

pub returns-in-Ok-walk_lines : goal.returns-in-Ok-walk_lines
returns-in-Ok-walk_lines g c =
    answers_frames c.args.accepted.now c.args.events.now c.args.walk.now.frames.items c.args.walk.now.end c.image-2.result.now c.as_slice.result.now _ _ _ _ _ _ _ c.in_default.not-NotSite
    (c.as_slice-in-Ok-walk_lines.ensures.value ∙ (rw (c.image.ensures.image, c.types.ensures) at c.in-Ok.ensures))
    c.image-2.ensures.image c.as_slice.ensures.value (c.as_slice-in-Ok-walk_lines-2.ensures.value ∙ c.in-Ok-walk_lines.ensures)
    c.answer_three.ensures
