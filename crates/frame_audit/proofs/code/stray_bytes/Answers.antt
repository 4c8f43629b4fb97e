use Rattle.std.proofs.Common.{◌<◌, ◌≤◌, List, length, sym, subst}
use Rattle.elf_image.specs.Segments.{Segment, segment_end}
use Rattle.elf_image.specs.declared.limits.TheConstants.{ADDRESS_LIMIT}
use Rattle.frame_check.proofs.Wells.{same_item}
use Rattle.frame_audit.proofs.Divided.{ends_low}
use Rattle.frame_audit.proofs.code.stray_bytes.Goals as goal

pub stray_in-requires : goal.stray_in-requires
stray_in-requires c =
    let segments = c.args.image.now.segments in
    let at = c.loop-segment.segment-index in
    let segment = c.segment-item.result in
    let same = c.segments-segment-items.ensures.segments in
    let within = subst (λ (xs : List Segment). at < length xs) same c.loop-segment-test.true in
    let is = same_item c.segments-segment-items.result.now segments at segment same c.segment-item.is in
    subst (λ (s : Segment). segment_end s ≤ ADDRESS_LIMIT) (sym is) (ends_low 0 segments at segment c.segments-segment-items.ensures.sound.rise within)
