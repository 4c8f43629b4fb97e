use Rattle.std.proofs.Common.{◌≡◌, ◌-◌, ◌≤◌, arith, refl, ap, subst}
use Rattle.std.specs.List.{count_by, range_with_len}
use Rattle.elf_image.specs.Segments.{Segment}
use Rattle.frame_audit.specs.Code.{is_stray, halfwords_in}
use Rattle.frame_audit.proofs.Divided.{counted_on}
use Rattle.frame_audit.proofs.code.stray_in.Goals as goal

pub loop-a-preserved : goal.loop-a-preserved
loop-a-preserved c =
    let start : c.segment.inside.start ≡ c.args.segment.now.start = ap (λ (s : Segment). s.start) c.segment.view_is in
    let low : c.args.segment.now.start ≤ c.loop-a.a = omega (arith, start, c.loop-a.auto.a) in
    let both =
    counted_on (is_stray c.args.image.now) c.args.segment.now.start c.loop-a.a c.loop-a.count c.stray_at-count.result (is_stray c.args.image.now c.loop-a.a) low c.loop-a.invariant.count c.loop-a.invariant.most refl c.stray_at-count.ensures
    in
    record { count = both.0; most = both.1 }

pub returns : goal.returns
unfolding halfwords_in
returns c =
    let start : c.segment.inside.start ≡ c.args.segment.now.start = ap (λ (s : Segment). s.start) c.segment.view_is in
    let size : c.segment.inside.size ≡ c.args.segment.now.size = ap (λ (s : Segment). s.size) c.segment.view_is in
    let whole : c.loop-a.a - c.args.segment.now.start ≡ c.args.segment.now.size = omega (arith, start, size, c.loop-a.auto.a, c.loop-a.auto.a-end, c.loop-a-test.false) in
    subst (λ n. c.loop-a.count ≡ count_by (is_stray c.args.image.now) (range_with_len c.args.segment.now.start n)) whole c.loop-a.invariant.count
