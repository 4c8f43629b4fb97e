use Rattle.std.proofs.Common.{sym, ◌∙◌}
use Rattle.elf_image.specs.Segments.{by_address, segment_of, segments_of}
use Rattle.elf_image.proofs.Reading.{sorted_there, map_values, sorted_rise}
use Rattle.elf_image.proofs.segment.segments_of.Goals as goal

pub segments-requires : goal.segments-requires
segments-requires c =
    let found = rw c.in-Some-2.is at c.in_ok-sorted.ensures.found in
    let hold = rw c.in-Some-2.is at c.in_ok-sorted.ensures.hold in
    sorted_there c.args.bytes.now (by_address c.args.loads.now) c.args.loads.now _ hold (sym c.bytes_refusal.ensures ∙ c.in_default.is) (c.deref.ensures.value ∙ found)

pub returns-clause-segments : goal.returns-clause-segments
unfolding segments_of
returns-clause-segments c =
    let found = rw c.in-Some-2.is at c.in_ok-sorted.ensures.found in
    c.in_ok-segments.ensures ∙ rw (c.deref.ensures.value, found) (map_values (λ h. segment_of c.args.bytes.now h) (by_address c.args.loads.now))

pub returns-clause-rise : goal.returns-clause-rise
returns-clause-rise c =
    let found = rw c.in-Some-2.is at c.in_ok-sorted.ensures.found in
    let hold = rw c.in-Some-2.is at c.in_ok-sorted.ensures.hold in
    let apart = rw c.in-Some-2.is at c.in_ok-sorted.ensures.apart in
    sorted_rise c.args.bytes.now c.args.loads.now _ _ hold (sym c.some_out_of_range.ensures ∙ c.if-some_out_of_range.false) found apart
    (c.in_ok-segments.ensures ∙ rw (c.deref.ensures.value, found) (map_values (λ h. segment_of c.args.bytes.now h) (by_address c.args.loads.now)))
