-- Segments of an image as segments to build.
use Rattle.elf_image.specs.Segments.{Segment}
use Rattle.eh_bus.specs.declared.segment.SegmentSpec.{SegmentSpec}

-- the segment that is asked for
abbrev pub segment_asked_for : SegmentSpec → Segment
segment_asked_for spec = record { start = spec.start; bytes = spec.bytes.now; size = spec.size; write = spec.write; exec = spec.exec }
