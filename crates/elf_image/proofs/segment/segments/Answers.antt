use Rattle.std.proofs.Common.{List, map, ap, ◌∙◌, arith}
use Rattle.std.proofs.lemmas.List.{take_all}
use Rattle.elf_image.specs.Segments.{segment_of}
use Rattle.elf_image.specs.declared.format.ProgramHeader.{ProgramHeader}
use Rattle.elf_image.proofs.Listed.{map_pushed}
use Rattle.elf_image.proofs.segment.segments.Goals as goal

pub loaded_segment-requires : goal.loaded_segment-requires
loaded_segment-requires c = c.requires c.loop-h.h-index _ c.loop-h-test.true

pub loop-h-preserved : goal.loop-h-preserved
loop-h-preserved c =
    map_pushed (λ h. segment_of c.args.bytes.now h) c.args.headers.now c.loop-h.h-index _ c.loop-h.segments.items _ c.loaded_segment.result c.loop-h-test.true c.loop-h.invariant c.in_ok-push.ensures.items c.loaded_segment.ensures

pub returns : goal.returns
returns c =
    c.loop-h.invariant ∙ ap (λ (hs : List ProgramHeader). map (λ h. segment_of c.args.bytes.now h) hs) (take_all c.loop-h.h-index c.args.headers.now (omega arith))
