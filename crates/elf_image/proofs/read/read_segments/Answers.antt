use Rattle.elf_image.proofs.Reading.{have_memory}
use Rattle.elf_image.proofs.read.read_segments.Goals as goal

pub segments_of-requires : goal.segments_of-requires
segments_of-requires c = rw (c.deref.ensures.value, c.in_ok-loads.ensures) (have_memory c.args.headers.now)
