use Rattle.std.proofs.Common.{sym, ◌∙◌}
use Rattle.elf_image.proofs.Overlaps.{placed_more, overlap_twice}
use Rattle.elf_image.proofs.segment.by_address.Goals as goal

pub returns-then-contains_key-clause-twice : goal.returns-then-contains_key-clause-twice
returns-then-contains_key-clause-twice c =
    overlap_twice c.loop-h.entries.entries _ c.loop-h.h-index _ c.loop-h.invariant.1 c.loop-h-test.true c.requires (sym c.contains_key.ensures ∙ c.if-contains_key.true)

pub loop-h-preserved : goal.loop-h-preserved
loop-h-preserved c =
    placed_more c.loop-h.entries.entries _ _ c.loop-h.h-index _ c.loop-h-test.true c.requires c.loop-h.invariant (sym c.contains_key.ensures ∙ c.if-contains_key.false)
    c.in_ok-insert.ensures.entries
