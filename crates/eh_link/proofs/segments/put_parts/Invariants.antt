use Rattle.std.proofs.Common.{◌≡◌, drop, map}
use Rattle.eh_link.specs.Fields.{part_in}
use Rattle.eh_link.specs.Linked.{join_aligned}
use Rattle.eh_link.proofs.segments.put_parts.Given as goal

abbrev pub invariant-loop-parts : goal.invariant-loop-parts
invariant-loop-parts l = join_aligned l.out.items (map (part_in l.section) (drop l.parts-index l.all)) ≡ join_aligned l.initial.out.items (map (part_in l.section) l.all)
