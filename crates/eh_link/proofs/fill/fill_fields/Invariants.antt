use Rattle.std.proofs.Common.{◌≡◌, drop}
use Rattle.eh_link.specs.Symbols.{look_up}
use Rattle.eh_link.specs.Fields.{fill_fields, unreachable_in, lower}
use Rattle.eh_link.proofs.fill.fill_fields.Given as goal

abbrev pub invariant-loop-reloc : goal.invariant-loop-reloc
invariant-loop-reloc l =
    (fill_fields (look_up l.own l.global) l.section l.start l.bytes (drop l.reloc-index l.relocs)
    ≡ fill_fields (look_up l.own l.global) l.section l.start l.initial.bytes l.relocs)
    × (lower l.lowest (unreachable_in (look_up l.own l.global) l.section l.start l.bytes (drop l.reloc-index l.relocs))
    ≡ unreachable_in (look_up l.own l.global) l.section l.start l.initial.bytes l.relocs)
