use Rattle.std.proofs.Common.{◌≡◌, drop, map, not, ◌||◌}
use Rattle.std.specs.List.{find, list_any}
use Rattle.eh_word.specs.Names.{same_bytes}
use Rattle.eh_link.specs.Symbols.{field_names}
use Rattle.eh_link.proofs.names.first_in_neither.Given as goal

abbrev pub invariant-loop-reloc : goal.invariant-loop-reloc
invariant-loop-reloc l =
    find (λ name. not (list_any (same_bytes name) l.own || list_any (same_bytes name) l.global)) (map (λ reloc. reloc.name) (drop l.reloc-index l.reloc-items))
    ≡ find (λ name. not (list_any (same_bytes name) l.own || list_any (same_bytes name) l.global)) (field_names l.object)
