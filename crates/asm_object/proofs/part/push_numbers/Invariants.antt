use Rattle.std.proofs.Common.{◌≡◌, ◌++◌, drop, flat_map}
use Rattle.byteorder.specs.Endian.{little_bytes}
use Rattle.asm_layout.specs.Given.{bytes_of}
use Rattle.asm_layout.specs.Labels.{label_places}
use Rattle.asm_object.specs.Values.{low_or_zero, number}
use Rattle.asm_object.proofs.part.push_numbers.Given as goal

abbrev pub invariant-loop-field : goal.invariant-loop-field
invariant-loop-field l =
    l.bytes ++ flat_map (λ field. little_bytes (bytes_of l.width) (low_or_zero (number (label_places l.labels) field))) (drop l.field-index l.fields)
    ≡ l.initial.bytes ++ flat_map (λ field. little_bytes (bytes_of l.width) (low_or_zero (number (label_places l.labels) field))) l.fields
