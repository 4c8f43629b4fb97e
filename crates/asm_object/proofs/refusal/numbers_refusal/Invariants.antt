use Rattle.std.proofs.Common.{◌≡◌, ◌&&◌, drop, is_some}
use Rattle.std.specs.List.{list_all}
use Rattle.asm_layout.specs.Labels.{label_places}
use Rattle.asm_object.specs.Values.{number}
use Rattle.asm_object.specs.Refusals.{fits_field}
use Rattle.asm_object.proofs.refusal.numbers_refusal.Given as goal

abbrev pub invariant-loop-field : goal.invariant-loop-field
invariant-loop-field l = record {
  known : list_all (λ field. is_some (number (label_places l.labels) field)) (drop l.field-index l.fields) ≡ list_all (λ field. is_some (number (label_places l.labels) field)) l.fields;
  fit : (l.all_fit && list_all (λ field. fits_field l.limit (number (label_places l.labels) field)) (drop l.field-index l.fields)) ≡ list_all (λ field. fits_field l.limit (number (label_places l.labels) field)) l.fields;
}
