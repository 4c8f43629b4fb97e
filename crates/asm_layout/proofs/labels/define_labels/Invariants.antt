use Rattle.std.proofs.Common.{◌≡◌, [], None, drop, map}
use Rattle.std.specs.Map.{keys_of}
use Rattle.asm_layout.specs.Faults.{first_of_all}
use Rattle.asm_layout.specs.Labels.{duplicates_from, stmt_of}
use Rattle.asm_layout.proofs.LayoutLaws.{labels_run}
use Rattle.asm_layout.proofs.labels.define_labels.Given as goal

abbrev pub invariant-loop-one : goal.invariant-loop-one
invariant-loop-one l = record {
  labels : labels_run l.labels (drop l.one-index l.placed) ≡ labels_run [] l.placed;
  duplicate : first_of_all l.duplicate (duplicates_from (keys_of l.labels) (map stmt_of (drop l.one-index l.placed))) ≡ first_of_all None (duplicates_from [] (map stmt_of l.placed));
}
