use Rattle.std.proofs.Common.{◌≡◌, ◌++◌, None}
use Rattle.std.specs.Vec.Iter.{into_iter_items}
use Rattle.asm_layout.specs.declared.placed.PlacedPool.{PlacedPool}
use Rattle.asm_layout.specs.Faults.{first_of_all}
use Rattle.asm_layout.specs.Labels.{label_places}
use Rattle.asm_object.specs.Pieces.{pieces_of, rows_of}
use Rattle.asm_object.specs.Objects.{refusals_of}
use Rattle.asm_object.specs.Built.{with_pieces}
use Rattle.asm_object.proofs.assembly.AssemblyState.take_all.Given as goal

abbrev pub invariant-loop-one : goal.invariant-loop-one
invariant-loop-one l = record {
  first : first_of_all l.self.first (refusals_of (label_places l.labels) (into_iter_items l.one-iterator))
      ≡ first_of_all l.initial.self.first (refusals_of (label_places l.labels) (into_iter_items l.initial.one-iterator));
  sections : (last : PlacedPool) → l.self.first ≡ None
      → with_pieces l.self.sections (pieces_of l.entries (label_places l.labels) (into_iter_items l.one-iterator) last)
      ≡ with_pieces l.initial.self.sections (pieces_of l.entries (label_places l.labels) (into_iter_items l.initial.one-iterator) last);
  rows : l.self.first ≡ None → l.self.rows ++ rows_of l.entries (into_iter_items l.one-iterator) ≡ l.initial.self.rows ++ rows_of l.entries (into_iter_items l.initial.one-iterator);
}
