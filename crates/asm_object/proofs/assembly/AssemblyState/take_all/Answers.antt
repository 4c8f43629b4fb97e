use Rattle.std.proofs.Common.{◌++◌, sym, ap, ◌∙◌}
use Rattle.std.specs.Vec.Iter.{into_iter_items}
use Rattle.asm_layout.specs.Faults.{first_of_all}
use Rattle.asm_layout.specs.Labels.{label_places}
use Rattle.asm_object.specs.Pieces.{pieces_of, rows_of}
use Rattle.asm_object.specs.Objects.{refusals_at, refusals_of}
use Rattle.asm_object.specs.Built.{with_pieces}
use Rattle.asm_object.proofs.GivenLemmas.{none_before, first_more, sections_more, rows_more}
use Rattle.asm_object.proofs.assembly.AssemblyState.take_all.Goals as goal

pub loop-one-preserved : goal.loop-one-preserved
loop-one-preserved c =
    let entries = c.args.entries.now in
    let labels = label_places c.args.labels.now in
    let before = c.loop-one.self in
    let after = c.take.new.self in
    let one = c.in-Some.one in
    let more = into_iter_items c.next.new.self in
    let left = sym c.in-Some.ensures.steps.0 in
    let told = c.in_ok-take.ensures in
    record {
      first = first_more labels before.first after.first _ one more told.first
          (ap (λ l. first_of_all before.first (refusals_of labels l)) left ∙ c.loop-one.invariant.first);
      sections = λ last none. sections_more entries labels before.sections after.sections _ one more last (told.sections none)
          (ap (λ l. with_pieces before.sections (pieces_of entries labels l last)) left
          ∙ c.loop-one.invariant.sections last (none_before before.first (refusals_at labels one) (sym told.first ∙ none)));
      rows = λ none. rows_more entries before.rows after.rows _ one more (told.rows none)
          (ap (λ l. before.rows ++ rows_of entries l) left
          ∙ c.loop-one.invariant.rows (none_before before.first (refusals_at labels one) (sym told.first ∙ none)));
    }
