use Rattle.std.proofs.Common.{◌≡◌, ◌⊎◌, ◌++◌, None, Some, ap, ◌∙◌, subst}
use Rattle.std.specs.Result.{MatchResult}
use Rattle.std.proofs.lemmas.Result.{MatchResult-weaker}
use Rattle.asm_layout.specs.Faults.{first_of_all, out_of_memory}
use Rattle.asm_layout.specs.Labels.{label_places}
use Rattle.asm_object.specs.Objects.{refusals_of}
use Rattle.asm_object.specs.Pieces.{pieces_of, rows_of}
use Rattle.asm_object.specs.Built.{with_pieces, no_sections, object_of_parts}
use Rattle.asm_object.proofs.assembly.assemble_placed.Goals as goal

pub returns : goal.returns
returns c =
    let entries = c.args.entries.now in
    let layout = c.args.layout in
    let labels = label_places layout.labels in
    let refusals = refusals_of labels layout.placed.items in
    let pieces = pieces_of entries labels layout.placed.items layout.last in
    let rows = rows_of entries layout.placed.items in
    let fresh = c.new-gathered.ensures in
    let told = c.in_ok-take_source.ensures in
    let gathered = c.take_source.new.self in
    let first : gathered.first ≡ first_of_all c.args.first refusals = told.first ∙ ap (λ f. first_of_all f refusals) fresh.first in
    MatchResult-weaker c.into_object.result
    (subst (λ f. MatchResult c.into_object.result (λ object. (f ≡ None) × (object ≡ object_of_parts gathered.sections gathered.rows layout.labels layout.bss)) (λ fault. (fault ≡ out_of_memory) ⊎ (f ≡ Some fault)))
    first c.into_object.ensures)
    (λ object taken. (
      taken.0,
      taken.1
          ∙ ap (λ sections. object_of_parts sections gathered.rows layout.labels layout.bss) (told.sections (first ∙ taken.0) ∙ ap (λ sections. with_pieces sections pieces) fresh.sections)
          ∙ ap (λ all. object_of_parts (with_pieces no_sections pieces) all layout.labels layout.bss) (told.rows (first ∙ taken.0) ∙ ap (λ before. before ++ rows) fresh.rows),
    ))
    (λ fault refused. refused)
