-- The segment with the texts is run and not written, any other is written and not run.
use Rattle.std.proofs.Common.{◌==◌, Bool, true, false, cond, List, [], ◌∷◌, All, refl}
use Rattle.std.proofs.lemmas.List.Elements.{All-nil, All-cons}
use Rattle.asm_relocatable.specs.declared.object.Object.{Object}
use Rattle.elf_write.specs.declared.parts.OwnSegment.{OwnSegment}
use Rattle.eh_link.specs.Layout.{layout_of, data_size}
use Rattle.eh_link.specs.LayoutLaw.{linked_code, linked_data}
use Rattle.eh_link.specs.Linked.{code_segment, data_segment}
use Rattle.eh_link.proofs.Standing.{law_of_images}
use Rattle.link_laws.specs.RightsLaw.{IsWritten, SegmentsHaveRights}

abbrev no_segments : List OwnSegment
no_segments = []

written : (objects : List Object) (b : Bool) → All IsWritten (cond b no_segments (data_segment (layout_of objects) (linked_data objects) ∷ []))
written objects true = All-nil IsWritten
written objects false = All-cons IsWritten (data_segment (layout_of objects) (linked_data objects)) no_segments (refl, refl) (All-nil IsWritten)

pub law_of_rights : SegmentsHaveRights
law_of_rights objects entry image made =
    let layout = layout_of objects in
    record {
      code = code_segment layout (linked_code objects);
      rest = cond (data_size layout == 0) no_segments (data_segment layout (linked_data objects) ∷ []);
      split = (law_of_images objects entry image made).0;
      start = refl;
      bytes = refl;
      runs = refl;
      stays = refl;
      written = written objects (data_size layout == 0);
    }
