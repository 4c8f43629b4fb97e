use Rattle.std.proofs.Common.{◌∙◌, sym, subst}
use Rattle.eh_index.specs.Refusal.{index_refusal}
use Rattle.eh_types.specs.Meant.{IsGraph}
use Rattle.elf_image.specs.Image.{Image}
use Rattle.frame_check.specs.Accepts.{AreWell, AreRoles}
use Rattle.frame_check.specs.Roots.{roots_of}
use Rattle.frame_check.proofs.Reading.{read_gives}
use Rattle.frame_check.proofs.checking.accepted_parts.Goals as goal

pub returns-in_ok-parts_of-in-Ok-clause-sound : goal.returns-in_ok-parts_of-in-Ok-clause-sound
returns-in_ok-parts_of-in-Ok-clause-sound c =
    let read = read_gives (index_refusal c.args.image.now) c.args.image.now c.in-Ok.index (sym c.read.ensures ∙ c.in-Ok.is) in
    let parts = c.in_ok-parts_of-in-Ok.ensures in
    record {
      bytes = rw c.segments.ensures.segments at c.have_bytes.ensures;
      index = read.0;
      functions = subst (λ (i : Image). AreWell i i.functions) read.1 parts.functions;
      graph = subst (λ (i : Image). IsGraph i (roots_of i) c.in_ok-parts_of-in-Ok.field-0.types) read.1 parts.graph;
      roles = subst (λ (i : Image). AreRoles i i.functions c.in_ok-parts_of-in-Ok.field-0.roles) read.1 parts.roles;
    }
