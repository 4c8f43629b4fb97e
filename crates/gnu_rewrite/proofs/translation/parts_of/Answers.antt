use Rattle.std.proofs.Common.{◌∙◌}
use Rattle.gnu_rewrite.proofs.Making.{parts_are}
use Rattle.gnu_rewrite.proofs.translation.parts_of.Goals as goal

pub returns-clause-parts : goal.returns-clause-parts
returns-clause-parts c =
    parts_are c.args.image.now c.args.tables.now _ c.entry.ensures (c.of_vec.ensures ∙ c.in_ok-segments.ensures) (c.of_vec-2.ensures ∙ c.in_ok-symbols.ensures.symbols) c.index_of.ensures
