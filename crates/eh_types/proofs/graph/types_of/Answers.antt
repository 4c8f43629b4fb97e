use Rattle.eh_types.proofs.Final.{meant_by}
use Rattle.eh_types.proofs.graph.types_of.Goals as goal

pub returns-in-Ok-clause-meant : goal.returns-in-Ok-clause-meant
returns-in-Ok-clause-meant c =
    meant_by c.args.source.now.image.now c.args.source.now.roots.now c.in-Ok.field-0.done.entries _ _ _ c.in_ok-types_in_order-in-Ok.field-0.items c.in-Ok.ensures.reading c.in-Ok.ensures.ended.1
    c.types_in_order.ensures.ordered c.in_ok-types_in_order-in-Ok.ensures.items
