use Rattle.std.proofs.Common.{sym, ap, ◌∙◌, option_map}
use Rattle.eh_types.specs.Types.{row_in}
use Rattle.eh_types.proofs.Lookups.{kept_rise, row_kept}
use Rattle.eh_types.proofs.graph.row_read.Goals as goal

pub row-requires : goal.row-requires
row-requires c = kept_rise c.args.segments.now 0 c.args.types.now c.requires

pub returns : goal.returns
returns c = ap (option_map (row_in c.args.segments.now)) c.row.ensures ∙ sym (row_kept c.args.segments.now c.args.types.now c.args.ty)
