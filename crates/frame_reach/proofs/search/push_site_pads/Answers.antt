use Rattle.std.proofs.Common.{◌∙◌, sym}
use Rattle.frame_reach.proofs.Landing.{told_pads, lands_on}
use Rattle.frame_reach.proofs.search.push_site_pads.Goals as goal

pub push_pads-requires-clause-pads : goal.push_pads-requires-clause-pads
push_pads-requires-clause-pads c =
    told_pads c.args.flow_graph.now c.args.stretch.now c.args.place c.in-Some.field-0 c.edges.result.now c.requires.reached c.requires.tells (sym c.site_at.ensures ∙ c.in-Some.is) c.edges.ensures

pub returns-in-Some : goal.returns-in-Some
returns-in-Some c =
    lands_on c.args.flow_graph.now c.args.stretch.now c.args.found.now c.push_pads.new.found c.args.place c.in-Some.field-0 c.edges.result.now c.push_pads.result c.requires.tells (sym c.site_at.ensures ∙ c.in-Some.is) c.edges.ensures c.push_pads.ensures
