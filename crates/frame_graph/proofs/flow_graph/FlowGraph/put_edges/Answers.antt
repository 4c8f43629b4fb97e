use Rattle.std.proofs.Common.{◌++◌, ◌∙◌, ap, sym}
use Rattle.frame_graph.proofs.Stretches.{leads_on, leads_straight}
use Rattle.frame_graph.proofs.flow_graph.FlowGraph.put_edges.Goals as goal

pub returns-in-None : goal.returns-in-None
returns-in-None c = leads_straight c.args.self.now c.args.place c.put_straight_by.new.edges.items (sym c.site_by.ensures ∙ c.in-None.is) c.in_ok-put_straight_by.ensures

pub returns-in_ok-extend_from_slice-in-Some : goal.returns-in_ok-extend_from_slice-in-Some
returns-in_ok-extend_from_slice-in-Some c =
    leads_on c.args.self.now c.args.stretch.now c.args.place c.in-Some.field-0 c.put_straight_by.new.edges.items c.extend_from_slice.new.self.items c.requires.tells (sym c.site_by.ensures ∙ c.in-Some.is) c.in_ok-put_straight_by.ensures
    (c.in_ok-extend_from_slice-in-Some.ensures.items ∙ ap (λ l. c.put_straight_by.new.edges.items ++ l) c.edges.ensures)
