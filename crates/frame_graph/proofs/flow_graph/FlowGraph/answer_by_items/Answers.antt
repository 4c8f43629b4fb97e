use Rattle.std.proofs.Common.{List, false, refl, ◌∙◌, ◌++◌, ap}
use Rattle.eh_index.specs.Places.{table_of}
use Rattle.frame_graph.specs.declared.edges.Edge.{Edge}
use Rattle.frame_entries.specs.Unwinding.{summary_of_body}
use Rattle.frame_graph.specs.Sites.{pad_edges}
use Rattle.frame_graph.proofs.Stretches.{stretched}
use Rattle.frame_graph.proofs.flow_graph.FlowGraph.answer_by_items.Goals as goal

pub returns-clause-stretch : goal.returns-clause-stretch
returns-clause-stretch c =
    let unwinding = summary_of_body c.args.e.now.body (table_of c.args.self.now.image c.args.e.now) in
    stretched c.args.self.now _ c.args.e.now c.args.site c.args.span c.args.items.now c.add_pads_under.new.edges.items unwinding refl refl c.requires.same c.cut_all-held.ensures c.any_covered-held.ensures c.any_out-held.ensures
    (c.in_ok-add_pads_under.ensures ∙ ap (λ (l : List Edge). l ++ pad_edges c.args.self.now c.args.site unwinding false c.args.items.now) c.clear.ensures.items) c.in_ok-dedup_in_place.ensures
