-- Edges in hand that are the same in another order.
use Rattle.std.proofs.Common.{ℕ, ◌≡◌, inl, inr, map, List, Option, ⊎_elim, subst, sym}
use Rattle.std.specs.List.{Contains}
use Rattle.frame_facts.specs.declared.facts.Fact.{Fact}
use Rattle.frame_facts.specs.Facts.{IsAtMost}
use Rattle.frame_graph.specs.declared.edges.Edge.{Edge}
use Rattle.frame_graph.specs.FlowGraph.{FlowGraph}
use Rattle.frame_graph.specs.Sites.{edges_of}
use Rattle.frame_graph.specs.SiteCaching.{HaveSame}
use Rattle.frame_dataflow.specs.Flow.{IsCovered}
use Rattle.frame_flow.specs.Framed.{FramedFunction}
use Rattle.frame_flow.specs.Flows.{along_edge}
use Rattle.frame_flow.specs.Work.{IsSound}
use Rattle.frame_flow.proofs.Instance.{mapped, unmapped}

transfer_there : (f : Fact) (xs ys : List Edge) → HaveSame xs ys → (e : ℕ × Fact) → Contains (map (along_edge f) xs) e → Contains (map (along_edge f) ys) e
transfer_there f xs ys same e h =
    let w = unmapped (along_edge f) xs e h in
    subst (λ (k : ℕ × Fact). Contains (map (along_edge f) ys) k) w.2 (mapped (along_edge f) ys w.0 ((same w.0).0 w.1))

-- the work list stays sound
pub same_transfer : (x : FramedFunction) (facts : List (Option Fact)) (work : List ℕ) (f : Fact) (xs ys : List Edge) → HaveSame xs ys → IsSound x facts work (map (along_edge f) ys) → IsSound x facts work (map (along_edge f) xs)
same_transfer x facts work f xs ys same s = record {
  long = s.long;
  states = s.states;
  ahead = λ q g h. s.ahead q g (transfer_there f xs ys same (q, g) h);
  within = s.within;
  entry = s.entry;
  closed = λ p h e. ⊎_elim
      (λ c. inl c)
      (λ r. inr (
        r.0,
        λ q g c. ⊎_elim
            (λ (t : Contains (map (along_edge f) ys) (q, g)). inl (transfer_there f ys xs (λ w. ((same w).1, (same w).0)) (q, g) t))
            (λ (t : IsCovered IsAtMost facts q g). inr t)
            (r.1 q g c),
      ))
      (s.closed p h e);
}

-- edges of a function that is seen as its fields
pub same_edges : (xs ys : List Edge) (s t : FlowGraph) (p : ℕ) → xs ≡ ys → s ≡ t → HaveSame ys (edges_of s p) → HaveSame xs (edges_of t p)
same_edges xs ys s t p e is h = subst (λ (r : FlowGraph). HaveSame xs (edges_of r p)) is (subst (λ (l : List Edge). HaveSame l (edges_of s p)) (sym e) h)
