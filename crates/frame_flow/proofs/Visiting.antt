-- A place of the work list.
use Rattle.std.proofs.Common.{ℕ, ◌≡◌, ◌<◌, ◌+◌, ◌*◌, ◌/◌, ◌-◌, ◌%◌, min, map, List, [], ◌∷◌, ◌++◌, length, Option, Some, None, Ok, Err, ap, subst, refl, arith, set, replicate}
use Rattle.std.proofs.lemmas.List.{length-replicate}
use Rattle.std.proofs.lemmas.List.Elements.{Contains-append_right}
use Rattle.std.specs.Int.{div_ceil}
use Rattle.std.specs.List.{Contains}
use Rattle.frame_facts.specs.declared.cause.FrameCause.{FrameCause}
use Rattle.frame_facts.specs.declared.facts.Fact.{Fact}
use Rattle.frame_facts.specs.Facts.{entry_fact, height, IsAtMost}
use Rattle.frame_graph.specs.declared.edges.Edge.{Edge}
use Rattle.frame_graph.specs.Sites.{edges_of}
use Rattle.frame_graph.specs.SiteCaching.{HaveSame}
use Rattle.frame_dataflow.specs.Flow.{fact_at}
use Rattle.frame_dataflow.proofs.Law.{none_stand}
use Rattle.frame_dataflow.proofs.Work.{take_up, unasked, over, contains_head}
use Rattle.frame_dataflow.proofs.Ends.{starts, refused, popped, blank}
use Rattle.frame_flow.specs.declared.work.FrameFault.{FrameFault}
use Rattle.frame_flow.specs.declared.work.FrameFault.TheVariants.{Stands, OutOfMemory}
use Rattle.frame_flow.specs.Framed.{FramedFunction}
use Rattle.frame_flow.specs.Causes.{causes_at}
use Rattle.frame_flow.specs.Flows.{fact_after, along_edge, along_edges, transfer, flow_of, count_of, StandsIn, HasFacts, NoneStands}
use Rattle.frame_flow.specs.Work.{by_first, pass_place, IsSound, top_of, load, FaultStands, LacksFacts}
use Rattle.frame_flow.proofs.Causing.{found_passes, head_met}
use Rattle.frame_flow.proofs.Instance.{laws, falls, inside}
use Rattle.frame_flow.proofs.Transfers.{same_transfer}

-- what `passed` answers
err_is : {X : Type 0} (l : List FrameCause) (o x : X) (c : FrameCause) → by_first l o ≡ Err c → (more : List FrameCause) × (l ≡ c ∷ more)
err_is [] o x c h = absurd cc
err_is (d ∷ more) o x c h = (more, cc)

ok_is : (l : List FrameCause) (o k : Option Fact) → by_first l o ≡ Ok k → (l ≡ []) × (o ≡ k)
ok_is [] o k h = (refl, cc)
ok_is (d ∷ more) o k h = absurd cc

transfer_by : (x : FramedFunction) (p : ℕ) (f : Fact) (o : Option Fact) → fact_after x p f ≡ o → transfer x p f ≡ along_edges o (edges_of x.flow_graph p)
unfolding transfer
transfer_by x p f o e = ap (λ o. along_edges o (edges_of x.flow_graph p)) e

pub visit_none : (x : FramedFunction) (facts : List (Option Fact)) (work : List ℕ) (p : ℕ) → IsSound x facts (work ++ p ∷ []) [] → fact_at facts p ≡ None → IsSound x facts work []
visit_none x facts work p s none = unasked Fact FrameCause (flow_of x) IsAtMost (laws x) (count_of x.flow_graph) (inside x) facts work p s none

pub visit_cause : (x : FramedFunction) (facts : List (Option Fact)) (work : List ℕ) (p : ℕ) (f : Fact) (c : FrameCause)
    → IsSound x facts (work ++ p ∷ []) [] → fact_at facts p ≡ Some f → pass_place x p f ≡ Err c → StandsIn x p c
visit_cause x facts work p f c s is h =
    let w = err_is (causes_at x p f) (fact_after x p f) (fact_after x p f) c h in
    refused Fact FrameCause (flow_of x) IsAtMost (laws x) (count_of x.flow_graph) (inside x) height (top_of x) (falls x) facts (work ++ p ∷ []) [] p f c s is (head_met x p f c w.0 w.1)

-- the edges of the place come in hand
visit_on : (x : FramedFunction) (facts : List (Option Fact)) (work : List ℕ) (p : ℕ) (f : Fact) (o : Option Fact)
    → IsSound x facts (work ++ p ∷ []) [] → fact_at facts p ≡ Some f → pass_place x p f ≡ Ok o → IsSound x facts work (along_edges o (edges_of x.flow_graph p))
visit_on x facts work p f o s is h =
    let w = ok_is (causes_at x p f) (fact_after x p f) o h in
    let t = take_up Fact FrameCause (flow_of x) IsAtMost (laws x) (count_of x.flow_graph) (inside x) facts work p f s is (found_passes x p f w.0) in
    subst (λ l. IsSound x facts work l) (transfer_by x p f o w.1) t

pub visit_ends : (x : FramedFunction) (facts : List (Option Fact)) (work : List ℕ) (p : ℕ) (f : Fact)
    → IsSound x facts (work ++ p ∷ []) [] → fact_at facts p ≡ Some f → pass_place x p f ≡ Ok None → IsSound x facts work []
visit_ends x facts work p f s is h = visit_on x facts work p f None s is h

pub visit_leads : (x : FramedFunction) (facts : List (Option Fact)) (work : List ℕ) (p : ℕ) (f g : Fact) (edges : List Edge)
    → IsSound x facts (work ++ p ∷ []) [] → fact_at facts p ≡ Some f → pass_place x p f ≡ Ok (Some g) → HaveSame edges (edges_of x.flow_graph p) → IsSound x facts work (map (along_edge g) edges)
visit_leads x facts work p f g edges s is h same = same_transfer x facts work g edges (edges_of x.flow_graph p) same (visit_on x facts work p f (Some g) s is h)

last_in : (work : List ℕ) (p : ℕ) → Contains (work ++ p ∷ []) p
last_in work p = Contains-append_right work (p ∷ []) p (contains_head p [])

whole : (start end p : ℕ) → p < (end - start + 1) / 2 → start + 2 * p < end
whole start end p l = omega (arith, l)

-- the last place of the work list has its slot in the table, and its address lies below the function's end
pub place_within : (x : FramedFunction) (facts : List (Option Fact)) (work : List ℕ) (p : ℕ) → IsSound x facts (work ++ p ∷ []) [] → (x.flow_graph.start + 2 * p < x.flow_graph.end) × (p < length facts)
place_within x facts work p s = let l = s.within p (last_in work p) in (whole x.flow_graph.start x.flow_graph.end p l, omega (arith, s.long, l))

nil_from : (xs : List ℕ) → length xs ≡ 0 → xs ≡ []
nil_from [] h = refl
nil_from (x ∷ xs) h = absurd (omega (arith, h))

-- half the bytes, rounded up
pub halves : (start end s e n : ℕ) → s ≡ start → e ≡ end → n ≡ div_ceil (e - s) 2 → n ≡ (end - start + 1) / 2
halves start end s e n x y h = let up : n ≡ (e - s) / 2 + min 1 ((e - s) % 2) = h in omega (arith, up, x, y)

pub begun : (x : FramedFunction) (facts : List (Option Fact)) (work : List ℕ) (none : List (Option Fact)) (n : ℕ) → n ≡ count_of x.flow_graph → none ≡ replicate n None → facts ≡ set none 0 (Some entry_fact) → work ≡ [] ++ 0 ∷ []
    → x.flow_graph.start < x.flow_graph.end → IsSound x facts work []
begun x facts work none n c e is w l =
    rw (is, w, e, c) (starts Fact FrameCause (flow_of x) IsAtMost (laws x) (count_of x.flow_graph) (inside x) height (top_of x) (falls x)
    (replicate (count_of x.flow_graph) None) (length-replicate (count_of x.flow_graph) None) (blank (count_of x.flow_graph)) (some x.flow_graph.start x.flow_graph.end l))
  where
    some : (start end : ℕ) → start < end → 0 < (end - start + 1) / 2
    some start end l = omega (arith, l)

pub load_popped : (x : FramedFunction) (facts : List (Option Fact)) (work : List ℕ) (p : ℕ) → load x facts work < load x facts (work ++ p ∷ [])
load_popped x facts work p = popped height (top_of x) facts work p

pub valid_over : (x : FramedFunction) (facts : List (Option Fact)) (work : List ℕ) → length work ≡ 0 → IsSound x facts work [] → HasFacts x
valid_over x facts work e s = (facts, over Fact FrameCause (flow_of x) IsAtMost (laws x) (count_of x.flow_graph) (inside x) facts (subst (λ w. IsSound x facts w []) (nil_from work e) s))

-- valid facts leave no cause that stands
pub clear : (x : FramedFunction) → HasFacts x → NoneStands x
clear x v p c s = none_stand Fact FrameCause (flow_of x) IsAtMost (laws x) v.0 v.1 p c s

pub lacking : (x : FramedFunction) (e : FrameFault) → FaultStands x e → LacksFacts x e
lacking x (Stands p c) s = λ v. clear x v p c s
lacking x OutOfMemory s = tt
