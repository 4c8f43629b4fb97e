-- The landing pads of a place, by what is told of its site.
use Rattle.std.proofs.Common.{ℕ, ◌≡◌, List, Option, Some, Result, Ok, Err, sym, subst, refl}
use Rattle.std.specs.List.{Contains}
use Rattle.frame_graph.specs.declared.edges.Edge.{Edge}
use Rattle.frame_graph.specs.declared.site_cache.SiteCache.{SiteCache}
use Rattle.frame_graph.specs.FlowGraph.{FlowGraph}
use Rattle.frame_graph.specs.Sites.{site_at, edges_from}
use Rattle.frame_graph.specs.Reach.{IsReached}
use Rattle.frame_graph.specs.SiteCaching.{TellsOn}
use Rattle.frame_reach.specs.declared.search.Search.{Search}
use Rattle.frame_reach.specs.declared.search.ReachFault.{ReachFault}
use Rattle.frame_reach.specs.declared.search.ReachFault.TheVariants.{TooLong, OutOfMemory}
use Rattle.frame_reach.specs.Marks.{IsPad}
use Rattle.frame_reach.specs.Search.{Steps, AreLanded}
use Rattle.frame_reach.specs.Landed.{ArePadsOf}

-- an edge that is told is one of the site, and the other way round
told : (s : FlowGraph) (t : SiteCache) (p site : ℕ) (w : Edge) → TellsOn s t p → site_at s p ≡ Some site → Contains t.edges.items w → Contains (edges_from s (site_at s p)) w
told s t p site w tells e c = subst (λ (o : Option ℕ). Contains (edges_from s o) w) (sym e) (((tells site e).edges w).0 c)

telling : (s : FlowGraph) (t : SiteCache) (p site : ℕ) (w : Edge) → TellsOn s t p → site_at s p ≡ Some site → Contains (edges_from s (site_at s p)) w → Contains t.edges.items w
telling s t p site w tells e c = ((tells site e).edges w).1 (subst (λ (o : Option ℕ). Contains (edges_from s o) w) e c)

pub told_pads : (s : FlowGraph) (t : SiteCache) (p site : ℕ) (edges : List Edge) → IsReached s p → TellsOn s t p → site_at s p ≡ Some site → edges ≡ t.edges.items → (w : Edge) → Contains edges w → IsPad s w.to
told_pads s t p site edges r tells e is w c = (p, w, r, told s t p site w tells e (subst (λ (ws : List Edge). Contains ws w) is c), refl)

pub lands_on : (s : FlowGraph) (t : SiteCache) (f g : Search) (p site : ℕ) (edges : List Edge) (r : Result (Unit {0}) ReachFault)
    → TellsOn s t p → site_at s p ≡ Some site → edges ≡ t.edges.items → Steps s f g (AreLanded g edges) r → Steps s f g (ArePadsOf s g p) r
lands_on s t f g p site edges (Ok u) tells e is (sound, grows, done) = (
  sound,
  grows,
  λ w c. done w (subst (λ (ws : List Edge). Contains ws w) (sym is) (telling s t p site w tells e c)),
)
lands_on s t f g p site edges (Err TooLong) tells e is h = h
lands_on s t f g p site edges (Err OutOfMemory) tells e is h = h
