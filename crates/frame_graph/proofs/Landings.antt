-- The edges to landing pads, cut at a descriptor.
use Rattle.std.proofs.Common.{◌≡◌, ◌||◌, ℕ, Bool, true, false, List, [], ◌∷◌, ◌++◌, refl, sym, ap, ◌∙◌, append_assoc, option_and_then}
use Rattle.std.specs.Prelude.{Ok, Err}
use Rattle.std.specs.List.{list_any}
use Rattle.frame_entries.specs.declared.unwinding.EntrySummary.{EntrySummary}
use Rattle.frame_graph.specs.FlowGraph.{FlowGraph}
use Rattle.frame_graph.specs.Places.{place_of}
use Rattle.frame_graph.specs.Edges.{edges_to}
use Rattle.frame_entries.specs.Unwinding.{landing_changes}
use Rattle.frame_entries.specs.Scopes.{Item, is_one, is_cleanup_at, pad_for}
use Rattle.frame_graph.specs.Sites.{pad_edges}
use Rattle.frame_graph.specs.Laws.{LandingsFollow}

or_none : (a : Bool) → (a || false) ≡ a
or_none true = refl
or_none false = refl

or_assoc : (a b c : Bool) → ((a || b) || c) ≡ (a || (b || c))
or_assoc true b c = refl
or_assoc false b c = refl

-- one list of items after another
joined : (s : FlowGraph) (site : ℕ) (u : EntrySummary) (resumed : Bool) (xs ys : List Item)
    → pad_edges s site u resumed (xs ++ ys) ≡ pad_edges s site u resumed xs ++ pad_edges s site u (resumed || list_any (is_one (is_cleanup_at site)) xs) ys
joined s site u resumed [] ys = ap (λ b. pad_edges s site u b ys) (sym (or_none resumed))
joined s site u resumed (Err fault ∷ more) ys = joined s site u resumed more ys
joined s site u resumed (Ok d ∷ more) ys =
    let edge = edges_to (landing_changes u resumed) (option_and_then (place_of s) (pad_for site d)) in
    ap (λ l. edge ++ l) (joined s site u (resumed || is_cleanup_at site d) more ys)
    ∙ (ap (λ b. edge ++ (pad_edges s site u (resumed || is_cleanup_at site d) more ++ pad_edges s site u b ys)) (or_assoc resumed (is_cleanup_at site d) (list_any (is_one (is_cleanup_at site)) more))
    ∙ sym (append_assoc edge (pad_edges s site u (resumed || is_cleanup_at site d) more) (pad_edges s site u (resumed || (is_cleanup_at site d || list_any (is_one (is_cleanup_at site)) more)) ys)))

-- some item before the last passes, or the last does
any_last : (test : Item → Bool) (xs : List Item) (x : Item) → (list_any test xs || test x) ≡ list_any test (xs ++ x ∷ [])
any_last test [] x = sym (or_none (test x))
any_last test (y ∷ more) x = or_assoc (test y) (list_any test more) (test x) ∙ ap (λ b. test y || b) (any_last test more x)

pub landings_follow : LandingsFollow
landings_follow s site u before after d =
    let any = list_any (is_one (is_cleanup_at site)) before in
    joined s site u false before (Ok d ∷ after)
    ∙ ap (λ b. pad_edges s site u false before ++ (edges_to (landing_changes u any) (option_and_then (place_of s) (pad_for site d)) ++ pad_edges s site u b after)) (any_last (is_one (is_cleanup_at site)) before (Ok d))
