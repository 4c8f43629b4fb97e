-- Edges lead to places below the function's end.
use Rattle.std.proofs.Common.{ℕ, ◌≡◌, ◌+◌, ◌-◌, ◌*◌, ◌/◌, ◌<◌, ◌≤◌, ◌==◌, ◌&&◌, ◌||◌, nat_le, nat_lt, Bool, true, false, if◌then◌else◌, List, [], ◌∷◌, Option, Some, None, option_and_then, refl, subst, ap, ⊎_elim, arith, zero, suc}
use Rattle.std.specs.List.{Contains}
use Rattle.std.proofs.lemmas.List.Elements.{Contains-append_cases}
use Rattle.std.proofs.lemmas.Bool.{leb-true, ltb-true}
use Rattle.std.proofs.lemmas.Option.{same_Some, none-some}
use Rattle.elf_image.specs.Image.{is_code_in}
use Rattle.std.specs.Prelude.{Ok, Err}
use Rattle.frame_code.specs.declared.standing.Standing.{Standing}
use Rattle.frame_code.specs.declared.standing.Standing.TheVariants.{Instruction, Udf, Nothing}
use Rattle.frame_entries.specs.declared.unwinding.EntrySummary.{EntrySummary}
use Rattle.frame_graph.specs.declared.edges.Edge.{Edge}
use Rattle.frame_graph.specs.FlowGraph.{FlowGraph}
use Rattle.frame_graph.specs.Places.{address_of, is_place, place_of, standing_at}
use Rattle.frame_code.specs.Branches.{reaches_next, branch_target}
use Rattle.frame_graph.specs.Edges.{edges_to, fall_through_edges, straight_by, straight_edges}
use Rattle.frame_entries.specs.Unwinding.{landing_changes}
use Rattle.frame_entries.specs.Scopes.{Item, is_cleanup_at, pad_for}
use Rattle.frame_graph.specs.Sites.{pad_edges, edges_from, site_at, unwinding_at, items_at, edges_of}
use Rattle.frame_graph.specs.Reach.{IsReached, entry, along}
use Rattle.frame_graph.specs.Laws.{EdgesStayInside, ReachedPlacesAreInside, PlacesHaveTheirAddress}

abbrev Inside : FlowGraph → Edge → Type 0
Inside s w = s.start + 2 * w.to < s.end

abbrev Inside_place : FlowGraph → ℕ → Type 0
Inside_place s p = s.start + 2 * p < s.end

opened : (b : Bool) (x p : ℕ) → (if b then Some x else None) ≡ Some p → (b ≡ true) × (x ≡ p)
opened true x p e = (refl, same_Some x p e)
opened false x p e = absurd (none-some p e)

both_true : (a b : Bool) → (a && b) ≡ true → (a ≡ true) × (b ≡ true)
both_true true b p = (refl, p)
both_true false b p = absurd cc

-- a place's address lies below the end
below : (start end a : ℕ) (more : Bool) (p : ℕ) → (if nat_le start a && nat_lt a end && more then Some ((a - start) / 2) else None) ≡ Some p → start + 2 * p < end
below start end a more p e =
    let o = opened (nat_le start a && nat_lt a end && more) ((a - start) / 2) p e in
    let l = both_true (nat_le start a && nat_lt a end) more o.0 in
    let m = both_true (nat_le start a) (nat_lt a end) l.0 in
    let at_least : start ≤ a = leb-true start a m.0 in
    let less : a < end = ltb-true a end m.1 in
    let half : (a - start) / 2 ≡ p = o.1 in
    omega arith

none : {X : Type 0} (x : X) → Contains [] x → ⊥
none x h = omega (arith, h.1)

to_place : (s : FlowGraph) (clobbers : ℕ) (o : Option ℕ) (w : Edge) → ((p : ℕ) → o ≡ Some p → s.start + 2 * p < s.end) → Contains (edges_to clobbers o) w → Inside s w
to_place s clobbers None w f h = absurd (none w h)
to_place s clobbers (Some p) w f (zero, l, e) = subst (λ (x : Edge). Inside s x) e (f p refl)
to_place s clobbers (Some p) w f (suc k, l, e) = absurd (omega (arith, l))

to_address : (s : FlowGraph) (clobbers a : ℕ) (w : Edge) → Contains (edges_to clobbers (place_of s a)) w → Inside s w
to_address s clobbers a w h = to_place s clobbers (place_of s a) w (λ p e. below s.start s.end a (a == s.start || is_code_in s.image a) p e) h

to_target : (s : FlowGraph) (clobbers : ℕ) (o : Option ℕ) (w : Edge) → Contains (edges_to clobbers (option_and_then (place_of s) o)) w → Inside s w
to_target s clobbers None w h = absurd (none w h)
to_target s clobbers (Some a) w h = to_address s clobbers a w h

if_goes : (s : FlowGraph) (b : Bool) (a : ℕ) (w : Edge) → Contains (if b then edges_to 0 (place_of s a) else []) w → Inside s w
if_goes s true a w h = to_address s 0 a w h
if_goes s false a w h = absurd (none w h)

straight : (s : FlowGraph) (a : ℕ) (t : Standing) (w : Edge) → Contains (straight_by s a t) w → Inside s w
straight s a (Instruction i size) w h = ⊎_elim
    (λ (l : Contains (fall_through_edges s a i size) w). if_goes s (reaches_next i) (a + size) w l)
    (λ (r : Contains (edges_to 0 (option_and_then (place_of s) (branch_target a i))) w). to_target s 0 (branch_target a i) w r)
    (Contains-append_cases (fall_through_edges s a i size) (edges_to 0 (option_and_then (place_of s) (branch_target a i))) w h)
straight s a Udf w h = absurd (none w h)
straight s a Nothing w h = absurd (none w h)

pads : (s : FlowGraph) (site : ℕ) (u : EntrySummary) (resumed : Bool) (items : List Item) (w : Edge) → Contains (pad_edges s site u resumed items) w → Inside s w
pads s site u resumed [] w h = absurd (none w h)
pads s site u resumed (Err fault ∷ more) w h = pads s site u resumed more w h
pads s site u resumed (Ok d ∷ more) w h = ⊎_elim
    (λ (l : Contains (edges_to (landing_changes u resumed) (option_and_then (place_of s) (pad_for site d))) w). to_target s (landing_changes u resumed) (pad_for site d) w l)
    (λ (r : Contains (pad_edges s site u (resumed || is_cleanup_at site d) more) w). pads s site u (resumed || is_cleanup_at site d) more w r)
    (Contains-append_cases (edges_to (landing_changes u resumed) (option_and_then (place_of s) (pad_for site d))) (pad_edges s site u (resumed || is_cleanup_at site d) more) w h)

from : (s : FlowGraph) (site : Option ℕ) (w : Edge) → Contains (edges_from s site) w → Inside s w
from s None w h = absurd (none w h)
from s (Some site) w h = pads s site (unwinding_at s site) false (items_at s site) w h

pub edges_stay_inside : EdgesStayInside
unfolding edges_of
edges_stay_inside s place w h = ⊎_elim
    (λ (l : Contains (straight_edges s place) w). straight s (address_of s place) (standing_at s place) w l)
    (λ (r : Contains (edges_from s (site_at s place)) w). from s (site_at s place) w r)
    (Contains-append_cases (straight_edges s place) (edges_from s (site_at s place)) w h)

reached_inside : (s : FlowGraph) (p : ℕ) → s.start < s.end → IsReached s p → Inside_place s p
reached_inside s _ l entry = omega arith
reached_inside s _ l (along {p} {w} r h) = edges_stay_inside s p w h

pub reached_places_are_inside : ReachedPlacesAreInside
reached_places_are_inside s p l r = reached_inside s p l r

halved : (start p : ℕ) → (start + 2 * p - start) / 2 ≡ p
halved start p = omega arith

chosen : (b : Bool) (x p : ℕ) → b ≡ true → x ≡ p → (if b then Some x else None) ≡ Some p
chosen true x p e is = ap (λ n. Some n) is
chosen false x p e is = absurd cc

pub places_have_their_address : PlacesHaveTheirAddress
places_have_their_address s p h = chosen (is_place s p) ((s.start + 2 * p - s.start) / 2) p h (halved s.start p)
