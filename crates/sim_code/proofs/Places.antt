-- Where a run goes on: from a place of a function to one that its edges lead to.
use Rattle.std.proofs.Common.{ℕ, ◌<◌, ◌≤◌, inl, inr, List, [], ◌∷◌, sym, ap, subst, arith, ◌≡◌, ◌⊎◌, ◌∙◌, ◌==◌, true, Bool, false, Some, None, refl, ◌%◌, ◌&&◌, ◌||◌, ◌-◌, ◌/◌, nat_le, nat_lt, ◌+◌, Option, ⊎_elim}
use Rattle.std.specs.Prelude.{Contains, if◌then◌else◌, option_and_then, Ok, Err}
use Rattle.std.proofs.lemmas.Bool.Decides.{nat_tests}
use Rattle.std.proofs.lemmas.List.Folds.{list_any_at}
use Rattle.std.proofs.lemmas.Option.{same_Some, none-some}
use Rattle.std.specs.List.{list_any}
use Rattle.std.proofs.lemmas.Bool.{eqb-true, and_parts, leb-true, cases_eq, true≢false}
use Rattle.std.proofs.lemmas.List.Elements.{Contains-append_cases, Contains-append_left}
use Rattle.elf_image.specs.Functions.{Function, FunctionsFrom}
use Rattle.frame_dataflow.proofs.Work.{contains_none, contains_cons, contains_one}
use Rattle.frame_check.specs.run_images.Start.{begins_function}
use Rattle.elf_image.specs.Image.{Image, is_code_in, IsSound as IsImage}
use Rattle.elf_image.specs.Marks.{is_code_by_marks}
use Rattle.elf_image.specs.Segments.{holds}
use Rattle.frame_check.specs.frame_graph.FlowGraph.{FlowGraph}
use Rattle.frame_check.specs.frame_graph.Places.{address_of, place_of, is_place, is_code_of, standing_at}
use Rattle.frame_check.specs.frame_graph.declared.edges.Edge.{Edge}
use Rattle.frame_code.specs.declared.standing.Standing.{Standing}
use Rattle.frame_code.specs.declared.standing.Standing.TheVariants.{Instruction, Udf, Nothing}
use Rattle.frame_check.specs.frame_entries.declared.unwinding.EntrySummary.{EntrySummary}
use Rattle.frame_code.specs.Branches.{reaches_next, branch_target}
use Rattle.frame_check.specs.frame_graph.Edges.{edges_to, fall_through_edges, straight_by, straight_edges}
use Rattle.frame_check.specs.frame_entries.Unwinding.{landing_changes}
use Rattle.frame_check.specs.frame_entries.Scopes.{Item, is_cleanup_at, pad_for}
use Rattle.frame_check.specs.frame_graph.Sites.{pad_edges, edges_from, site_at, unwinding_at, items_at, edges_of}
use Rattle.frame_check.specs.frame_graph.Reach.{IsReached, entry, along}
use Rattle.thumb_isa.specs.declared.instr.Instr.{Instr}
use Rattle.frame_check.proofs.frame_graph.Inside.{places_have_their_address}
use Rattle.frame_check.proofs.frame_reach.Found.{inside}
use Rattle.frame_check.proofs.frame_reach.Runs.{onward_edge}
use Rattle.frame_check.proofs.frame_reach.Stands.{stands_inside, stands_size}
use Rattle.frame_check.specs.Accepts.{IsInstr}
use Rattle.frame_check.specs.Judged.{IsPlaced}
use Rattle.frame_check.specs.Roots.{flow_graph_of}
use Rattle.frame_check.proofs.Wells.{placed_at}

-- ---- functions lie apart

-- of functions that rise from an address on, each begins there or above it and has a place
from : (low : ℕ) (fs : List Function) (f : Function) → FunctionsFrom low fs → Contains fs f → (low ≤ f.start) × (f.start < f.end)
from low [] f h c = absurd (contains_none f c)
from low (g ∷ more) f h c = elim (contains_cons f g more c) [
  | inl e ↦ (omega (arith, h.0, ap (λ (x : Function). x.start) e), subst (λ (x : Function). x.start < x.end) (sym e) h.1)
  | inr d ↦ let w = from g.end more f h.2 d in (omega (arith, h.0, h.1, w.0), w.1)
]

-- two of them are one, or one ends before the other begins
abbrev pub AreApart : Function → Function → Type 0
AreApart f g = (f ≡ g) ⊎ ((f.end ≤ g.start) ⊎ (g.end ≤ f.start))

pub apart : (low : ℕ) (fs : List Function) (f g : Function) → FunctionsFrom low fs → Contains fs f → Contains fs g → AreApart f g
apart low [] f g h c d = absurd (contains_none f c)
apart low (x ∷ more) f g h c d = go (contains_cons f x more c) (contains_cons g x more d) (λ u v. apart x.end more f g h.2 u v)
  where
    go : (f ≡ x) ⊎ Contains more f → (g ≡ x) ⊎ Contains more g → (Contains more f → Contains more g → AreApart f g) → AreApart f g
    go (inl e) (inl i) k = inl (e ∙ sym i)
    go (inl e) (inr v) k = inr (inl (subst (λ (y : Function). y.end ≤ g.start) (sym e) (from x.end more g h.2 v).0))
    go (inr u) (inl i) k = inr (inr (subst (λ (y : Function). y.end ≤ f.start) (sym i) (from x.end more f h.2 u).0))
    go (inr u) (inr v) k = k u v

begins_there : (fs : List Function) (h : Function) (a : ℕ) → Contains fs h → h.start ≡ a → begins_function fs a ≡ true
begins_there fs h a c e =
    list_any_at (λ (f : Function). f.start == a) fs c.0 h c.1 (subst (λ (f : Function). (f.start == a) ≡ true) (sym c.2) (let same : (h.start == a) ≡ true = grind (arith, nat_tests) in same))

-- ---- each place that is reached is code of its function

opened : (b : Bool) (x p : ℕ) → (if b then Some x else None) ≡ Some p → (b ≡ true) × (x ≡ p)
opened true x p e = (refl, same_Some x p e)
opened false x p e = absurd (none-some p e)

even_code : (image : Image) (start a : ℕ) → start % 2 ≡ 0 → ((a == start) || is_code_in image a) ≡ true → a % 2 ≡ 0
even_code image start a h e = go (a == start) refl (a % 2 == 0) refl e
  where
    go : (b : Bool) → (a == start) ≡ b → (c : Bool) → (a % 2 == 0) ≡ c → (b || (c && list_any (λ s. holds a s && s.exec) image.segments && is_code_by_marks image.marks a)) ≡ true → a % 2 ≡ 0
    go true is c d f = let same : a ≡ start = eqb-true a start is in subst (λ x. x % 2 ≡ 0) (sym same) h
    go false is true d f = eqb-true (a % 2) 0 d
    go false is false d f = absurd cc

-- what stands after a place of an address is that address
code_place : (s : FlowGraph) (a p : ℕ) → s.start % 2 ≡ 0 → place_of s a ≡ Some p → is_place s p ≡ true
code_place s a p h e =
    let w = opened (is_code_of s a) ((a - s.start) / 2) p e in
    let two = and_parts (nat_le s.start a && nat_lt a s.end) ((a == s.start) || is_code_in s.image a) w.0 in
    let low = leb-true s.start a (and_parts (nat_le s.start a) (nat_lt a s.end) two.0).0 in
    let even = even_code s.image s.start a h two.1 in
    let half = w.1 in
    let same : a ≡ address_of s p = omega (arith, low, even, half, h) in
    subst (λ x. is_code_of s x ≡ true) same w.0

IsCodeEdge : FlowGraph → Edge → Type 0
IsCodeEdge s w = is_place s w.to ≡ true

module _ (s : FlowGraph) (h : s.start % 2 ≡ 0) (w : Edge) where
  to_place : (clobbers : ℕ) (o : Option ℕ) → ((p : ℕ) → o ≡ Some p → is_place s p ≡ true) → Contains (edges_to clobbers o) w → is_place s w.to ≡ true
  to_place clobbers None f c = absurd (contains_none w c)
  to_place clobbers (Some p) f c = subst (λ (y : Edge). is_place s y.to ≡ true) (sym (contains_one w (record { to = p; clobbers = clobbers }) c)) (f p refl)

  to_address : (clobbers a : ℕ) → Contains (edges_to clobbers (place_of s a)) w → is_place s w.to ≡ true
  to_address clobbers a c = to_place clobbers (place_of s a) (λ p e. code_place s a p h e) c

  to_target : (clobbers : ℕ) (o : Option ℕ) → Contains (edges_to clobbers (option_and_then (place_of s) o)) w → is_place s w.to ≡ true
  to_target clobbers None c = absurd (contains_none w c)
  to_target clobbers (Some a) c = to_address clobbers a c

  if_goes : (b : Bool) (a : ℕ) → Contains (if b then edges_to 0 (place_of s a) else []) w → is_place s w.to ≡ true
  if_goes true a c = to_address 0 a c
  if_goes false a c = absurd (contains_none w c)

  straight : (a : ℕ) (t : Standing) → Contains (straight_by s a t) w → is_place s w.to ≡ true
  straight a (Instruction i size) c = ⊎_elim
      (λ (l : Contains (fall_through_edges s a i size) w). if_goes (reaches_next i) (a + size) l)
      (λ (r : Contains (edges_to 0 (option_and_then (place_of s) (branch_target a i))) w). to_target 0 (branch_target a i) r)
      (Contains-append_cases (fall_through_edges s a i size) (edges_to 0 (option_and_then (place_of s) (branch_target a i))) w c)
  straight a Udf c = absurd (contains_none w c)
  straight a Nothing c = absurd (contains_none w c)

  pads : (site : ℕ) (u : EntrySummary) (resumed : Bool) (items : List Item) → Contains (pad_edges s site u resumed items) w → is_place s w.to ≡ true
  pads site u resumed [] c = absurd (contains_none w c)
  pads site u resumed (Err fault ∷ more) c = pads site u resumed more c
  pads site u resumed (Ok d ∷ more) c = ⊎_elim
      (λ (l : Contains (edges_to (landing_changes u resumed) (option_and_then (place_of s) (pad_for site d))) w). to_target (landing_changes u resumed) (pad_for site d) l)
      (λ (r : Contains (pad_edges s site u (resumed || is_cleanup_at site d) more) w). pads site u (resumed || is_cleanup_at site d) more r)
      (Contains-append_cases (edges_to (landing_changes u resumed) (option_and_then (place_of s) (pad_for site d))) (pad_edges s site u (resumed || is_cleanup_at site d) more) w c)

  from_site : (site : Option ℕ) → Contains (edges_from s site) w → is_place s w.to ≡ true
  from_site None c = absurd (contains_none w c)
  from_site (Some site) c = pads site (unwinding_at s site) false (items_at s site) c

  pub edge_place : (place : ℕ) → Contains (edges_of s place) w → is_place s w.to ≡ true
  unfolding edges_of
  edge_place place c = ⊎_elim
      (λ (l : Contains (straight_edges s place) w). straight (address_of s place) (standing_at s place) l)
      (λ (r : Contains (edges_from s (site_at s place)) w). from_site (site_at s place) r)
      (Contains-append_cases (straight_edges s place) (edges_from s (site_at s place)) w c)

start_place : (s : FlowGraph) → s.start < s.end → is_place s 0 ≡ true
start_place s h = grind (arith, nat_tests)

pub reached_place : (s : FlowGraph) (p : ℕ) → s.start % 2 ≡ 0 → s.start < s.end → IsReached s p → is_place s p ≡ true
reached_place s _ h l entry = start_place s l
reached_place s _ h l (along {p} {w} r c) = edge_place s h w p c

-- ---- the next instruction

module _ (image : Image) (f : Function) (p : ℕ) (i : Instr) (size : ℕ) (sound : IsImage image) (c : Contains image.functions f) (even : f.start % 2 ≡ 0)
    (e : standing_at (flow_graph_of image f) p ≡ Instruction i size) where
  abbrev s : FlowGraph
  s = flow_graph_of image f

  -- what is reached after an instruction is the function's own, unless a function begins there
  own : (h : Function) (q : ℕ) → Contains image.functions h → IsReached (flow_graph_of image h) q → address_of s p + size ≡ address_of (flow_graph_of image h) q
      → begins_function image.functions (address_of s p + size) ≡ false → f ≡ h
  own h q d r at fresh = go (apart 0 image.functions f h sound.functions c d)
    where
      even_h : h.start % 2 ≡ 0
      even_h = (subst IsPlaced d.2 (placed_at image d.0 h sound d.1)).even

      above : h.start < address_of s p + size
      above = elim (cases_eq q 0) [
        | inl zero_place ↦ absurd (true≢false (sym (begins_there image.functions h (address_of s p + size) d (omega (arith, at, zero_place))) ∙ fresh))
        | inr other ↦ omega (arith, at, other)
      ]

      ends : address_of s p + size < h.end
      ends = elim (inside (flow_graph_of image h) q r) [
        | inl zero_place ↦ absurd (omega (arith, at, above, zero_place))
        | inr low ↦ omega (arith, at, low)
      ]

      four : (size ≡ 2) ⊎ (size ≡ 4)
      four = stands_size s p i size e

      go : AreApart f h → f ≡ h
      go (inl same) = same
      go (inr (inl before)) = absurd (elim four [
        | inl two ↦ omega (arith, before, above, even, even_h, two, stands_inside s p i size e)
        | inr wide ↦ omega (arith, before, above, even, even_h, wide, stands_inside s p i size e)
      ])
      go (inr (inr after)) = absurd (omega (arith, after, ends))

  -- After an instruction that goes on a run comes to a place of the function, by an edge, unless no checked instruction stands there or a
  -- function begins there.
  pub next_edge : reaches_next i ≡ true → IsInstr image image.functions (address_of s p + size) → begins_function image.functions (address_of s p + size) ≡ false
      → Contains (edges_of s p) (record { to = p + size / 2; clobbers = 0 }) × (address_of s (p + size / 2) ≡ address_of s p + size)
  unfolding edges_of
  next_edge g there fresh = (Contains-append_left (straight_edges s p) (edges_from s (site_at s p)) w straight_one, a)
    where
      w : Edge
      w = record { to = p + size / 2; clobbers = 0 }

      a : address_of s (p + size / 2) ≡ address_of s p + size
      a = elim (stands_size s p i size e) [
        | inl two ↦ omega (arith, two)
        | inr four ↦ omega (arith, four)
      ]

      same : f ≡ there.function
      same = own there.function there.place there.among there.reached there.address fresh

      reached : IsReached s there.place
      reached = subst (λ (h : Function). IsReached (flow_graph_of image h) there.place) (sym same) there.reached

      half : there.place ≡ p + size / 2
      half = let at = there.address in let at_f : address_of s p + size ≡ address_of s there.place = subst (λ (h : Function). address_of s p + size ≡ address_of (flow_graph_of image h) there.place) (sym same) at in
          elim (stands_size s p i size e) [
            | inl two ↦ omega (arith, two, at_f)
            | inr four ↦ omega (arith, four, at_f)
          ]

      at_place : is_place s (p + size / 2) ≡ true
      at_place = subst (λ q. is_place s q ≡ true) half (reached_place s there.place even (from 0 image.functions f sound.functions c).1 reached)

      to : place_of s (address_of s p + size) ≡ Some (p + size / 2)
      to = subst (λ (x : ℕ). place_of s x ≡ Some (p + size / 2)) a (places_have_their_address s (p + size / 2) at_place)

      straight_one : Contains (straight_edges s p) w
      straight_one = subst (λ (t : Standing). Contains (straight_by s (address_of s p) t) w) (sym e)
          (Contains-append_left (fall_through_edges s (address_of s p) i size) (edges_to 0 (option_and_then (place_of s) (branch_target (address_of s p) i))) w (onward_edge s (address_of s p) i size (p + size / 2) g to))
