-- The flow of facts of a function keeps the laws of flows, and is finite.
use Rattle.std.proofs.Common.{ℕ, ◌≡◌, ◌<◌, ◌+◌, ◌*◌, ◌-◌, ◌/◌, ◌⊎◌, inl, inr, map, List, [], ◌∷◌, Bool, true, false, cond, Option, Some, None, Result, Ok, Err, option_and_then, sym, ◌∙◌, ap, subst, refl, ⊎_elim, arith}
use Rattle.std.proofs.lemmas.Option.{same_Some, none-some}
use Rattle.std.specs.List.{Contains}
use Rattle.std.specs.Option.{option_map_or}
use Rattle.thumb_core.specs.Words.{registers_of_list}
use Rattle.thumb_isa.specs.declared.instr.Instr.{Instr}
use Rattle.frame_facts.specs.declared.cause.FrameCause.{FrameCause}
use Rattle.frame_facts.specs.declared.cause.FrameCause.TheVariants.{JoinDepth, PadDepth}
use Rattle.frame_facts.specs.declared.facts.Fact.{Fact}
use Rattle.frame_facts.specs.Facts.{forget_registers, height, IsAtMost, IsFit}
use Rattle.frame_facts.proofs.Vaguer.{at_most_self, at_most_via, join_left, join_right, join_least, joins, join_falls, clobbered_vaguer}
use Rattle.frame_facts.proofs.Following.{after_vaguer}
use Rattle.frame_facts.proofs.Fitting.{entered_fits, clobbered_fits, join_fits, after_fits, height_low}
use Rattle.frame_graph.specs.declared.edges.Edge.{Edge}
use Rattle.frame_graph.specs.Places.{address_of}
use Rattle.frame_graph.specs.Edges.{instruction_at}
use Rattle.frame_graph.specs.Sites.{site_at, edges_of}
use Rattle.frame_graph.proofs.Inside.{edges_stay_inside}
use Rattle.frame_dataflow.specs.Flow.{at_entry, along, meeting, Passes}
use Rattle.frame_dataflow.specs.Laws.{Falls, IsFinite}
use Rattle.frame_dataflow.proofs.Work.{contains_none, contains_cons, contains_head, contains_tail}
use Rattle.frame_dataflow.proofs.Ends.{decides}
use Rattle.frame_flow.specs.Framed.{FramedFunction}
use Rattle.frame_flow.specs.Causes.{causes_of_result, is_call, site_causes, after_at, instruction_causes, causes_at, meets_cause}
use Rattle.frame_flow.specs.Flows.{fact_of, fact_after, along_edge, along_edges, transfer, is_depth_cause, parting, flow_of, count_of, IsStateOf}
use Rattle.frame_flow.specs.Work.{top_of}
use Rattle.frame_flow.specs.Laws.{FlowsKeepLaws, FactsDecide}
use Rattle.frame_flow.proofs.Causing.{both_nil, answered_ok, found_parts, found_vaguer, passes_found, found_passes, head_met}

-- an element of a list that a function made
pub mapped : {X Y : Type 0} (h : X → Y) (xs : List X) (x : X) → Contains xs x → Contains (map h xs) (h x)
mapped h [] x c = absurd (contains_none x c)
mapped h (y ∷ xs) x c = ⊎_elim
    (λ (e : x ≡ y). subst (λ z. Contains (h y ∷ map h xs) z) (sym (ap h e)) (contains_head (h y) (map h xs)))
    (λ (t : Contains xs x). contains_tail (h x) (h y) (map h xs) (mapped h xs x t))
    (contains_cons x y xs c)

pub unmapped : {X Y : Type 0} (h : X → Y) (xs : List X) (y : Y) → Contains (map h xs) y → (x : X) × Contains xs x × (h x ≡ y)
unmapped h [] y c = absurd (contains_none y c)
unmapped h (x ∷ xs) y c = ⊎_elim
    (λ (e : y ≡ h x). (x, contains_head x xs, sym e))
    (λ (t : Contains (map h xs) y). let w = unmapped h xs y t in (w.0, contains_tail w.0 x xs w.1, w.2))
    (contains_cons y (h x) (map h xs) c)

pub some_or_none : {X : Type 0} (o : Option X) → (o ≡ None) ⊎ ((x : X) × (o ≡ Some x))
some_or_none None = inl refl
some_or_none (Some x) = inr (x, refl)

-- ---- the fact after a place

fact_is : (r : Result Fact FrameCause) (g : Fact) → fact_of r ≡ Some g → r ≡ Ok g
fact_is (Ok g') g h = ap (λ (k : Fact). let r : Result Fact FrameCause = Ok k in r) (same_Some g' g h)
fact_is (Err c) g h = absurd (none-some g h)

after_some : (x : FramedFunction) (p : ℕ) (f g : Fact) (o : Option Instr) → option_and_then (λ i. fact_of (after_at x p f i)) o ≡ Some g
    → (i : Instr) × (o ≡ Some i) × (after_at x p f i ≡ Ok g)
after_some x p f g None h = absurd (none-some g h)
after_some x p f g (Some i) h = (i, refl, fact_is (after_at x p f i) g h)

-- an instruction stands there, and its effect shows no cause
pub after_is : (x : FramedFunction) (p : ℕ) (f g : Fact) → fact_after x p f ≡ Some g → (i : Instr) × (instruction_at x.flow_graph p ≡ Some i) × (after_at x p f i ≡ Ok g)
unfolding fact_after
after_is x p f g h = after_some x p f g (instruction_at x.flow_graph p) h

pub is_after : (x : FramedFunction) (p : ℕ) (f g : Fact) (i : Instr) → instruction_at x.flow_graph p ≡ Some i → after_at x p f i ≡ Ok g → fact_after x p f ≡ Some g
unfolding fact_after
is_after x p f g i e h = ap (λ o. option_and_then (λ i. fact_of (after_at x p f i)) o) e ∙ ap fact_of h

shows_none : (x : FramedFunction) (p : ℕ) (f : Fact) (i : Instr) (o : Option Instr) → o ≡ Some i → option_map_or (instruction_causes x p f) o [] ≡ [] → (g : Fact) × (after_at x p f i ≡ Ok g)
shows_none x p f i o e h =
    let k : instruction_causes x p f i ≡ [] = subst (λ o. option_map_or (instruction_causes x p f) o [] ≡ []) e h in
    answered_ok (after_at x p f i) (both_nil (causes_of_result (after_at x p f i)) (option_map_or (site_causes x (is_call i) f) (site_at x.flow_graph p) []) k).0

-- where no cause is found, an instruction has a fact after it
pub passes_after : (x : FramedFunction) (p : ℕ) (f : Fact) (i : Instr) → causes_at x p f ≡ [] → instruction_at x.flow_graph p ≡ Some i → (g : Fact) × (after_at x p f i ≡ Ok g) × (fact_after x p f ≡ Some g)
passes_after x p f i h e =
    let w = shows_none x p f i (instruction_at x.flow_graph p) e (found_parts x p f h).3 in
    (w.0, w.1, is_after x p f w.0 i e w.1)

-- ---- edges

pub transfer_is : (x : FramedFunction) (p : ℕ) (f : Fact) (q : ℕ) (g : Fact) → Contains (transfer x p f) (q, g)
    → (k : Fact) × (fact_after x p f ≡ Some k) × ((w : Edge) × Contains (edges_of x.flow_graph p) w × (along_edge k w ≡ (q, g)))
unfolding transfer
transfer_is x p f q g h = ⊎_elim
    (λ (e : fact_after x p f ≡ None). absurd (contains_none (q, g) (subst (λ o. Contains (along_edges o (edges_of x.flow_graph p)) (q, g)) e h)))
    (λ (s : (k : Fact) × (fact_after x p f ≡ Some k)). (s.0, s.1, unmapped (along_edge s.0) (edges_of x.flow_graph p) (q, g) (subst (λ o. Contains (along_edges o (edges_of x.flow_graph p)) (q, g)) s.1 h)))
    (some_or_none (fact_after x p f))

pub is_transfer : (x : FramedFunction) (p : ℕ) (f k : Fact) (w : Edge) → fact_after x p f ≡ Some k → Contains (edges_of x.flow_graph p) w → Contains (transfer x p f) (along_edge k w)
unfolding transfer
is_transfer x p f k w e c = subst (λ o. Contains (along_edges o (edges_of x.flow_graph p)) (along_edge k w)) (sym e) (mapped (along_edge k) (edges_of x.flow_graph p) w c)

half : (start end q : ℕ) → start + 2 * q < end → q < (end - start + 1) / 2
half start end q l = omega (arith, l)

pub inside : (x : FramedFunction) (p : ℕ) (f : Fact) (q : ℕ) (g : Fact) → Contains (transfer x p f) (q, g) → q < count_of x.flow_graph
inside x p f q g h = let e = transfer_is x p f q g h in
    subst (λ k. k < count_of x.flow_graph) (ap (λ (y : ℕ × Fact). y.0) e.2.2) (half x.flow_graph.start x.flow_graph.end e.2.0.to (edges_stay_inside x.flow_graph p e.2.0 e.2.1))

-- ---- what a fact that is less vague keeps

transfer_vaguer : (x : FramedFunction) (p : ℕ) (f g : Fact) → IsAtMost f g → Passes (flow_of x) p g → (q : ℕ) (f' : Fact) → Contains (transfer x p f) (q, f')
    → (g' : Fact) × Contains (transfer x p g) (q, g') × IsAtMost f' g'
transfer_vaguer x p f g m h q f' c =
    let e = transfer_is x p f q f' c in
    let i = after_is x p f e.0 e.1 in
    let b = passes_after x p g i.0 (passes_found x p g h) i.1 in
    let v = after_vaguer x.prologue (x.lowers p) (address_of x.flow_graph p) i.0 f g b.0 m b.1 in
    let one : v.0 ≡ e.0 = same_Some v.0 e.0 (sym (is_after x p f v.0 i.0 i.1 v.1) ∙ e.1) in
    let w = e.2.0 in
    let to : w.to ≡ q = ap (λ (y : ℕ × Fact). y.0) e.2.2 in
    let fact : forget_registers (registers_of_list w.clobbers) e.0 ≡ f' = ap (λ (y : ℕ × Fact). y.1) e.2.2 in
    let g' = forget_registers (registers_of_list w.clobbers) b.0 in (
      g',
      subst (λ k. Contains (transfer x p g) (k, g')) to (is_transfer x p g b.0 w b.2 e.2.1),
      subst (λ k. IsAtMost k g') fact (clobbered_vaguer (registers_of_list w.clobbers) e.0 b.0 (subst (λ k. IsAtMost k b.0) one v.2)),
    )

pub passes_vaguer : (x : FramedFunction) (p : ℕ) (f g : Fact) → IsAtMost f g → Passes (flow_of x) p g → Passes (flow_of x) p f
passes_vaguer x p f g m h = found_passes x p f (found_vaguer x p f g m (passes_found x p g h))

-- ---- states

pub state_fits : (x : FramedFunction) (p : ℕ) (f : Fact) → IsStateOf x p f → IsFit x.prologue.count f
state_fits x _ _ at_entry = entered_fits x.prologue.count
state_fits x _ _ (along {p} {q} {f} {g} s e) =
    let w = transfer_is x p f q g e in
    let i = after_is x p f w.0 w.1 in
    let fit = after_fits x.prologue (x.lowers p) (address_of x.flow_graph p) i.0 f w.0 (state_fits x p f s) i.2 in
    subst (λ k. IsFit x.prologue.count k) (ap (λ (y : ℕ × Fact). y.1) w.2.2) (clobbered_fits x.prologue.count (registers_of_list w.2.0.clobbers) w.0 fit)
state_fits x _ _ (meeting {p} {f} {g} {h} s t e) = join_fits x.prologue.count f g h (state_fits x p f s) e

pub laws : FlowsKeepLaws
laws x = record {
  same = at_most_self;
  via = at_most_via;
  left = join_left;
  right = λ p f g h s t e. join_right f g h ((state_fits x p f s).long ∙ sym (state_fits x p g t).long) e;
  least = join_least;
  joins = joins;
  passes = passes_vaguer x;
  transfer = transfer_vaguer x;
}

-- without its saves the height of a fact that fits is below 32
low : (n : ℕ) (f : Fact) → IsFit n f → height f < n + 32
unfolding height
low n f x =
    let bare : Fact = record f { kept = 0 } in
    omega (arith, height_low 0 bare (omega arith) (record { depth = x.depth; kept = omega arith; long = x.long }), x.kept)

pub falls : (x : FramedFunction) → Falls Fact FrameCause (flow_of x) height (top_of x)
falls x = record {
  falls = λ h g k e. join_falls h g k e;
  low = λ p f s. low x.prologue.count f (state_fits x p f s);
}

-- ---- the first cause, and the cause of two depths

abbrev pub first_of : List FrameCause → Option FrameCause
first_of [] = None
first_of (c ∷ more) = Some c

first_is_met : (x : FramedFunction) (p : ℕ) (f : Fact) (c : FrameCause) (l : List FrameCause) → causes_at x p f ≡ l → first_of l ≡ Some c → meets_cause x c p f ≡ true
first_is_met x p f c [] e h = absurd (none-some c h)
first_is_met x p f c (d ∷ more) e h = head_met x p f c more (e ∙ ap (λ k. k ∷ more) (same_Some d c h))

first_is_none : (x : FramedFunction) (p : ℕ) (f : Fact) (l : List FrameCause) → causes_at x p f ≡ l → first_of l ≡ None → Passes (flow_of x) p f
first_is_none x p f [] e h = found_passes x p f e
first_is_none x p f (d ∷ more) e h = absurd (none-some d (sym h))

pub parting_is : (x : FramedFunction) (q : ℕ) → is_depth_cause x q (parting x q) ≡ true
parting_is x q = by (x.pad q) refl
  where
    by : (b : Bool) → x.pad q ≡ b → is_depth_cause x q (cond b PadDepth JoinDepth) ≡ true
    by true e = e
    by false e = refl

pub finite : (x : FramedFunction) → x.flow_graph.start < x.flow_graph.end → IsFinite Fact FrameCause (flow_of x)
finite x l = record {
  count = count_of x.flow_graph;
  begins = half x.flow_graph.start x.flow_graph.end 0 (omega (arith, l));
  inside = inside x;
  height = height;
  top = top_of x;
  falls = falls x;
  first = λ p f. first_of (causes_at x p f);
  first_met = λ p f c h. first_is_met x p f c (causes_at x p f) refl h;
  first_none = λ p f h. first_is_none x p f (causes_at x p f) refl h;
  named = parting x;
  named_is = parting_is x;
}

-- a function has valid facts exactly where no cause stands
pub facts_decide : FactsDecide
facts_decide x l = (decides Fact FrameCause IsAtMost (flow_of x) (laws x) (finite x l)).1
