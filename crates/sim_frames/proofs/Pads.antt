-- An activation that a landing enters stands at the pad: there is an edge from the site to each pad of its descriptors in scope, which clobbers
-- r0 to r3, r12 and lr, and after a cleanup those of r4 to r11 that its resume may change.
use Rattle.std.proofs.Common.{◌≡◌, ℕ, length, get_or, ap, ◌∙◌, arith, ◌<◌, ◌≤◌, ◌⊎◌, List, slice_index, ◌==◌, nat_lt, Bool, true, false, cond, refl, zero, suc, inl, inr, ◌%◌, ◌&&◌, ◌||◌, sym, subst, [], ◌∷◌, ◌++◌, ◌-◌, ◌/◌, ◌^◌, nat_le, not, Option, Some, None, Ok}
use Rattle.std.proofs.lemmas.List.{get_or_past}
use Rattle.std.proofs.lemmas.Bool.{eqb-true, ltb-true, and_parts, leb-true}
use Rattle.std.specs.List.{list_any}
use Rattle.std.specs.Prelude.{Contains, option_and_then}
use Rattle.std.specs.Option.{option_map_or}
use Rattle.std.proofs.lemmas.List.Elements.{Contains-append_left, Contains-append_right}
use Rattle.std.proofs.lemmas.Option.{none-some}
use Rattle.frame_facts.specs.Facts.{source, slot, forget_registers}
use Rattle.frame_facts.specs.declared.facts.Fact.{Fact}
use Rattle.frame_facts.specs.declared.facts.Source.TheVariants.{Other}
use Rattle.thumb_core.specs.Registers.{reg}
use Rattle.thumb_core.specs.declared.regs.Regs.{Regs}
use Rattle.eh_bus.specs.Segment.{Segment}
use Rattle.eh_gates.specs.Landing.{landing_registers}
use Rattle.thumb_core.specs.Words.{registers_of_list}
use Rattle.thumb_core.specs.declared.regs.TheConstants.{SP}
use Rattle.frame_facts.specs.declared.saves.Prologue.{Prologue}
use Rattle.frame_entries.specs.declared.unwinding.EntrySummary.{EntrySummary}
use Rattle.frame_entries.specs.Unwinding.{landing_changes}
use Rattle.sim_relation.specs.sim_machines.Activations.{Activation}
use Rattle.elf_image.specs.Image.{Image, is_code_in}
use Rattle.elf_image.specs.Marks.{is_code_by_marks}
use Rattle.elf_image.specs.Segments.{holds}
use Rattle.frame_entries.specs.Scopes.{Item, is_one, is_cleanup_at, is_scope_at, pad_of, pad_for}
use Rattle.frame_graph.specs.Sites.{lands_out, pads_out, pad_edges, site_at, site_of, items_at, unwinding_at, edges_from, edges_of}
use Rattle.frame_facts.specs.Branches.{gate_changes, call_changes}
use Rattle.frame_dataflow.specs.Flow.{met}
use Rattle.frame_dataflow.proofs.Work.{contains_head}
use Rattle.elf_image.specs.Functions.{Function}
use Rattle.eh_desc.specs.declared.descriptor.Desc.{Desc}
use Rattle.thumb_isa.specs.declared.instr.Instr.{Instr}
use Rattle.thumb_isa.specs.declared.instr.Instr.TheVariants.{Svc, Bl, Blx}
use Rattle.frame_facts.specs.After.{after_of}
use Rattle.frame_facts.specs.Agrees.{at_site}
use Rattle.frame_facts.specs.declared.cause.FrameCause.{FrameCause}
use Rattle.frame_facts.specs.declared.cause.FrameCause.TheVariants.{Undecodable, BranchOut, CallNotFunction, PadDepth, ThrowInLeafScope}
use Rattle.frame_graph.specs.declared.edges.Edge.{Edge}
use Rattle.frame_graph.specs.Places.{address_of, place_of, is_code_of}
use Rattle.frame_graph.specs.FlowGraph.{FlowGraph}
use Rattle.frame_graph.specs.Edges.{is_undecodable, branches_out, calls_nothing, instruction_at, straight_edges, edges_to}
use Rattle.frame_graph.proofs.Landings.{landings_follow}
use Rattle.frame_check.specs.frame_reach.Marks.{Marks}
use Rattle.frame_flow.specs.Causes.{cause_if, causes_of_result, after_at, entry_causes, throws_in_leaf, site_causes, is_call, instruction_causes, causes_at}
use Rattle.frame_flow.specs.Flows.{IsStateOf}
use Rattle.frame_flow.proofs.Causing.{found_are_met}
use Rattle.frame_check.specs.Accepts.{Accepted}
use Rattle.frame_check.specs.Judged.{IsPlaced}
use Rattle.frame_check.specs.Roots.{flow_graph_of}
use Rattle.frame_check.proofs.Wells.{placed_at}
use Rattle.sim_relation.specs.Holds.{Holds}
use Rattle.sim_frames.proofs.Clobbers.{landing_keeps_sp, landing_clobbers}
use Rattle.sim_relation.proofs.Moves.{moved_holds, clobbered_here}
use Rattle.sim_frames.proofs.Sites.{clobbered_holds}
use Rattle.sim_relation.specs.Chain.{IsOf, code, StandsAt}
use Rattle.sim_relation.specs.Stands.{IsProgram}
use Rattle.sim_relation.proofs.Flows.{none_stands, goes_along}

-- ---- the registers at a pad

-- what a fact says of sp, and past lr, it says by the depth
pub none_past : (f : Fact) (k : ℕ) → length f.regs ≡ 14 → slot k ≡ 14 → source f k ≡ Other
none_past f k long e = ap (λ n. get_or f.regs n Other) e ∙ get_or_past f.regs 14 Other (omega (arith, long))

-- r4 to r11 of the frame that is entered are those of which a fact speaks, or it doesn't
abbrev pub AreAt : Fact → List ℕ → Regs → Type 0
AreAt f r old = (k : ℕ) → 4 ≤ k → k < 12 → (source f k ≡ Other) ⊎ (slice_index r k ≡ reg old k)

pub past_lr : (k : ℕ) → 15 ≤ k → slot k ≡ 14
past_lr k h = go (nat_lt k 13) (k == 14) refl refl
  where
    go : (b c : Bool) → nat_lt k 13 ≡ b → (k == 14) ≡ c → cond b k (cond c 13 14) ≡ 14
    go true c i j = absurd (let l = ltb-true k 13 i in omega (arith, h, l))
    go false true i j = absurd (let l = eqb-true k 14 j in omega (arith, h, l))
    go false false i j = refl

pub pad_holds : (p : Prologue) (u : EntrySummary) (resumed : Bool) (g : Fact) (a : Activation) (segments : List Segment) (old regs : Regs) (r : List ℕ) (pad first : ℕ) → Holds p g a segments old
    → AreAt (forget_registers (registers_of_list (landing_changes u resumed)) g) r old → slice_index r SP ≡ reg old SP → Holds p (forget_registers (registers_of_list (landing_changes u resumed)) g) a segments (landing_registers regs r pad first)
pad_holds p u resumed g a segments old regs r pad first h same sp = moved_holds p f a segments old (landing_registers regs r pad first) less each sp
  where
    f : Fact
    f = forget_registers (registers_of_list (landing_changes u resumed)) g

    less : Holds p f a segments old
    less = clobbered_holds p g a segments old (registers_of_list (landing_changes u resumed)) (landing_keeps_sp u resumed) h

    lost_here : (k : ℕ) → (k < 4) ⊎ ((k ≡ 12) ⊎ (k ≡ 14)) → source f k ≡ Other
    lost_here k e = clobbered_here (registers_of_list (landing_changes u resumed)) g k (landing_clobbers u resumed k e)

    each : (k : ℕ) → (source f k ≡ Other) ⊎ (reg (landing_registers regs r pad first) k ≡ reg old k)
    each zero = inl (lost_here 0 (inl (omega arith)))
    each (suc zero) = inl (lost_here 1 (inl (omega arith)))
    each (suc (suc zero)) = inl (lost_here 2 (inl (omega arith)))
    each (suc (suc (suc zero))) = inl (lost_here 3 (inl (omega arith)))
    each (suc (suc (suc (suc zero)))) = same 4 (omega arith) (omega arith)
    each (suc (suc (suc (suc (suc zero))))) = same 5 (omega arith) (omega arith)
    each (suc (suc (suc (suc (suc (suc zero)))))) = same 6 (omega arith) (omega arith)
    each (suc (suc (suc (suc (suc (suc (suc zero))))))) = same 7 (omega arith) (omega arith)
    each (suc (suc (suc (suc (suc (suc (suc (suc zero)))))))) = same 8 (omega arith) (omega arith)
    each (suc (suc (suc (suc (suc (suc (suc (suc (suc zero))))))))) = same 9 (omega arith) (omega arith)
    each (suc (suc (suc (suc (suc (suc (suc (suc (suc (suc zero)))))))))) = same 10 (omega arith) (omega arith)
    each (suc (suc (suc (suc (suc (suc (suc (suc (suc (suc (suc zero))))))))))) = same 11 (omega arith) (omega arith)
    each (suc (suc (suc (suc (suc (suc (suc (suc (suc (suc (suc (suc zero)))))))))))) = inl (lost_here 12 (inr (inl refl)))
    each (suc (suc (suc (suc (suc (suc (suc (suc (suc (suc (suc (suc (suc zero))))))))))))) = inr sp
    each (suc (suc (suc (suc (suc (suc (suc (suc (suc (suc (suc (suc (suc (suc zero)))))))))))))) = inl (lost_here 14 (inr (inr refl)))
    each (suc (suc (suc (suc (suc (suc (suc (suc (suc (suc (suc (suc (suc (suc (suc k))))))))))))))) = inl (none_past f (suc (suc (suc (suc (suc (suc (suc (suc (suc (suc (suc (suc (suc (suc (suc k))))))))))))))) less.describes.long (past_lr (suc (suc (suc (suc (suc (suc (suc (suc (suc (suc (suc (suc (suc (suc (suc k))))))))))))))) (omega arith)))

-- ---- the pad's address

even_code : (image : Image) (start a : ℕ) → start % 2 ≡ 0 → ((a == start) || is_code_in image a) ≡ true → a % 2 ≡ 0
even_code image start a h e = go (a == start) refl (a % 2 == 0) refl e
  where
    go : (b : Bool) → (a == start) ≡ b → (c : Bool) → (a % 2 == 0) ≡ c → (b || (c && list_any (λ s. holds a s && s.exec) image.segments && is_code_by_marks image.marks a)) ≡ true → a % 2 ≡ 0
    go true is c d f = let same : a ≡ start = eqb-true a start is in subst (λ x. x % 2 ≡ 0) (sym same) h
    go false is true d f = eqb-true (a % 2) 0 d
    go false is false d f = absurd cc

pub any_there : (t : Item → Bool) (before : List Item) (i : Item) (after : List Item) → t i ≡ true → list_any t (before ++ i ∷ after) ≡ true
any_there t [] i after e = ap (λ b. b || list_any t after) e
any_there t (x ∷ before) i after e = go (t x) (any_there t before i after e)
  where
    go : (b : Bool) → list_any t (before ++ i ∷ after) ≡ true → (b || list_any t (before ++ i ∷ after)) ≡ true
    go true h = refl
    go false h = h

gates_keep_sp : list_any (λ (j : ℕ). j == 13) gate_changes ≡ false
unfolding registers_of_list
gates_keep_sp = refl

-- ---- a descriptor in scope of a site

module _ (x : Accepted) (is : IsProgram x) (f : Function) (m : Marks) (start : ℕ) (of : IsOf x start f m) (p : ℕ) (fact : Fact) (state : IsStateOf (code x f m) p fact) (i : Instr)
    (at : instruction_at (flow_graph_of x.image f) p ≡ Some i) (site : ℕ) (site_is : site_at (flow_graph_of x.image f) p ≡ Some site) where
  abbrev s : FlowGraph
  s = flow_graph_of x.image f

  not_found : (cause : FrameCause) → Contains (causes_at (code x f m) p fact) cause → ⊥
  not_found cause h = none_stands x f m is.sound of.among of.are p cause (met state ((found_are_met (code x f m) cause p fact).1 h))

  at_the_site : (cause : FrameCause) → Contains (site_causes (code x f m) (is_call i) fact site) cause → Contains (causes_at (code x f m) p fact) cause
  unfolding causes_at
  at_the_site cause here =
      let site_part : Contains (option_map_or (site_causes (code x f m) (is_call i) fact) (site_at s p) []) cause = rw site_is here in
      let instr_part : Contains (instruction_causes (code x f m) p fact i) cause = Contains-append_right (causes_of_result (after_at (code x f m) p fact i)) _ cause site_part in
      let last : Contains (option_map_or (instruction_causes (code x f m) p fact) (instruction_at s p) []) cause = rw at instr_part in
      Contains-append_right (cause_if (is_undecodable s p) Undecodable) _ cause
      (Contains-append_right (cause_if (branches_out s p) BranchOut) _ cause
      (Contains-append_right (cause_if (calls_nothing s p) CallNotFunction) _ cause last))

  pads_in : pads_out s site ≡ true → ⊥
  pads_in e =
      let one : Contains (cause_if (pads_out s site) PadDepth) PadDepth = rw e (contains_head PadDepth []) in
      not_found PadDepth (at_the_site PadDepth (Contains-append_right (entry_causes (code x f m).prologue (unwinding_at s site) (is_call i) fact) _ PadDepth (Contains-append_left (cause_if (pads_out s site) PadDepth) _ PadDepth one)))

  -- a gate in the scope of a descriptor has something on the stack
  pub no_leaf : throws_in_leaf s site (is_call i) fact ≡ true → ⊥
  no_leaf e =
      let one : Contains (cause_if (throws_in_leaf s site (is_call i) fact) ThrowInLeafScope) ThrowInLeafScope = rw e (contains_head ThrowInLeafScope []) in
      not_found ThrowInLeafScope (at_the_site ThrowInLeafScope (Contains-append_right (entry_causes (code x f m).prologue (unwinding_at s site) (is_call i) fact) _ ThrowInLeafScope
      (Contains-append_right (cause_if (pads_out s site) PadDepth) _ ThrowInLeafScope one)))

  -- what a call or a gate leaves
  pub record Leaves : Type 0 where
    pub fact_after : Fact
    pub is_after : after_of (code x f m).prologue ((code x f m).lowers p) (address_of s p) i fact ≡ Ok fact_after
    pub holds_after : (a : Activation) (segments : List Segment) (regs : Regs) → Holds (code x f m).prologue (at_site (is_call i) fact) a segments regs → Holds (code x f m).prologue fact_after a segments regs

  leaves_by : (j : Instr) → i ≡ j → site_of (address_of s p) j ≡ Some site → Leaves
  leaves_by (Bl off) e h = record {
    fact_after = forget_registers call_changes fact;
    is_after = ap (λ (j : Instr). after_of (code x f m).prologue ((code x f m).lowers p) (address_of s p) j fact) e;
    holds_after = λ a segments regs w. subst (λ (j : Instr). Holds (code x f m).prologue (at_site (is_call j) fact) a segments regs) e w;
  }
  leaves_by (Blx n) e h = record {
    fact_after = forget_registers call_changes fact;
    is_after = ap (λ (j : Instr). after_of (code x f m).prologue ((code x f m).lowers p) (address_of s p) j fact) e;
    holds_after = λ a segments regs w. subst (λ (j : Instr). Holds (code x f m).prologue (at_site (is_call j) fact) a segments regs) e w;
  }
  leaves_by (Svc imm) e h = record {
    fact_after = forget_registers gate_changes fact;
    is_after = ap (λ (j : Instr). after_of (code x f m).prologue ((code x f m).lowers p) (address_of s p) j fact) e;
    holds_after = λ a segments regs w.
        clobbered_holds (code x f m).prologue fact a segments regs gate_changes gates_keep_sp (subst (λ (j : Instr). Holds (code x f m).prologue (at_site (is_call j) fact) a segments regs) e w);
  }
  leaves_by j e h = absurd (none-some site h)

  pub leaves : Leaves
  leaves = leaves_by i refl (ap (option_and_then (site_of (address_of s p))) (sym at) ∙ site_is)

  module _ (before : List Item) (d : Desc) (after : List Item) (items : items_at s site ≡ before ++ Ok d ∷ after) (scope : is_scope_at site d ≡ true) (pad : ℕ) (has : pad_of d.kind ≡ Some pad) where
    pad_is : pad_for site d ≡ Some pad
    pad_is = ap (λ (b : Bool). cond b (pad_of d.kind) None) scope ∙ has

    is_code : is_code_of s pad ≡ true
    is_code = go (is_code_of s pad) refl
      where
        go : (b : Bool) → is_code_of s pad ≡ b → is_code_of s pad ≡ true
        go true e = e
        go false e =
            let out : lands_out s site d ≡ true = ap (λ (o : Option ℕ). option_map_or (λ q. not (is_code_of s q)) o false) pad_is ∙ ap not e in
            absurd (pads_in (ap (list_any (is_one (lands_out s site))) items ∙ any_there (is_one (lands_out s site)) before (Ok d) after out))

    placed : IsPlaced f
    placed = subst IsPlaced of.among.2 (placed_at x.image of.among.0 f is.image of.among.1)

    pub even_pad : pad % 2 ≡ 0
    even_pad = even_code x.image f.start pad placed.even (and_parts (nat_le f.start pad && nat_lt pad f.end) ((pad == f.start) || is_code_in x.image pad) is_code).1

    abbrev pub q : ℕ
    q = (pad - f.start) / 2

    above : f.start ≤ pad
    above = leb-true f.start pad (and_parts (nat_le f.start pad) (nat_lt pad f.end) (and_parts (nat_le f.start pad && nat_lt pad f.end) ((pad == f.start) || is_code_in x.image pad) is_code).0).0

    pub low_pad : pad < 2 ^ 31
    low_pad = let l = ltb-true pad f.end (and_parts (nat_le f.start pad) (nat_lt pad f.end) (and_parts (nat_le f.start pad && nat_lt pad f.end) ((pad == f.start) || is_code_in x.image pad) is_code).0).1 in
        let top = placed.low in omega (arith, l, top)

    pub stands : address_of s q ≡ pad
    stands = let e = even_pad in let a = above in let h = placed.even in omega (arith, e, a, h)

    at_place : place_of s pad ≡ Some q
    at_place = ap (λ (b : Bool). cond b (Some ((pad - f.start) / 2)) None) is_code

    abbrev pub resumed : Bool
    resumed = list_any (is_one (is_cleanup_at site)) before

    abbrev pub u : EntrySummary
    u = unwinding_at s site

    abbrev pub edge : Edge
    edge = record { to = q; clobbers = landing_changes u resumed }

    pub is_edge : Contains (edges_of s p) edge
    unfolding edges_of
    is_edge =
        let here : Contains (edges_to (landing_changes u resumed) (option_and_then (place_of s) (pad_for site d))) edge =
        subst (λ (o : Option ℕ). Contains (edges_to (landing_changes u resumed) o) edge) (sym (ap (option_and_then (place_of s)) pad_is ∙ at_place)) (contains_head edge []) in
        let all : Contains (pad_edges s site u false (before ++ Ok d ∷ after)) edge =
        subst (λ (ws : List Edge). Contains ws edge) (sym (landings_follow s site u before after d))
        (Contains-append_right (pad_edges s site u false before) _ edge (Contains-append_left (edges_to (landing_changes u resumed) (option_and_then (place_of s) (pad_for site d))) _ edge here)) in
        let from_site : Contains (pad_edges s site u false (items_at s site)) edge = subst (λ (is : List Item). Contains (pad_edges s site u false is) edge) (sym items) all in
        let from_place : Contains (edges_from s (site_at s p)) edge = subst (λ (o : Option ℕ). Contains (edges_from s o) edge) (sym site_is) from_site in
        Contains-append_right (straight_edges s p) (edges_from s (site_at s p)) edge from_place

    -- the fact at the pad
    abbrev pub pad_fact : Fact
    pad_fact = forget_registers (registers_of_list (landing_changes u resumed)) leaves.fact_after

    -- The activation stands there, with what the fact at the site says of it at the registers that it has there.
    pub stands_at_pad : (a : Activation) (segments : List Segment) (old regs : Regs) (r : List ℕ) (first : ℕ) → a.function ≡ start → Holds (code x f m).prologue (at_site (is_call i) fact) a segments old
        → AreAt pad_fact r old → slice_index r SP ≡ reg old SP → StandsAt x a segments (landing_registers regs r pad first) (landing_registers regs r pad first).pc
    stands_at_pad a segments old regs r first fn h same sp = record {
      function = f;
      marks = m;
      of = record { among = of.among; begins = of.begins ∙ sym fn; are = of.are };
      place = q;
      address = (let e = even_pad in let same_address = stands in omega (arith, e, same_address));
      fact = pad_fact;
      state = goes_along (code x f m) p fact (none_stands x f m is.sound of.among of.are) state i leaves.fact_after edge at leaves.is_after is_edge;
      holds = pad_holds (code x f m).prologue u resumed leaves.fact_after a segments old regs r pad first (leaves.holds_after a segments old h) same sp;
    }
