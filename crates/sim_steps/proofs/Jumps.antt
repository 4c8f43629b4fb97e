-- Where the first activation stands after an instruction that leaves memory and sp: after it, or where a branch leads. So for all that
-- write no register: compares of any registers, hints, barriers and branches.
use Rattle.std.proofs.Common.{ℕ, ◌≡◌, ◌%◌, ◌==◌, ◌&&◌, ◌||◌, Bool, true, false, refl, sym, subst, Some, None, ◌+◌, ◌-◌, ◌/◌, ◌^◌, ◌<◌, not, nat_le, nat_lt, inl, inr, List, [], Option, Ok, ℤ, slice_index, ap, ◌∙◌, arith, cond}
use Rattle.std.specs.Prelude.{Contains, if◌then◌else◌, option_and_then}
use Rattle.std.specs.List.{list_any}
use Rattle.std.proofs.lemmas.Bool.{eqb-true, and_parts, leb-true}
use Rattle.std.specs.Option.{option_map_or}
use Rattle.std.proofs.lemmas.List.Elements.{Contains-append_left, Contains-append_right}
use Rattle.frame_facts.specs.declared.cause.FrameCause.{FrameCause}
use Rattle.frame_facts.specs.declared.facts.Fact.{Fact}
use Rattle.frame_dataflow.specs.Flow.{met}
use Rattle.sim_machines.specs.frame_flow.Framed.{FramedFunction}
use Rattle.sim_machines.proofs.frame_flow.Causing.{found_are_met}
use Rattle.sim_machines.specs.frame_flow.Causes.{causes_at, cause_if}
use Rattle.sim_machines.specs.frame_flow.Flows.{IsStateOf, NoneStands}
use Rattle.elf_image.specs.Image.{Image, is_code_in}
use Rattle.elf_image.specs.Marks.{is_code_by_marks}
use Rattle.elf_image.specs.Segments.{holds}
use Rattle.thumb_core.specs.declared.ends.End.{End}
use Rattle.frame_dataflow.proofs.Work.{contains_head}
use Rattle.run_images.specs.Start.{begins_function}
use Rattle.thumb_isa.specs.declared.instr.Instr.{Instr}
use Rattle.thumb_core.specs.Branch.{target_of, passes_condition, takes_branch}
use Rattle.thumb_core.specs.Data.{forward}
use Rattle.thumb_core.specs.Registers.{with_pc, even, with_next, reg}
use Rattle.thumb_core.specs.declared.regs.TheConstants.{SP}
use Rattle.thumb_core.specs.declared.regs.Regs.{Regs}
use Rattle.thumb_core.specs.declared.regs.Stepped.TheVariants.{Done}
use Rattle.frame_facts.specs.declared.cause.FrameCause.TheVariants.{Undecodable, BranchOut}
use Rattle.frame_facts.specs.declared.saves.Prologue.{Prologue}
use Rattle.frame_facts.specs.After.{after_of}
use Rattle.frame_code.specs.declared.standing.Standing.{Standing}
use Rattle.frame_code.specs.declared.standing.Standing.TheVariants.{Instruction}
use Rattle.frame_graph.specs.declared.edges.Edge.{Edge}
use Rattle.frame_graph.specs.FlowGraph.{FlowGraph}
use Rattle.frame_graph.specs.Places.{address_of, place_of, is_code_of, standing_at}
use Rattle.frame_graph.specs.Sites.{site_at, edges_of, edges_from}
use Rattle.frame_code.specs.Branches.{reaches_next, branch_target}
use Rattle.frame_graph.specs.Edges.{edges_to, fall_through_edges, straight_by, straight_edges, is_undecodable, branches_out, instruction_at}
use Rattle.sim_machines.proofs.frame_reach.Stands.{stands_inside, stands_size}
use Rattle.sim_machines.specs.frame_check.Accepts.{Accepted}
use Rattle.sim_machines.specs.frame_check.Judged.{IsPlaced}
use Rattle.sim_machines.specs.frame_check.Roots.{flow_graph_of}
use Rattle.sim_machines.proofs.frame_check.Wells.{placed_at}
use Rattle.sim_machines.specs.Machine.{control_flow_trap}
use Rattle.sim_machines.specs.Activations.{Recorded, memory_of}
use Rattle.sim_machines.specs.Checked.{program_of}
use Rattle.thumb_isa.specs.declared.instr.Instr.TheVariants.{B, CmpHigh, Hint, Barrier, BCond, Cbz, BWide}
use Rattle.run_images.specs.Profiles.{profile_of}
use Rattle.thumb_core.specs.Step.{step_for}
use Rattle.thumb_ahead.specs.Ahead.{branches, pushed_registers}
use Rattle.thumb_core.specs.Outcome.{Outcome as Stepping}
use Rattle.thumb_core.specs.declared.ends.End.TheVariants as the_end
use Rattle.thumb_core.specs.declared.ends.TrapKind.TheVariants as kind
use Rattle.sim_relation.specs.Holds.{Holds}
use Rattle.sim_relation.specs.Chain.{code, StandsAt, StandsFirst}
use Rattle.sim_relation.specs.Stands.{Keeps, IsProgram, Turns, DoesAt}
use Rattle.sim_relation.proofs.Flows.{none_stands, goes_straight, stands_instruction}
use Rattle.sim_relation.proofs.Goes.{next_stands}
use Rattle.sim_relation.proofs.Moves.{moved_holds}
use Rattle.sim_relation.proofs.SimpleTurns.{fetch, simple_turns}

-- what is found at a place with a state stands there
pub not_found : (c : FramedFunction) (p : ℕ) (f : Fact) → NoneStands c → IsStateOf c p f → (cause : FrameCause) → Contains (causes_at c p f) cause → ⊥
not_found c p f none state cause h = none p cause (met state ((found_are_met c cause p f).1 h))

-- ---- code is even

even_code : (image : Image) (start a : ℕ) → start % 2 ≡ 0 → ((a == start) || is_code_in image a) ≡ true → a % 2 ≡ 0
even_code image start a h e = go (a == start) refl (a % 2 == 0) refl e
  where
    go : (b : Bool) → (a == start) ≡ b → (c : Bool) → (a % 2 == 0) ≡ c → (b || (c && list_any (λ s. holds a s && s.exec) image.segments && is_code_by_marks image.marks a)) ≡ true → a % 2 ≡ 0
    go true is c d f = let same : a ≡ start = eqb-true a start is in subst (λ x. x % 2 ≡ 0) (sym same) h
    go false is true d f = eqb-true (a % 2) 0 d
    go false is false d f = absurd cc

no_fall : (b : Bool) (end : End) → (if b then Some end else None) ≡ None → b ≡ false
no_fall true end h = absurd cc
no_fall false end h = refl

module _ (x : Accepted) (is : IsProgram x) (s : Recorded) (k : Keeps x s) (at : StandsAt x s.first s.segments s.regs s.regs.pc) (i : Instr) (size : ℕ)
    (stands : standing_at (flow_graph_of x.image at.function) at.place ≡ Instruction i size) where
  abbrev flow_graph : FlowGraph
  flow_graph = flow_graph_of x.image at.function

  placed : IsPlaced at.function
  placed = subst IsPlaced at.of.among.2 (placed_at x.image at.of.among.0 at.function is.image at.of.among.1)

  abbrev here : ℕ
  here = address_of flow_graph at.place

  abbrev p : Prologue
  p = (code x at.function at.marks).prologue

  abbrev lowering : Bool
  lowering = (code x at.function at.marks).lowers at.place

  none : NoneStands (code x at.function at.marks)
  none = none_stands x at.function at.marks is.sound at.of.among at.of.are

  -- the next address
  pub next_pc : even ((s.regs.pc + size) % 2 ^ 32) ≡ s.regs.pc + size
  next_pc =
      let inside = stands_inside flow_graph at.place i size stands in
      elim (stands_size flow_graph at.place i size stands) [
        | inl two ↦ omega (arith, at.address, inside, placed.low, k.sound.is_even, two)
        | inr four ↦ omega (arith, at.address, inside, placed.low, k.sound.is_even, four)
      ]

  -- on after it, where the tests let it pass
  pub straight_first : (g : Fact) (regs : Regs) → reaches_next i ≡ true → after_of p lowering here i at.fact ≡ Ok g → regs.pc ≡ s.regs.pc + size → Holds p g s.first s.segments regs
      → control_flow_trap (program_of x) false s.regs.pc Done regs ≡ None → StandsFirst x (record s { regs = regs })
  straight_first g regs on e pc holds edge reached =
      next_stands x is s k at i size stands g regs s.segments s.first refl on e pc holds reached (no_fall (begins_function x.image.functions regs.pc) (the_end.Trap kind.FellOff regs.pc s.regs.pc) edge)

  -- ---- a branch that is taken

  module _ (t : ℕ) (to : branch_target here i ≡ Some t) where
    at_instr : instruction_at flow_graph at.place ≡ Some i
    at_instr = stands_instruction flow_graph at.place i size stands

    not_out : (b : Bool) → branches_out flow_graph at.place ≡ b → b ≡ false
    unfolding causes_at
    not_out true e = absurd (not_found (code x at.function at.marks) at.place at.fact none at.state BranchOut
        (let first : Contains (cause_if (branches_out flow_graph at.place) BranchOut) BranchOut = rw e (contains_head BranchOut []) in
        Contains-append_right (cause_if (is_undecodable flow_graph at.place) Undecodable) _ BranchOut (Contains-append_left (cause_if (branches_out flow_graph at.place) BranchOut) _ BranchOut first)))
    not_out false e = refl

    is_code : is_code_of flow_graph t ≡ true
    is_code = go (is_code_of flow_graph t) (sym (ap (λ (o : Option Instr). option_map_or (λ a. not (is_code_of flow_graph a)) (option_and_then (branch_target here) o) false) at_instr
        ∙ ap (λ (o : Option ℕ). option_map_or (λ a. not (is_code_of flow_graph a)) o false) to) ∙ not_out (branches_out flow_graph at.place) refl)
      where
        go : (b : Bool) → not b ≡ false → b ≡ true
        go true h = refl
        go false h = absurd cc

    parts : (nat_le flow_graph.start t && nat_lt t flow_graph.end ≡ true) × (((t == flow_graph.start) || is_code_in x.image t) ≡ true)
    parts = and_parts (nat_le flow_graph.start t && nat_lt t flow_graph.end) ((t == flow_graph.start) || is_code_in x.image t) is_code

    pub target_even : t % 2 ≡ 0
    target_even = even_code x.image flow_graph.start t placed.even parts.1

    place_is : t ≡ address_of flow_graph ((t - flow_graph.start) / 2)
    place_is = let low = leb-true flow_graph.start t (and_parts (nat_le flow_graph.start t) (nat_lt t flow_graph.end) parts.0).0 in omega (arith, low, target_even, placed.even)

    edge : Contains (edges_of flow_graph at.place) (record { to = (t - flow_graph.start) / 2; clobbers = 0 })
    unfolding edges_of
    edge =
        let w : Edge = record { to = (t - flow_graph.start) / 2; clobbers = 0 } in
        let there : place_of flow_graph t ≡ Some ((t - flow_graph.start) / 2) = ap (λ (b : Bool). if b then Some ((t - flow_graph.start) / 2) else None) is_code in
        let one : Contains (edges_to 0 (option_and_then (place_of flow_graph) (branch_target here i))) w =
        subst (λ (o : Option ℕ). Contains (edges_to 0 (option_and_then (place_of flow_graph) o)) w) (sym to) (subst (λ (o : Option ℕ). Contains (edges_to 0 o) w) (sym there) (contains_head w [])) in
        let straight : Contains (straight_edges flow_graph at.place) w = subst (λ (u : Standing). Contains (straight_by flow_graph here u) w) (sym stands)
        (Contains-append_right (fall_through_edges flow_graph here i size) (edges_to 0 (option_and_then (place_of flow_graph) (branch_target here i))) w one) in
        Contains-append_left (straight_edges flow_graph at.place) (edges_from flow_graph (site_at flow_graph at.place)) w straight

    pub jump_first : (g : Fact) (regs : Regs) → after_of p lowering here i at.fact ≡ Ok g → regs.pc ≡ t → Holds p g s.first s.segments regs → StandsAt x s.first s.segments regs regs.pc
    jump_first g regs e pc holds = record {
      function = at.function;
      marks = at.marks;
      of = at.of;
      place = (t - flow_graph.start) / 2;
      address = pc ∙ place_is;
      fact = g;
      state = goes_straight (code x at.function at.marks) at.place at.fact none at.state i g ((t - flow_graph.start) / 2) at_instr e edge;
      holds = holds;
    }

  -- the same registers are as known
  pub same_holds : (regs : Regs) → regs.r ≡ s.regs.r → Holds p at.fact s.first s.segments regs
  same_holds regs same = moved_holds p at.fact s.first s.segments s.regs regs at.holds (λ j. inr (ap (λ (r : List ℕ). slice_index r j) same)) (ap (λ (r : List ℕ). slice_index r SP) same)

  -- a branch to t
  module _ (off : ℤ) (to : branch_target here i ≡ Some (forward (here + 4) off)) where
    pub lands_there : (with_pc s.regs (target_of off s.regs)).pc ≡ forward (here + 4) off
    lands_there =
        let inside = stands_inside flow_graph at.place i size stands in
        let four : (s.regs.pc + 4) % 2 ^ 32 ≡ here + 4 = elim (stands_size flow_graph at.place i size stands) [
          | inl two ↦ omega (arith, at.address, inside, placed.low, two)
          | inr wide ↦ omega (arith, at.address, inside, placed.low, wide)
        ] in
        let t = target_even (forward (here + 4) off) to in
        ap (λ n. even (forward n off % 2 ^ 32)) four ∙ whole (forward (here + 4) off) (small (here + 4)) t
      where
        small : (n : ℕ) → forward n off < 2 ^ 32
        small n = omega arith

        whole : (n : ℕ) → n < 2 ^ 32 → n % 2 ≡ 0 → even (n % 2 ^ 32) ≡ n
        whole n low e = omega (arith, low, e)

    pub branch_first : after_of p lowering here i at.fact ≡ Ok at.fact → StandsFirst x (record s { regs = with_pc s.regs (target_of off s.regs) })
    branch_first e reached = jump_first (forward (here + 4) off) to at.fact (with_pc s.regs (target_of off s.regs)) e lands_there (same_holds (with_pc s.regs (target_of off s.regs)) refl)

-- ---- the instructions

pub b_turns : (x : Accepted) (s : Recorded) (off : ℤ) (input : List ℕ) → IsProgram x → Keeps x s → DoesAt x s (B off) → Turns x s input
b_turns x s off input is k does =
    simple_turns x is s k does.at (B off) does.size does.stands (with_pc s.regs (target_of off s.regs)) (fetch x is s k does.at (B off) does.size does.stands).step refl refl
    (λ w. branch_first x is s k does.at (B off) does.size does.stands off refl refl) input does.reached

pub b_wide_turns : (x : Accepted) (s : Recorded) (off : ℤ) (input : List ℕ) → IsProgram x → Keeps x s → DoesAt x s (BWide off) → Turns x s input
b_wide_turns x s off input is k does =
    simple_turns x is s k does.at (BWide off) does.size does.stands (with_pc s.regs (target_of off s.regs)) (fetch x is s k does.at (BWide off) does.size does.stands).step refl refl
    (λ w. branch_first x is s k does.at (BWide off) does.size does.stands off refl refl) input does.reached

-- what goes on after it with the registers as they were
quiet_turns : (x : Accepted) (s : Recorded) (i : Instr) (between : Regs) (input : List ℕ) → IsProgram x → Keeps x s → (does : DoesAt x s i) → reaches_next i ≡ true → branches i s.regs ≡ false
    → pushed_registers i ≡ [] → ((q : Prologue) (l : Bool) (at : ℕ) (f : Fact) → after_of q l at i f ≡ Ok f) → step_for (profile_of x.image) s.regs (memory_of s) ≡ (Done, with_next does.size between, memory_of s)
    → between.r ≡ s.regs.r → between.pc ≡ s.regs.pc → Turns x s input
quiet_turns x s i between input is k does on taken pushes plain stepped same pc =
    let to : (with_next does.size between).pc ≡ s.regs.pc + does.size = ap (λ n. even ((n + does.size) % 2 ^ 32)) pc ∙ next_pc x is s k does.at i does.size does.stands in
    simple_turns x is s k does.at i does.size does.stands (with_next does.size between) stepped (ap (λ (r : List ℕ). slice_index r SP) same) pushes
    (λ w. straight_first x is s k does.at i does.size does.stands does.at.fact (with_next does.size between) on (plain (code x does.at.function does.at.marks).prologue ((code x does.at.function does.at.marks).lowers does.at.place) (address_of (flow_graph_of x.image does.at.function) does.at.place) does.at.fact) to
    (same_holds x is s k does.at i does.size does.stands (with_next does.size between) same)
    (subst (λ (b : Bool). control_flow_trap (program_of x) b s.regs.pc Done (with_next does.size between) ≡ None) taken w))
    input does.reached

pub cmp_high_turns : (x : Accepted) (s : Recorded) (n m : ℕ) (input : List ℕ) → IsProgram x → Keeps x s → DoesAt x s (CmpHigh n m) → Turns x s input
cmp_high_turns x s n m input is k does =
    quiet_turns x s (CmpHigh n m) _ input is k does refl refl refl (λ q l a f. refl) (fetch x is s k does.at (CmpHigh n m) does.size does.stands).step refl refl

pub hint_turns : (x : Accepted) (s : Recorded) (n : ℕ) (input : List ℕ) → IsProgram x → Keeps x s → DoesAt x s (Hint n) → Turns x s input
hint_turns x s n input is k does = quiet_turns x s (Hint n) s.regs input is k does refl refl refl (λ q l a f. refl) (fetch x is s k does.at (Hint n) does.size does.stands).step refl refl

pub barrier_turns : (x : Accepted) (s : Recorded) (op option : ℕ) (input : List ℕ) → IsProgram x → Keeps x s → DoesAt x s (Barrier op option) → Turns x s input
barrier_turns x s op option input is k does =
    quiet_turns x s (Barrier op option) s.regs input is k does refl refl refl (λ q l a f. refl) (fetch x is s k does.at (Barrier op option) does.size does.stands).step refl refl

pub bcond_turns : (x : Accepted) (s : Recorded) (cc : ℕ) (off : ℤ) (input : List ℕ) → IsProgram x → Keeps x s → DoesAt x s (BCond cc off) → Turns x s input
bcond_turns x s cc off input is k does = go (passes_condition cc s.regs) refl
  where
    step : step_for (profile_of x.image) s.regs (memory_of s) ≡ (Done, cond (passes_condition cc s.regs) (with_pc s.regs (target_of off s.regs)) (with_next does.size s.regs), memory_of s)
    step = (fetch x is s k does.at (BCond cc off) does.size does.stands).step

    go : (b : Bool) → passes_condition cc s.regs ≡ b → Turns x s input
    go true e =
        simple_turns x is s k does.at (BCond cc off) does.size does.stands (with_pc s.regs (target_of off s.regs))
        (step ∙ ap (λ (b : Bool). let o : Stepping = (Done, cond b (with_pc s.regs (target_of off s.regs)) (with_next does.size s.regs), memory_of s) in o) e) refl refl
        (λ w. branch_first x is s k does.at (BCond cc off) does.size does.stands off refl refl) input does.reached
    go false e =
        quiet_turns x s (BCond cc off) s.regs input is k does refl e refl (λ q l a f. refl)
        (step ∙ ap (λ (b : Bool). let o : Stepping = (Done, cond b (with_pc s.regs (target_of off s.regs)) (with_next does.size s.regs), memory_of s) in o) e) refl refl

pub cbz_turns : (x : Accepted) (s : Recorded) (nonzero : Bool) (n : ℕ) (off : ℤ) (input : List ℕ) → IsProgram x → Keeps x s → DoesAt x s (Cbz nonzero n off) → Turns x s input
cbz_turns x s nonzero n off input is k does = go (takes_branch nonzero (reg s.regs n)) refl
  where
    step : step_for (profile_of x.image) s.regs (memory_of s) ≡ (Done, cond (takes_branch nonzero (reg s.regs n)) (with_pc s.regs (target_of off s.regs)) (with_next does.size s.regs), memory_of s)
    step = (fetch x is s k does.at (Cbz nonzero n off) does.size does.stands).step

    go : (b : Bool) → takes_branch nonzero (reg s.regs n) ≡ b → Turns x s input
    go true e =
        simple_turns x is s k does.at (Cbz nonzero n off) does.size does.stands (with_pc s.regs (target_of off s.regs))
        (step ∙ ap (λ (b : Bool). let o : Stepping = (Done, cond b (with_pc s.regs (target_of off s.regs)) (with_next does.size s.regs), memory_of s) in o) e) refl refl
        (λ w. branch_first x is s k does.at (Cbz nonzero n off) does.size does.stands off refl refl) input does.reached
    go false e =
        quiet_turns x s (Cbz nonzero n off) s.regs input is k does refl e refl (λ q l a f. refl)
        (step ∙ ap (λ (b : Bool). let o : Stepping = (Done, cond b (with_pc s.regs (target_of off s.regs)) (with_next does.size s.regs), memory_of s) in o) e) refl refl
