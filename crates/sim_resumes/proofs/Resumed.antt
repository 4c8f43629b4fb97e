-- At the end of a cleanup the caller of the gate's frame is the one recorded, and the frames from the kept site are those of the recorded
-- activations: one entry covers the kept site and the call from which the registers are.
use Rattle.std.proofs.Common.{◌≡◌, ℕ, ◌⊎◌, true, false, List, Some, None, inl, inr, refl, ap, ◌∙◌, ◌≤◌, ◌+◌, ◌^◌, ◌<◌, Option, subst, arith, ◌∷◌, sym}
use Rattle.std.specs.Prelude.{Result, Ok, Err, option_and_then, slice_index}
use Rattle.std.proofs.lemmas.Option.{none-some}
use Rattle.std.proofs.lemmas.List.Elements.{All-contains}
use Rattle.elf_image.specs.Image.{Image}
use Rattle.eh_bus.specs.Segment.{Segment}
use Rattle.eh_phase.specs.Frames.{entry_contents_at, caller_at, caller_of, caller_by, entry_contents, Stack, site_of, frames_of}
use Rattle.sim_machines.specs.Activations.{Caller, Activation, Recorded, registers_of, memory_of, frames_at}
use Rattle.sim_machines.specs.ActivationMachine.{can_unwind, has_recipe}
use Rattle.eh_codes.specs.Cut.{split_codes}
use Rattle.eh_bytecode.specs.Meaning.{unwind_result}
use Rattle.eh_bytecode.specs.declared.frame.UnwindEnd.{UnwindEnd}
use Rattle.frame_graph.specs.Reach.{IsReached}
use Rattle.frame_graph.specs.FlowGraph.{FlowGraph}
use Rattle.frame_graph.specs.Sites.{site_at}
use Rattle.frame_check.specs.Accepts.{IsWell, Accepted}
use Rattle.thumb_isa.specs.declared.instr.Instr.{Instr}
use Rattle.elf_image.specs.Functions.{Function}
use Rattle.frame_graph.specs.Places.{address_of}
use Rattle.frame_graph.specs.Edges.{instruction_at}
use Rattle.frame_check.specs.frame_reach.Marks.{Marks}
use Rattle.frame_check.proofs.frame_reach.Found.{inside}
use Rattle.frame_facts.specs.declared.facts.Fact.{Fact}
use Rattle.frame_flow.specs.Flows.{IsStateOf}
use Rattle.frame_flow.proofs.Reaching.{state_reached}
use Rattle.frame_check.specs.Judged.{IsPlaced}
use Rattle.frame_check.specs.Roots.{flow_graph_of}
use Rattle.frame_check.proofs.Wells.{placed_at}
use Rattle.eh_bus.specs.Map.{AreSegments}
use Rattle.eh_bus.specs.Memory.{Memory, load_number}
use Rattle.eh_bus.specs.declared.map.TheConstants.{STACK_START, STACK_END}
use Rattle.eh_cxa.specs.Lists.{Cleanup}
use Rattle.eh_cxa.specs.Words.{Write, set_slot_words}
use Rattle.eh_cxa.proofs.Pools.{all_is_map}
use Rattle.thumb_core.specs.Registers.{all_of}
use Rattle.eh_phase.specs.Calls.{stack_of}
use Rattle.eh_phase.specs.Phases.{Frames}
use Rattle.eh_phase.specs.declared.phase2.Goal.{Goal}
use Rattle.eh_phase.proofs.Whole.{frames_are_whole}
use Rattle.sim_machines.specs.Agreeing.{Agree}
use Rattle.sim_machines.specs.Throws.{AreInPool}
use Rattle.sim_machines.proofs.FirstEvent.{segments_alone}
use Rattle.frame_graph.specs.Sites as flow_graph_site
use Rattle.sim_throws.proofs.sim_frames.Outwards.{IsNew, Unwinds, none_stop, hands, walk, out, from_first, at_sp, at_pc}
use Rattle.sim_steps.proofs.sim_code.Results.{refusing}
use Rattle.sim_steps.proofs.sim_code.Entries.{entry_of_start}
use Rattle.sim_throws.proofs.sim_frames.Agreement.{site_low, chain_there, pool_stack}
use Rattle.sim_steps.specs.sim_relation.Chain.{IsOf, code, StandsAtCall, Chain}
use Rattle.sim_steps.specs.sim_relation.Stands.{IsProgram, Keeps}
use Rattle.sim_steps.specs.sim_relation.Holds.{IsWhole}
use Rattle.sim_steps.specs.sim_relation.Cleanups.{IsEntered}
use Rattle.sim_throws.specs.sim_frames.Frames.{IsSiteOf}
use Rattle.sim_throws.proofs.sim_frames.CodeBytes.{codes_are_recipes}
use Rattle.sim_steps.proofs.sim_relation.Goes.{chain_top}
use Rattle.sim_throws.proofs.sim_frames.Sites.{unwinds_outside}
use Rattle.sim_throws.proofs.sim_frames.Agreement as agreement

-- ---- the caller of a frame

-- a frame's codes give the caller that its activation recorded, exactly where they have a recipe
abbrev pub HasCaller : Image → List Segment → ℕ → List ℕ → Caller → Type 0
HasCaller image segments site r c =
    ((caller_at image segments site r ≡ None) × (can_unwind (entry_contents_at image site) ≡ false))
    ⊎ ((new : List ℕ) × (caller_at image segments site r ≡ Some (record { r = new })) × (can_unwind (entry_contents_at image site) ≡ true) × IsNew c new)

pub caller_found : (image : Image) (segments : List Segment) (site : ℕ) (r : List ℕ) (c : Caller) → Unwinds image segments site r c → HasCaller image segments site r c
caller_found image segments site r c (inl none) = inl (ap (caller_by segments r) none, ap can_unwind none)
caller_found image segments site r c (inr (inl stuck)) = inl (
  ap (caller_by segments r) stuck.covers ∙ go (unwind_result segments r (split_codes stuck.covered.codes)) refl,
  ap can_unwind stuck.covers ∙ ap has_recipe stuck.refuses,
)
  where
    go : (o : Result (List ℕ) UnwindEnd) → unwind_result segments r (split_codes stuck.covered.codes) ≡ o → caller_of o ≡ None
    go (Ok new) e = absurd (refusing segments r new (split_codes stuck.covered.codes) stuck.refuses e)
    go (Err why) e = refl
caller_found image segments site r c (inr (inr goes)) = inr (
  goes.new,
  ap (caller_by segments r) goes.covers ∙ ap caller_of goes.unwinds,
  ap can_unwind goes.covers ∙ ap has_recipe goes.recipe,
  goes.is,
)

-- ---- sites of one function

pub covered_of_start : (s : FlowGraph) (p site : ℕ) → IsWell s → IsReached s p → site_at s p ≡ Some site → s.start ≤ site → entry_contents_at s.image site ≡ entry_contents_at s.image s.start
unfolding entry_contents_at
covered_of_start s p site w r is low = ap (entry_contents s.image) (entry_of_start s p site w r is low)

moved_unwinds : (image : Image) (segments : List Segment) (site other : ℕ) (r : List ℕ) (c : Caller) → entry_contents_at image site ≡ entry_contents_at image other → Unwinds image segments other r c → Unwinds image segments site r c
moved_unwinds image segments site other r c e (inl none) = inl (e ∙ none)
moved_unwinds image segments site other r c e (inr (inl stuck)) = inr (inl (record { covered = stuck.covered; covers = e ∙ stuck.covers; refuses = stuck.refuses }))
moved_unwinds image segments site other r c e (inr (inr goes)) = inr (inr (record {
  covered = goes.covered;
  covers = e ∙ goes.covers;
  of = goes.of;
  recipe = goes.recipe;
  new = goes.new;
  unwinds = goes.unwinds;
  is = goes.is;
}))

pub site_there : (a site : ℕ) (o : Option Instr) → a + 2 < 2 ^ 32 → option_and_then (flow_graph_site.site_of a) o ≡ Some site → a ≤ site
site_there a site None l e = absurd (none-some site e)
site_there a site (Some i) l e = site_low a site i l e

-- every site of a reached place of the function at an address is covered by what covers that address
pub covered_of_function : (x : Accepted) → IsProgram x → (start : ℕ) (f : Function) (m : Marks) → IsOf x start f m → (p : ℕ) (fact : Fact) → IsStateOf (code x f m) p fact → (site : ℕ)
    → site_at (flow_graph_of x.image f) p ≡ Some site → entry_contents_at x.image site ≡ entry_contents_at x.image start
covered_of_function x is start f m of p fact state site e =
    let reached : IsReached (flow_graph_of x.image f) p = state_reached (code x f m) p fact state in
    let placed : IsPlaced f = subst IsPlaced of.among.2 (placed_at x.image of.among.0 f is.image of.among.1) in
    let below : address_of (flow_graph_of x.image f) p + 2 < 2 ^ 32 = elim (inside (flow_graph_of x.image f) p reached) [
      | inl zero_place ↦ omega (arith, zero_place, placed.some, placed.low)
      | inr low ↦ omega (arith, low, placed.low)
    ] in
    let above = site_there (address_of (flow_graph_of x.image f) p) site (instruction_at (flow_graph_of x.image f) p) below e in
    covered_of_start (flow_graph_of x.image f) p site (All-contains (λ (g : Function). IsWell (flow_graph_of x.image g)) x.image.functions f is.sound.functions of.among) reached e (omega (arith, above))
    ∙ ap (entry_contents_at x.image) of.begins

-- ---- the end of a cleanup

module _ (x : Accepted) (is : IsProgram x) (s : Recorded) (k : Keeps x s) where
  -- the caller of the first activation at a site
  pub first_caller : (site : ℕ) → IsSiteOf x s site → HasCaller x.image s.segments site (all_of s.regs) s.first.caller
  first_caller site here = caller_found x.image s.segments site (all_of s.regs) s.first.caller (agreement.first_unwinds x is (codes_are_recipes x is) s k site here s.segments k.corresponds.map.segments (λ g l h. refl))

  module _ (a : Activation) (more : List Activation) (outer_is : s.outer ≡ a ∷ more) where
    links : StandsAtCall x s.segments s.first.caller a × Chain x s.segments s.home a.caller more
    links = let c = subst (Chain x s.segments s.home s.first.caller) outer_is k.chain in (c.0, c.1)

    bottom : STACK_START ≤ s.first.caller.sp
    bottom = let a = k.corresponds.map.home.low in let b = k.low in let c = k.high in omega (arith, a, b, c)

    roof : s.home.1 ≤ STACK_END
    roof = k.corresponds.map.home.high

    -- The frames from the kept site of a cleanup that was entered in the activation outside the gate's, with the registers at the call of the
    -- gate's function.
    pub kept_frames : (segments : List Segment) → AreSegments segments → ((g : ℕ) → STACK_START ≤ g → g + 4 ≤ STACK_END → load_number 4 segments g ≡ load_number 4 s.segments g)
        → (g : Goal) (c : Cleanup) → IsEntered x s.segments g c a more → (new : List ℕ) → IsNew s.first.caller new
        → Agree (frames_of x.image (record { segments = segments; end = s.home.1 }) None c.site new) (frames_at x.image None c.site (registers_of s.first.caller) a more)
    kept_frames segments are same g c entered new n =
        subst (λ (fs : Frames). Agree fs (frames_at x.image None c.site (registers_of s.first.caller) a more)) (sym (frames_are_whole x.image stack None true c.site new roof))
        (walk x is segments s.home roof None None each true c.site new (registers_of s.first.caller) a more at_kept (hands s.first.caller new k.whole n) (n.sp ∙ sym (at_sp s.first.caller k.whole.count))
        (λ newer m. out x is segments s.home roof None None each a.caller more moved.1 links.0.whole (let low = bottom in let room = links.0.room in omega (arith, low, room)) (none_stop a.caller more) true (slice_index new 13)
        (from_first x is segments s.home roof None None each (slice_index new 13) a.caller.sp (let sp = n.sp in let room = links.0.room in omega (arith, sp, room)) (chain_top x s.segments s.home a.caller more links.1)) newer m))
      where
        stack : Stack
        stack = record { segments = segments; end = s.home.1 }

        each : (c : Caller) (b : Activation) (newer : List ℕ) → StandsAtCall x segments c b → IsWhole c → STACK_START ≤ c.sp → b.caller.sp ≤ STACK_END → IsNew c newer
            → Unwinds x.image segments (site_of (registers_of c)) newer b.caller
        each c b newer out whole low t m = unwinds_outside x is (codes_are_recipes x is) segments are c b out newer (at_pc c whole.count) whole low t m

        moved : StandsAtCall x segments s.first.caller a × Chain x segments s.home a.caller more
        moved = let ch = chain_there s.segments segments same x s.home roof s.first.caller (a ∷ more) bottom (links.0, links.1) in (ch.0, ch.1)

        call_covered : entry_contents_at x.image (site_of (registers_of s.first.caller)) ≡ entry_contents_at x.image a.function
        call_covered =
            covered_of_function x is a.function links.0.function links.0.marks links.0.of links.0.place links.0.fact links.0.state (site_of (registers_of s.first.caller))
            (agreement.called_site x is (codes_are_recipes x is) s.segments k.corresponds.map.segments s.first.caller a links.0 k.whole)

        kept_covered : entry_contents_at x.image c.site ≡ entry_contents_at x.image a.function
        kept_covered = covered_of_function x is a.function entered.function entered.marks entered.of entered.place entered.fact entered.state c.site entered.site

        at_kept : Unwinds x.image segments c.site new a.caller
        at_kept =
            moved_unwinds x.image segments c.site (site_of (registers_of s.first.caller)) new a.caller (kept_covered ∙ sym call_covered)
            (each s.first.caller a new moved.0 k.whole bottom (let t = chain_top x s.segments s.home a.caller more links.1 in let r = roof in omega (arith, t, r)) n)

    -- so after the words that the end of the cleanup writes into the pool
    pub kept_frames_after : (ws : List Write) → AreInPool ws → (g : Goal) (c : Cleanup) → IsEntered x s.segments g c a more → (new : List ℕ) → IsNew s.first.caller new
        → Agree (frames_of x.image (stack_of (set_slot_words ws (memory_of s))) None c.site new) (frames_at x.image None c.site (registers_of s.first.caller) a more)
    kept_frames_after ws h g c entered new n =
        subst (λ (m : Memory). Agree (frames_of x.image (stack_of m) None c.site new) (frames_at x.image None c.site (registers_of s.first.caller) a more)) (sym (segments_alone ws (memory_of s)))
        (kept_frames (set_slot_words ws (memory_of s)).segments (all_is_map ws (memory_of s) k.corresponds.map).segments (λ q l t. pool_stack ws (memory_of s) h q l) g c entered new n)
