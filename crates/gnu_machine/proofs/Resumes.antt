-- The end of a cleanup that goes on lands at a pad.
use Rattle.std.proofs.Common.{◌≡◌, ℕ, ◌<◌, ◌==◌, ◌&&◌, inl, Bool, true, false, cond, List, [], ◌∷◌, length, Option, Some, None, refl, sym, ap, subst, ◌∙◌}
use Rattle.std.specs.Prelude.{option_and_then, slice_index}
use Rattle.std.proofs.lemmas.Bool.{eqb-true}
use Rattle.std.proofs.lemmas.Option.{none-some}
use Rattle.eh_bus.specs.Lists.{Has}
use Rattle.eh_cxa.proofs.Pools.{slot_small}
use Rattle.eh_cxa.specs.Lists.{Cleanup, slots, entry, state_in}
use Rattle.eh_cxa.specs.Stands as cxa
use Rattle.eh_cxa.specs.Throw.{barrier_of}
use Rattle.eh_cxa.specs.Words.{word}
use Rattle.eh_cxa.specs.declared.layout.TheConstants.{SLOTS, NEXT_CLEANUP}
use Rattle.eh_cxa.specs.declared.state.State.TheVariants.{Flying}
use Rattle.eh_gates.specs.State.{Tables}
use Rattle.eh_gates.specs.declared.state.Turned.TheVariants.{Went, Ended}
use Rattle.eh_phase.specs.Frames.{entry_contents_at}
use Rattle.frame_check.specs.Accepts.{Accepted}
use Rattle.frame_check.specs.Roots.{flow_graph_of}
use Rattle.frame_graph.specs.Edges.{instruction_at}
use Rattle.frame_graph.specs.Places.{address_of}
use Rattle.frame_graph.specs.Sites.{site_of}
use Rattle.sim_frames.proofs.Landing.{fit_frames, rise_outside}
use Rattle.sim_frames.proofs.Outwards.{at_sp}
use Rattle.sim_frames.specs.Landings.{Fit}
use Rattle.sim_resumes.specs.Outside.{IsOutside}
use Rattle.sim_resumes.specs.ResumeLaws.{CleanupsAreOutside}
use Rattle.sim_relation.proofs.Goes.{chain_top}
use Rattle.sim_relation.specs.Chain.{StandsAtCall, Chain}
use Rattle.sim_relation.specs.Cleanups.{goal_at, AreInProgress}
use Rattle.sim_relation.specs.Stands.{Keeps, IsProgram}
use Rattle.thumb_core.specs.declared.ends.End.TheVariants as the_end
use Rattle.thumb_core.specs.declared.ends.TrapKind.TheVariants as kind
use Rattle.thumb_core.specs.declared.regs.TheConstants.{SP}
use Rattle.thumb_isa.specs.declared.instr.Instr.{Instr}
use Rattle.sim_machines.specs.Activations.{Activation, InProgress, Recorded, reg_in, memory_of, heads, registers_of, frames_at, lists_of, cleanups_in}
use Rattle.sim_machines.specs.ActivationMachine as machine
use Rattle.sim_machines.specs.Checked.{program_of}
use Rattle.sim_machines.specs.Program.{program_tables}
use Rattle.gnu_machine.proofs.Events.{not_went}
use Rattle.gnu_machine.proofs.Lands.{Arrived, arrives}
use Rattle.gnu_machine.proofs.PadStates.{SiteState}

some_instr : (address site : ℕ) (o : Option Instr) → option_and_then (site_of address) o ≡ Some site → (i : Instr) × (o ≡ Some i)
some_instr address site None e = absurd (none-some site e)
some_instr address site (Some i) e = (i, refl)

module _ (x : Accepted) (is : IsProgram x) (s t : Recorded) (k : Keeps x s) (outside : CleanupsAreOutside) where
  abbrev g : Tables
  g = program_tables (program_of x)

  -- the innermost cleanup ends in the activation that its own one called
  module _ (c : InProgress) (others : List InProgress) (cleanups : s.cleanups ≡ c ∷ others) (same_sp : s.first.caller.sp ≡ c.cleanup.sp) where
    in_progress : AreInProgress x s (reg_in s SP) (c ∷ others)
    in_progress = subst (AreInProgress x s (reg_in s SP)) cleanups k.cleanups

    holder : IsOutside x s.segments (goal_at s c.cleanup.slot) c.place c.cleanup s.outer
    holder = outside x s (reg_in s SP) c others k.chain in_progress same_sp

    at : SiteState x holder.first.function c.cleanup.site
    at =
        let e = holder.entered in
        let i = some_instr (address_of (flow_graph_of x.image e.function) e.place) c.cleanup.site (instruction_at (flow_graph_of x.image e.function) e.place) e.site in
        record {
          function = e.function;
          marks = e.marks;
          of = e.of;
          place = e.place;
          fact = e.fact;
          state = e.state;
          instr = i.0;
          at = i.1;
          is_site = e.site;
        }

    links : StandsAtCall x s.segments s.first.caller holder.first × Chain x s.segments s.home holder.first.caller holder.more
    links = let ch = subst (Chain x s.segments s.home s.first.caller) holder.is k.chain in (ch.0, ch.1)

    sp_is : slice_index (registers_of s.first.caller) SP ≡ s.first.caller.sp
    sp_is = at_sp s.first.caller k.whole.count

    listed : cleanups_in s.cleanups ≡ c.cleanup ∷ cleanups_in others
    listed = ap cleanups_in cleanups

    small : c.cleanup.slot < SLOTS
    small =
        let chain = subst (λ (cs : List Cleanup). cxa.Chain (λ u. word (memory_of s) u NEXT_CLEANUP) (heads (lists_of s)).cleanup (slots cs)) listed k.corresponds.stands.shows.cleanups in
        slot_small (heads (lists_of s)).cleanup c.cleanup.slot chain.0

    flies : state_in (entry (lists_of s) c.cleanup.slot) ≡ Some Flying
    flies = k.corresponds.stands.valid.flying c.cleanup.slot (subst (λ (cs : List Cleanup). Has (slots cs) c.cleanup.slot) (sym listed) (inl refl))

    goes_arrives : (a : Activation) (outer : List Activation) → s.outer ≡ a ∷ outer
        → machine.continue_flight g (record s { cleanups = others }) c.cleanup s.first.caller a outer (barrier_of (word (memory_of s)) (Some c.cleanup.slot)) ≡ (Went, t) → Arrived x s t
    goes_arrives a outer is_outer e =
        let same : a ∷ outer ≡ holder.first ∷ holder.more = sym is_outer ∙ holder.is in
        let one : a ≡ holder.first = cc in
        let rest : outer ≡ holder.more = cc in
        let q : machine.continue_flight g (record s { cleanups = others }) c.cleanup s.first.caller holder.first holder.more (barrier_of (word (memory_of s)) (Some c.cleanup.slot)) ≡ (Went, t) =
        subst (λ (acts : List Activation). machine.continue_flight g (record s { cleanups = others }) c.cleanup s.first.caller holder.first acts (barrier_of (word (memory_of s)) (Some c.cleanup.slot)) ≡ (Went, t)) rest
        (subst (λ (b : Activation). machine.continue_flight g (record s { cleanups = others }) c.cleanup s.first.caller b outer (barrier_of (word (memory_of s)) (Some c.cleanup.slot)) ≡ (Went, t)) one e) in
        arrives x is s t (record s { cleanups = others }) c.cleanup.slot small flies k.corresponds.stands.shows.sized refl s.segments k.corresponds.map.segments s.home holder.first holder.more c.cleanup.site
        (registers_of s.first.caller) at links.0.whole links.1 s.first.caller.sp (chain_top x s.segments s.home s.first.caller s.outer k.chain)
        (subst (λ (n : ℕ). Fit n (frames_at x.image None c.cleanup.site (registers_of s.first.caller) holder.first holder.more).frames (holder.first ∷ holder.more)) sp_is
        (fit_frames x s.segments s.home None c.cleanup.site (registers_of s.first.caller) holder.first holder.more links.0.whole links.1))
        (rise_outside x s.segments s.home s.first.caller (holder.first ∷ holder.more) (links.0, links.1))
        (goal_at s c.cleanup.slot) c.cleanup.next (barrier_of (word (memory_of s)) (Some c.cleanup.slot)).object q

  pub resume_arrives : machine.end_cleanup_gate g s ≡ (Went, t) → Arrived x s t
  resume_arrives e = by_cleanups s.cleanups refl e
    where
      by_place : (c : InProgress) (others : List InProgress) → s.cleanups ≡ c ∷ others → (a : Activation) (outer : List Activation) → s.outer ≡ a ∷ outer → machine.resumes_in g s c others (a ∷ outer) ≡ (Went, t) → Arrived x s t
      by_place c others is_cleanups a outer is_outer q = go (s.first.caller.sp == c.cleanup.sp) refl (length outer == c.place) q
        where
          go : (p : Bool) → (s.first.caller.sp == c.cleanup.sp) ≡ p → (d : Bool)
              → cond (p && d) (machine.continue_flight g (record s { cleanups = others }) c.cleanup s.first.caller a outer (barrier_of (word (memory_of s)) (Some c.cleanup.slot)))
              (Ended (the_end.Trap kind.CleanupElsewhere s.first.caller.sp s.regs.pc), s) ≡ (Went, t) → Arrived x s t
          go true f true q = goes_arrives c others is_cleanups (eqb-true s.first.caller.sp c.cleanup.sp f) a outer is_outer q
          go true f false q = absurd (not_went _ s t q)
          go false f d q = absurd (not_went _ s t q)

      by_acts : (c : InProgress) (others : List InProgress) → s.cleanups ≡ c ∷ others → (acts : List Activation) → s.outer ≡ acts → machine.resumes_in g s c others acts ≡ (Went, t) → Arrived x s t
      by_acts c others is_cleanups [] is_outer q = absurd (not_went _ s t q)
      by_acts c others is_cleanups (a ∷ outer) is_outer q = by_place c others is_cleanups a outer is_outer q

      by_unwind : (c : InProgress) (others : List InProgress) → s.cleanups ≡ c ∷ others → (b : Bool)
          → cond b (machine.resumes_in g s c others s.outer) (Ended (the_end.Trap kind.CleanupElsewhere 0 s.regs.pc), s) ≡ (Went, t) → Arrived x s t
      by_unwind c others is_cleanups true q = by_acts c others is_cleanups s.outer refl q
      by_unwind c others is_cleanups false q = absurd (not_went _ s t q)

      by_cleanups : (cs : List InProgress) → s.cleanups ≡ cs → machine.resume_outcome g s cs ≡ (Went, t) → Arrived x s t
      by_cleanups [] f q = absurd (not_went _ s t q)
      by_cleanups (c ∷ others) f q = by_unwind c others f (machine.can_unwind (entry_contents_at g.image s.regs.pc)) q
