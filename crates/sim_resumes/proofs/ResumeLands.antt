-- The end of a cleanup whose throw goes on: phase 2 from the kept site enters a cleanup or the barrier, in an activation outside the gate's.
use Rattle.std.proofs.Common.{◌≡◌, ℕ, List, ◌∷◌, ◌<◌, ◌^◌, inl, inr, true, ◌++◌, Option, Some, None, refl, sym, ap, subst, ◌∙◌, arith}
use Rattle.std.specs.Prelude.{All, slice_index, unwrap_or}
use Rattle.eh_cxa.specs.Lists.{Cleanup, Once, slots}
use Rattle.frame_check.specs.Accepts.{Accepted}
use Rattle.sim_machines.specs.Activations.{Recorded, Activation, slots_of, registers_of, memory_of, heads as list_heads, outer_frames, frames_at, lists_of, cleanups_in, InProgress}
use Rattle.eh_bus.specs.Lists.{Has}
use Rattle.eh_cxa.specs.Stands.{cleanup_of}
use Rattle.eh_cxa.specs.Words.{word, block_slot}
use Rattle.eh_cxa.specs.declared.layout.TheConstants.{SLOTS, CLEANUP_SITE, NEXT_CLEANUP}
use Rattle.eh_cxa.proofs.Pools.{slot_small}
use Rattle.eh_phase.specs.Calls.{stack_of}
use Rattle.eh_phase.specs.Cleanups.{is_reached}
use Rattle.eh_phase.specs.Firsts.{first_some}
use Rattle.eh_phase.specs.Frames.{MOST_FRAMES, frames_of}
use Rattle.eh_phase.specs.Laws.{IsInOrder}
use Rattle.eh_phase.specs.Phases.{Frames, enter_at_place, places, phase2}
use Rattle.eh_phase.specs.declared.phase2.Entered.{Entered}
use Rattle.eh_phase.specs.declared.phase2.Goal.{Goal}
use Rattle.eh_phase.proofs.Reached.{Heads, heads}
use Rattle.eh_phase.proofs.Whole.{all_in_order}
use Rattle.thumb_core.specs.declared.regs.TheConstants.{SP}
use Rattle.sim_machines.specs.Agreeing.{Agree}
use Rattle.sim_machines.specs.Landings.{IsInFlight, AreBelow, Lands}
use Rattle.eh_cxa.specs.Stands as cxa
use Rattle.eh_phase.specs.Laws as phase_law
use Rattle.eh_phase.specs.declared.phase2.Entered.TheVariants as enters
use Rattle.sim_machines.specs.ActivationMachine as machine
use Rattle.sim_steps.specs.sim_relation.Cleanups.{goal_at}
use Rattle.sim_throws.proofs.sim_frames.Outwards.{IsNew, at_sp}
use Rattle.sim_resumes.specs.Outside.{IsOutside}
use Rattle.sim_steps.specs.sim_relation.Chain.{StandsAtCall, Chain}
use Rattle.sim_steps.specs.sim_relation.Stands.{Keeps, IsProgram}
use Rattle.sim_steps.proofs.sim_relation.Goes.{chain_top}
use Rattle.sim_throws.proofs.Landable.{AreSmall, Good, AllGood, good_at, good_framed, good_outside, small_next}
use Rattle.sim_throws.specs.sim_frames.Landings.{Fit, LandsIn, OfFrame}
use Rattle.sim_throws.proofs.sim_frames.Landing.{lands_in, fit_frames, rise_outside, has_either}
use Rattle.sim_throws.proofs.sim_frames.ReachBySp.{reached_by_sp}
use Rattle.sim_resumes.proofs.Resumed.{kept_frames}
use Rattle.sim_throws.proofs.ThrowReached.{order_alike}

-- The innermost cleanup in progress ends in the activation that its own one called at the landing sp. The new registers are those that unwinding
-- gives of the gate's frame.
pub record Resumes (x : Accepted) (s : Recorded) : Type 0 where
  pub ends : InProgress
  pub others : List InProgress
  pub cleanups : s.cleanups ≡ ends ∷ others
  pub holder : IsOutside x s.segments (goal_at s ends.cleanup.slot) ends.place ends.cleanup s.outer
  pub called : s.first.caller.sp ≡ ends.cleanup.sp
  pub new : List ℕ
  pub is_new : IsNew s.first.caller new

module _ (x : Accepted) (is : IsProgram x) (s : Recorded) (k : Keeps x s) (r : Resumes x s) where
  abbrev pub c : Cleanup
  c = r.ends.cleanup

  abbrev pub a : Activation
  a = r.holder.first

  abbrev pub outer : List Activation
  outer = r.holder.more

  abbrev pub goal : Goal
  goal = goal_at s r.ends.cleanup.slot

  -- phase 2 goes over these
  abbrev pub frames : Frames
  frames = frames_at x.image None r.ends.cleanup.site (registers_of s.first.caller) r.holder.first r.holder.more

  -- the state without the cleanup
  abbrev pub ended : Recorded
  ended = record s { cleanups = r.others }

  pub links : StandsAtCall x s.segments s.first.caller a × Chain x s.segments s.home a.caller outer
  links = let ch = subst (Chain x s.segments s.home s.first.caller) r.holder.is k.chain in (ch.0, ch.1)

  pub sp_is : slice_index (registers_of s.first.caller) SP ≡ s.first.caller.sp
  sp_is = at_sp s.first.caller k.whole.count

  -- ---- the words of the cleanup

  pub listed : cleanups_in s.cleanups ≡ r.ends.cleanup ∷ cleanups_in r.others
  listed = ap cleanups_in r.cleanups

  chain : cxa.Chain (λ t. word (memory_of s) t NEXT_CLEANUP) (list_heads (lists_of s)).cleanup (slots (r.ends.cleanup ∷ cleanups_in r.others))
  chain = subst (λ (cs : List Cleanup). cxa.Chain (λ t. word (memory_of s) t NEXT_CLEANUP) (list_heads (lists_of s)).cleanup (slots cs)) listed k.corresponds.stands.shows.cleanups

  pub head : block_slot (list_heads (lists_of s)).cleanup ≡ Some r.ends.cleanup.slot
  head = chain.0

  pub small : r.ends.cleanup.slot < SLOTS
  small = slot_small (list_heads (lists_of s)).cleanup r.ends.cleanup.slot head

  pub words : r.ends.cleanup ≡ cleanup_of (word (memory_of s)) r.ends.cleanup.slot
  words = (subst (λ (cs : List Cleanup). cxa.Frames (word (memory_of s)) cs) listed k.corresponds.stands.shows.frames).0

  small_site : r.ends.cleanup.site < 2 ^ 32
  small_site =
      let e : r.ends.cleanup.site ≡ word (memory_of s) r.ends.cleanup.slot CLEANUP_SITE = ap (λ (d : Cleanup). d.site) words in
      let h = k.corresponds.stands.shows.small r.ends.cleanup.slot CLEANUP_SITE small (omega arith) in
      omega (arith, e, h)

  pub in_flight : IsInFlight ended r.ends.cleanup.slot
  in_flight = record {
    small = small;
    flies = k.corresponds.stands.valid.flying r.ends.cleanup.slot (subst (λ (cs : List Cleanup). Has (slots cs) r.ends.cleanup.slot) (sym listed) (inl refl));
    idle = (subst (λ (cs : List Cleanup). Once (slots cs)) listed k.corresponds.stands.valid.cleanups_once).0;
  }

  -- ---- phase 2

  pub reached : is_reached goal r.ends.cleanup.next frames.frames ≡ true
  reached = reached_by_sp goal r.ends.cleanup.next x.image r.ends.cleanup.site (registers_of s.first.caller) r.ends.cleanup.sp a outer (sp_is ∙ r.called) ∙ r.holder.entered.reach

  first : Heads goal (places r.ends.cleanup.next frames.frames)
  first = heads goal (places r.ends.cleanup.next frames.frames) reached

  entered_is : first_some (enter_at_place goal) (places r.ends.cleanup.next frames.frames) ≡ Some (phase2 goal r.ends.cleanup.next frames)
  unfolding phase2
  entered_is = first.first ∙ ap Some (sym (ap (λ (o : Option Entered). unwrap_or o (enters.Terminate frames.last)) first.first))

  -- it never ends without
  pub resume_enters : phase_law.Lands (phase2 goal r.ends.cleanup.next frames)
  unfolding phase2
  resume_enters = subst (λ (e : Entered). phase_law.Lands e) (sym (ap (λ (o : Option Entered). unwrap_or o (enters.Terminate frames.last)) first.first)) first.lands

  -- what it enters
  pub there : LandsIn goal r.ends.cleanup.next s.home.1 s.first.caller.sp frames.frames (a ∷ outer) (phase2 goal r.ends.cleanup.next frames)
  there =
      lands_in goal r.ends.cleanup.next s.home.1 s.first.caller.sp frames.frames (a ∷ outer) (phase2 goal r.ends.cleanup.next frames) (chain_top x s.segments s.home s.first.caller s.outer k.chain)
      (subst (λ (n : ℕ). Fit n frames.frames (a ∷ outer)) sp_is (fit_frames x s.segments s.home None r.ends.cleanup.site (registers_of s.first.caller) a outer links.0.whole links.1))
      (rise_outside x s.segments s.home s.first.caller (a ∷ outer) (links.0, links.1)) entered_is

  -- the frames over the bytes are these
  pub kept : Agree (frames_of x.image (stack_of (memory_of s)) None r.ends.cleanup.site r.new) frames
  kept = kept_frames x is s k a outer r.holder.is s.segments k.corresponds.map.segments (λ g l h. refl) goal r.ends.cleanup r.holder.entered r.new r.is_new

  pub in_order : All IsInOrder frames.frames
  in_order =
      order_alike (frames_of x.image (stack_of (memory_of s)) None r.ends.cleanup.site r.new).frames frames.frames (ap (λ (fs : Frames). fs.frames) kept)
      (all_in_order MOST_FRAMES x.image (stack_of (memory_of s)) None true r.ends.cleanup.site r.new is.image)

  -- ---- what is cut

  abbrev pub cut : List Activation
  cut = s.first ∷ there.cut

  pub all : s.first ∷ s.outer ≡ cut ++ there.first ∷ there.more
  all = ap (λ (acts : List Activation). s.first ∷ acts) (r.holder.is ∙ there.all)

  below : AreBelow ended cut there.frame.sp
  below g h = elim (has_either s.first.slots (slots_of there.cut) g h) [
    | inl own ↦ (let w = k.slots g own in let x0 = w.0 in let y0 = w.1 in let low = k.low in let high = there.high in (omega (arith, low, x0), omega (arith, y0, high)))
    | inr inner ↦ (let w = there.below g inner in let x0 = w.0 in let low = k.low in let high = k.high in (omega (arith, low, high, x0), w.1))
  ]

  good : Good there.frame
  good =
      good_at there.inner there.frame there.outer (subst AllGood there.frames
      (good_framed x.image (outer_frames x.image None a.caller outer) r.ends.cleanup.site (registers_of s.first.caller) small_site (good_outside x.image None a.caller outer)))

  small_sp : there.frame.sp < 2 ^ 32
  small_sp = let l = there.under in let h = k.corresponds.map.home.high in omega (arith, l, h)

  pub register : slice_index there.frame.r SP ≡ there.frame.sp
  register = there.fit.1

  -- its slots lie below what is entered, and a cleanup is given words
  pub lands_there : Lands ended cut (phase2 goal r.ends.cleanup.next frames)
  lands_there = go (phase2 goal r.ends.cleanup.next frames) there.of
    where
      at_register : (q : List ℕ) → q ≡ there.frame.r → AreBelow ended cut (slice_index q SP)
      at_register q e = subst (λ n. AreBelow ended cut n) (sym (ap (λ (v : List ℕ). slice_index v SP) e ∙ register)) below

      go : (e : Entered) → OfFrame goal there.frame e → Lands ended cut e
      go (enters.Cleanup vrs pad next at) h =
          let d = h.2 in
          let nexts = small_next d.before d.desc d.after (subst AreSmall d.items good.0) in
          let sp : slice_index vrs.r SP ≡ there.frame.sp = ap (λ v. slice_index v.r SP) h.0 ∙ register in
          let place = h.1 in
          let later = d.later in
          let next_small = nexts.1 in
          let site_small = good.1 in
          let sp_small = small_sp in
          (at_register vrs.r (ap (λ v. v.r) h.0), omega (arith, sp, sp_small), omega (arith, later, next_small), omega (arith, place, site_small))
      go (enters.Catch vrs pad) h = at_register vrs.r (ap (λ v. v.r) h.0)
      go (enters.Spec vrs pad) h = at_register vrs.r (ap (λ v. v.r) h.0)
      go enters.Unexpected h = tt
      go (enters.Terminate why) h = tt
