-- From a site where a throw may begin, phase 2 to a barrier within reach enters a cleanup or the barrier, in an activation of the state.
use Rattle.std.proofs.Common.{◌≡◌, ℕ, ◌<◌, ◌≤◌, ◌^◌, inl, inr, true, List, ◌∷◌, ◌++◌, Option, Some, None, sym, ap, subst, ◌∙◌, arith}
use Rattle.std.specs.Prelude.{slice_index, unwrap_or}
use Rattle.eh_phase.specs.Cleanups.{is_reached}
use Rattle.eh_phase.specs.Firsts.{first_some}
use Rattle.eh_phase.specs.Phases.{Frame, enter_at_place, places, phase2}
use Rattle.eh_phase.specs.declared.phase2.Entered.{Entered}
use Rattle.eh_phase.specs.declared.phase2.Goal.{Goal}
use Rattle.eh_phase.proofs.Reached.{Heads, heads}
use Rattle.thumb_core.specs.Registers.{all_of}
use Rattle.thumb_core.specs.declared.regs.TheConstants.{SP}
use Rattle.frame_check.specs.Accepts.{Accepted}
use Rattle.sim_machines.specs.Activations.{Activation, Recorded, reg_in, outer_frames}
use Rattle.sim_machines.specs.Landings.{AreBelow, Lands}
use Rattle.eh_phase.specs.Laws as phase_law
use Rattle.eh_phase.specs.declared.phase2.Entered.TheVariants as enters
use Rattle.sim_resumes.specs.Flying.{all_frames}
use Rattle.sim_throws.specs.sim_frames.Frames.{ThrowsAt, IsSiteOf}
use Rattle.sim_steps.specs.sim_relation.Stands.{Keeps, IsProgram}
use Rattle.sim_throws.proofs.After.{Enters}
use Rattle.sim_throws.proofs.sim_frames.FramesSame.{site_is}
use Rattle.sim_steps.proofs.sim_relation.Goes.{chain_top}
use Rattle.sim_throws.proofs.Landable.{AreSmall, Good, AllGood, good_at, good_framed, good_outside, small_next}
use Rattle.sim_throws.specs.sim_frames.Landings.{Fit, Rise, LandsIn, OfFrame, IsLocated}
use Rattle.sim_throws.proofs.sim_frames.Landing.{lands_in, fit_frames, rise_outside}
use Rattle.sim_throws.proofs.sim_frames.Located.{Sides, Rest, side_at, located, rest_at}
use Rattle.sim_throws.proofs.ThrowLands.{sp_is}

module _ (x : Accepted) (is : IsProgram x) (s : Recorded) (k : Keeps x s) (site : ℕ) (throws : ThrowsAt x s site) (g : Goal) (reached : is_reached g 0 (all_frames x s site).frames ≡ true) where
  abbrev pub here : IsSiteOf x s site
  here = site_is x s site is throws

  first : Heads g (places 0 (all_frames x s site).frames)
  first = heads g (places 0 (all_frames x s site).frames) reached

  entered_is : first_some (enter_at_place g) (places 0 (all_frames x s site).frames) ≡ Some (phase2 g 0 (all_frames x s site))
  unfolding phase2
  entered_is = first.first ∙ ap Some (sym (ap (λ (o : Option Entered). unwrap_or o (enters.Terminate (all_frames x s site).last)) first.first))

  -- it never ends without
  pub fly_enters : phase_law.Lands (phase2 g 0 (all_frames x s site))
  unfolding phase2
  fly_enters = subst (λ (e : Entered). phase_law.Lands e) (sym (ap (λ (o : Option Entered). unwrap_or o (enters.Terminate (all_frames x s site).last)) first.first)) first.lands

  fit : Fit (reg_in s SP) (all_frames x s site).frames (s.first ∷ s.outer)
  fit = subst (λ (n : ℕ). Fit n (all_frames x s site).frames (s.first ∷ s.outer)) (sp_is x is s k site throws) (fit_frames x s.segments s.home None site (all_of s.regs) s.first s.outer k.whole k.chain)

  rise : Rise s.home.1 (reg_in s SP) (s.first ∷ s.outer)
  rise = (k.slots, k.high, chain_top x s.segments s.home s.first.caller s.outer k.chain, rise_outside x s.segments s.home s.first.caller s.outer k.chain)

  -- what it enters
  pub there : LandsIn g 0 s.home.1 (reg_in s SP) (all_frames x s site).frames (s.first ∷ s.outer) (phase2 g 0 (all_frames x s site))
  there =
      let top = chain_top x s.segments s.home s.first.caller s.outer k.chain in
      let high = k.high in
      lands_in g 0 s.home.1 (reg_in s SP) (all_frames x s site).frames (s.first ∷ s.outer) (phase2 g 0 (all_frames x s site)) (omega (arith, high, top)) fit rise entered_is

  pub rest_there : (reg_in s SP ≤ there.frame.sp) × Rest s.home.1 there.frame.sp there.cut there.first there.more
  rest_there =
      rest_at s.home.1 (reg_in s SP) there.inner there.frame there.outer there.cut there.first there.more there.beside
      (subst (λ (acts : List Activation). Fit (reg_in s SP) (there.inner ++ there.frame ∷ there.outer) acts) there.all (subst (λ (fs : List Frame). Fit (reg_in s SP) fs (s.first ∷ s.outer)) there.frames fit))
      (subst (Rise s.home.1 (reg_in s SP)) there.all rise)

  pub located_there : IsLocated x s.segments site (all_of s.regs) s.first there.frame there.first
  located_there =
      side_at (IsLocated x s.segments site (all_of s.regs) s.first) there.inner there.frame there.outer there.cut there.first there.more there.beside
      (subst (λ (acts : List Activation). Sides (IsLocated x s.segments site (all_of s.regs) s.first) (there.inner ++ there.frame ∷ there.outer) acts) there.all
      (subst (λ (fs : List Frame). Sides (IsLocated x s.segments site (all_of s.regs) s.first) fs (s.first ∷ s.outer)) there.frames
      (located x s.segments s.home None site (all_of s.regs) s.first s.outer k.whole k.chain)))

  -- with its activation, and those inside and outside it
  abbrev pub enters_there : Enters x is s k site here
  enters_there = record {
    cut = there.cut;
    first = there.first;
    more = there.more;
    all = there.all;
    frame = there.frame;
    located = located_there;
    rest = rest_there.1;
    low = rest_there.0;
    register = there.fit.1;
  }

  -- ---- what is cut

  below : AreBelow s there.cut there.frame.sp
  below q h = let w = there.below q h in let low = k.low in let x0 = w.0 in (omega (arith, low, x0), w.1)

  small_site : site < 2 ^ 32
  small_site = go throws
    where
      go : ThrowsAt x s site → site < 2 ^ 32
      go (inl (imm, does, e)) = let p = k.sound.small in omega (arith, e, p)
      go (inr (inl (m, does, e))) = let p = k.sound.small in omega (arith, e, p)
      go (inr (inr (off, does, e))) = let h = here.below in let a = here.at.address in omega (arith, e, h, a)

  good : Good there.frame
  good =
      good_at there.inner there.frame there.outer (subst AllGood there.frames
      (good_framed x.image (outer_frames x.image None s.first.caller s.outer) site (all_of s.regs) small_site (good_outside x.image None s.first.caller s.outer)))

  small_sp : there.frame.sp < 2 ^ 32
  small_sp = let l = there.under in let h = k.corresponds.map.home.high in omega (arith, l, h)

  -- its slots lie below what is entered, and a cleanup is given words
  pub lands_there : Lands s there.cut (phase2 g 0 (all_frames x s site))
  lands_there = go (phase2 g 0 (all_frames x s site)) there.of
    where
      at_register : (q : List ℕ) → q ≡ there.frame.r → AreBelow s there.cut (slice_index q SP)
      at_register q e = subst (λ n. AreBelow s there.cut n) (sym (ap (λ (v : List ℕ). slice_index v SP) e ∙ there.fit.1)) below

      go : (e : Entered) → OfFrame g there.frame e → Lands s there.cut e
      go (enters.Cleanup vrs pad next at) h =
          let d = h.2 in
          let nexts = small_next d.before d.desc d.after (subst AreSmall d.items good.0) in
          let sp : slice_index vrs.r SP ≡ there.frame.sp = ap (λ v. slice_index v.r SP) h.0 ∙ there.fit.1 in
          let place = h.1 in
          let later = d.later in
          let next_small = nexts.1 in
          let site_small = good.1 in
          let sp_small = small_sp in
          (at_register vrs.r (ap (λ v. v.r) h.0), omega (arith, sp, sp_small), omega (arith, later, next_small), omega (arith, place, site_small))
      go (enters.Catch vrs pad) h = at_register vrs.r (ap (λ v. v.r) h.0)
      go (enters.Spec vrs pad) h = at_register vrs.r (ap (λ v. v.r) h.0)
      go enters.Unexpected h = tt
      go (enters.Terminate why) h = tt
