-- What a resume enters stands at the pad, with registers of words, and a cleanup that it enters is in progress there.
use Rattle.std.proofs.Common.{◌≡◌, ℕ, ◌%◌, ◌<◌, ◌≤◌, ◌^◌, List, zero, suc, [], ◌∷◌, length, arith, ◌++◌, true, None, ◌&&◌, ◌⊎◌, inl, inr, Bool, Some, refl, sym, ap, subst, ◌∙◌, append_assoc}
use Rattle.std.specs.Prelude.{slice_index, All, Result, Ok}
use Rattle.std.proofs.lemmas.List.{get_or_append_left}
use Rattle.std.proofs.lemmas.List.Elements.{All-head, All-tail}
use Rattle.thumb_core.specs.declared.regs.TheConstants.{SP}
use Rattle.sim_machines.specs.Activations.{Caller, registers_of, Activation, Recorded, frames_at, reg_in}
use Rattle.eh_phase.specs.Phases.{Frame, vrs_of, from_address, enter_item, phase2}
use Rattle.eh_cxa.specs.Words.{block}
use Rattle.eh_gates.specs.Landing.{landing_registers}
use Rattle.eh_phase.specs.Cleanups.{is_reached}
use Rattle.eh_phase.specs.declared.phase2.Entered.{Entered}
use Rattle.eh_phase.specs.declared.phase2.Goal.{Goal}
use Rattle.frame_check.specs.Accepts.{Accepted}
use Rattle.eh_desc.specs.declared.descriptor.Desc.{Desc}
use Rattle.eh_desc.specs.declared.descriptor.DescFault.{DescFault}
use Rattle.eh_phase.specs.Firsts.{first_some}
use Rattle.eh_phase.specs.Frames.{entry_contents_at, frame_of}
use Rattle.eh_phase.specs.Laws.{IsInOrder}
use Rattle.eh_phase.specs.declared.walk.CoveringEntry.{CoveringEntry}
use Rattle.thumb_isa.specs.declared.instr.Instr.TheVariants.{Svc}
use Rattle.frame_entries.specs.Scopes.{Item, is_cleanup_at, is_cleanup, is_one, pad_of}
use Rattle.frame_graph.specs.Sites.{items_at}
use Rattle.frame_check.specs.Roots.{flow_graph_of}
use Rattle.eh_phase.specs.declared.phase2.Entered.TheVariants as enters
use Rattle.sim_steps.specs.sim_relation.Holds.{IsWhole}
use Rattle.sim_throws.proofs.sim_frames.Outwards.{at_sp}
use Rattle.sim_steps.specs.sim_relation.Chain.{StandsAt}
use Rattle.sim_steps.specs.sim_relation.Cleanups.{by_sp, IsEntered}
use Rattle.sim_steps.specs.sim_relation.Stands.{Keeps, IsProgram, DoesAt}
use Rattle.sim_throws.specs.sim_frames.Frames.{IsSiteOf}
use Rattle.sim_throws.proofs.After.{Enters, frame_words}
use Rattle.sim_throws.proofs.CleanupEntered.{cleanup_entered}
use Rattle.sim_throws.proofs.sim_frames.FramesSame.{site_is, gate_deep}
use Rattle.sim_throws.proofs.sim_frames.GoesHere.{left_after}
use Rattle.sim_throws.specs.sim_frames.Landings.{Fit, Rise, IsCleanupOf, Offers, OfFrame, LandsIn}
use Rattle.sim_throws.proofs.sim_frames.Landing.{of_items, fit_frames, rise_outside}
use Rattle.sim_throws.proofs.sim_frames.Located.{Rest, rest_at, covered_items}
use Rattle.sim_throws.proofs.sim_frames.Pads.{any_there}
use Rattle.sim_throws.proofs.sim_frames.PadStands.{pad_stands}
use Rattle.sim_resumes.proofs.ResumedFrames.{Called, IsHead, head_or_caller}
use Rattle.sim_resumes.proofs.ResumedStands.{resumed_stands}
use Rattle.sim_resumes.proofs.ResumeLands.{Resumes}
use Rattle.sim_resumes.proofs.ResumeLands as resume

-- ---- registers of words

-- r4 to r11, and a multiple of 4 in sp
abbrev pub AreWordsAt : List ℕ → Type 0
AreWordsAt r = ((j : ℕ) → 4 ≤ j → j < 12 → slice_index r j < 2 ^ 32) × (slice_index r SP % 4 ≡ 0)

saved_words : (c : Caller) → IsWhole c → (j : ℕ) → 4 ≤ j → j < 12 → slice_index (registers_of c) j < 2 ^ 32
saved_words c whole zero low high = absurd (omega (arith, low))
saved_words c whole (suc zero) low high = absurd (omega (arith, low))
saved_words c whole (suc (suc zero)) low high = absurd (omega (arith, low))
saved_words c whole (suc (suc (suc zero))) low high = absurd (omega (arith, low))
saved_words c whole (suc (suc (suc (suc j)))) low high =
    let count = whole.count in
    let e : slice_index (registers_of c) (suc (suc (suc (suc j)))) ≡ slice_index c.saved j =
    get_or_append_left c.saved (0 ∷ c.sp ∷ 0 ∷ c.back ∷ []) 0 j (let l : j < length c.saved = omega (arith, high, count) in l) in
    let h = whole.words j in
    omega (arith, e, h)

caller_words : (c : Caller) → IsWhole c → AreWordsAt (registers_of c)
caller_words c whole = (saved_words c whole, let e = at_sp c whole.count in let h = whole.aligned in omega (arith, e, h))

all_there : (P : Frame → Type 0) (inner : List Frame) (f : Frame) (outer : List Frame) → All P (inner ++ f ∷ outer) → P f
all_there P [] f outer h = All-head P f outer h
all_there P (i ∷ inner) f outer h = all_there P inner f outer (All-tail P i (inner ++ f ∷ outer) h)

-- ---- what is entered

-- in a frame, in this activation with those outside it, by the exception of a slot that flies to this goal
abbrev pub Fits : Accepted → Recorded → ℕ → Goal → Frame → Activation → List Activation → Entered → Type 0
Fits x s slot g f a more (enters.Cleanup vrs pad next site) =
    (vrs ≡ vrs_of f) × (site ≡ f.site) × StandsAt x a s.segments (landing_registers s.regs f.r pad 0) (landing_registers s.regs f.r pad 0).pc
    × (is_reached g next (frames_at x.image None f.site (by_sp f.sp) a more).frames ≡ true → IsEntered x s.segments g (record { slot = slot; next = next; sp = f.sp; site = f.site }) a more)
Fits x s slot g f a more (enters.Catch vrs pad) = (vrs ≡ vrs_of f) × (f.sp ≡ g.sp) × StandsAt x a s.segments (landing_registers s.regs f.r pad (block slot)) (landing_registers s.regs f.r pad (block slot)).pc
Fits x s slot g f a more (enters.Spec vrs pad) = (vrs ≡ vrs_of f) × (f.sp ≡ g.sp) × StandsAt x a s.segments (landing_registers s.regs f.r pad (block slot)) (landing_registers s.regs f.r pad (block slot)).pc
Fits x s slot g f a more enters.Unexpected = Unit {0}
Fits x s slot g f a more (enters.Terminate why) = Unit {0}

module _ (x : Accepted) (is : IsProgram x) (s : Recorded) (k : Keeps x s) (imm : ℕ) (does : DoesAt x s (Svc imm)) (r : Resumes x s) where
  abbrev here : IsSiteOf x s s.regs.pc
  here = site_is x s s.regs.pc is (inl (imm, does, refl))

  abbrev goal : Goal
  goal = resume.goal x is s k r

  abbrev caller : Caller
  caller = s.first.caller

  abbrev there : LandsIn (resume.goal x is s k r) r.ends.cleanup.next s.home.1 s.first.caller.sp (resume.frames x is s k r).frames (r.holder.first ∷ r.holder.more) (phase2 (resume.goal x is s k r) r.ends.cleanup.next (resume.frames x is s k r))
  there = resume.there x is s k r

  -- ---- what lies outside it

  within : (s.first.caller.sp ≤ there.frame.sp) × Rest s.home.1 there.frame.sp there.cut there.first there.more
  within =
      let l = resume.links x is s k r in
      rest_at s.home.1 s.first.caller.sp there.inner there.frame there.outer there.cut there.first there.more there.beside
      (subst (λ (acts : List Activation). Fit s.first.caller.sp (there.inner ++ there.frame ∷ there.outer) acts) there.all
      (subst (λ (fs : List Frame). Fit s.first.caller.sp fs (r.holder.first ∷ r.holder.more)) there.frames
      (subst (λ (n : ℕ). Fit n (resume.frames x is s k r).frames (r.holder.first ∷ r.holder.more)) (resume.sp_is x is s k r)
      (fit_frames x s.segments s.home None r.ends.cleanup.site (registers_of s.first.caller) r.holder.first r.holder.more l.0.whole l.1))))
      (subst (Rise s.home.1 s.first.caller.sp) there.all (rise_outside x s.segments s.home s.first.caller (r.holder.first ∷ r.holder.more) (l.0, l.1)))

  pub rest : Rest s.home.1 there.frame.sp (s.first ∷ there.cut) there.first there.more
  rest = record { under = (within.0, within.1.under); rise = within.1.rise }

  pub low : reg_in s SP ≤ there.frame.sp
  low = let h = k.high in let w = within.0 in omega (arith, h, w)

  nature : ((length there.cut ≡ 0) × IsHead x s.segments s.home r.ends.cleanup.site (registers_of s.first.caller) r.holder.first r.holder.more (resume.links x is s k r).0.whole (resume.links x is s k r).1 there.frame there.first there.more)
      ⊎ Called x s.segments s.home there.frame there.first
  nature =
      head_or_caller x s.segments s.home r.ends.cleanup.site (registers_of s.first.caller) r.holder.first r.holder.more (resume.links x is s k r).0.whole (resume.links x is s k r).1
      there.inner there.frame there.outer there.cut there.first there.more there.frames there.all there.beside

  pub words : AreWordsAt there.frame.r
  words = elim nature [
    | inl head ↦ subst (λ (f : Frame). AreWordsAt f.r) (sym head.1.frame) (caller_words s.first.caller k.whole)
    | inr called ↦ frame_words x is s k s.regs.pc here there.frame there.first (called.0, inr called.1)
  ]

  -- ---- in a caller

  in_caller : Called x s.segments s.home there.frame there.first → (e : Entered) → OfFrame goal there.frame e → Fits x s r.ends.cleanup.slot goal there.frame there.first there.more e
  in_caller h (enters.Cleanup vrs pad next site) of =
      let c = of.2 in
      let offers : Offers there.frame pad = record { before = c.before; desc = c.desc; after = c.after; items = c.items; scope = c.scope; kind = ap pad_of c.kind } in
      let n : Enters x is s k s.regs.pc here = record {
        cut = s.first ∷ there.cut;
        first = there.first;
        more = there.more;
        all = resume.all x is s k r;
        frame = there.frame;
        located = (h.0, inr h.1);
        rest = rest;
        low = low;
        register = there.fit.1;
      } in (
        of.0,
        of.1,
        pad_stands x is s k s.regs.pc here there.frame there.first pad 0 (h.0, inr h.1) offers,
        λ reach. cleanup_entered x is s k s.regs.pc here (gate_deep x s is imm does) n r.ends.cleanup.slot pad next c goal reach,
      )
  in_caller h (enters.Catch vrs pad) of = (of.0, of.2, pad_stands x is s k s.regs.pc here there.frame there.first pad (block r.ends.cleanup.slot) (h.0, inr h.1) of.1)
  in_caller h (enters.Spec vrs pad) of = (of.0, of.2, pad_stands x is s k s.regs.pc here there.frame there.first pad (block r.ends.cleanup.slot) (h.0, inr h.1) of.1)
  in_caller h enters.Unexpected of = tt
  in_caller h (enters.Terminate why) of = tt

  -- ---- in the cleanup's own activation, after the cleanup

  module _ (v : CoveringEntry) (covers : entry_contents_at x.image r.ends.cleanup.site ≡ Some v) where
    abbrev there_again : Frame
    there_again = frame_of r.ends.cleanup.site (registers_of s.first.caller) v

    abbrev after_it : Frame
    after_it = record there_again { items = r.holder.entered.after }

    its_items : v.descs ≡ r.holder.entered.before ++ Ok r.holder.entered.cleanup ∷ r.holder.entered.after
    its_items = sym (covered_items (flow_graph_of x.image r.holder.entered.function) r.ends.cleanup.site v covers) ∙ r.holder.entered.items

    -- those after it, in the list of all
    all_items : (before : List Item) (d : Desc) (after : List Item) → r.holder.entered.after ≡ before ++ Ok d ∷ after
        → items_at (flow_graph_of x.image r.holder.entered.function) r.ends.cleanup.site ≡ (r.holder.entered.before ++ Ok r.holder.entered.cleanup ∷ before) ++ Ok d ∷ after
    all_items before d after e =
        r.holder.entered.items ∙ ap (λ (l : List Item). r.holder.entered.before ++ Ok r.holder.entered.cleanup ∷ l) e
        ∙ sym (append_assoc r.holder.entered.before (Ok r.holder.entered.cleanup ∷ before) (Ok d ∷ after))

    stands_again : (pad answer : ℕ) → Offers after_it pad → StandsAt x r.holder.first s.segments (landing_registers s.regs (registers_of s.first.caller) pad answer) (landing_registers s.regs (registers_of s.first.caller) pad answer).pc
    stands_again pad answer o =
        resumed_stands x is s.segments k.corresponds.map.segments goal r.ends.cleanup r.holder.first r.holder.more r.holder.entered s.first.caller (resume.links x is s k r).0 k.whole r.called
        (r.holder.entered.before ++ Ok r.holder.entered.cleanup ∷ o.before) o.desc o.after (all_items o.before o.desc o.after o.items) o.scope pad o.kind
        (any_there (is_one (is_cleanup_at r.ends.cleanup.site)) r.holder.entered.before (Ok r.holder.entered.cleanup) o.before r.holder.entered.cleans) s.regs answer

    entered_again : (pad next : ℕ) → IsCleanupOf after_it pad next → is_reached goal next (frames_at x.image None r.ends.cleanup.site (by_sp there_again.sp) r.holder.first r.holder.more).frames ≡ true
        → IsEntered x s.segments goal (record { slot = r.ends.cleanup.slot; next = next; sp = there_again.sp; site = r.ends.cleanup.site }) r.holder.first r.holder.more
    entered_again pad next c reach =
        let old = r.holder.entered in
        let sp : there_again.sp ≡ r.ends.cleanup.sp = resume.sp_is x is s k r ∙ r.called in
        record {
          function = old.function;
          marks = old.marks;
          of = old.of;
          place = old.place;
          fact = old.fact;
          state = old.state;
          site = old.site;
          lower = let l = old.lower in omega (arith, sp, l);
          at_depth = λ b. let l = old.at_depth b in omega (arith, sp, l);
          below = let l = old.below in omega (arith, sp, l);
          saves = old.saves;
          before = old.before ++ Ok old.cleanup ∷ c.before;
          cleanup = c.desc;
          after = c.after;
          items = all_items c.before c.desc c.after c.items;
          cleans = ap (λ (b : Bool). b && is_cleanup c.desc.kind) c.scope ∙ ap is_cleanup c.kind;
          next = c.later;
          reach = reach;
        }

    again : (e : Entered) → OfFrame goal after_it e → Fits x s r.ends.cleanup.slot goal there_again r.holder.first r.holder.more e
    again (enters.Cleanup vrs pad next site) of =
        let c = of.2 in
        (of.0, of.1, stands_again pad 0 (record { before = c.before; desc = c.desc; after = c.after; items = c.items; scope = c.scope; kind = ap pad_of c.kind }), entered_again pad next c)
    again (enters.Catch vrs pad) of = (of.0, of.2, stands_again pad (block r.ends.cleanup.slot) of.1)
    again (enters.Spec vrs pad) of = (of.0, of.2, stands_again pad (block r.ends.cleanup.slot) of.1)
    again enters.Unexpected of = tt
    again (enters.Terminate why) of = tt

    after_cleanup : IsInOrder there_again → (e : Entered) → first_some (enter_item goal there_again) (from_address r.ends.cleanup.next there_again.items) ≡ Some e → OfFrame goal after_it e
    after_cleanup order e own =
        let old = r.holder.entered in
        let left : from_address r.ends.cleanup.next there_again.items ≡ old.after =
        ap (λ (n : ℕ). from_address n there_again.items) old.next ∙ left_after there_again 0 old.before old.cleanup old.after order its_items in
        of_items goal after_it [] old.after e refl (subst (λ (is : List (Result Desc DescFault)). first_some (enter_item goal there_again) is ≡ Some e) left own)

  in_head : length there.cut ≡ 0
      → IsHead x s.segments s.home r.ends.cleanup.site (registers_of s.first.caller) r.holder.first r.holder.more (resume.links x is s k r).0.whole (resume.links x is s k r).1 there.frame there.first there.more
      → (e : Entered) → phase2 goal r.ends.cleanup.next (resume.frames x is s k r) ≡ e → Fits x s r.ends.cleanup.slot goal there.frame there.first there.more e
  in_head none h e enters_it =
      let order : IsInOrder there.frame = all_there IsInOrder there.inner there.frame there.outer (subst (All IsInOrder) there.frames (resume.in_order x is s k r)) in
      let own : first_some (enter_item goal there.frame) (from_address r.ends.cleanup.next there.frame.items) ≡ Some e = there.in_first none ∙ ap Some enters_it in
      let whole = again h.covered h.covers e
      (after_cleanup h.covered h.covers (subst IsInOrder h.frame order) e (subst (λ (f : Frame). first_some (enter_item goal f) (from_address r.ends.cleanup.next f.items) ≡ Some e) h.frame own)) in
      subst (λ (f : Frame). Fits x s r.ends.cleanup.slot goal f there.first there.more e) (sym h.frame)
      (subst (λ (b : Activation). Fits x s r.ends.cleanup.slot goal (frame_of r.ends.cleanup.site (registers_of s.first.caller) h.covered) b there.more e) (sym h.first)
      (subst (λ (bs : List Activation). Fits x s r.ends.cleanup.slot goal (frame_of r.ends.cleanup.site (registers_of s.first.caller) h.covered) r.holder.first bs e) (sym h.rest) whole))

  pub resume_fits : (e : Entered) → phase2 goal r.ends.cleanup.next (resume.frames x is s k r) ≡ e → Fits x s r.ends.cleanup.slot goal there.frame there.first there.more e
  resume_fits e enters_it = elim nature [
    | inl head ↦ in_head head.0 head.1 e enters_it
    | inr called ↦ in_caller called e (subst (OfFrame goal there.frame) enters_it there.of)
  ]
