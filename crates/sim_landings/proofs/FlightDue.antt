-- One landing of an exception that flies: what phase 2 enters is the first that is due, and what is due after it stays due.
use Rattle.std.proofs.Common.{◌≡◌, ℕ, zero, suc, ◌<◌, ◌==◌, Bool, true, cond, List, [], ◌∷◌, ◌++◌, drop, length, Option, Some, None, refl, sym, ◌∙◌, ap, subst, arith}
use Rattle.std.specs.Prelude.{slice_index, unwrap_or}
use Rattle.std.specs.List.{cons_option}
use Rattle.std.proofs.lemmas.Bool.Decides.{nat_tests}
use Rattle.eh_bus.specs.Lists.{Has}
use Rattle.elf_image.specs.Image.{Image, IsSound}
use Rattle.eh_cxa.specs.Lists.{Cleanup, slots}
use Rattle.eh_cxa.specs.Words.{block}
use Rattle.eh_cxa.specs.declared.layout.TheConstants.{SLOTS}
use Rattle.eh_bytecode.specs.declared.frame.Vrs.{Vrs}
use Rattle.eh_phase.specs.declared.phase2.Goal.{Goal}
use Rattle.eh_phase.specs.declared.phase2.Entered.{Entered}
use Rattle.eh_phase.specs.declared.phase2.Entered.TheVariants as enters
use Rattle.eh_phase.specs.Cleanups.{remaining_landings, is_reached}
use Rattle.eh_phase.specs.Firsts.{first_some}
use Rattle.eh_phase.specs.Laws.{Lands}
use Rattle.eh_phase.specs.Phases.{Frame, Frames, enter_at_place, places, phase2}
use Rattle.eh_phase.proofs.Reached.{Heads, heads}
use Rattle.eh_gates.specs.declared.state.Turned.{Turned}
use Rattle.eh_gates.specs.declared.state.Turned.TheVariants.{Went, Ended}
use Rattle.thumb_core.specs.declared.regs.TheConstants.{SP}
use Rattle.sim_machines.specs.Activations.{Activation, Recorded, frames_at, cleanups_in, InProgress}
use Rattle.sim_machines.specs.ActivationMachine as machine
use Rattle.sim_relation.specs.Cleanups.{goal_at, by_sp}
use Rattle.sim_frames.specs.Landings.{Fit}
use Rattle.sim_runs.proofs.sim_throws.FramesAfter.{frames_after}
use Rattle.sim_landings.specs.Landings.{Pad, stands_at, pad_in, pads, AreFirst}
use Rattle.sim_landings.specs.Due.{kept_frames, due_of, due_among, left_due}
use Rattle.sim_landings.proofs.Beside.{same_goal}
use Rattle.sim_landings.proofs.Kept.{kept_same, kept_here, none_due}
use Rattle.sim_landings.proofs.Landed.{Listed, IsLanded, landed, went_is}
use Rattle.sim_landings.proofs.LandsDue.{IsDueFrom, lands_due}
use Rattle.sim_landings.proofs.PadsBySp.{pads_by_sp}
use Rattle.sim_landings.proofs.Reached.{in_order}

pub none_more : {A : Type 0} (xs : List A) → xs ≡ xs ++ []
none_more [] = refl
none_more (x ∷ xs) = ap (λ ys. x ∷ ys) (none_more xs)

-- the first cleanup is the slot's
own_due : (image : Image) (t : Recorded) (c : InProgress) (cleanups : List InProgress) → t.cleanups ≡ c ∷ cleanups → left_due image t c.cleanup.slot ≡ due_of image t c.place c.cleanup
own_due image t c cleanups l =
    let same : (c.cleanup.slot == c.cleanup.slot) ≡ true = grind (arith, nat_tests) in
    ap (due_among image t c.cleanup.slot) l ∙ ap (λ (b : Bool). cond b (due_of image t c.place c.cleanup) (due_among image t c.cleanup.slot cleanups)) same

pub not_went : (end : _) (s t : Recorded) → ◌≡◌ {A = machine.Outcome} (Ended end, s) (Went, t) → ⊥
not_went end s t e = let f : ◌≡◌ {A = Turned} (Ended end) Went = ap (λ (o : machine.Outcome). o.0) e in cc

-- what is within reach is entered: phase 2 never ends without
pub reached_lands : (g : Goal) (from : ℕ) (fs : Frames) → is_reached g from fs.frames ≡ true → Lands (phase2 g from fs)
unfolding phase2
reached_lands g from fs reached =
    let first : Heads g (places from fs.frames) = heads g (places from fs.frames) reached in
    subst Lands (sym (ap (λ (o : Option Entered). unwrap_or o (enters.Terminate fs.last)) first.first)) first.lands

module _ (image : Image) (sound : IsSound image) (u t : Recorded) (i : ℕ) (a : Activation) (outer : List Activation) (suffix : a ∷ outer ≡ drop i (u.first ∷ u.outer)) (slot object : ℕ) (small : slot < SLOTS)
    (idle : Has (slots (cleanups_in u.cleanups)) slot → ⊥) (g : Goal) (goal : goal_at u slot ≡ g) (from site : ℕ) (r : List ℕ) (sp : ℕ)
    (fit : Fit sp (frames_at image None site r a outer).frames (a ∷ outer)) (reached : is_reached g from (frames_at image None site r a outer).frames ≡ true) where
  abbrev fs : Frames
  fs = frames_at image None site r a outer

  abbrev e : Entered
  e = phase2 g from fs

  abbrev j : ℕ
  j = machine.passed_frame_count g from fs.frames

  abbrev acts : List Activation
  acts = drop j (a ∷ outer)

  first : Heads g (places from fs.frames)
  first = heads g (places from fs.frames) reached

  entered_is : e ≡ first.entered
  unfolding phase2
  entered_is = ap (λ (o : Option Entered). unwrap_or o (enters.Terminate fs.last)) first.first

  due_is : remaining_landings g from fs.frames ≡ e ∷ first.later
  due_is = first.due ∙ ap (λ (d : Entered). d ∷ first.later) (sym entered_is)

  drop_none : (n : ℕ) → drop {A = Activation} n [] ≡ []
  drop_none zero = refl
  drop_none (suc n) = refl

  cut_again : (k l : ℕ) (xs : List Activation) → (m : ℕ) × (drop k (drop l xs) ≡ drop m xs)
  cut_again k zero xs = (k, refl)
  cut_again k (suc l) [] = (0, drop_none k)
  cut_again k (suc l) (x ∷ xs) = let w = cut_again k l xs in (suc w.0, w.1)

  module _ (went : machine.advances u (a ∷ outer) (block slot) object g from fs ≡ (Went, t)) where
    abbrev place : (m : ℕ) × (drop j (drop i (u.first ∷ u.outer)) ≡ drop m (u.first ∷ u.outer))
    place = cut_again j i (u.first ∷ u.outer)

    pub is_landed : IsLanded u acts slot e t
    is_landed = went_is (IsLanded u acts slot e) (machine.enter_landing u acts (block slot) object e) t (landed u place.0 acts (ap (drop j) suffix ∙ place.1) slot object small e) went

    -- the pad that is entered goes first
    pads_are : pads (remaining_landings g from fs.frames) ≡ stands_at t ∷ pads first.later
    pads_are = ap pads due_is ∙ ap (λ (o : Option Pad). cons_option o (pads first.later)) is_landed.at

    same : goal_at t slot ≡ g
    same = same_goal u t slot (is_landed.same slot) ∙ goal

    in_cleanup : (vrs : Vrs) (pad next at : ℕ) → e ≡ enters.Cleanup vrs pad next at → AreFirst (stands_at t ∷ left_due image t slot) (pads (remaining_landings g from fs.frames))
    in_cleanup vrs pad next at is =
        let there : first_some (enter_at_place g) (places from fs.frames) ≡ Some (enters.Cleanup vrs pad next at) = first.first ∙ ap Some (sym entered_is ∙ is) in
        let l : IsDueFrom g from fs.frames (a ∷ outer) vrs pad next at = lands_due g from sp fs.frames (a ∷ outer) vrs pad next at fit (in_order image site r a outer sound) there in
        let c : Cleanup = record { slot = slot; next = next; sp = slice_index vrs.r SP; site = at } in
        let listed : Listed u acts slot (enters.Cleanup vrs pad next at) t = subst (λ (d : Entered). Listed u acts slot d t) is is_landed.listed in
        let stands = is_landed.stands l.first l.more l.passed in
        let after : (frames_at image None l.frame.site l.frame.r l.first l.more).frames ≡ l.frame ∷ l.outer = frames_after image site r a outer l.inner l.frame l.outer l.cut l.first l.more l.frames l.all l.beside in
        let at_site : (frames_at image None at vrs.r l.first l.more).frames ≡ l.frame ∷ l.outer =
        ap (λ (n : ℕ). (frames_at image None n vrs.r l.first l.more).frames) (sym l.stands) ∙ ap (λ (v : Vrs). (frames_at image None l.frame.site v.r l.first l.more).frames) (sym l.registers) ∙ after in
        let listed_there : t.cleanups ≡ record { cleanup = c; place = length l.more } ∷ u.cleanups =
        listed ∙ ap (λ (xs : List Activation). let all : List InProgress = record { cleanup = c; place = machine.outside_of xs } ∷ u.cleanups in all) l.passed in
        let kept : kept_frames image (length l.more) c (t.first ∷ t.outer) ≡ (frames_at image None at (by_sp (slice_index vrs.r SP)) l.first l.more).frames =
        kept_same image (length l.more) c (t.first ∷ t.outer) (l.first ∷ l.more) stands ∙ kept_here image (length l.more) c l.first l.more refl in
        let left : left_due image t slot ≡ pads (remaining_landings g next (l.frame ∷ l.outer)) =
        own_due image t (record { cleanup = c; place = length l.more }) u.cleanups listed_there
        ∙ ap (λ (h : Goal). pads (remaining_landings h next (kept_frames image (length l.more) c (t.first ∷ t.outer)))) same ∙ ap (λ (xs : List Frame). pads (remaining_landings g next xs)) kept
        ∙ sym (pads_by_sp g next image at vrs.r (slice_index vrs.r SP) l.first l.more refl) ∙ ap (λ (xs : List Frame). pads (remaining_landings g next xs)) at_site in
        let head : pad_in (enters.Cleanup vrs pad next at) ≡ Some (stands_at t) = ap pad_in (sym is) ∙ is_landed.at in
        let all : pads (remaining_landings g from fs.frames) ≡ stands_at t ∷ pads (remaining_landings g next (l.frame ∷ l.outer)) = ap pads l.due ∙ ap (λ (o : Option Pad). cons_option o (pads (remaining_landings g next (l.frame ∷ l.outer)))) head in
        record { rest = []; is = all ∙ ap (λ (ps : List Pad). stands_at t ∷ ps) (sym left ∙ none_more (left_due image t slot)) }

    in_handler : t.cleanups ≡ u.cleanups → AreFirst (stands_at t ∷ left_due image t slot) (pads (remaining_landings g from fs.frames))
    in_handler cleanups =
        let none : left_due image t slot ≡ [] = none_due image t slot t.cleanups (λ h. idle (subst (λ (cs : List InProgress). Has (slots (cleanups_in cs)) slot) cleanups h)) in
        record { rest = pads first.later; is = pads_are ∙ ap (λ (ps : List Pad). stands_at t ∷ (ps ++ pads first.later)) (sym none) }

    pub flight_due : AreFirst (stands_at t ∷ left_due image t slot) (pads (remaining_landings g from fs.frames))
    flight_due = go e refl is_landed.listed
      where
        go : (d : Entered) → e ≡ d → Listed u acts slot d t → AreFirst (stands_at t ∷ left_due image t slot) (pads (remaining_landings g from fs.frames))
        go (enters.Cleanup vrs pad next at) is l = in_cleanup vrs pad next at is
        go (enters.Catch vrs pad) is l = in_handler l
        go (enters.Spec vrs pad) is l = in_handler l
        go enters.Unexpected is l = absurd l
        go (enters.Terminate why) is l = absurd l
