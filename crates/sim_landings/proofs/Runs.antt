-- Along a run: the landings of an exception's resumes are the first of what is due; so those of a throw are its cleanups in order and its barrier.
use Rattle.std.proofs.Common.{◌≡◌, ℕ, zero, suc, ◌<◌, ◌==◌, inl, inr, nat_lt, Bool, true, false, ◌⊎◌, List, [], ◌∷◌, ◌++◌, Option, Some, None, refl, sym, ap, subst, ◌∙◌, append_assoc}
use Rattle.std.specs.List.{cons_option}
use Rattle.std.specs.Prelude.{option_map}
use Rattle.run_events.specs.Runs.{Event, Goes, Ends, ReachedState, reach_state, reach_after, prepend_reached}
use Rattle.eh_cxa.specs.declared.layout.TheConstants.{SLOTS}
use Rattle.eh_cxa.proofs.Pools.{object_small, slot_of_block_is}
use Rattle.eh_gates.specs.declared.gates.TheConstants.{THROW_GATE, RETHROW_GATE, END_CLEANUP_GATE}
use Rattle.eh_gates.specs.State.{State}
use Rattle.eh_gates.specs.declared.state.Turned.{Turned}
use Rattle.eh_gates.specs.declared.state.Turned.TheVariants.{Went, Ended}
use Rattle.eh_phase.specs.Calls.{meeting}
use Rattle.eh_bus.specs.Memory.{Memory}
use Rattle.eh_phase.specs.Cleanups.{remaining_landings}
use Rattle.eh_phase.specs.Laws.{goal_of, Lands}
use Rattle.eh_phase.specs.Phases.{phase2}
use Rattle.eh_phase.specs.declared.phase1.Barrier.{Barrier}
use Rattle.eh_phase.specs.declared.phase1.Found.{Found}
use Rattle.eh_phase.specs.declared.phase1.Found.TheVariants as found
use Rattle.eh_phase.specs.declared.verdict.Thrown.{Thrown}
use Rattle.run_gates.specs.declared.gates.TheConstants.{INPUT_GATE}
use Rattle.thumb_core.specs.Outcome.{Outcome as Stepping}
use Rattle.run_images.specs.Profiles.{profile_of}
use Rattle.thumb_core.specs.Step.{step_for}
use Rattle.thumb_core.specs.declared.regs.Regs.{Regs}
use Rattle.thumb_core.specs.declared.regs.Stepped.{Stepped}
use Rattle.thumb_core.specs.declared.regs.Stepped.TheVariants.{Done, Call, Return, Gate, Trap}
use Rattle.thumb_core.specs.declared.ends.Cause.{Cause}
use Rattle.thumb_core.specs.declared.ends.Cause.TheVariants as cause
use Rattle.thumb_core.specs.declared.ends.End.{End}
use Rattle.thumb_core.specs.declared.ends.End.TheVariants as the_end
use Rattle.frame_check.specs.Accepts.{Accepted}
use Rattle.sim_machines.specs.Checked.{program_of}
use Rattle.sim_machines.specs.Program.{program_tables}
use Rattle.sim_machines.specs.Activations.{Recorded, reg_in, memory_of, recorded_start, bytes_of, first_place}
use Rattle.sim_machines.specs.Machine.{machine_event}
use Rattle.thumb_core.specs.Registers.{all_of}
use Rattle.sim_machines.specs.ActivationMachine as machine
use Rattle.sim_relation.specs.Stands.{Keeps, IsProgram, StandsFor}
use Rattle.sim_relation.proofs.First.{starts_stand}
use Rattle.sim_runs.specs.Turned.{AreBytes}
use Rattle.sim_runs.proofs.RunsOn.{AlikeOn}
use Rattle.sim_runs.proofs.WholeRuns.{alike}
use Rattle.sim_landings.specs.Landings.{gate_at, gate_in, slot_thrown_by, slot_thrown_at, slot_resumed_at, landing_by_slots, ThrowsWhat, Pad, Landing, stands_at, landing_by, landings, landings_from, resumes_of, flight_of, if_own, pads, AreFirst}
use Rattle.sim_landings.specs.Due.{left_due, GoesOn, GoesOnBy, DueAfter}
use Rattle.sim_landings.specs.LandingLaws.{ThrowsLandInOrder, ResumesLand, RunsLandInOrder}
use Rattle.sim_landings.proofs.Ended.{EndsSo, ends_so, ends_by}
use Rattle.sim_landings.proofs.Flies.{FliesTo, throw_flies, rethrow_flies}
use Rattle.sim_landings.proofs.FlightDue.{reached_lands}
use Rattle.sim_landings.proofs.OneEvent.{due_goes_on, caught_small}
use Rattle.sim_landings.proofs.Reached.{found_reached}
use Rattle.sim_landings.proofs.Threw.{frames_from, threw_lands}
use Rattle.sim_landings.proofs.Walked.{IsTrap, ByGate, by_gate}

-- what an event that goes on leaves
abbrev Kept : Accepted → Event Recorded End → Type 0
Kept x (Goes t text left) = Keeps x t × AreBytes left
Kept x (Ends end t) = Unit {0}

kept_by : (x : Accepted) (e : Event State End) (d : Event Recorded End) → AlikeOn State Recorded End AreBytes (StandsFor x) e d → Kept x d
kept_by x (Goes b text left) (Goes t said rest) a = (a.0.keeps, subst AreBytes a.2 a.3)
kept_by x (Goes b text left) (Ends why t) a = tt
kept_by x (Ends end b) (Goes t said rest) a = absurd a
kept_by x (Ends end b) (Ends why t) a = tt

module _ (x : Accepted) (is : IsProgram x) where
  abbrev event : Recorded → List ℕ → Event Recorded End
  event = machine.recorded_event (program_of x)

  kept : (s : Recorded) (input : List ℕ) → Keeps x s → AreBytes input → Kept x (machine.recorded_event (program_of x) s input)
  kept s input k bytes =
      kept_by x (machine_event (program_of x) (bytes_of s) input) (machine.recorded_event (program_of x) s input) (alike x is (bytes_of s) s input bytes (record { same = refl; keeps = k }))

  -- ---- what is reached

  reached_kept : (n : ℕ) (s : Recorded) (input : List ℕ) (r : ReachedState Recorded) → Keeps x s → AreBytes input → reach_state (machine.recorded_event (program_of x)) n s input ≡ Some r → Keeps x r.state × AreBytes r.left
  unfolding reach_state
  reached_kept zero s input r k bytes e =
      let same : record { text = []; state = s; left = input } ≡ r = cc in
      subst (λ (q : ReachedState Recorded). Keeps x q.state × AreBytes q.left) same (k, bytes)
  reached_kept (suc n) s input r k bytes e = go (machine.recorded_event (program_of x) s input) (kept s input k bytes) e (λ t left q h g. reached_kept n t left q h.0 h.1 g)
    where
      by : (text : List ℕ) (t : Recorded) (left : List ℕ) → ((q : ReachedState Recorded) → reach_state (machine.recorded_event (program_of x)) n t left ≡ Some q → Keeps x q.state × AreBytes q.left) → (o : Option (ReachedState Recorded))
          → reach_state (machine.recorded_event (program_of x)) n t left ≡ o → option_map (prepend_reached text) o ≡ Some r → Keeps x r.state × AreBytes r.left
      by text t left further None f g = absurd cc
      by text t left further (Some q) f g =
          let same : prepend_reached text q ≡ r = cc in
          subst (λ (p : ReachedState Recorded). Keeps x p.state × AreBytes p.left) same (further q f)

      go : (d : Event Recorded End) → Kept x d → reach_after d (reach_state (machine.recorded_event (program_of x)) n) ≡ Some r
          → ((t : Recorded) (left : List ℕ) (q : ReachedState Recorded) → Keeps x t × AreBytes left → reach_state (machine.recorded_event (program_of x)) n t left ≡ Some q → Keeps x q.state × AreBytes q.left) → Keeps x r.state × AreBytes r.left
      go (Goes t text left) w f further = by text t left (λ q g. further t left q w g) (reach_state (machine.recorded_event (program_of x)) n t left) refl f
      go (Ends end t) w f further = absurd cc

  -- ---- the resumes of an exception

  module _ (slot : ℕ) where
    none_yet : (old : List Pad) → AreFirst [] old
    none_yet old = record { rest = old; is = refl }

    pub one_more : (at : Pad) (some new old : List Pad) → AreFirst (at ∷ new) old → AreFirst some new → AreFirst (at ∷ some) old
    one_more at some new old a b = record {
      rest = b.rest ++ a.rest;
      is = a.is ∙ ap (λ (ps : List Pad). at ∷ (ps ++ a.rest)) b.is ∙ ap (λ (ps : List Pad). at ∷ ps) (append_assoc some b.rest a.rest);
    }

    by_landing : (old new : List Pad) (o : Option Landing) (further : List Landing) → GoesOn slot old new o → AreFirst (resumes_of slot further) new → AreFirst (resumes_of slot (cons_option o further)) old
    by_landing old new None further e f = subst (AreFirst (resumes_of slot further)) e f
    by_landing old new (Some l) further e f = go (l.exception == slot) l.resumes e
      where
        go : (b c : Bool) → GoesOnBy b c l.pad old new → AreFirst (if_own b c l.pad (resumes_of slot further)) old
        go true true w = one_more l.pad (resumes_of slot further) new old w f
        go true false w = none_yet old
        go false c w = subst (AreFirst (resumes_of slot further)) w f

    pub resumes_first : (n : ℕ) (s : Recorded) (input : List ℕ) → Keeps x s → AreBytes input → AreFirst (resumes_of slot (landings (program_of x) n s input)) (left_due x.image s slot)
    unfolding landings
    resumes_first zero s input k bytes = none_yet (left_due x.image s slot)
    resumes_first (suc n) s input k bytes =
        go (machine.recorded_event (program_of x) s input) (due_goes_on x s input slot is k bytes) (kept s input k bytes) (λ t left h. resumes_first n t left h.0 h.1)
      where
        go : (d : Event Recorded End) → DueAfter x.image s slot d → Kept x d
            → ((t : Recorded) (left : List ℕ) → Keeps x t × AreBytes left → AreFirst (resumes_of slot (landings (program_of x) n t left)) (left_due x.image t slot))
            → AreFirst (resumes_of slot (landings_from (profile_of x.image) s d (landings (program_of x) n))) (left_due x.image s slot)
        go (Goes t text left) w h further = by_landing (left_due x.image s slot) (left_due x.image t slot) (landing_by (profile_of x.image) s t) (landings (program_of x) n t left) w (further t left h)
        go (Ends end t) w h further = none_yet (left_due x.image s slot)

  -- ---- a throw

  gate_is : (what : Stepped) (number : ℕ) → gate_in what ≡ Some number → what ≡ Gate number
  gate_is (Gate n) number e = ap Gate (let same : n ≡ number = cc in same)
  gate_is Done number e = absurd cc
  gate_is (Call target ret) number e = absurd cc
  gate_is (Return to) number e = absurd cc
  gate_is (Trap trap) number e = absurd cc

  abbrev AtGate : Recorded → List ℕ → ℕ → Event Recorded End → Type 0
  AtGate s input number (Goes t text left) = (next : ℕ) × (machine.gate_of (program_tables (program_of x)) number next s ≡ (Went, t))
  AtGate s input number (Ends end t) = ((next : ℕ) × (machine.gate_of (program_tables (program_of x)) number next s ≡ (Ended end, t))) ⊎ IsTrap end

  at_gate : (s : Recorded) (input : List ℕ) (number : ℕ) → gate_at (profile_of x.image) s ≡ Some number → nat_lt INPUT_GATE number ≡ true → AtGate s input number (machine.recorded_event (program_of x) s input)
  at_gate s input number e high = by (step_for (profile_of x.image) s.regs (memory_of s)) refl
    where
      again : (regs : Regs) (m : Memory) (step : step_for (profile_of x.image) s.regs (memory_of s) ≡ (Gate number, regs, m)) (d : Event Recorded End) → ByGate (program_of x) s input number regs m step high d → AtGate s input number d
      again regs m step (Goes t text left) w = (regs.pc, w.0)
      again regs m step (Ends end t) (inl w) = inl (regs.pc, w)
      again regs m step (Ends end t) (inr w) = inr w

      by : (o : Stepping) → step_for (profile_of x.image) s.regs (memory_of s) ≡ o → AtGate s input number (machine.recorded_event (program_of x) s input)
      by (what, regs, m) step =
          let is_gate : what ≡ Gate number = gate_is what number (sym (ap (λ (o : Stepping). gate_in o.0) step) ∙ e) in
          let whole : step_for (profile_of x.image) s.regs (memory_of s) ≡ (Gate number, regs, m) = step ∙ ap (λ (w : Stepped). let o : Stepping = (w, regs, m) in o) is_gate in
          again regs m whole (machine.recorded_event (program_of x) s input) (by_gate (program_of x) s input number regs m whole high)

  same_barrier : (f : Found) (a b : Barrier) → f ≡ found.Barrier a → f ≡ found.Barrier b → a ≡ b
  same_barrier f a b e g = let w : found.Barrier a ≡ found.Barrier b = sym e ∙ g in cc

  module _ (s : Recorded) (k : Keeps x s) (slot : ℕ) (thrown : Thrown) (what : ThrowsWhat (profile_of x.image) s slot thrown) (b : Barrier) (search : machine.phase1_result (program_tables (program_of x)) s thrown ≡ found.Barrier b) where
    threw_enters : Lands (phase2 (goal_of b) 0 (machine.frames_from (program_tables (program_of x)) s None s.regs.pc))
    threw_enters =
        reached_lands (goal_of b) 0 (frames_from x s s.regs.pc)
        (found_reached (meeting x.image (program_tables (program_of x)).types s.segments thrown) x.image (first_place s.cleanups) s.regs.pc (all_of s.regs) s.first s.outer b search)

    by_flight : (t : Recorded) → slot < SLOTS → FliesTo (program_tables (program_of x)) s t slot thrown → AreFirst (stands_at t ∷ left_due x.image t slot) (pads (remaining_landings (goal_of b) 0 (frames_from x s s.regs.pc).frames))
    by_flight t small f =
        subst (λ (c : Barrier). AreFirst (stands_at t ∷ left_due x.image t slot) (pads (remaining_landings (goal_of c) 0 (frames_from x s s.regs.pc).frames))) (same_barrier (machine.phase1_result (program_tables (program_of x)) s thrown) f.barrier b f.found search)
        (threw_lands x is s k t slot small thrown f)

    lands_so : (input : List ℕ) (t : Recorded) (text left : List ℕ) → machine.recorded_event (program_of x) s input ≡ Goes t text left
        → AreFirst (stands_at t ∷ left_due x.image t slot) (pads (remaining_landings (goal_of b) 0 (frames_from x s s.regs.pc).frames))
    unfolding machine.gate_of
    lands_so input t text left e = elim what [
      | inl w ↦ (
          let q = subst (AtGate s input THROW_GATE) e (at_gate s input THROW_GATE w.0 refl) in
          by_flight t (object_small (reg_in s 0) slot w.1) (subst (FliesTo (program_tables (program_of x)) s t slot) (sym w.2) (throw_flies (program_tables (program_of x)) s t slot w.1 q.1)))
      | inr w ↦ (
          let q = subst (AtGate s input RETHROW_GATE) e (at_gate s input RETHROW_GATE w.0 refl) in
          let small = caught_small s x k slot w.1 in
          by_flight t small (subst (FliesTo (program_tables (program_of x)) s t slot) (sym w.2) (rethrow_flies (program_tables (program_of x)) s t slot (slot_of_block_is slot small) w.1 q.1)))
    ]

    thrown_is : slot_thrown_at (profile_of x.image) s ≡ Some slot
    thrown_is = elim what [
      | inl w ↦ ap (slot_thrown_by s) w.0 ∙ w.1
      | inr w ↦ ap (slot_thrown_by s) w.0 ∙ w.1
    ]

    flight_first : (m : ℕ) (input : List ℕ) → AreBytes input → AreFirst (flight_of slot (landings (program_of x) m s input)) (pads (remaining_landings (goal_of b) 0 (frames_from x s s.regs.pc).frames))
    unfolding landings
    flight_first zero input bytes = none_yet slot (pads (remaining_landings (goal_of b) 0 (frames_from x s s.regs.pc).frames))
    flight_first (suc m) input bytes = go (machine.recorded_event (program_of x) s input) refl (kept s input k bytes)
      where
        by : (t : Recorded) (left : List ℕ) → Keeps x t × AreBytes left → AreFirst (stands_at t ∷ left_due x.image t slot) (pads (remaining_landings (goal_of b) 0 (frames_from x s s.regs.pc).frames))
            → (o : Option ℕ) → o ≡ Some slot → AreFirst (flight_of slot (cons_option (landing_by_slots (stands_at t) o (slot_resumed_at (profile_of x.image) s)) (landings (program_of x) m t left))) (pads (remaining_landings (goal_of b) 0 (frames_from x s s.regs.pc).frames))
        by t left h w None e = absurd cc
        by t left h w (Some thrown_slot) e =
            one_more slot (stands_at t) (resumes_of slot (landings (program_of x) m t left)) (left_due x.image t slot) (pads (remaining_landings (goal_of b) 0 (frames_from x s s.regs.pc).frames)) w (resumes_first slot m t left h.0 h.1)

        go : (d : Event Recorded End) → machine.recorded_event (program_of x) s input ≡ d → Kept x d
            → AreFirst (flight_of slot (landings_from (profile_of x.image) s d (landings (program_of x) m))) (pads (remaining_landings (goal_of b) 0 (frames_from x s s.regs.pc).frames))
        go (Goes t text left) e h = by t left h (lands_so input t text left e) (slot_thrown_at (profile_of x.image) s) thrown_is
        go (Ends end t) e h = none_yet slot (pads (remaining_landings (goal_of b) 0 (frames_from x s s.regs.pc).frames))

  -- ---- the end of a cleanup

  resume_ends : (s : Recorded) (k : Keeps x s) (input : List ℕ) (why : Cause) (t : Recorded) → gate_at (profile_of x.image) s ≡ Some END_CLEANUP_GATE → machine.recorded_event (program_of x) s input ≡ Ends (the_end.Terminate why) t → why ≡ cause.Unexpected
  unfolding machine.gate_of
  resume_ends s k input why t e f = elim (subst (AtGate s input END_CLEANUP_GATE) f (at_gate s input END_CLEANUP_GATE e refl)) [
    | inl q ↦ by (ends_so (program_tables (program_of x)) s) q.1
    | inr trap ↦ absurd (trap why refl)
  ]
    where
      by : EndsSo (program_tables (program_of x)) s (machine.end_cleanup_gate (program_tables (program_of x)) s) → machine.end_cleanup_gate (program_tables (program_of x)) s ≡ (Ended (the_end.Terminate why), t) → why ≡ cause.Unexpected
      by (inl r) q = ends_by x is s k (program_tables (program_of x)) refl _ r why t q
      by (inr (end, g, trap)) q =
          let same : ◌≡◌ {A = Turned} (Ended end) (Ended (the_end.Terminate why)) = ap (λ (o : machine.Outcome). o.0) (sym g ∙ q) in
          absurd (trap why (let w : end ≡ the_end.Terminate why = cc in w))

pub throws_land_in_order : ThrowsLandInOrder
throws_land_in_order x s input slot m thrown b is k bytes what search = record { enters = threw_enters x is s k slot thrown what b search; order = flight_first x is s k slot thrown what b search m input bytes }

pub resumes_land : ResumesLand
resumes_land x s input why t is k bytes gate ends = resume_ends x is s k input why t gate ends

pub runs_land_in_order : RunsLandInOrder
runs_land_in_order x n input r is bytes stood =
    let w = reached_kept x is n (recorded_start (program_of x)) input r (starts_stand x is) bytes stood in
    record {
      throws = λ slot m thrown b what search. throws_land_in_order x r.state r.left slot m thrown b is w.0 w.1 what search;
      resumes = λ why t gate ends. resumes_land x r.state r.left why t is w.0 w.1 gate ends;
    }
