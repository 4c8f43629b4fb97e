-- A forced unwinding that isn't refused is a flight to a barrier within reach.
use Rattle.std.proofs.Common.{◌≡◌, ℕ, ◌<◌, ◌^◌, ◌⊎◌, inl, inr, List, ◌∷◌, refl, sym, ap, subst, ◌∙◌, Option, Some, None, Result, Ok, Err}
use Rattle.std.specs.Prelude.{drop, is_some}
use Rattle.eh_cxa.specs.Allocate.{first_slot}
use Rattle.eh_cxa.specs.ListCalls.{is_free, allocate_in, allocate_list, innermost_in}
use Rattle.eh_cxa.specs.Lists.{entry}
use Rattle.eh_cxa.specs.Throw.{set_barrier_of}
use Rattle.eh_cxa.specs.Words.{block, block_slot, object}
use Rattle.eh_gates.specs.Throwing.{handler_object, barrier_words}
use Rattle.eh_gates.specs.declared.state.Turned.TheVariants.{Went}
use Rattle.eh_phase.specs.Laws.{goal_of, Lands}
use Rattle.eh_phase.specs.Phases.{phase2}
use Rattle.eh_phase.specs.declared.phase1.Barrier.{Barrier}
use Rattle.eh_phase.specs.declared.phase2.Entered.{Entered}
use Rattle.eh_phase.specs.declared.phase2.Entered.TheVariants as enters
use Rattle.eh_types.specs.Graph.{row_of}
use Rattle.frame_check.specs.Accepts.{Accepted}
use Rattle.sim_machines.specs.Activations.{Activation, Recorded, memory_of, lists_of, cleanups_in, with_words}
use Rattle.sim_machines.specs.ActivationMachine as acts
use Rattle.sim_machines.specs.Checked.{program_of}
use Rattle.sim_machines.specs.Program.{program_tables}
use Rattle.sim_relation.specs.Stands.{Keeps, IsProgram}
use Rattle.sim_landings.specs.sim_runs.Turned.{AreBytes}
use Rattle.sim_landings.specs.sim_resumes.Flying.{fly_from}
use Rattle.sim_landings.proofs.sim_resumes.FlyFrom.{flights_match, gates_fly}
use Rattle.sim_landings.specs.LandingLaws.{FlightsLandInOrder}
use Rattle.eh_walk.specs.declared.stopping.ForceFault.{ForceFault}
use Rattle.eh_walk.specs.declared.stopping.ForceFault.TheVariants.{NotSite, PoolFull}
use Rattle.eh_walk.specs.declared.stopping.StopFrame.{StopFrame}
use Rattle.eh_walk.specs.Forced.{RecordedForced, stop_barrier, recorded_fly_allocated, recorded_allocate_and_fly, recorded_force_to_stop, recorded_force_from_site, recorded_force_outcome}
use Rattle.eh_walk.specs.Sites.{site_state}
use Rattle.eh_walk.specs.Stops.{stop_at}
use Rattle.eh_walk.proofs.SiteStates.{throws_there}
use Rattle.eh_walk.proofs.StopFound.{found}
use Rattle.eh_walk.proofs.ForcedActs.{in_flight_of, in_flight_keeps, can, recorded_lands}
use Rattle.sim_forced_landings.specs.Forcings.{frames_on, ForcedInOrder, ForcingsLandInOrder}

-- ---- where phase 2 enters something the run goes on

module _ (x : Accepted) (u t : Recorded) (site slot : ℕ) (b : Barrier) (is : t ≡ (fly_from (program_tables (program_of x)) site (block slot) b u).1) where
  abbrev before : Recorded
  before = with_words (set_barrier_of (block_slot (block slot)) (barrier_words (block slot) b)) u

  abbrev left : List Activation
  left = drop (acts.passed_frame_count (goal_of b) 0 (frames_on x u site).frames) (u.first ∷ u.outer)

  abbrev enters_by : Entered → acts.Outcome
  enters_by e = acts.enter_landing before left (block slot) (handler_object (block slot) b.hit) e

  went : (e : Entered) (new : Recorded) → enters_by e ≡ (Went, new) → phase2 (goal_of b) 0 (frames_on x u site) ≡ e → fly_from (program_tables (program_of x)) site (block slot) b u ≡ (Went, t)
  went e new by q =
      let flies : fly_from (program_tables (program_of x)) site (block slot) b u ≡ (Went, new) = ap enters_by q ∙ by in
      let at : Recorded → acts.Outcome = λ n. (Went, n) in
      flies ∙ ap at (sym (is ∙ ap (λ (o : acts.Outcome). o.1) flies))

  goes : (e : Entered) → phase2 (goal_of b) 0 (frames_on x u site) ≡ e → Lands e
      → (fly_from (program_tables (program_of x)) site (block slot) b u ≡ (Went, t)) ⊎ (phase2 (goal_of b) 0 (frames_on x u site) ≡ enters.Unexpected)
  goes (enters.Cleanup vrs pad next at) q l = inl (went (enters.Cleanup vrs pad next at) _ refl q)
  goes (enters.Catch vrs pad) q l = inl (went (enters.Catch vrs pad) _ refl q)
  goes (enters.Spec vrs pad) q l = inl (went (enters.Spec vrs pad) _ refl q)
  goes enters.Unexpected q l = inr q
  goes (enters.Terminate why) q l = absurd l

-- ---- what was forced

module _ (x : Accepted) (s : Recorded) (number type m : ℕ) (input : List ℕ) (t : Recorded) (is : IsProgram x) (k : Keeps x s) (small : type < 2 ^ 32) (bytes : AreBytes input)
    (law : FlightsLandInOrder) where
  refused : (why : ForceFault) (u : Recorded) → ◌≡◌ {A = RecordedForced} (Err why, u) (Ok tt, t) → ⊥
  refused why u e = let q : ◌≡◌ {A = Result (Unit {0}) ForceFault} (Err why) (Ok tt) = ap (λ (o : RecordedForced). o.0) e in cc

  abbrev limit : Option ℕ
  limit = innermost_in (cleanups_in s.cleanups)

  by_slot : (site : ℕ) → site_state (program_of x) s.regs (memory_of s) ≡ Some site → (stop : StopFrame)
      → stop_at limit (is_some (row_of x.types type)) number (frames_on x s site).frames ≡ Ok stop
      → (o : Option ℕ) → first_slot (λ n. is_free (entry (lists_of s) n)) ≡ o
      → recorded_fly_allocated (program_of x) (record { site = site; ty = type; stop = stop }) s (allocate_in (lists_of s) 0 o).answer ≡ (Ok tt, t) → ForcedInOrder x s number type m input t
  by_slot site at stop q None free e = absurd (refused PoolFull s e)
  by_slot site at stop q (Some slot) free e =
      let throws = throws_there x s site is k at in
      let w = found limit (is_some (row_of x.types type)) number (frames_on x s site).frames stop q in
      let u = in_flight_of x is s k site throws stop w type small slot free in
      let b = stop_barrier (object slot) stop in
      let flies = can x is s k site throws stop w type small slot free in
      let u_keeps = in_flight_keeps x is s k site throws stop w type small slot free in
      let lands : t ≡ (fly_from (program_tables (program_of x)) site (block slot) b u).1 =
      sym (ap (λ (o : RecordedForced). o.1) e) ∙ recorded_lands x is s k site throws stop w type small slot free
      ∙ ap (λ (o : acts.Outcome). o.1) (gates_fly (program_tables (program_of x)) site (block slot) b u) in
      record {
        site = site;
        at = at;
        stop = stop;
        found = q;
        slot = slot;
        thrown = ap (λ (o : Option ℕ). (allocate_in (lists_of s) 0 o).answer) free;
        order = elim (goes x u t site slot b lands (phase2 (goal_of b) 0 (frames_on x u site)) refl (flights_match x u site slot b is u_keeps flies).lands) [
          | inl went ↦ inl (law x u site slot b t m input is u_keeps flies bytes went)
          | inr unexpected ↦ inr unexpected
        ];
      }

  by_stop : (site : ℕ) → site_state (program_of x) s.regs (memory_of s) ≡ Some site → (r : Result StopFrame ForceFault)
      → stop_at limit (is_some (row_of x.types type)) number (frames_on x s site).frames ≡ r
      → recorded_force_to_stop (program_of x) site type s r ≡ (Ok tt, t) → ForcedInOrder x s number type m input t
  by_stop site at (Ok stop) q e = by_slot site at stop q (first_slot (λ n. is_free (entry (lists_of s) n))) refl e
  by_stop site at (Err why) q e = absurd (refused why s e)

  by_site : (o : Option ℕ) → site_state (program_of x) s.regs (memory_of s) ≡ o
      → recorded_force_from_site (program_of x) number type s o ≡ (Ok tt, t) → ForcedInOrder x s number type m input t
  by_site None at e = absurd (refused NotSite s e)
  by_site (Some site) at e = by_stop site at (stop_at limit (is_some (row_of x.types type)) number (frames_on x s site).frames) refl e

  in_order : recorded_force_outcome (program_of x) number type s ≡ (Ok tt, t) → ForcedInOrder x s number type m input t
  unfolding recorded_force_outcome
  in_order e = by_site (site_state (program_of x) s.regs (memory_of s)) refl e

pub forcings_land_in_order : FlightsLandInOrder → ForcingsLandInOrder
forcings_land_in_order law x s number type m input t is k small bytes e = in_order x s number type m input t is k small bytes law e
