-- The landings of any exception that flies to a barrier within reach, and of its resumes along a run.
use Rattle.std.proofs.Common.{ℕ, ◌∷◌, Option, refl, sym, ap, subst, ◌∙◌}
use Rattle.eh_cxa.specs.Throw.{set_barrier_of}
use Rattle.eh_cxa.specs.Words.{block}
use Rattle.eh_cxa.proofs.Pools.{slot_of_block_is}
use Rattle.eh_gates.specs.Throwing.{handler_object, barrier_words}
use Rattle.eh_phase.specs.Cleanups.{remaining_landings}
use Rattle.eh_phase.specs.Laws.{goal_of}
use Rattle.sim_machines.specs.Activations.{with_words}
use Rattle.sim_machines.specs.ActivationMachine as machine
use Rattle.sim_machines.specs.Checked.{program_of}
use Rattle.sim_relation.specs.Stands.{Keeps}
use Rattle.sim_runs.specs.sim_resumes.Flying.{all_frames}
use Rattle.sim_runs.proofs.sim_resumes.FlyFrom.{flights_match}
use Rattle.sim_landings.specs.Landings.{stands_at, landings, resumes_of, pads}
use Rattle.sim_landings.specs.Due.{left_due}
use Rattle.sim_landings.specs.LandingLaws.{FlightsLandInOrder}
use Rattle.sim_landings.proofs.Runs.{one_more, resumes_first}
use Rattle.sim_landings.proofs.Threw.{flight_lands}

pub flights_land_in_order : FlightsLandInOrder
flights_land_in_order x s site slot b t m input is k can bytes e =
    let kt : Keeps x t = subst (λ (o : machine.Outcome). Keeps x o.1) e (flights_match x s site slot b is k can).keeps in
    let went = ap (λ (o : Option ℕ). machine.advances (with_words (set_barrier_of o (barrier_words (block slot) b)) s) (s.first ∷ s.outer) (block slot) (handler_object (block slot) b.hit) (goal_of b) 0 (all_frames x s site))
    (sym (slot_of_block_is slot can.flight.small)) ∙ e in
    let lands =
    flight_lands x is s k s t site slot b can.flight.small refl refl refl refl k.corresponds.map (λ u j low high. refl) can.flight.idle can.sp can.desc can.reached went in
    one_more x is slot (stands_at t) (resumes_of slot (landings (program_of x) m t input)) (left_due x.image t slot) (pads (remaining_landings (goal_of b) 0 (all_frames x s site).frames)) lands (resumes_first x is slot m t input kt bytes)
