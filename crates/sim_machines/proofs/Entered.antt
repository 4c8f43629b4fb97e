-- What is entered with recorded activations, and where.
use Rattle.std.proofs.Common.{slice_index, refl}
use Rattle.eh_cxa.proofs.Pools.{slot_of_block_is}
use Rattle.eh_phase.specs.declared.phase2.Entered.TheVariants as enters
use Rattle.thumb_core.specs.declared.regs.TheConstants.{SP}
use Rattle.sim_machines.specs.Landings.{LandingsAreInTheirActivation}
use Rattle.sim_machines.proofs.RecordedGates.{callers_left}

pub are_in : LandingsAreInTheirActivation
are_in s a more slot object (enters.Cleanup vrs pad next site) h =
    rw (slot_of_block_is slot h) (record {
      goes = refl;
      stands = record { function = refl; caller = refl; outer = callers_left s.home (slice_index vrs.r SP) more };
      with_regs = refl;
      in_progress = refl;
    })
are_in s a more slot object (enters.Catch vrs pad) h =
    rw (slot_of_block_is slot h) (record {
      goes = refl;
      stands = record { function = refl; caller = refl; outer = callers_left s.home (slice_index vrs.r SP) more };
      with_regs = refl;
      in_progress = refl;
    })
are_in s a more slot object (enters.Spec vrs pad) h =
    rw (slot_of_block_is slot h) (record {
      goes = refl;
      stands = record { function = refl; caller = refl; outer = callers_left s.home (slice_index vrs.r SP) more };
      with_regs = refl;
      in_progress = refl;
    })
are_in s a more slot object enters.Unexpected h = refl
are_in s a more slot object (enters.Terminate why) h = refl
