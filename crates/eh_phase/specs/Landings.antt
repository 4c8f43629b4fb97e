-- What phase 2 enters in a frame, without and with the frame's registers and site.
use Rattle.eh_phase.specs.declared.phase2.Landing.{Landing}
use Rattle.eh_phase.specs.declared.phase2.Landing.TheVariants as landing
use Rattle.eh_phase.specs.declared.phase2.Entered.{Entered}
use Rattle.eh_phase.specs.declared.phase2.Entered.TheVariants as enters
use Rattle.eh_phase.specs.Phases.{Frame, vrs_of}

abbrev pub landing_in_frame : Frame → Landing → Entered
landing_in_frame f (landing.Cleanup pad next) = enters.Cleanup (vrs_of f) pad next f.site
landing_in_frame f (landing.Catch pad) = enters.Catch (vrs_of f) pad
landing_in_frame f (landing.Spec pad) = enters.Spec (vrs_of f) pad
landing_in_frame f landing.Unexpected = enters.Unexpected
landing_in_frame f (landing.Terminate cause) = enters.Terminate cause
