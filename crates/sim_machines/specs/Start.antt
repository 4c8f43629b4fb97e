-- The initial state of a run of a checked program (docs/rules/machine.md, "The start").
use Rattle.frame_check.specs.run_images.Start.{image_start}
use Rattle.eh_cxa.specs.Runs.{no_globals}
use Rattle.eh_trace.specs.Trace.{no_events}
use Rattle.eh_gates.specs.State.{State}
use Rattle.sim_machines.specs.Program.{Program}

abbrev pub start_of : Program → State
start_of p = record {
  regs = (image_start p.image).regs;
  globals = no_globals;
  memory = (image_start p.image).memory;
  events = no_events;
}
