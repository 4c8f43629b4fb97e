-- What a throw enters first (IHI 0038, "Phase 1 unwinding" and "Phase 2 unwinding"; docs/rules/phases-and-exceptions.md, "Laws").
use Rattle.eh_phase.specs.declared.phase1.Found.{Found}
use Rattle.eh_phase.specs.declared.phase1.Found.TheVariants as found
use Rattle.eh_phase.specs.Phases.{Frames, phase2}
use Rattle.eh_phase.specs.Laws.{goal_of}
use Rattle.eh_phase.specs.declared.joined.First.{First}
use Rattle.eh_phase.specs.declared.joined.First.TheVariants.{Enters, Ends}

-- phase 2 runs only from a barrier that phase 1 found; without one nothing is entered
abbrev pub first_of : Found → Frames → First
first_of (found.Barrier b) fs = Enters b (phase2 (goal_of b) 0 fs)
first_of (found.Terminate cause) fs = Ends (found.Terminate cause)
first_of (found.ObjectRead a) fs = Ends (found.ObjectRead a)
