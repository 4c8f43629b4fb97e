-- The report of the run of a rewritten image, and what a file gives for it.
use Rattle.std.proofs.Common.{◌≡◌, ℕ, List, Option, Some, None, IfSome, refl}
use Rattle.eh_gates.specs.State.{State}
use Rattle.run_events.specs.Laws.{SameRan}
use Rattle.run_events.specs.Runs.{Ran, Runs}
use Rattle.sim_machines.specs.Activations.{Recorded}
use Rattle.sim_machines.specs.Program.{Program}
use Rattle.frame_check.specs.Accepts.{Accepted}
use Rattle.gnu_machine.specs.GnuMachine.{gnu_machine_of}
use Rattle.thumb_core.specs.declared.ends.End.{End}
use Rattle.cmd_perform.specs.BothRuns.{bytes_events, recorded_events, HaveSameEvents}
use Rattle.cmd_perform.specs.GnuReport.{GnuAccepted, GnuSame, bytes_gnu_run, gnu_report, recorded_gnu_report, recorded_gnu_run}
use Rattle.cmd_perform.specs.RunReport.{run_report}

-- the report of a run over bytes is that of the run with recorded activations
same_report : (a : Accepted) (one : Ran State End) (two : Ran Recorded End) → SameRan HaveSameEvents one two → run_report bytes_events a one ≡ run_report recorded_events a two
same_report a one two w = rw (w.text, w.end, w.left, w.state) refl

pub run_gnu : (filters : List (ℕ × ℕ)) (budget : ℕ) (a : Accepted) (input : List ℕ) → GnuSame filters a → GnuAccepted filters budget a input (gnu_report filters budget a input)
unfolding gnu_report recorded_gnu_report
run_gnu filters budget a input same = record {
  is = refl;
  recorded = λ bytes. same_report a (bytes_gnu_run filters budget a input) (recorded_gnu_run filters budget a input) (same budget input bytes);
}

-- a run, whatever it had to spare
pub gnu_some : (p : Program) (filters : List (ℕ × ℕ)) (budget : ℕ) (old : State) (end : End) (new : State) (unspent : ℕ) (told left before now : Option (List ℕ))
    → IfSome told (λ b. Runs (gnu_machine_of p filters) budget old b end new unspent left before now)
    → IfSome told (λ b. (spare : ℕ) × Runs (gnu_machine_of p filters) budget old b end new spare left before now)
gnu_some p filters budget old end new unspent None left before now r = tt
gnu_some p filters budget old end new unspent (Some b) left before now r = (unspent, r)
