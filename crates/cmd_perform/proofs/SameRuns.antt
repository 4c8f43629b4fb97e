-- A run of an accepted image over bytes is its run with recorded activations.
use Rattle.std.proofs.Common.{◌≡◌, ◌<◌, ◌^◌, ℕ, List, ap, subst, arith}
use Rattle.eh_bus.specs.Map.{AreSegments, IsMap, flat_home}
use Rattle.eh_bus.specs.Memory.{Memory}
use Rattle.eh_bus.specs.Segment.{Segment}
use Rattle.eh_gates.specs.State.{State}
use Rattle.sim_machines.specs.Checked.{program_of}
use Rattle.sim_machines.specs.Start.{start_of}
use Rattle.sim_machines.specs.Machine.{machine_of}
use Rattle.sim_machines.specs.ActivationMachine.{recorded_machine}
use Rattle.run_events.specs.Laws.{SameRan}
use Rattle.run_events.specs.Runs.{machine_run}
use Rattle.elf_image.specs.Image.{IsSound as IsImage}
use Rattle.frame_check.specs.Accepts.{Accepted, IsSound}
use Rattle.thread_laws.specs.sim_relation.Stands.{IsProgram, StandsFor}
use Rattle.sim_runs.specs.Turned.{RunsSame, RunsGuard}
use Rattle.eh_walk.specs.Laws.{ReachesSame, ReachesLeaveBytes, WalksSame, ForcingsSame, GoingOnSame}
use Rattle.cmd_perform.specs.BothRuns.{RunSame, SlotsStay}
use Rattle.cmd_perform.specs.ForceReport.{ForcesSame, forced_type, force_bytes, force_activations}
use Rattle.cmd_perform.specs.WalkReport.{WalkSame, bytes_to_site, recorded_to_site}
use Rattle.cmd_perform.specs.GnuReport.{GnuSame}
use Rattle.cmd_perform.specs.ThreadsReport.{ThreadsSame}
use Rattle.gnu_machine.specs.Laws.{GnuRunsSame}
use Rattle.thread_laws.specs.Laws.{SchedulesSame}

pub program_here : (a : Accepted) (m : Memory) → IsImage a.image → IsSound a → IsMap m → m ≡ (start_of (program_of a)).memory → IsProgram a
program_here a m image sound map e = record { image = image; sound = sound; map = subst (λ (n : Memory). IsMap n) e map }

pub run_same : (a : Accepted) → IsProgram a → RunsSame → RunSame a
run_same a is same budget input bytes =
    let w = same a budget input is bytes in
    record { text = w.text; end = w.end; left = w.left; spare = w.spare; state = ap (λ (s : State). s.events) w.state.same }

pub slots_stay : (a : Accepted) → IsProgram a → RunsGuard → SlotsStay a
slots_stay a is guard input bytes count width at value slot = guard a count input is bytes width at value slot

pub walk_same : (a : Accepted) → IsProgram a → ReachesSame → WalksSame → WalkSame a
walk_same a is reaches walks budget input bytes =
    let w = reaches a budget input is bytes in
    record {
      text = w.text;
      end = w.end;
      left = w.left;
      spare = w.spare;
      state = record { events = ap (λ (s : State). s.events) w.state.stands.same; walks = walks a _ _ is w.state.stands };
    }

pub forces_same : (a : Accepted) → IsProgram a → forced_type a.image < 2 ^ 32 → ReachesSame → ReachesLeaveBytes → ForcingsSame → GoingOnSame → ForcesSame a
forces_same a is fits reaches leaves forces goes number budget input bytes =
    let w = reaches a budget input is bytes in
    let f = forces a (bytes_to_site budget a input).state.state (recorded_to_site budget a input).state.state number (forced_type a.image) is w.state.stands fits in
    record {
      reaches = w;
      answer = f.answer;
      events = ap (λ (s : State). s.events) f.stands.same;
      goes = λ n.
          subst
          (λ (left : List ℕ).
          SameRan (StandsFor a) (machine_run (machine_of (program_of a)) n (force_bytes number a (bytes_to_site budget a input).state.state).1 (bytes_to_site budget a input).left)
          (machine_run (recorded_machine (program_of a)) n (force_activations number a (recorded_to_site budget a input).state.state).1 left))
          w.left
          (goes a n _ _ (bytes_to_site budget a input).left is f.stands (leaves a budget input is bytes));
    }

-- .. by the segments of that memory alone: nothing is guarded there, and the running stack is the whole one
pub program_by_segments : (a : Accepted) (ss : List Segment) → IsImage a.image → IsSound a → AreSegments ss → ss ≡ (start_of (program_of a)).memory.segments → IsProgram a
program_by_segments a ss image sound are e = record {
  image = image;
  sound = sound;
  map = record { segments = subst (λ (l : List Segment). AreSegments l) e are; guards = omega arith; home = flat_home };
}

pub threads_same : (a : Accepted) → IsProgram a → SchedulesSame → ThreadsSame a
threads_same a is same digits budget input bytes = same a digits budget input is bytes

pub gnu_same : (filters : List (ℕ × ℕ)) (a : Accepted) → IsProgram a → GnuRunsSame filters → GnuSame filters a
gnu_same filters a is same budget input bytes =
    let w = same a budget input is bytes in
    record { text = w.text; end = w.end; left = w.left; spare = w.spare; state = ap (λ (s : State). s.events) w.state.same }
