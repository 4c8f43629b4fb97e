-- Runs of any length, from events: what every event keeps, and an input of bytes.
use Rattle.std.proofs.Common.{ℕ, List, sym, subst, refl, ◌≡◌, ap, ◌∙◌, Err}
use Rattle.run_events.specs.Runs.{Event, Goes, Ends}
use Rattle.thumb_core.specs.declared.ends.End.{End}
use Rattle.sim_machines.specs.frame_check.Accepts.{Accepted}
use Rattle.eh_gates.specs.State.{State}
use Rattle.sim_machines.specs.Machine.{machine_event}
use Rattle.sim_machines.specs.ActivationMachine.{recorded_event}
use Rattle.sim_machines.specs.ActivationLaws.{Matches}
use Rattle.sim_machines.specs.Activations.{Recorded, bytes_of, recorded_start}
use Rattle.sim_machines.specs.Checked.{program_of}
use Rattle.sim_machines.specs.Start.{start_of}
use Rattle.eh_trace.specs.Trace.{Trace}
use Rattle.eh_bus.specs.Memory.{store}
use Rattle.eh_bus.specs.declared.fault.BusFault.TheVariants.{SavedSlot}
use Rattle.sim_machines.proofs.Saving.{are_guarded}
use Rattle.thumb_core.specs.declared.ends.End.TheVariants as the_end
use Rattle.sim_accesses.specs.sim_relation.Stands.{StandsFor, IsProgram, OnEvent}
use Rattle.sim_runs.specs.Turned.{AreBytes, RunsSame, byte_run, recorded_run, Observation, ReportsSame, RunsGuard}
use Rattle.sim_runs.proofs.Fitting.{FitsIn, event_fits}
use Rattle.sim_runs.proofs.OneEvent.{turns}
use Rattle.sim_runs.proofs.RunsOn.{AlikeOn, same_on}
use Rattle.sim_accesses.proofs.sim_relation.First.{starts_stand}

module _ (x : Accepted) (is : IsProgram x) where
  together : (e : Event State End) (d : Event Recorded End) → Matches e d → OnEvent x d → FitsIn d → AlikeOn State Recorded End AreBytes (StandsFor x) e d
  together (Goes b text left) (Goes s said rest) m k f = (record { same = m.0; keeps = k }, m.1, m.2, subst AreBytes (sym m.2) f)
  together (Ends end b) (Ends why s) m k f = (m.0, record { same = m.1; keeps = k })
  together (Goes b text left) (Ends why s) m k f = absurd m
  together (Ends end b) (Goes s said rest) m k f = absurd m

  pub alike : (b : State) (s : Recorded) (input : List ℕ) → AreBytes input → StandsFor x b s → AlikeOn State Recorded End AreBytes (StandsFor x) (machine_event (program_of x) b input) (recorded_event (program_of x) s input)
  alike b s input fits r =
      let t = turns x s input is r.keeps fits in
      subst (λ (c : State). AlikeOn State Recorded End AreBytes (StandsFor x) (machine_event (program_of x) c input) (recorded_event (program_of x) s input)) (sym r.same)
      (together (machine_event (program_of x) (bytes_of s) input) (recorded_event (program_of x) s input) t.same t.keeps (event_fits (program_of x) s input fits))

pub runs_same : RunsSame
runs_same x n input is fits =
    let first : StandsFor x (start_of (program_of x)) (recorded_start (program_of x)) = record { same = refl; keeps = starts_stand x is } in
    let w = (same_on State Recorded End AreBytes (StandsFor x) (machine_event (program_of x)) (recorded_event (program_of x)) the_end.Budget (alike x is) n (start_of (program_of x)) (recorded_start (program_of x)) input fits first).same in
    record { text = w.text; end = w.end; left = w.left; spare = w.spare; state = w.state }

pub reports_same : ReportsSame
reports_same x n input is fits =
    let w = runs_same x n input is fits in
    let b = byte_run x n input in
    let s = recorded_run x n input in
    let events : b.state.events ≡ s.state.events = ap (λ (c : State). c.events) w.state.same in
    let one : List ℕ → Observation = λ t. (t, b.state.events, b.end, b.left) in
    let two : Trace → Observation = λ e. (s.text, e, b.end, b.left) in
    let three : End → Observation = λ e. (s.text, s.state.events, e, b.left) in
    let four : List ℕ → Observation = λ l. (s.text, s.state.events, s.end, l) in
    ap one w.text ∙ ap two events ∙ ap three w.end ∙ ap four w.left

pub runs_guard : RunsGuard
runs_guard x n input is fits width a v g wide at slot low high =
    let w = (runs_same x n input is fits).state in
    let t = (recorded_run x n input).state in
    let refused = (are_guarded t).refused width a v g w.keeps.corresponds.map wide at slot low high in
    subst (λ (c : State). store width c.memory a v ≡ (Err (SavedSlot g), c.memory)) (sym w.same) refused
