-- A run to a site is the same over bytes and with recorded activations.
use Rattle.std.proofs.Common.{◌≡◌, ℕ, ◌+◌, Bool, true, false, cond, List, refl, ap, ◌∙◌}
use Rattle.run_events.specs.Runs.{Event, Goes, Ends, run}
use Rattle.thumb_core.specs.declared.ends.End.{End}
use Rattle.thumb_core.specs.declared.ends.End.TheVariants.{Budget}
use Rattle.eh_gates.specs.State.{State}
use Rattle.frame_check.specs.Accepts.{Accepted}
use Rattle.sim_machines.specs.Activations.{Recorded, recorded_start}
use Rattle.sim_machines.specs.ActivationMachine.{recorded_event}
use Rattle.sim_machines.specs.Checked.{program_of}
use Rattle.sim_machines.specs.Machine.{machine_event}
use Rattle.sim_machines.specs.Start.{start_of}
use Rattle.sim_relation.specs.Stands.{IsProgram, StandsFor}
use Rattle.sim_relation.proofs.First.{starts_stand}
use Rattle.eh_machine.specs.sim_runs.Turned.{AreBytes}
use Rattle.eh_machine.proofs.sim_runs.RunsOn.{AlikeOn, SameOn, same_on}
use Rattle.eh_machine.proofs.sim_runs.WholeRuns.{alike}
use Rattle.eh_walk.specs.Laws.{OnwardFor, ReachesSame, ReachesLeaveBytes, GoingOnSame}
use Rattle.eh_walk.specs.Reaching.{Onward, state_after, count_event, is_stop, is_at_site, is_recorded_at_site, site_machine, recorded_site_machine, most_events}

module _ (x : Accepted) (is : IsProgram x) (budget : ℕ) (o : Onward State) (u : Onward Recorded) (r : OnwardFor x o u) where
  abbrev Both : Event (Onward State) End → Event (Onward Recorded) End → Type 0
  Both e d = AlikeOn (Onward State) (Onward Recorded) End AreBytes (OnwardFor x) e d

  counts : (e : Event State End) (d : Event Recorded End) → AlikeOn State Recorded End AreBytes (StandsFor x) e d → Both (count_event o.done e) (count_event u.done d)
  counts (Goes b text left) (Goes s said rest) a = (record { done = ap (λ n. n + 1) r.done; stands = a.0 }, a.1, a.2, a.3)
  counts (Ends end b) (Ends why s) a = (a.0, record { done = r.done; stands = a.1 })
  counts (Goes b text left) (Ends why s) a = absurd a
  counts (Ends end b) (Goes s said rest) a = absurd a

  stops_same : is_stop (is_at_site (program_of x)) budget o.done o.state ≡ is_stop (is_recorded_at_site (program_of x)) budget u.done u.state
  stops_same =
      ap (λ n. is_stop (is_at_site (program_of x)) budget n o.state) r.done ∙ ap (is_stop (is_at_site (program_of x)) budget u.done) r.stands.same

  by_stop : (b c : Bool) → b ≡ c → (e : Event State End) (d : Event Recorded End) → AlikeOn State Recorded End AreBytes (StandsFor x) e d
      → Both (cond b (Ends Budget o) (count_event o.done e)) (cond c (Ends Budget u) (count_event u.done d))
  by_stop true true same e d a = (refl, r)
  by_stop false false same e d a = counts e d a
  by_stop true false same e d a = absurd cc
  by_stop false true same e d a = absurd cc

  event_same : (input : List ℕ) → AreBytes input → Both ((site_machine (program_of x) budget).event o input) ((recorded_site_machine (program_of x) budget).event u input)
  event_same input fits =
      by_stop (is_stop (is_at_site (program_of x)) budget o.done o.state) (is_stop (is_recorded_at_site (program_of x)) budget u.done u.state) stops_same
      (machine_event (program_of x) o.state input) (recorded_event (program_of x) u.state input) (alike x is o.state u.state input fits r.stands)

module _ (x : Accepted) (budget : ℕ) (input : List ℕ) (is : IsProgram x) (fits : AreBytes input) where
  reached : SameOn (Onward State) (Onward Recorded) End AreBytes (OnwardFor x)
      (run (site_machine (program_of x) budget).event Budget (most_events budget) (state_after 0 (start_of (program_of x))) input)
      (run (recorded_site_machine (program_of x) budget).event Budget (most_events budget) (state_after 0 (recorded_start (program_of x))) input)
  reached =
      let first : OnwardFor x (state_after 0 (start_of (program_of x))) (state_after 0 (recorded_start (program_of x))) =
      record { done = refl; stands = record { same = refl; keeps = starts_stand x is } } in
      same_on (Onward State) (Onward Recorded) End AreBytes (OnwardFor x) (site_machine (program_of x) budget).event (recorded_site_machine (program_of x) budget).event Budget
      (λ o u left f r. event_same x is budget o u r left f) (most_events budget) (state_after 0 (start_of (program_of x))) (state_after 0 (recorded_start (program_of x))) input fits first

pub reaches_same : ReachesSame
reaches_same x budget input is fits = (reached x budget input is fits).same

pub reaches_leave_bytes : ReachesLeaveBytes
reaches_leave_bytes x budget input is fits = (reached x budget input is fits).fits

pub going_on_same : GoingOnSame
going_on_same x n b s input is stands fits =
    (same_on State Recorded End AreBytes (StandsFor x) (machine_event (program_of x)) (recorded_event (program_of x)) Budget (alike x is) n b s input fits stands).same
