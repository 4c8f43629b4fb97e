-- One event of GNU's code, and its runs, in both machines: the same, and kept.
use Rattle.std.proofs.Common.{◌≡◌, ℕ, List, refl, sym, ap, subst, ◌∙◌}
use Rattle.run_events.specs.Runs.{Event, Goes, Ends}
use Rattle.eh_gates.specs.State.{State}
use Rattle.frame_check.specs.Accepts.{Accepted}
use Rattle.eh_machine.proofs.sim_runs.RunsOn.{AlikeOn, same_on}
use Rattle.eh_machine.proofs.sim_runs.WholeRuns.{alike}
use Rattle.eh_machine.specs.sim_runs.Turned.{AreBytes}
use Rattle.sim_relation.proofs.First.{starts_stand}
use Rattle.sim_relation.specs.Stands.{Keeps, IsProgram, OnEvent, StandsFor}
use Rattle.sim_changes.specs.Barriers.{FreeBarriers}
use Rattle.thumb_core.specs.declared.ends.End.{End}
use Rattle.thumb_core.specs.declared.ends.End.TheVariants.{Budget}
use Rattle.sim_machines.specs.ActivationLaws.{Matches}
use Rattle.sim_machines.specs.ActivationMachine.{recorded_event}
use Rattle.sim_machines.specs.Activations.{Recorded, bytes_of, recorded_start}
use Rattle.sim_machines.specs.Checked.{program_of}
use Rattle.sim_machines.specs.Machine.{machine_event}
use Rattle.sim_machines.specs.Start.{start_of}
use Rattle.gnu_machine.specs.GnuMachine.{map_goes, with_arguments_after, recorded_with_arguments_after, gnu_event, recorded_gnu_event}
use Rattle.gnu_machine.specs.Laws.{AreFilters, CatchesHaveLanded, PadsAreFree, LeavesBytes, GnuTurnsSame, GoesOnSame, GnuRunsSame}
use Rattle.gnu_machine.proofs.GivenAlike.{given_alike}

-- the event of either machine, before and after a pad is given what it is given
module _ (filters : List (ℕ × ℕ)) (are : AreFilters filters) (have_landed : CatchesHaveLanded) (pads_free : PadsAreFree) (barriers : FreeBarriers)
    (x : Accepted) (s : Recorded) (input : List ℕ) (is : IsProgram x) (k : Keeps x s) (fits : AreBytes input) where
  -- what is told of both
  abbrev Told : Event State End → Event Recorded End → Type 0
  Told e d = Matches e d × OnEvent x d × LeavesBytes d

  together : (e : Event State End) (d : Event Recorded End) → recorded_event (program_of x) s input ≡ d → AlikeOn State Recorded End AreBytes (StandsFor x) e d
      → Told (map_goes (with_arguments_after x.types filters (bytes_of s)) e) (map_goes (recorded_with_arguments_after x.types filters s) d)
  together (Goes u text left) (Goes v said rest) q a =
      let h = given_alike x filters are s v input said rest (record { program = is; keeps = k; bytes = fits; goes = q }) a.0.keeps have_landed pads_free barriers in
      ((ap (with_arguments_after x.types filters (bytes_of s)) a.0.same ∙ h.0, a.1, a.2), h.1, subst AreBytes a.2 a.3)
  together (Ends end u) (Ends why v) q a = ((a.0, a.1.same), a.1.keeps, tt)
  together (Goes u text left) (Ends why v) q a = absurd a
  together (Ends end u) (Goes v said rest) q a = absurd a

  told : Told (gnu_event (program_of x) filters (bytes_of s) input) (recorded_gnu_event (program_of x) filters s input)
  unfolding gnu_event recorded_gnu_event
  told =
      together (machine_event (program_of x) (bytes_of s) input) (recorded_event (program_of x) s input) refl
      (alike x is (bytes_of s) s input fits (record { same = refl; keeps = k }))

pub turns_same : (filters : List (ℕ × ℕ)) → AreFilters filters → CatchesHaveLanded → PadsAreFree → FreeBarriers → GnuTurnsSame filters
turns_same filters are have_landed pads_free barriers x s input is k fits =
    let w = told filters are have_landed pads_free barriers x s input is k fits in
    record { same = w.0; keeps = w.1; bytes = w.2 }

-- ---- runs

module _ (filters : List (ℕ × ℕ)) (turns : GnuTurnsSame filters) (x : Accepted) (is : IsProgram x) where
  related : (e : Event State End) (d : Event Recorded End) → Matches e d → OnEvent x d → LeavesBytes d → AlikeOn State Recorded End AreBytes (StandsFor x) e d
  related (Goes b text left) (Goes s said rest) m k f = (record { same = m.0; keeps = k }, m.1, m.2, subst AreBytes (sym m.2) f)
  related (Ends end b) (Ends why s) m k f = (m.0, record { same = m.1; keeps = k })
  related (Goes b text left) (Ends why s) m k f = absurd m
  related (Ends end b) (Goes s said rest) m k f = absurd m

  pub gnu_alike : (b : State) (s : Recorded) (input : List ℕ) → AreBytes input → StandsFor x b s
      → AlikeOn State Recorded End AreBytes (StandsFor x) (gnu_event (program_of x) filters b input) (recorded_gnu_event (program_of x) filters s input)
  gnu_alike b s input fits r =
      let w = turns x s input is r.keeps fits in
      subst (λ (c : State). AlikeOn State Recorded End AreBytes (StandsFor x) (gnu_event (program_of x) filters c input) (recorded_gnu_event (program_of x) filters s input)) (sym r.same)
      (related (gnu_event (program_of x) filters (bytes_of s) input) (recorded_gnu_event (program_of x) filters s input) w.same w.keeps w.bytes)

pub goes_on_same : (filters : List (ℕ × ℕ)) → GnuTurnsSame filters → GoesOnSame filters
goes_on_same filters turns x n b s input is stands fits =
    (same_on State Recorded End AreBytes (StandsFor x) (gnu_event (program_of x) filters) (recorded_gnu_event (program_of x) filters) Budget (gnu_alike filters turns x is) n b s input fits stands).same

pub gnu_runs_same : (filters : List (ℕ × ℕ)) → GnuTurnsSame filters → GnuRunsSame filters
gnu_runs_same filters turns x n input is fits =
    goes_on_same filters turns x n (start_of (program_of x)) (recorded_start (program_of x)) input is (record { same = refl; keeps = starts_stand x is }) fits
