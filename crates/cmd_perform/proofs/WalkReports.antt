-- The report of a walk, from what the run to a site does and what is walked from there.
use Rattle.std.proofs.Common.{◌≡◌, ℕ, List, ◌++◌, Option, Result, false, inl, refl, sym, ap, subst, ◌∙◌, append_assoc}
use Rattle.elf_image.specs.Image.{Image}
use Rattle.eh_gates.specs.State.{State}
use Rattle.eh_phase.specs.Phases.{Frames}
use Rattle.eh_trace.specs.Text.{trace_text}
use Rattle.eh_trace.specs.Trace.{Trace}
use Rattle.eh_types.specs.Graph.{name_of}
use Rattle.run_events.specs.Laws.{SameRan}
use Rattle.run_events.specs.Runs.{Ran}
use Rattle.frame_check.specs.Accepts.{Accepted}
use Rattle.run_gates.specs.Ends.{is_fault}
use Rattle.thumb_core.specs.declared.ends.End.{End}
use Rattle.thumb_core.specs.declared.ends.End.TheVariants.{Exit, Terminate, Trap, Budget, ReadFault, WriteFault}
use Rattle.sim_machines.specs.Activations.{Recorded}
use Rattle.eh_walk.specs.Laws.{SameWalks}
use Rattle.eh_walk.specs.Reaching.{Onward}
use Rattle.eh_walk.specs.Text.{walk_text}
use Rattle.eh_walk.specs.Walks.{end_of_walk}
use Rattle.eh_walk.specs.declared.walk.WalkEnd.{WalkEnd}
use Rattle.eh_walk.specs.declared.walk.WalkEnd.TheVariants.{Root, NoUnwind, Most, NotSite}
use Rattle.eh_walk.specs.declared.walk.WalkFrame.{WalkFrame}
use Rattle.cmd_perform.specs.BothRuns.{bytes_events, recorded_events}
use Rattle.cmd_input.specs.Loading.{closing_of}
use Rattle.cmd_perform.specs.RunReport.{trace_section}
use Rattle.cmd_perform.specs.Text.{trace_head}
use Rattle.cmd_perform.specs.WalkReport.{frames_report, frames_report_by, walk_closing, walk_report, bytes_walk, bytes_to_site, activations_walk, recorded_to_site, accepted_walk, recorded_walk_report, WalksAccepted, WalkAlike, WalkSame}
use Rattle.cmd_answers.specs.Writes.{Answers}
use Rattle.cmd_perform.specs.Writes.{AnswersRun}
use Rattle.cmd_answers.specs.declared.status.TheConstants.{DONE}
use Rattle.cmd_answers.specs.declared.stop.Stop.{Stop}
use Rattle.cmd_perform.specs.declared.walk.TheConstants.{MOST_FRAMES}
use Rattle.cmd_perform.proofs.Statuses.{IsOfRun, done_of_run, end_of_run}

-- ---- its status

status_by : (a : Accepted) (events : Trace) (frames : List WalkFrame) (end : WalkEnd) → IsOfRun (frames_report_by a events frames end).status
status_by a events frames NotSite = end_of_run Budget refl
status_by a events frames Root = done_of_run
status_by a events frames NoUnwind = done_of_run
status_by a events frames Most = done_of_run

pub status_of_walk : (a : Accepted) (events : Trace) (walk : Option Frames) (end : End) → is_fault end ≡ false → IsOfRun (walk_closing a events walk end).status
status_of_walk a events walk Budget fine = status_by a events _ (end_of_walk MOST_FRAMES walk)
status_of_walk a events walk (Exit number) fine = end_of_run (Exit number) fine
status_of_walk a events walk (Terminate cause) fine = end_of_run (Terminate cause) fine
status_of_walk a events walk (Trap kind value pc) fine = end_of_run (Trap kind value pc) fine
status_of_walk a events walk ReadFault fine = absurd cc
status_of_walk a events walk WriteFault fine = absurd cc

-- ---- what is said

-- from a site the frames are
pub says_frames : (a : Accepted) (events : Trace) (frames : List WalkFrame) (end : WalkEnd) → (end ≡ NotSite → ⊥) → frames_report_by a events frames end ≡ frames_report a events frames
says_frames a events frames NotSite n = absurd (n refl)
says_frames a events frames Root n = refl
says_frames a events frames NoUnwind n = refl
says_frames a events frames Most n = refl

pub answers_frames : (a : Accepted) (events : Trace) (frames : List WalkFrame) (end : WalkEnd) (image : Image) (given : List WalkFrame) (lines text : List ℕ) (result : Result ℕ Stop) (before now : Option (List ℕ)) (f g : ℕ)
    → (end ≡ NotSite → ⊥) → lines ≡ trace_text a.image (name_of a.types) events → image ≡ a.image → given ≡ frames → text ≡ walk_text image given
    → Answers (trace_head ++ (lines ++ text)) DONE result before now f g → AnswersRun (frames_report_by a events frames end) Budget result before now f g
answers_frames a events frames end image given lines text result before now f g n trace_is same all walk_is answers =
    rw (says_frames a events frames end n) (record {
      fine = inl (subst (λ (said : List ℕ). Answers said DONE result before now f g) (said trace_is (walk_is ∙ ap (λ (i : Image). walk_text i given) same ∙ ap (walk_text a.image) all)) answers);
      fault = tt;
    })
  where
    said : lines ≡ trace_text a.image (name_of a.types) events → text ≡ walk_text a.image frames
        → trace_head ++ (lines ++ text) ≡ (trace_head ++ trace_text a.image (name_of a.types) events) ++ walk_text a.image frames
    said e h = rw (e, h) (sym (append_assoc trace_head (trace_text a.image (name_of a.types) events) (walk_text a.image frames)))

-- of a run that ended before, its end is
pub says_end : (a : Accepted) (events : Trace) (walk : Option Frames) (end : End) → (end ≡ Budget → ⊥) → walk_closing a events walk end ≡ closing_of (trace_section a events) end
says_end a events walk Budget n = absurd (n refl)
says_end a events walk (Exit number) n = refl
says_end a events walk (Terminate cause) n = refl
says_end a events walk (Trap kind value pc) n = refl
says_end a events walk ReadFault n = refl
says_end a events walk WriteFault n = refl

-- ---- over bytes and with recorded activations

same_closing : (a : Accepted) (events : Trace) (one two : Option Frames) (end : End) → SameWalks one two → walk_closing a events one end ≡ walk_closing a events two end
same_closing a events one two Budget same = rw (same.frames MOST_FRAMES, same.end MOST_FRAMES) refl
same_closing a events one two (Exit number) same = refl
same_closing a events one two (Terminate cause) same = refl
same_closing a events one two (Trap kind value pc) same = refl
same_closing a events one two ReadFault same = refl
same_closing a events one two WriteFault same = refl

same_report : (a : Accepted) (one : Ran (Onward State) End) (two : Ran (Onward Recorded) End) → SameRan (WalkAlike a) one two
    → walk_report bytes_events (bytes_walk a) a one ≡ walk_report recorded_events (activations_walk a) a two
same_report a one two w =
    rw (w.text, w.end, w.left, w.state.events, same_closing a two.state.state.events (bytes_walk a one.state.state) (activations_walk a two.state.state) two.end w.state.walks) refl

pub walk_accepted : (budget : ℕ) (a : Accepted) (input : List ℕ) → WalkSame a → WalksAccepted budget a input (accepted_walk budget a input)
unfolding accepted_walk recorded_walk_report
walk_accepted budget a input same = record {
  is = refl;
  recorded = λ bytes. same_report a (bytes_to_site budget a input) (recorded_to_site budget a input) (same budget input bytes);
}
