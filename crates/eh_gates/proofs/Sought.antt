-- The search of a throw, from what its calls have done.
use Rattle.std.proofs.Common.{◌≡◌, ℕ, true, List, Option, Result, refl, ap, ◌∙◌}
use Rattle.std.specs.Prelude.{is_some}
use Rattle.eh_types.specs.Graph.{row_of}
use Rattle.eh_cxa.specs.Words.{word}
use Rattle.eh_cxa.specs.Cleanup.{innermost_of}
use Rattle.eh_phase.specs.declared.verdict.Thrown.{Thrown}
use Rattle.eh_phase.specs.declared.phase1.Barrier.{Barrier}
use Rattle.eh_phase.specs.declared.phase1.Found.{Found}
use Rattle.eh_phase.specs.Phases.{phase1}
use Rattle.eh_phase.specs.Frames.{frames_of}
use Rattle.eh_phase.specs.Calls.{meeting, stack_of}
use Rattle.eh_trace.specs.declared.event.Event.{Event}
use Rattle.eh_trace.specs.declared.event.EventKind.{EventKind}
use Rattle.eh_trace.specs.Trace.{Trace, push_event}
use Rattle.thumb_core.specs.Registers.{all_of}
use Rattle.thumb_core.specs.declared.ends.End.{End}
use Rattle.eh_gates.specs.State.{State, Tables}
use Rattle.eh_gates.specs.Throwing.{size_of, throw_event, barrier_in, phase1_result, find_barrier}

pair : {A B : Type 0} (x y : A) (v w : B) → x ≡ y → v ≡ w → ◌≡◌ {A = A × B} (x, v) (y, w)
pair {A} {B} x y v w e f =
    let one : A → A × B = λ a. (a, v) in
    let two : B → A × B = λ b. (y, b) in
    ap one e ∙ ap two f

pub sought_found : (g : Tables) (s : State) (what : EventKind) (thrown : Thrown) (size : ℕ) (event : Event) (new : Trace) (limit : Option ℕ) (r : List ℕ) (found : Found) (answer : Result Barrier End)
    → is_some (row_of g.types thrown.ty) ≡ true → size ≡ size_of s thrown → event ≡ throw_event what s.memory thrown size → new ≡ push_event s.events event
    → limit ≡ innermost_of (word s.memory) s.globals → r ≡ all_of s.regs
    → found ≡ phase1 (meeting g.image g.types s.memory.segments thrown) (frames_of g.image (stack_of s.memory) limit s.regs.pc r)
    → answer ≡ barrier_in s.regs.pc found → ◌≡◌ {A = Result Barrier End × State} (answer, record s { events = new }) (find_barrier g s what thrown)
unfolding find_barrier
sought_found g s what thrown size event new limit r found answer holds es ee en el er ef ea =
    let m = meeting g.image g.types s.memory.segments thrown in
    let stack = stack_of s.memory in
    let is_found : found ≡ phase1_result g s thrown =
    ef ∙ ap (λ l. phase1 m (frames_of g.image stack l s.regs.pc r)) el
    ∙ ap (λ (rs : List ℕ). phase1 m (frames_of g.image stack (innermost_of (word s.memory) s.globals) s.regs.pc rs)) er in
    let is_new : new ≡ push_event s.events (throw_event what s.memory thrown (size_of s thrown)) =
    en ∙ ap (push_event s.events) (ee ∙ ap (λ n. throw_event what s.memory thrown n) es) in
    rw holds
    (pair answer (barrier_in s.regs.pc (phase1_result g s thrown)) (record s { events = new })
    (record s { events = push_event s.events (throw_event what s.memory thrown (size_of s thrown)) }) (ea ∙ ap (barrier_in s.regs.pc) is_found)
    (ap (λ (t : Trace). record s { events = t }) is_new))
