-- One element, over bytes and with recorded activations.
use Rattle.std.proofs.Common.{◌≡◌, ℕ, zero, suc, Bool, true, false, cond, List, [], ◌∷◌, get_or, Option, Some, None, refl, sym, ap, subst, ◌∙◌}
use Rattle.run_events.specs.Runs.{Event, Goes, Ends}
use Rattle.frame_check.specs.Accepts.{Accepted}
use Rattle.thumb_core.specs.declared.ends.TrapKind.{TrapKind}
use Rattle.thumb_core.specs.declared.ends.End.{End}
use Rattle.thumb_core.specs.declared.ends.End.TheVariants.{Exit, Terminate, Trap, Budget, ReadFault, WriteFault}
use Rattle.eh_gates.specs.State.{State}
use Rattle.sim_machines.specs.Machine.{machine_event}
use Rattle.sim_machines.specs.Checked.{program_of}
use Rattle.sim_machines.specs.Activations.{Recorded, bytes_of}
use Rattle.sim_machines.specs.ActivationMachine.{recorded_event}
use Rattle.sim_machines.specs.ActivationLaws.{Matches}
use Rattle.sim_machines.specs.RecordedSlots.{LeavesBeyond}
use Rattle.sim_machines.proofs.Beyond.{words_beyond_stay}
use Rattle.sim_relation.specs.Stands.{Keeps, IsProgram, OnEvent}
use Rattle.sim_runs.specs.Beyond.{SameBeyond, BeyondStays}
use Rattle.sim_runs.specs.Turned.{AreBytes, TurnsSame}
use Rattle.sim_runs.proofs.RunsOn.{AlikeOn}
use Rattle.eh_threads.specs.declared.thread.Thread.{Thread}
use Rattle.eh_threads.specs.Threads as bytes_threads
use Rattle.eh_threads.specs.Threads.{exit_number_of_all, core_of, put_thread}
use Rattle.eh_threads.specs.Starting as bytes_starting
use Rattle.eh_threads.specs.Starting.{start_refusal}
use Rattle.eh_threads.specs.Ending as bytes_ending
use Rattle.eh_threads.specs.Ending.{after_end, is_start_gate}
use Rattle.eh_threads.specs.Elements as bytes_elements
use Rattle.eh_threads.specs.Elements.{Joint, switch_to, core_in, state_in, with_event, by_outcome, element}
use Rattle.eh_threads.proofs.Elements.{element_by, element_passed}
use Rattle.thread_laws.specs.RecordedThreads.{RecordedThread, RecordedThreads, state_for, with_state, without_record, bare_option, bare_threads, running_thread, unless_ended, with_thread_number, thread_in, running, unless_refused, unless_over, at_end, after_event, element_of, recorded_element}
use Rattle.thread_laws.specs.Standing.{ThreadsStand}
use Rattle.thread_laws.specs.Leaving.{LeavesOthers, Leaves}
use Rattle.thread_laws.proofs.AfterEvent.{stands_after}
use Rattle.thread_laws.proofs.Fits.{FitsIn, event_fits}
use Rattle.thread_laws.proofs.Leaving.{events_leave}
use Rattle.thread_laws.proofs.Lying.{StateLaws}
use Rattle.thread_laws.proofs.Switched.{entered_is}

-- the laws of one thread's events and states
pub record EventLaws : Type 0 where
  pub turns : TurnsSame
  pub beyond : BeyondStays
  pub states : StateLaws

-- both do the same, and what they leave stands for each other
abbrev pub Same : Accepted → Event Joint End → Event RecordedThreads End → Type 0
Same x e d = AlikeOn Joint RecordedThreads End AreBytes (ThreadsStand x) e d

-- the gate that starts a thread, from a thread's state that an event left
abbrev pub StartsSame : Accepted → Type 0
StartsSame x =
    (w : Joint) (v : RecordedThreads) (k : ℕ) (t : RecordedThread) (kind : TrapKind) (value pc : ℕ) (s : Recorded) (input : List ℕ) → ThreadsStand x w v → thread_in v k ≡ Some t → AreBytes input
    → recorded_event (program_of x) (state_for k t v) input ≡ Ends (Trap kind value pc) s → is_start_gate kind value ≡ true
    → start_refusal (program_of x) s.regs ≡ None
    → Same x (by_outcome k (bytes_of s) (switch_to k w) (bytes_starting.start_gate (program_of x) k (core_in (bytes_of s)) w.threads) input)
    (unless_refused (start_refusal (program_of x) s.regs) k s v input)

module _ (laws : EventLaws) (x : Accepted) (is : IsProgram x) (starts : StartsSame x) (w : Joint) (v : RecordedThreads) (r : ThreadsStand x w v) (input : List ℕ) (fits : AreBytes input) where
  module _ (k : ℕ) (t : RecordedThread) (started : thread_in v k ≡ Some t) where
    abbrev old : Recorded
    old = state_for k t v

    abbrev entered : Joint
    entered = switch_to k w

    pub record Left (s : Recorded) : Type 0 where
      pub kept : Keeps x s
      pub leaves : LeavesOthers old s
      pub home : s.home ≡ old.home
      pub beyond : s.beyond ≡ old.beyond

    abbrev after : Recorded → Option ℕ → Joint
    after s ended = with_event k (bytes_of s) (put_thread w.threads k (core_in (bytes_of s)) ended) entered

    stands : (s : Recorded) → Left s → (ended : Option ℕ) → ThreadsStand x (after s ended) (with_state k ended s v)
    stands s l ended = stands_after laws.states x w v r k t started s l.kept l.leaves l.home l.beyond ended

    over : (s : Recorded) (number : ℕ) (o : Option ℕ) → ThreadsStand x (after s (Some number)) (with_state k (Some number) s v)
        → Same x (by_outcome k (bytes_of s) entered (bytes_ending.unless_over o (put_thread w.threads k (core_in (bytes_of s)) (Some number))) input) (unless_over o (with_state k (Some number) s v) input)
    over s number None h = (h, refl, refl, fits)
    over s number (Some first) h = (refl, h)

    exits : (s : Recorded) (number : ℕ) → Left s
        → Same x (by_outcome k (bytes_of s) entered (after_end (program_of x) k (core_in (bytes_of s)) (Exit number) w.threads) input) (at_end (program_of x) k v (Exit number) s input)
    exits s number l =
        let h = stands s l (Some number) in
        subst (λ (o : Option ℕ). Same x (by_outcome k (bytes_of s) entered (after_end (program_of x) k (core_in (bytes_of s)) (Exit number) w.threads) input)
        (unless_over o (with_state k (Some number) s v) input))
        (ap exit_number_of_all h.threads)
        (over s number (exit_number_of_all (put_thread w.threads k (core_in (bytes_of s)) (Some number))) h)

    refused : (s : Recorded) (o : Option End) → start_refusal (program_of x) s.regs ≡ o → Left s
        → (o ≡ None → Same x (by_outcome k (bytes_of s) entered (bytes_starting.unless_refused (start_refusal (program_of x) s.regs) k (core_in (bytes_of s)) w.threads) input) (unless_refused (start_refusal (program_of x) s.regs) k s v input))
        → Same x (by_outcome k (bytes_of s) entered (bytes_starting.unless_refused o k (core_in (bytes_of s)) w.threads) input) (unless_refused o k s v input)
    refused s (Some end) e l gate = (refl, stands s l None)
    refused s None e l gate =
        subst (λ (o : Option End). Same x (by_outcome k (bytes_of s) entered (bytes_starting.unless_refused o k (core_in (bytes_of s)) w.threads) input) (unless_refused o k s v input)) e (gate refl)

    traps : (s : Recorded) (kind : TrapKind) (value pc : ℕ) → Left s → recorded_event (program_of x) old input ≡ Ends (Trap kind value pc) s
        → Same x (by_outcome k (bytes_of s) entered (after_end (program_of x) k (core_in (bytes_of s)) (Trap kind value pc) w.threads) input) (at_end (program_of x) k v (Trap kind value pc) s input)
    traps s kind value pc l e = go (is_start_gate kind value) refl
      where
        go : (b : Bool) → is_start_gate kind value ≡ b
            → Same x
            (by_outcome k (bytes_of s) entered
            (cond b (bytes_starting.start_gate (program_of x) k (core_in (bytes_of s)) w.threads) (bytes_ending.stop_thread k (core_in (bytes_of s)) (Trap kind value pc) w.threads)) input)
            (cond b (unless_refused (start_refusal (program_of x) s.regs) k s v input) (Ends (Trap kind value pc) (with_state k None s v)))
        go true asks =
            refused s (start_refusal (program_of x) s.regs) refl l (λ q. starts w v k t kind value pc s input r started fits e asks q)
        go false asks = (refl, stands s l None)

    ends : (s : Recorded) (end : End) → Left s → recorded_event (program_of x) old input ≡ Ends end s
        → Same x (by_outcome k (bytes_of s) entered (after_end (program_of x) k (core_in (bytes_of s)) end w.threads) input) (at_end (program_of x) k v end s input)
    ends s (Exit number) l e = exits s number l
    ends s (Trap kind value pc) l e = traps s kind value pc l e
    ends s (Terminate cause) l e = (refl, stands s l None)
    ends s Budget l e = (refl, stands s l None)
    ends s ReadFault l e = (refl, stands s l None)
    ends s WriteFault l e = (refl, stands s l None)

    together : (m : Event State End) (d : Event Recorded End) → recorded_event (program_of x) old input ≡ d → Matches m d → OnEvent x d → Leaves old d → LeavesBeyond old d → SameBeyond old d → FitsIn d
        → Same x (bytes_elements.after_event (program_of x) k entered m input) (after_event (program_of x) k v d input)
    together (Goes b text left) (Goes s said rest) e m kept leaves home beyond f =
        let l : Left s = record { kept = kept; leaves = leaves; home = home.0; beyond = beyond } in (
          subst (λ (c : State). ThreadsStand x (with_event k c (put_thread w.threads k (core_in c) None) entered) (with_state k None s v)) (sym m.0) (stands s l None),
          m.1,
          m.2,
          subst AreBytes (sym m.2) f,
        )
    together (Ends end b) (Ends why s) e m kept leaves home beyond f =
        let l : Left s = record { kept = kept; leaves = leaves; home = home.0; beyond = beyond } in
        subst (λ (c : State). Same x (by_outcome k c entered (after_end (program_of x) k (core_in c) end w.threads) input) (at_end (program_of x) k v why s input)) (sym m.1)
        (subst (λ (y : End). Same x (by_outcome k (bytes_of s) entered (after_end (program_of x) k (core_in (bytes_of s)) y w.threads) input) (at_end (program_of x) k v why s input)) (sym m.0)
        (ends s why l e))
    together (Goes b text left) (Ends why s) e m kept leaves home beyond f = absurd m
    together (Ends end b) (Goes s said rest) e m kept leaves home beyond f = absurd m

    event_same : Same x (bytes_elements.after_event (program_of x) k entered (machine_event (program_of x) (state_in (without_record t).core entered) input) input)
        (after_event (program_of x) k v (recorded_event (program_of x) old input) input)
    event_same =
        let kept = r.keeps k t started in
        let both = laws.turns x old input is kept fits in
        subst (λ (c : State). Same x (bytes_elements.after_event (program_of x) k entered (machine_event (program_of x) c input) input) (after_event (program_of x) k v (recorded_event (program_of x) old input) input))
        (sym (entered_is x w v r k t started))
        (together (machine_event (program_of x) (bytes_of old) input) (recorded_event (program_of x) old input) refl both.same both.keeps (events_leave x old input kept)
        (words_beyond_stay (program_of x) old input kept.beyond) (laws.beyond x old input is kept fits) (event_fits (program_of x) old input fits))

  -- ---- the thread that is named

  bare_at : (threads : List (Option RecordedThread)) (k : ℕ) → get_or (bare_threads threads) k None ≡ bare_option (get_or threads k None)
  bare_at [] k = refl
  bare_at (t ∷ more) zero = refl
  bare_at (t ∷ more) (suc k) = bare_at more k

  core_at : (k : ℕ) → core_of (get_or w.threads k None) ≡ core_of (bare_option (thread_in v k))
  core_at k = ap (λ (ts : List (Option Thread)). core_of (get_or ts k None)) r.threads ∙ ap core_of (bare_at v.threads k)

  passed : (named : Option ℕ) → bytes_threads.running w.threads named ≡ None → running v named ≡ None
      → Same x (element (program_of x) named w input) (recorded_element (program_of x) named v input)
  unfolding recorded_element
  passed named e d =
      subst (λ (o : Option (ℕ × RecordedThread)). Same x (element (program_of x) named w input) (element_of (program_of x) v input o)) (sym d)
      (subst (λ (y : Event Joint End). Same x y (Goes v [] input)) (sym (element_passed (program_of x) named w input e)) (r, refl, refl, fits))

  goes : (k : ℕ) (t : RecordedThread) → thread_in v k ≡ Some t → t.ended ≡ None
      → Same x (element (program_of x) (Some k) w input) (recorded_element (program_of x) (Some k) v input)
  unfolding recorded_element
  goes k t e going_on =
      let core : core_of (get_or w.threads k None) ≡ Some (without_record t).core =
      core_at k ∙ ap (λ (o : Option RecordedThread). core_of (bare_option o)) e ∙ ap (λ (o : Option ℕ). bytes_threads.unless_ended (without_record t).core o) going_on in
      let named : running v (Some k) ≡ Some (k, t) = ap (λ (o : Option RecordedThread). with_thread_number k (running_thread o)) e ∙ ap (λ (o : Option ℕ). with_thread_number k (unless_ended t o)) going_on in
      subst (λ (o : Option (ℕ × RecordedThread)). Same x (element (program_of x) (Some k) w input) (element_of (program_of x) v input o)) (sym named)
      (subst (λ (y : Event Joint End). Same x y (after_event (program_of x) k v (recorded_event (program_of x) (state_for k t v) input) input))
      (sym (element_by (program_of x) (Some k) w k (without_record t).core input _ (ap (bytes_threads.with_thread_number k) core) refl)) (event_same k t e))

  by_thread : (k : ℕ) (o : Option RecordedThread) → thread_in v k ≡ o → Same x (element (program_of x) (Some k) w input) (recorded_element (program_of x) (Some k) v input)
  by_thread k None e =
      passed (Some k) (ap (bytes_threads.with_thread_number k) (core_at k ∙ ap (λ (o : Option RecordedThread). core_of (bare_option o)) e)) (ap (λ (o : Option RecordedThread). with_thread_number k (running_thread o)) e)
  by_thread k (Some t) e = by_end t.ended refl
    where
      by_end : (o : Option ℕ) → t.ended ≡ o → Same x (element (program_of x) (Some k) w input) (recorded_element (program_of x) (Some k) v input)
      by_end None q = goes k t e q
      by_end (Some number) q =
          passed (Some k)
          (ap (bytes_threads.with_thread_number k)
          (core_at k ∙ ap (λ (o : Option RecordedThread). core_of (bare_option o)) e ∙ ap (λ (o : Option ℕ). bytes_threads.unless_ended (without_record t).core o) q))
          (ap (λ (o : Option RecordedThread). with_thread_number k (running_thread o)) e ∙ ap (λ (o : Option ℕ). with_thread_number k (unless_ended t o)) q)

  pub elements_same : (named : Option ℕ) → Same x (element (program_of x) named w input) (recorded_element (program_of x) named v input)
  elements_same None = passed None refl refl
  elements_same (Some k) = by_thread k (thread_in v k) refl
