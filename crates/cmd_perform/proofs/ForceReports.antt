-- The report of a forced unwinding, from what the run to a site does, and what is done from there.
use Rattle.std.proofs.Common.{◌≡◌, ◌⊎◌, ℕ, ◌-◌, List, ◌++◌, Option, Some, None, IfSome, Result, Ok, Err, false, inl, inr, refl, sym, ap, subst, ◌∙◌}
use Rattle.std.specs.Prelude.{IfOk, ◌↔◌}
use Rattle.std.proofs.KnownBytes.{Appends-trans}
use Rattle.std.specs.Io.KnownBytes.{Appends, Keeps}
use Rattle.eh_port.specs.Writing.{AppendsPart}
use Rattle.eh_port.proofs.Parts.{part_first, part_then, part_whole}
use Rattle.eh_gates.specs.State.{State}
use Rattle.run_events.specs.Laws.{SameRan}
use Rattle.run_events.specs.Runs.{Ran, machine_run}
use Rattle.frame_check.specs.Accepts.{Accepted}
use Rattle.run_gates.specs.Ends.{is_fault}
use Rattle.thread_laws.specs.sim_relation.Stands.{StandsFor}
use Rattle.thumb_core.specs.declared.ends.End.{End}
use Rattle.thumb_core.specs.declared.ends.End.TheVariants.{Exit, Terminate, Trap, Budget, ReadFault, WriteFault}
use Rattle.sim_machines.specs.ActivationMachine.{recorded_machine}
use Rattle.sim_machines.specs.Activations.{Recorded}
use Rattle.sim_machines.specs.Checked.{program_of}
use Rattle.sim_machines.specs.Machine.{machine_of}
use Rattle.sim_machines.specs.Start.{start_of}
use Rattle.eh_walk.specs.Forced.{ForceResult}
use Rattle.eh_walk.specs.Laws.{OnwardFor}
use Rattle.eh_walk.specs.Reaching.{Onward, RunsToSite}
use Rattle.eh_walk.specs.declared.stopping.ForceFault.{ForceFault}
use Rattle.eh_walk.specs.declared.stopping.ForceFault.TheVariants.{NotSite, NoFrame, InsideCleanup, NoStop, BadTables, BadType, PoolFull}
use Rattle.cmd_perform.specs.BothRuns.{bytes_events, recorded_events}
use Rattle.cmd_perform.specs.ForceReport.{force_fault_report, report_from_forced, with_text_before, by_site_end, force_report, force_bytes, force_activations, bytes_from_site, accepted_force, recorded_force_report, ForcesAccepted, IsRefusal, IsRefusedForcing, IsUnforced, ForceSame, ForcesSame}
use Rattle.cmd_input.specs.Loading.{Report, closing_of, closed_report}
use Rattle.cmd_answers.specs.Statuses.{SaysWhy, SaysWhyBy, IsOfCommand}
use Rattle.cmd_perform.specs.RunReport.{run_report, trace_section}
use Rattle.cmd_lines.specs.Text.{end_line}
use Rattle.cmd_perform.specs.WalkReport.{bytes_to_site, recorded_to_site}
use Rattle.cmd_answers.specs.Writes.{Answers, StopsEarly}
use Rattle.cmd_perform.specs.Writes.{AnswersRun}
use Rattle.cmd_perform.specs.Yields.{streams, DoesWhole, DoesPart, Only, YieldsBy, Yields, RefusedOn}
use Rattle.cmd_answers.specs.declared.status.TheConstants.{REFUSED}
use Rattle.cmd_answers.specs.declared.stop.Stop.{Stop}
use Rattle.cmd_answers.specs.declared.stop.Stop.TheVariants.{Memory}
use Rattle.cmd_input.specs.declared.words.TheConstants.{MOST_INSTRUCTIONS}
use Rattle.cmd_perform.proofs.Statuses.{IsOfRun, end_of_run, says_end}
use Rattle.cmd_answers.proofs.Statuses.{says_unfit, refused_reported}
use Rattle.cmd_perform.proofs.Yielding.{Begun, at_false, yields_answer, yields_stopped}

-- ---- over bytes and with recorded activations

-- of a run that an event ended before
same_ended : (a : Accepted) (one : Ran (Onward State) End) (two : Ran (Onward Recorded) End) → SameRan (OnwardFor a) one two
    → run_report (λ (o : Onward State). bytes_events o.state) a one ≡ run_report (λ (o : Onward Recorded). recorded_events o.state) a two
same_ended a one two w =
    let events : bytes_events one.state.state ≡ recorded_events two.state.state = ap (λ (s : State). s.events) w.state.stands.same in
    rw (w.text, w.end, w.left, events) refl

same_going : (a : Accepted) (one : Ran State End) (two : Ran Recorded End) → SameRan (StandsFor a) one two → run_report bytes_events a one ≡ run_report recorded_events a two
same_going a one two w =
    let events : bytes_events one.state ≡ recorded_events two.state = ap (λ (s : State). s.events) w.state.same in
    rw (w.text, w.end, w.left, events) refl

-- .. and of one that came to a site
module _ (a : Accepted) (n : ℕ) (left rest : List ℕ) (same_left : left ≡ rest) where
  same_from : (one : Result (Unit {0}) ForceFault) (s : State) (two : Result (Unit {0}) ForceFault) (t : Recorded) → one ≡ two → bytes_events s ≡ recorded_events t
      → SameRan (StandsFor a) (machine_run (machine_of (program_of a)) (MOST_INSTRUCTIONS - n) s left) (machine_run (recorded_machine (program_of a)) (MOST_INSTRUCTIONS - n) t rest)
      → report_from_forced bytes_events (machine_of (program_of a)) a n left (one, s) ≡ report_from_forced recorded_events (recorded_machine (program_of a)) a n rest (two, t)
  same_from (Ok u) s (Ok v) t e events goes = same_going a _ _ goes
  same_from (Err fault) s (Err other) t e events goes =
      let same : fault ≡ other = cc in
      rw (same, events, same_left) refl
  same_from (Ok u) s (Err other) t e events goes = absurd cc
  same_from (Err fault) s (Ok v) t e events goes = absurd cc

module _ (number budget : ℕ) (a : Accepted) (input : List ℕ) (same : ForceSame number budget a input) where
  abbrev one : Ran (Onward State) End
  one = bytes_to_site budget a input

  abbrev two : Ran (Onward Recorded) End
  two = recorded_to_site budget a input

  same_done : report_from_forced bytes_events (machine_of (program_of a)) a one.state.done one.left (force_bytes number a one.state.state)
      ≡ report_from_forced recorded_events (recorded_machine (program_of a)) a two.state.done two.left (force_activations number a two.state.state)
  same_done =
      same_from a one.state.done one.left two.left same.reaches.left (force_bytes number a one.state.state).0 (force_bytes number a one.state.state).1
      (force_activations number a two.state.state).0 (force_activations number a two.state.state).1 same.answer same.events (same.goes (MOST_INSTRUCTIONS - one.state.done))
      ∙ ap (λ (n : ℕ). report_from_forced recorded_events (recorded_machine (program_of a)) a n two.left (force_activations number a two.state.state)) same.reaches.state.done

  by_end : (end : End)
      → by_site_end bytes_events (machine_of (program_of a)) (force_bytes number a) a one end ≡ by_site_end recorded_events (recorded_machine (program_of a)) (force_activations number a) a two end
  by_end Budget = ap (with_text_before one.text) same_done ∙ ap (λ (text : List ℕ). with_text_before text (report_from_forced recorded_events (recorded_machine (program_of a)) a two.state.done two.left (force_activations number a two.state.state))) same.reaches.text
  by_end (Exit number) = same_ended a one two same.reaches
  by_end (Terminate cause) = same_ended a one two same.reaches
  by_end (Trap kind value pc) = same_ended a one two same.reaches
  by_end ReadFault = same_ended a one two same.reaches
  by_end WriteFault = same_ended a one two same.reaches

  same_report : force_report bytes_events (machine_of (program_of a)) (force_bytes number a) a one ≡ force_report recorded_events (recorded_machine (program_of a)) (force_activations number a) a two
  same_report =
      by_end one.end ∙ ap (by_site_end recorded_events (recorded_machine (program_of a)) (force_activations number a) a two) same.reaches.end

pub force_accepted : (number budget : ℕ) (a : Accepted) (input : List ℕ) → ForcesSame a → ForcesAccepted number budget a input (accepted_force number budget a input)
unfolding accepted_force recorded_force_report
force_accepted number budget a input same = record { is = refl; recorded = λ bytes. same_report number budget a input (same number budget input bytes) }

-- ---- what is done from a site

module _ (number : ℕ) (a : Accepted) (done : ℕ) (s : State) where
  abbrev Says : List ℕ → Report → Type 0
  Says = Only (bytes_from_site number a done s)

  abbrev Unfit : Type 0
  Unfit = IsRefusedForcing (force_bytes number a s).0

  abbrev is_forced : Result (Unit {0}) ForceFault → State → Type 0
  is_forced result new = ◌≡◌ {A = ForceResult} (result, new) (force_bytes number a s)

  -- it was unwound, and goes on
  pub went_on : (new : State) → is_forced (Ok tt) new → (b : List ℕ)
      → Says b (closed_report (λ (t : State) end. closing_of (trace_section a (bytes_events t)) end) (machine_run (machine_of (program_of a)) (MOST_INSTRUCTIONS - done) new b))
  went_on new e b = ap (report_from_forced bytes_events (machine_of (program_of a)) a done b) e

  pub not_refused : (new : State) → is_forced (Ok tt) new → Unfit → ⊥
  not_refused new e u = subst (λ (f : ForceResult). IsRefusedForcing f.0) (sym e) u

  -- .. or not
  says_fault : (fault : ForceFault) (events : List ℕ) → SaysWhy (force_fault_report events fault).status ⊥ (IsRefusal fault)
  says_fault NotSite events = says_end Budget ⊥ refl (λ u. u)
  says_fault NoFrame events = says_unfit ⊥ (Unit {0}) (λ l. l) tt
  says_fault InsideCleanup events = says_unfit ⊥ (Unit {0}) (λ l. l) tt
  says_fault NoStop events = says_unfit ⊥ (Unit {0}) (λ l. l) tt
  says_fault BadTables events = says_unfit ⊥ (Unit {0}) (λ l. l) tt
  says_fault BadType events = says_unfit ⊥ (Unit {0}) (λ l. l) tt
  says_fault PoolFull events = says_unfit ⊥ (Unit {0}) (λ l. l) tt

  of_fault : (fault : ForceFault) (events : List ℕ) → IsOfCommand (force_fault_report events fault).status
  of_fault NotSite events = IsOfRun.reported (end_of_run Budget refl)
  of_fault NoFrame events = refused_reported
  of_fault InsideCleanup events = refused_reported
  of_fault NoStop events = refused_reported
  of_fault BadTables events = refused_reported
  of_fault BadType events = refused_reported
  of_fault PoolFull events = refused_reported

  pub not_unwound : (fault : ForceFault) (new : State) (result : Result ℕ Stop) (input before now : Option (List ℕ)) (i f g : ℕ) → is_forced (Err fault) new
      → AnswersRun (force_fault_report (trace_section a (bytes_events new)) fault) Budget result before now f g
      → Yields Says Unfit (streams input i before f) (streams input i now g) result
  not_unwound fault new result input before now i f g e answers = go answers.fine
    where
      head : List ℕ
      head = trace_section a (bytes_events new)

      go : Answers (force_fault_report (trace_section a (bytes_events new)) fault).text (force_fault_report (trace_section a (bytes_events new)) fault).status result before now f g ⊎ StopsEarly Memory result before now f g
          → Yields Says Unfit (streams input i before f) (streams input i now g) result
      go (inl w) =
          yields_answer Says Unfit (force_fault_report (trace_section a (bytes_events new)) fault).text (force_fault_report (trace_section a (bytes_events new)) fault).status result input before now i f g
          (λ b. ap (report_from_forced bytes_events (machine_of (program_of a)) a done b) e)
          (subst (λ (d : ForceResult). SaysWhy (force_fault_report (trace_section a (bytes_events new)) fault).status ⊥ (IsRefusedForcing d.0)) e (says_fault fault (trace_section a (bytes_events new))))
          (of_fault fault (trace_section a (bytes_events new))) w
      go (inr w) = yields_stopped Says Unfit result input before now i f g w

-- ---- the whole call

module _ (number budget : ℕ) (a : Accepted) (same : ForcesSame a) where
  -- where no event ended the run on the way
  at_site : (b : List ℕ) → Budget ≡ (bytes_to_site budget a b).end
      → accepted_force number budget a b
      ≡ with_text_before (bytes_to_site budget a b).text (bytes_from_site number a (bytes_to_site budget a b).state.done (bytes_to_site budget a b).state.state (bytes_to_site budget a b).left)
  unfolding accepted_force
  at_site b e = ap (by_site_end bytes_events (machine_of (program_of a)) (force_bytes number a) a (bytes_to_site budget a b)) (sym e)

  by_other : (ran : Ran (Onward State) End) (end : End) → (end ≡ Budget → ⊥)
      → by_site_end bytes_events (machine_of (program_of a)) (force_bytes number a) a ran end ≡ run_report (λ (o : Onward State). bytes_events o.state) a ran
  by_other ran Budget n = absurd (n refl)
  by_other ran (Exit number) n = refl
  by_other ran (Terminate cause) n = refl
  by_other ran (Trap kind value pc) n = refl
  by_other ran ReadFault n = refl
  by_other ran WriteFault n = refl

  -- .. and where one did
  pub ended_before : (end : End) (b : List ℕ) → (end ≡ Budget → ⊥) → end ≡ (bytes_to_site budget a b).end
      → ForcesAccepted number budget a b (closed_report (λ (o : Onward State) e. closing_of (trace_section a (bytes_events o.state)) e) (bytes_to_site budget a b))
  unfolding accepted_force
  ended_before end b n e =
      subst (λ (r : Report). ForcesAccepted number budget a b r) (by_other (bytes_to_site budget a b) (bytes_to_site budget a b).end (λ h. n (e ∙ h))) (force_accepted number budget a b same)

  -- whatever it ends by, the report begins with what the run wrote
  begins : (ran : Ran (Onward State) End) (end : End)
      → (rest : List ℕ) × ((by_site_end bytes_events (machine_of (program_of a)) (force_bytes number a) a ran end).text ≡ ran.text ++ rest)
  begins ran Budget = ((report_from_forced bytes_events (machine_of (program_of a)) a ran.state.done ran.left (force_bytes number a ran.state.state)).text, refl)
  begins ran (Exit n) = (trace_section a (bytes_events ran.state.state) ++ end_line ran.end, refl)
  begins ran (Terminate cause) = (trace_section a (bytes_events ran.state.state) ++ end_line ran.end, refl)
  begins ran (Trap kind value pc) = (trace_section a (bytes_events ran.state.state) ++ end_line ran.end, refl)
  begins ran ReadFault = (trace_section a (bytes_events ran.state.state) ++ end_line ran.end, refl)
  begins ran WriteFault = (trace_section a (bytes_events ran.state.state) ++ end_line ran.end, refl)

  pub begun : (b : List ℕ) → Begun (ForcesAccepted number budget a b) (bytes_to_site budget a b).text
  unfolding accepted_force
  begun b =
      let w = begins (bytes_to_site budget a b) (bytes_to_site budget a b).end in
      record { report = accepted_force number budget a b; is = force_accepted number budget a b same; rest = w.0; begins = w.1 }

  -- nothing is refused of a run that ended before
  pub nothing_unforced : (end : End) (input : Option (List ℕ)) (s : ℕ) → (end ≡ Budget → ⊥) → (s ≡ REFUSED → ⊥) → IfSome input (λ b. end ≡ (bytes_to_site budget a b).end) → RefusedOn (IsUnforced number budget a) input s
  nothing_unforced end None s n other e = tt
  nothing_unforced end (Some b) s n other e = ((λ r. absurd (other r)), (λ u. absurd (n (e ∙ IsUnforced.comes u))))

  -- ---- a run that came to a site, where the input is told
  module _ (new : State) (done : ℕ) (left before mid : Option (List ℕ)) where
    pub record CameTo (b : List ℕ) : Type 0 where
      pub ends : Budget ≡ (bytes_to_site budget a b).end
      pub done_is : done ≡ (bytes_to_site budget a b).state.done
      pub state_is : new ≡ (bytes_to_site budget a b).state.state
      pub leaves : left ≡ Some (bytes_to_site budget a b).left
      pub wrote : Appends before mid (bytes_to_site budget a b).text

    pub came : (told : Option (List ℕ)) (end : End) → end ≡ Budget → IfSome told (λ b. RunsToSite (program_of a) budget (start_of (program_of a)) b end done new left before mid) → IfSome told CameTo
    came None end e r = tt
    came (Some b) end e r = record {
      ends = sym e ∙ at_false _ _ fine r.runs.ends;
      done_is = ap (λ (o : Onward State). o.done) (at_false _ _ fine r.runs.state_is);
      state_is = ap (λ (o : Onward State). o.state) (at_false _ _ fine r.runs.state_is);
      leaves = at_false _ _ fine r.runs.leaves;
      wrote = at_false _ _ fine r.runs.wrote;
    }
      where
        fine : is_fault end ≡ false
        fine = ap is_fault e

  -- ---- .. and a call from there
  module _ (new : State) (done : ℕ) (result : Result ℕ Stop) (left after before mid now : Option (List ℕ)) (i j k f g h : ℕ) where
    abbrev Came : List ℕ → Type 0
    Came = CameTo new done left before mid

    abbrev From : Type 0
    From = Yields (Only (bytes_from_site number a done new)) (IsRefusedForcing (force_bytes number a new).0) (streams left j mid g) (streams after k now h) result

    from_here : (b : List ℕ) → Came b → accepted_force number budget a b ≡ with_text_before (bytes_to_site budget a b).text (bytes_from_site number a done new (bytes_to_site budget a b).left)
    from_here b c =
        at_site b c.ends
        ∙ sym (ap (λ (n : ℕ). with_text_before (bytes_to_site budget a b).text (bytes_from_site number a n new (bytes_to_site budget a b).left)) c.done_is
        ∙ ap (λ (s : State). with_text_before (bytes_to_site budget a b).text (bytes_from_site number a (bytes_to_site budget a b).state.done s (bytes_to_site budget a b).left)) c.state_is)

    all_says : (b : List ℕ) → Came b → ForcesAccepted number budget a b (with_text_before (bytes_to_site budget a b).text (bytes_from_site number a done new (bytes_to_site budget a b).left))
    all_says b c = subst (λ (r : Report). ForcesAccepted number budget a b r) (from_here b c) (force_accepted number budget a b same)

    whole_told : (b : List ℕ) → Came b → IfSome left (λ l. IfOk result (λ s. DoesWhole (Only (bytes_from_site number a done new) l) s after mid now))
        → IfOk result (λ s. DoesWhole (ForcesAccepted number budget a b) s after before now)
    whole_told b c w = go result (subst (λ (o : Option (List ℕ)). IfSome o (λ l. IfOk result (λ s. DoesWhole (Only (bytes_from_site number a done new) l) s after mid now))) c.leaves w)
      where
        go : (result : Result ℕ Stop) → IfOk result (λ s. DoesWhole (Only (bytes_from_site number a done new) (bytes_to_site budget a b).left) s after mid now)
            → IfOk result (λ s. DoesWhole (ForcesAccepted number budget a b) s after before now)
        go (Ok s) d = record {
          report = with_text_before (bytes_to_site budget a b).text d.report;
          is = rw d.is (all_says b c);
          status_is = d.status_is;
          leaves = d.leaves;
          wrote = Appends-trans before mid now (bytes_to_site budget a b).text d.report.text c.wrote d.wrote;
        }
        go (Err stop) d = tt

    kept_part : (b : List ℕ) → Appends before mid (bytes_to_site budget a b).text → Keeps mid now → AppendsPart before now (bytes_to_site budget a b).text
    kept_part b wrote kept = go before mid now wrote kept
      where
        go : (x y z : Option (List ℕ)) → Appends x y (bytes_to_site budget a b).text → Keeps y z → AppendsPart x z (bytes_to_site budget a b).text
        go None y z w k = part_whole None z (bytes_to_site budget a b).text tt
        go (Some x) None z w k = absurd w
        go (Some x) (Some y) None w k = absurd k
        go (Some x) (Some y) (Some z) w k = part_whole (Some x) (Some z) (bytes_to_site budget a b).text (k ∙ w)

    part_told : (b : List ℕ) → Came b → IfSome left (λ l. DoesPart (Only (bytes_from_site number a done new) l) mid now) → DoesPart (ForcesAccepted number budget a b) before now
    part_told b c w = go (subst (λ (o : Option (List ℕ)). IfSome o (λ l. DoesPart (Only (bytes_from_site number a done new) l) mid now)) c.leaves w)
      where
        text : List ℕ
        text = (bytes_from_site number a done new (bytes_to_site budget a b).left).text

        go : DoesPart (Only (bytes_from_site number a done new) (bytes_to_site budget a b).left) mid now → DoesPart (ForcesAccepted number budget a b) before now
        go (inl kept) = inr (
          with_text_before (bytes_to_site budget a b).text (bytes_from_site number a done new (bytes_to_site budget a b).left),
          all_says b c,
          part_first before now (bytes_to_site budget a b).text _ (kept_part b c.wrote kept),
        )
        go (inr d) = inr (
          with_text_before (bytes_to_site budget a b).text d.0,
          rw d.1 (all_says b c),
          part_then before mid now (bytes_to_site budget a b).text d.0.text c.wrote d.2,
        )

    -- it is refused there exactly where the run of the input is
    pins_told : (b : List ℕ) → Came b → (s : ℕ) → (s ≡ REFUSED) ↔ IsRefusedForcing (force_bytes number a new).0 → (s ≡ REFUSED) ↔ IsUnforced number budget a b
    pins_told b c s w = (
      (λ e. record { comes = sym c.ends; refused = subst (λ (t : State). IsRefusedForcing (force_bytes number a t).0) c.state_is (w.0 e) }),
      (λ u. w.1 (subst (λ (t : State). IsRefusedForcing (force_bytes number a t).0) (sym c.state_is) (IsUnforced.refused u))),
    )

    pins_all : (input : Option (List ℕ)) → IfSome input Came → (s : ℕ) → (s ≡ REFUSED) ↔ IsRefusedForcing (force_bytes number a new).0 → RefusedOn (IsUnforced number budget a) input s
    pins_all None c s w = tt
    pins_all (Some b) c s w = pins_told b c s w

    pub forces_on : (input : Option (List ℕ)) → IfSome input Came → j ≡ i → g ≡ f → From
        → YieldsBy (ForcesAccepted number budget a) (RefusedOn (IsUnforced number budget a)) (streams input i before f) (streams after k now h) result
    forces_on input c read wrote y = record {
      whole = whole input c;
      part = part input c;
      why = why result y.why;
      read = λ e. rw (← read) (y.read e);
      write = λ e. rw (← wrote) (y.write e);
      memory = λ e. let kept = y.memory e in record { input = kept.input ∙ read; output = kept.output ∙ wrote };
      status = y.status;
    }
      where
        whole : (input : Option (List ℕ)) → IfSome input Came → IfSome input (λ b. IfOk result (λ s. DoesWhole (ForcesAccepted number budget a b) s after before now))
        whole None d = tt
        whole (Some b) d = whole_told b d y.whole

        part : (input : Option (List ℕ)) → IfSome input Came → IfSome input (λ b. DoesPart (ForcesAccepted number budget a b) before now)
        part None d = tt
        part (Some b) d = part_told b d y.part

        why : (result : Result ℕ Stop) → IfOk result (λ s. SaysWhy s ⊥ (IsRefusedForcing (force_bytes number a new).0)) → IfOk result (λ s. SaysWhyBy s ⊥ (RefusedOn (IsUnforced number budget a) input s))
        why (Ok s) w = record { missing = w.missing; refused = pins_all input c s w.refused }
        why (Err stop) w = tt
