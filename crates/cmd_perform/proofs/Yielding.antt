-- Reports of an input, from what the parts of a call have done. Nothing here knows a command.
use Rattle.std.proofs.Common.{◌≡◌, ◌⊎◌, inl, inr, ℕ, ◌≤◌, List, ◌++◌, Option, Some, None, IfSome, Result, Ok, Err, Bool, true, false, refl, sym, subst, ◌∙◌, arith}
use Rattle.std.specs.Bool.{OnFalse, OnTrue}
use Rattle.std.specs.Prelude.{IfOk}
use Rattle.std.proofs.KnownBytes.{Appends-trans, Keeps-refl}
use Rattle.std.specs.Io.KnownBytes.{Appends}
use Rattle.eh_port.specs.Causes.{Rose}
use Rattle.eh_port.specs.Writing.{AppendsPart}
use Rattle.eh_port.proofs.Parts.{part_first, part_then}
use Rattle.run_events.specs.Runs.{Machine, Ran, Runs, machine_run}
use Rattle.run_gates.specs.Ends.{is_fault}
use Rattle.thumb_core.specs.declared.ends.End.{End}
use Rattle.thumb_core.specs.declared.ends.End.TheVariants.{Exit, Terminate, Trap, Budget, ReadFault, WriteFault}
use Rattle.eh_gates.specs.State.{State}
use Rattle.eh_walk.specs.Reaching.{RunsToSite, state_after, most_events, site_machine}
use Rattle.sim_machines.specs.Machine.{machine_of}
use Rattle.sim_machines.specs.Program.{Program}
use Rattle.cmd_answers.specs.declared.stop.Stop.{Stop}
use Rattle.cmd_answers.specs.declared.stop.Stop.TheVariants.{Read, Write, Memory}
use Rattle.cmd_input.specs.Loading.{Report, Closing, closed_report, stop_of_fault}
use Rattle.cmd_answers.specs.Statuses.{SaysWhy, SaysWhyBy, IsOfCommand}
use Rattle.cmd_answers.specs.Writes.{Answers, StopsEarly}
use Rattle.cmd_perform.specs.Writes.{AnswersRun}
use Rattle.cmd_perform.specs.Yields.{Streams, streams, DoesWhole, DoesPart, YieldsBy, Yields, RefusedWhere}
use Rattle.cmd_answers.specs.declared.status.TheConstants.{REFUSED}
use Rattle.cmd_answers.proofs.Answering.{of_status, only_write}
use Rattle.cmd_perform.proofs.Statuses.{IsOfRun}

-- ---- a call that ended with a text

-- .. is all of a report, or a part of it
pub whole_answer : (Says : Report → Type 0) (text : List ℕ) (status : ℕ) (input : List ℕ) (result : Result ℕ Stop) (before now : Option (List ℕ)) (f g : ℕ)
    → Says (record { text = text; status = status; left = input }) → Answers text status result before now f g → IfOk result (λ s. DoesWhole Says s (Some input) before now)
whole_answer Says text status input (Ok s) before now f g is a = record { report = record { text = text; status = status; left = input }; is = is; status_is = a.status_is; leaves = refl; wrote = a.ok }
whole_answer Says text status input (Err stop) before now f g is a = tt

pub part_answer : (Says : Report → Type 0) (text : List ℕ) (status : ℕ) (input : List ℕ) (result : Result ℕ Stop) (before now : Option (List ℕ)) (f g : ℕ)
    → Says (record { text = text; status = status; left = input }) → Answers text status result before now f g → DoesPart Says before now
part_answer Says text status input result before now f g is a = inr (record { text = text; status = status; left = input }, is, a.part)

told_whole : (Says : List ℕ → Report → Type 0) (text : List ℕ) (status : ℕ) (result : Result ℕ Stop) (input before now : Option (List ℕ)) (f g : ℕ)
    → ((b : List ℕ) → Says b (record { text = text; status = status; left = b })) → Answers text status result before now f g
    → IfSome input (λ b. IfOk result (λ s. DoesWhole (Says b) s input before now))
told_whole Says text status result None before now f g is a = tt
told_whole Says text status result (Some b) before now f g is a = whole_answer (Says b) text status b result before now f g (is b) a

told_part : (Says : List ℕ → Report → Type 0) (text : List ℕ) (status : ℕ) (result : Result ℕ Stop) (input before now : Option (List ℕ)) (f g : ℕ)
    → ((b : List ℕ) → Says b (record { text = text; status = status; left = b })) → Answers text status result before now f g
    → IfSome input (λ b. DoesPart (Says b) before now)
told_part Says text status result None before now f g is a = tt
told_part Says text status result (Some b) before now f g is a = part_answer (Says b) text status b result before now f g (is b) a

not_read : (stop : Stop) → stop ≡ Read → stop ≡ Write → ⊥
not_read stop e h = cc

not_memory : (stop : Stop) → stop ≡ Memory → stop ≡ Write → ⊥
not_memory stop e h = cc

pub yields_answer_by : (Says : List ℕ → Report → Type 0) (Refuses : Option (List ℕ) → ℕ → Type 0) (text : List ℕ) (status : ℕ) (result : Result ℕ Stop) (input before now : Option (List ℕ)) (i f g : ℕ)
    → ((b : List ℕ) → Says b (record { text = text; status = status; left = b })) → SaysWhyBy status ⊥ (Refuses input status) → IsOfCommand status
    → Answers text status result before now f g
    → YieldsBy Says Refuses (streams input i before f) (streams input i now g) result
yields_answer_by Says Refuses text status result input before now i f g is why of a = record {
  whole = told_whole Says text status result input before now f g is a;
  part = told_part Says text status result input before now f g is a;
  why = of_status (λ s. SaysWhyBy s ⊥ (Refuses input s)) text status result before now f g why a;
  read = λ e. absurd (not_read Read refl (only_write text status result Read before now f g a e).0);
  write = λ e. (only_write text status result Write before now f g a e).1;
  memory = λ e. absurd (not_memory Memory refl (only_write text status result Memory before now f g a e).0);
  status = of_status IsOfCommand text status result before now f g of a;
}

pub yields_answer : (Says : List ℕ → Report → Type 0) (unfit : Type 0) (text : List ℕ) (status : ℕ) (result : Result ℕ Stop) (input before now : Option (List ℕ)) (i f g : ℕ)
    → ((b : List ℕ) → Says b (record { text = text; status = status; left = b })) → SaysWhy status ⊥ unfit → IsOfCommand status
    → Answers text status result before now f g
    → Yields Says unfit (streams input i before f) (streams input i now g) result
yields_answer Says unfit text status result input before now i f g is why of a =
    yields_answer_by Says (RefusedWhere unfit) text status result input before now i f g is why of a

-- ---- a call that found no memory, and did nothing

none_whole : (Says : List ℕ → Report → Type 0) (stop : Stop) (input left before now : Option (List ℕ)) → IfSome input (λ b. IfOk (Err stop) (λ s. DoesWhole (Says b) s left before now))
none_whole Says stop None left before now = tt
none_whole Says stop (Some b) left before now = tt

none_part : (Says : List ℕ → Report → Type 0) (input before : Option (List ℕ)) → IfSome input (λ b. DoesPart (Says b) before before)
none_part Says None before = tt
none_part Says (Some b) before = inl (Keeps-refl before)

pub yields_memory_by : (Says : List ℕ → Report → Type 0) (Refuses : Option (List ℕ) → ℕ → Type 0) (input before : Option (List ℕ)) (i f : ℕ)
    → YieldsBy Says Refuses (streams input i before f) (streams input i before f) (Err Memory)
yields_memory_by Says Refuses input before i f = record {
  whole = none_whole Says Memory input input before before;
  part = none_part Says input before;
  why = tt;
  read = λ e. absurd (let no : Memory ≡ Read = cc in cc);
  write = λ e. absurd (let no : Memory ≡ Write = cc in cc);
  memory = λ _. record { input = refl; output = refl };
  status = tt;
}

pub yields_memory : (Says : List ℕ → Report → Type 0) (unfit : Type 0) (input before : Option (List ℕ)) (i f : ℕ)
    → Yields Says unfit (streams input i before f) (streams input i before f) (Err Memory)
yields_memory Says unfit input before i f = yields_memory_by Says (RefusedWhere unfit) input before i f

pub yields_stopped_by : (Says : List ℕ → Report → Type 0) (Refuses : Option (List ℕ) → ℕ → Type 0) (result : Result ℕ Stop) (input before now : Option (List ℕ)) (i f g : ℕ) → StopsEarly Memory result before now f g
    → YieldsBy Says Refuses (streams input i before f) (streams input i now g) result
yields_stopped_by Says Refuses result input before now i f g s = rw (s.is, s.same, s.faultless) (yields_memory_by Says Refuses input before i f)

pub yields_stopped : (Says : List ℕ → Report → Type 0) (unfit : Type 0) (result : Result ℕ Stop) (input before now : Option (List ℕ)) (i f g : ℕ) → StopsEarly Memory result before now f g
    → Yields Says unfit (streams input i before f) (streams input i now g) result
yields_stopped Says unfit result input before now i f g s = yields_stopped_by Says (RefusedWhere unfit) result input before now i f g s

-- ---- reports that may be made of one thing may be made of another

more_whole : (Says Other : Report → Type 0) (result : Result ℕ Stop) (left before now : Option (List ℕ)) → ((r : Report) → Says r → Other r)
    → IfOk result (λ s. DoesWhole Says s left before now) → IfOk result (λ s. DoesWhole Other s left before now)
more_whole Says Other (Ok s) left before now says w = record { report = w.report; is = says w.report w.is; status_is = w.status_is; leaves = w.leaves; wrote = w.wrote }
more_whole Says Other (Err stop) left before now says w = tt

more_part : (Says Other : Report → Type 0) (before now : Option (List ℕ)) → ((r : Report) → Says r → Other r) → DoesPart Says before now → DoesPart Other before now
more_part Says Other before now says (inl kept) = inl kept
more_part Says Other before now says (inr w) = inr (w.0, says w.0 w.1, w.2)

pub whole_as : (Says Other : List ℕ → Report → Type 0) (input : Option (List ℕ)) (result : Result ℕ Stop) (left before now : Option (List ℕ)) → ((b : List ℕ) (r : Report) → Says b r → Other b r)
    → IfSome input (λ b. IfOk result (λ s. DoesWhole (Says b) s left before now)) → IfSome input (λ b. IfOk result (λ s. DoesWhole (Other b) s left before now))
whole_as Says Other None result left before now says w = tt
whole_as Says Other (Some b) result left before now says w = more_whole (Says b) (Other b) result left before now (says b) w

pub part_as : (Says Other : List ℕ → Report → Type 0) (input before now : Option (List ℕ)) → ((b : List ℕ) (r : Report) → Says b r → Other b r)
    → IfSome input (λ b. DoesPart (Says b) before now) → IfSome input (λ b. DoesPart (Other b) before now)
part_as Says Other None before now says w = tt
part_as Says Other (Some b) before now says w = more_part (Says b) (Other b) before now (says b) w

-- and a status says why of the one as of the other
pub yields_as_by : (Says Other : List ℕ → Report → Type 0) (Refuses Pins : Option (List ℕ) → ℕ → Type 0) (old new : Streams) (result : Result ℕ Stop) → ((b : List ℕ) (r : Report) → Says b r → Other b r)
    → (IfOk result (λ s. SaysWhyBy s ⊥ (Refuses old.input s)) → IfOk result (λ s. SaysWhyBy s ⊥ (Pins old.input s)))
    → YieldsBy Says Refuses old new result → YieldsBy Other Pins old new result
yields_as_by Says Other Refuses Pins old new result says why y = record {
  whole = whole_as Says Other old.input result new.input old.output new.output says y.whole;
  part = part_as Says Other old.input old.output new.output says y.part;
  why = why y.why;
  read = y.read;
  write = y.write;
  memory = y.memory;
  status = y.status;
}

pub yields_as : (Says Other : List ℕ → Report → Type 0) (unfit other : Type 0) (old new : Streams) (result : Result ℕ Stop) → ((b : List ℕ) (r : Report) → Says b r → Other b r)
    → (IfOk result (λ s. SaysWhy s ⊥ unfit) → IfOk result (λ s. SaysWhy s ⊥ other))
    → Yields Says unfit old new result → Yields Other other old new result
yields_as Says Other unfit other old new result says why y = yields_as_by Says Other (RefusedWhere unfit) (RefusedWhere other) old new result says why y

-- ---- a run

-- a report that begins with what was written
pub record Begun (Says : Report → Type 0) (text : List ℕ) : Type 0 where
  pub report : Report
  pub is : Says report
  pub rest : List ℕ
  pub begins : report.text ≡ text ++ rest

pub at_false : (b : Bool) (P : Type 0) → b ≡ false → OnFalse b P → P
at_false true P e h = absurd (cc)
at_false false P e h = h

at_true : (b : Bool) (P : Type 0) → b ≡ true → OnTrue b P → P
at_true true P e h = h
at_true false P e h = absurd (cc)

fault_read : (end : End) → is_fault end ≡ true → stop_of_fault end ≡ Read → end ≡ ReadFault
fault_read (Exit number) e s = absurd (cc)
fault_read (Terminate cause) e s = absurd (cc)
fault_read (Trap kind value pc) e s = absurd (cc)
fault_read Budget e s = absurd (cc)
fault_read ReadFault e s = refl
fault_read WriteFault e s = absurd (cc)

fault_write : (end : End) → is_fault end ≡ true → stop_of_fault end ≡ Write → end ≡ WriteFault
fault_write (Exit number) e s = absurd (cc)
fault_write (Terminate cause) e s = absurd (cc)
fault_write (Trap kind value pc) e s = absurd (cc)
fault_write Budget e s = absurd (cc)
fault_write ReadFault e s = absurd (cc)
fault_write WriteFault e s = refl

fault_memory : (end : End) → stop_of_fault end ≡ Memory → ⊥
fault_memory (Exit number) s = cc
fault_memory (Terminate cause) s = cc
fault_memory (Trap kind value pc) s = cc
fault_memory Budget s = cc
fault_memory ReadFault s = cc
fault_memory WriteFault s = cc

not_fault_read : (end : End) → is_fault end ≡ false → end ≡ ReadFault → ⊥
not_fault_read end fine e = let no : is_fault end ≡ true = rw e refl in cc

not_fault_write : (end : End) → is_fault end ≡ false → end ≡ WriteFault → ⊥
not_fault_write end fine e = let no : is_fault end ≡ true = rw e refl in cc

same_stop : (result : Result ℕ Stop) (a b : Stop) → result ≡ Err a → result ≡ Err b → a ≡ b
same_stop result a b e f = let g : ◌≡◌ {A = Result ℕ Stop} (Err a) (Err b) = sym e ∙ f in cc

-- What is known of a run from what it wrote and how it ended, and of what is said of it after that: all of the run, but where a fault stopped it.
pub record Told {S : Type 0} (says : S → End → Closing) (ran : Ran S End) (end : End) (closing : Closing) (left before now : Option (List ℕ)) : Type 0 where
  pub part : AppendsPart before now ran.text
  pub ends : OnFalse (is_fault end) (end ≡ ran.end)
  pub closes : OnFalse (is_fault end) (closing ≡ says ran.state ran.end)
  pub leaves : OnFalse (is_fault end) (left ≡ Some ran.left)
  pub wrote : OnFalse (is_fault end) (Appends before now ran.text)

says_run : (closing : Closing) (P : Type 0) → IsOfRun closing.status → ((closing.status ≡ REFUSED → ⊥) → P) → SaysWhyBy closing.status ⊥ P
says_run closing P w pins = record { missing = ((λ e. absurd (w.not_unavailable e)), (λ l. absurd l)); refused = pins w.not_refused }

module _ (S : Type 0) (says : S → End → Closing) (run : List ℕ → Ran S End) where
  -- a run, and the text of its end
  done_run : (Says : Report → Type 0) (input : List ℕ) (end : End) (closing : Closing) (result : Result ℕ Stop) (left before mid now : Option (List ℕ)) (f g : ℕ)
      → is_fault end ≡ false → Says (closed_report says (run input))
      → Told says (run input) end closing left before mid → Answers closing.text closing.status result mid now f g
      → IfOk result (λ s. DoesWhole Says s left before now) × DoesPart Says before now
  done_run Says input end closing result left before mid now f g fine is r a =
      let c : closing ≡ says (run input).state (run input).end = at_false _ _ fine r.closes in
      let wrote : Appends before mid (run input).text = at_false _ _ fine r.wrote in
      go result (rw c at a) (at_false _ _ fine r.leaves) wrote
    where
      go : (result : Result ℕ Stop) → Answers (says (run input).state (run input).end).text (says (run input).state (run input).end).status result mid now f g
          → left ≡ Some (run input).left → Appends before mid (run input).text
          → IfOk result (λ s. DoesWhole Says s left before now) × DoesPart Says before now
      go (Ok s) a leaves wrote = (
        record {
          report = closed_report says (run input);
          is = is;
          status_is = a.status_is;
          leaves = leaves;
          wrote = Appends-trans before mid now (run input).text _ wrote a.ok;
        },
        inr (closed_report says (run input), is, part_then before mid now (run input).text _ wrote a.part),
      )
      go (Err stop) a leaves wrote = (tt, inr (closed_report says (run input), is, part_then before mid now (run input).text _ wrote a.part))

  -- a run that was stopped
  part_run : (Says : Report → Type 0) (input : List ℕ) (end : End) (closing : Closing) (left before now : Option (List ℕ))
      → Begun Says (run input).text → Told says (run input) end closing left before now → DoesPart Says before now
  part_run Says input end closing left before now begun r = inr (begun.report, begun.is, rw begun.begins (part_first before now (run input).text begun.rest r.part))

  -- the whole call: a run from where nothing was done, and what is said of its last state, for which there may be no memory
  pub yields_told_by : (Says : List ℕ → Report → Type 0) (Refuses : Option (List ℕ) → ℕ → Type 0) (end : End) (closing : Closing) (result : Result ℕ Stop) (input left before mid now : Option (List ℕ)) (i j f g h : ℕ)
      → (is_fault end ≡ false → IsOfRun closing.status)
      → ((b : List ℕ) → Begun (Says b) (run b).text) → ((b : List ℕ) → end ≡ (run b).end → Says b (closed_report says (run b)))
      → ((s : ℕ) → (s ≡ REFUSED → ⊥) → IfSome input (λ b. end ≡ (run b).end) → Refuses input s)
      → IfSome input (λ b. Told says (run b) end closing left before mid)
      → (end ≡ ReadFault → Rose i j) → (end ≡ WriteFault → Rose f g) → f ≤ g
      → (is_fault end ≡ false → result ≡ Err Memory → (j ≡ i) × (g ≡ f))
      → AnswersRun closing end result mid now g h
      → YieldsBy Says Refuses (streams input i before f) (streams left j now h) result
  yields_told_by Says Refuses end closing result input left before mid now i j f g h of begun is pins runs read write later still answers = go (is_fault end) refl
    where
      ended : (b : List ℕ) → is_fault end ≡ false → Told says (run b) end closing left before mid → end ≡ (run b).end
      ended b fine r = at_false _ _ fine r.ends

      all_ended : (input : Option (List ℕ)) → is_fault end ≡ false → IfSome input (λ b. Told says (run b) end closing left before mid)
          → IfSome input (λ b. end ≡ (run b).end)
      all_ended None fine r = tt
      all_ended (Some b) fine r = ended b fine r

      fine_whole : (input : Option (List ℕ)) → is_fault end ≡ false → Answers closing.text closing.status result mid now g h
          → IfSome input (λ b. Told says (run b) end closing left before mid)
          → IfSome input (λ b. IfOk result (λ s. DoesWhole (Says b) s left before now))
      fine_whole None fine a r = tt
      fine_whole (Some b) fine a r = (done_run (Says b) b end closing result left before mid now g h fine (is b (ended b fine r)) r a).0

      fine_part : (input : Option (List ℕ)) → is_fault end ≡ false → Answers closing.text closing.status result mid now g h
          → IfSome input (λ b. Told says (run b) end closing left before mid)
          → IfSome input (λ b. DoesPart (Says b) before now)
      fine_part None fine a r = tt
      fine_part (Some b) fine a r = (done_run (Says b) b end closing result left before mid now g h fine (is b (ended b fine r)) r a).1

      stopped_whole : (input : Option (List ℕ)) (stop : Stop) → result ≡ Err stop → IfSome input (λ b. IfOk result (λ s. DoesWhole (Says b) s left before now))
      stopped_whole input stop e = rw e (none_whole Says stop input left before now)

      stopped_part : (input : Option (List ℕ)) → now ≡ mid
          → IfSome input (λ b. Told says (run b) end closing left before mid)
          → IfSome input (λ b. DoesPart (Says b) before now)
      stopped_part None same r = tt
      stopped_part (Some b) same r = rw same (part_run (Says b) b end closing left before mid (begun b) r)

      fine_of : is_fault end ≡ false → Answers closing.text closing.status result mid now g h ⊎ StopsEarly Memory result mid now g h
          → YieldsBy Says Refuses (streams input i before f) (streams left j now h) result
      fine_of fine (inl a) =
          let text = closing.text in
          let status = closing.status in
          record {
            whole = fine_whole input fine a runs;
            part = fine_part input fine a runs;
            why = of_status (λ s. SaysWhyBy s ⊥ (Refuses input s)) text status result mid now g h (says_run closing (Refuses input status) (of fine) (λ other. pins status other (all_ended input fine runs))) a;
            read = λ e. absurd (not_read Read refl (only_write text status result Read mid now g h a e).0);
            write = λ e. let rose = (only_write text status result Write mid now g h a e).1 in omega arith;
            memory = λ e. absurd (not_memory Memory refl (only_write text status result Memory mid now g h a e).0);
            status = of_status IsOfCommand text status result mid now g h (IsOfRun.reported (of fine)) a;
          }
      fine_of fine (inr s) = record {
        whole = stopped_whole input Memory s.is;
        part = stopped_part input s.same runs;
        why = rw s.is tt;
        read = λ e. absurd (let w = same_stop result Memory Read s.is e in cc);
        write = λ e. absurd (let w = same_stop result Memory Write s.is e in cc);
        memory = λ e. let kept = still fine e in record { input = kept.0; output = s.faultless ∙ kept.1 };
        status = rw s.is tt;
      }

      go : (b : Bool) → is_fault end ≡ b → YieldsBy Says Refuses (streams input i before f) (streams left j now h) result
      go false fine = fine_of fine (at_false (is_fault end) _ fine answers.fine)
      go true fault =
          let s = at_true (is_fault end) _ fault answers.fault in
          record {
            whole = stopped_whole input (stop_of_fault end) s.is;
            part = stopped_part input s.same runs;
            why = rw s.is tt;
            read = λ e. read (fault_read end fault (same_stop result (stop_of_fault end) Read s.is e));
            write = λ e. rw s.faultless (write (fault_write end fault (same_stop result (stop_of_fault end) Write s.is e)));
            memory = λ e. absurd (fault_memory end (same_stop result (stop_of_fault end) Memory s.is e));
            status = rw s.is tt;
          }

  -- .. whose report is that of its end alone
  pub yields_told : (Says : List ℕ → Report → Type 0) (unfit : Type 0) (end : End) (closing : Closing) (result : Result ℕ Stop) (input left before mid now : Option (List ℕ)) (i j f g h : ℕ)
      → (is_fault end ≡ false → IsOfRun closing.status) → ((b : List ℕ) → Says b (closed_report says (run b))) → (unfit → ⊥)
      → IfSome input (λ b. Told says (run b) end closing left before mid)
      → (end ≡ ReadFault → Rose i j) → (end ≡ WriteFault → Rose f g) → f ≤ g
      → (is_fault end ≡ false → result ≡ Err Memory → (j ≡ i) × (g ≡ f))
      → AnswersRun closing end result mid now g h
      → Yields Says unfit (streams input i before f) (streams left j now h) result
  yields_told Says unfit end closing result input left before mid now i j f g h of is fit runs read write later still answers =
      yields_told_by Says (RefusedWhere unfit) end closing result input left before mid now i j f g h of
      (λ b. record { report = closed_report says (run b); is = is b; rest = (says (run b).state (run b).end).text; begins = refl })
      (λ b e. is b) (λ s other e. ((λ r. absurd (other r)), (λ u. absurd (fit u)))) runs read write later still answers

-- ---- the run of a machine

closes_by : {S : Type 0} (says : S → End → Closing) (b : Bool) (end end' : End) (new new' : S) → OnFalse b (end ≡ end') → OnFalse b (new ≡ new') → OnFalse b (says new end ≡ says new' end')
closes_by says true end end' new new' e s = tt
closes_by says false end end' new new' e s = rw (e, s) refl

module _ (S : Type 0) (machine : Machine S End) (fault : (end : End) → machine.is_fault end ≡ is_fault end) (says : S → End → Closing) (n : ℕ) (state : S)
    (of : (s : S) (end : End) → is_fault end ≡ false → IsOfRun (says s end).status) where
  told_of : (new : S) (unspent : ℕ) (end : End) (input : List ℕ) (left before now : Option (List ℕ))
      → Runs machine n state input end new unspent left before now → Told says (machine_run machine n state input) end (says new end) left before now
  told_of new unspent end input left before now r =
      let ran : Ran S End = machine_run machine n state input in
      let ends : OnFalse (is_fault end) (end ≡ ran.end) = subst (λ (b : Bool). OnFalse b (end ≡ ran.end)) (fault end) r.ends in
      let state_is : OnFalse (is_fault end) (new ≡ ran.state) = subst (λ (b : Bool). OnFalse b (new ≡ ran.state)) (fault end) r.state_is in
      record {
        part = r.part;
        ends = ends;
        closes = closes_by says (is_fault end) end ran.end new ran.state ends state_is;
        leaves = subst (λ (b : Bool). OnFalse b (left ≡ Some ran.left)) (fault end) r.leaves;
        wrote = subst (λ (b : Bool). OnFalse b (Appends before now ran.text)) (fault end) r.wrote;
      }

  told_of_runs : (new : S) (end : End) (input left before now : Option (List ℕ)) → IfSome input (λ b. (unspent : ℕ) × Runs machine n state b end new unspent left before now)
      → IfSome input (λ b. Told says (machine_run machine n state b) end (says new end) left before now)
  told_of_runs new end None left before now r = tt
  told_of_runs new end (Some b) left before now r = told_of new r.0 end b left before now r.1

  -- the whole call: a run from where nothing was done, and what is said of its last state, for which there may be no memory
  pub yields_run_by : (Says : List ℕ → Report → Type 0) (Refuses : Option (List ℕ) → ℕ → Type 0) (new : S) (end : End) (result : Result ℕ Stop) (input left before mid now : Option (List ℕ)) (i j f g h : ℕ)
      → ((b : List ℕ) → Begun (Says b) (machine_run machine n state b).text) → ((b : List ℕ) → end ≡ (machine_run machine n state b).end → Says b (closed_report says (machine_run machine n state b)))
      → ((s : ℕ) → (s ≡ REFUSED → ⊥) → IfSome input (λ b. end ≡ (machine_run machine n state b).end) → Refuses input s)
      → IfSome input (λ b. (unspent : ℕ) × Runs machine n state b end new unspent left before mid)
      → (end ≡ ReadFault → Rose i j) → (end ≡ WriteFault → Rose f g) → f ≤ g
      → (is_fault end ≡ false → result ≡ Err Memory → (j ≡ i) × (g ≡ f))
      → AnswersRun (says new end) end result mid now g h
      → YieldsBy Says Refuses (streams input i before f) (streams left j now h) result
  yields_run_by Says Refuses new end result input left before mid now i j f g h begun is pins runs read write later still answers =
      yields_told_by S says (λ b. machine_run machine n state b) Says Refuses end (says new end) result input left before mid now i j f g h (of new end) begun is pins
      (told_of_runs new end input left before mid runs) read write later still answers

  -- .. whose report is that of its end alone
  pub yields_run : (Says : List ℕ → Report → Type 0) (unfit : Type 0) (new : S) (end : End) (result : Result ℕ Stop) (input left before mid now : Option (List ℕ)) (i j f g h : ℕ)
      → ((b : List ℕ) → Says b (closed_report says (machine_run machine n state b))) → (unfit → ⊥)
      → IfSome input (λ b. (unspent : ℕ) × Runs machine n state b end new unspent left before mid)
      → (end ≡ ReadFault → Rose i j) → (end ≡ WriteFault → Rose f g) → f ≤ g
      → (is_fault end ≡ false → result ≡ Err Memory → (j ≡ i) × (g ≡ f))
      → AnswersRun (says new end) end result mid now g h
      → Yields Says unfit (streams input i before f) (streams left j now h) result
  yields_run Says unfit new end result input left before mid now i j f g h is fit runs read write later still answers =
      yields_told S says (λ b. machine_run machine n state b) Says unfit end (says new end) result input left before mid now i j f g h (of new end) is fit
      (told_of_runs new end input left before mid runs) read write later still answers

-- where no fault ended a run, no count has changed
pub both_kept : (end : End) (i j f g : ℕ) → ((end ≡ ReadFault → ⊥) → j ≡ i) → ((end ≡ WriteFault → ⊥) → g ≡ f) → is_fault end ≡ false → (j ≡ i) × (g ≡ f)
both_kept end i j f g read write fine = (read (not_fault_read end fine), write (not_fault_write end fine))

-- ---- runs, whatever they had to spare

pub run_some : (p : Program) (budget : ℕ) (old : State) (end : End) (new : State) (unspent : ℕ) (told left before now : Option (List ℕ))
    → IfSome told (λ b. Runs (machine_of p) budget old b end new unspent left before now)
    → IfSome told (λ b. (spare : ℕ) × Runs (machine_of p) budget old b end new spare left before now)
run_some p budget old end new unspent None left before now r = tt
run_some p budget old end new unspent (Some b) left before now r = (unspent, r)

pub site_some : (p : Program) (budget : ℕ) (old : State) (end : End) (done : ℕ) (new : State) (told left before now : Option (List ℕ))
    → IfSome told (λ b. RunsToSite p budget old b end done new left before now)
    → IfSome told (λ b. (spare : ℕ) × Runs (site_machine p budget) (most_events budget) (state_after 0 old) b end (state_after done new) spare left before now)
site_some p budget old end done new None left before now r = tt
site_some p budget old end done new (Some b) left before now r = (r.spare, r.runs)
