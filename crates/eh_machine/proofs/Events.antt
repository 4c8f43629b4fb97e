-- One event, from what the parts of a call have done.
use Rattle.std.specs.Prelude.{MatchOption}
use Rattle.std.proofs.Common.{◌≡◌, ℕ, ◌<◌, nat_lt, List, [], Bool, true, false, Option, Some, None, IfSome, Result, Ok, Err, refl, sym, ap, subst, ◌∙◌, arith}
use Rattle.std.specs.Bool.{OnFalse, OnTrue}
use Rattle.std.proofs.KnownBytes.{Appends-nil}
use Rattle.std.proofs.lemmas.List.Elements.{All-nil}
use Rattle.run_events.specs.Runs.{Goes, GoesOn, Fails, EndsBy}
use Rattle.run_gates.specs.Given.{OnGiven}
use Rattle.run_gates.specs.declared.gates.TheConstants.{INPUT_GATE}
use Rattle.run_gates.specs.Ends.{is_fault}
use Rattle.run_gates.specs.Gates.{gate_event, gate_may_fail}
use Rattle.thumb_core.specs.declared.regs.Regs.{Regs}
use Rattle.thumb_core.specs.declared.regs.Stepped.{Stepped}
use Rattle.thumb_core.specs.declared.regs.Stepped.TheVariants.{Done, Call, Return, Gate, Trap}
use Rattle.thumb_core.specs.declared.ends.End.{End}
use Rattle.thumb_core.specs.declared.ends.End.TheVariants.{ReadFault, WriteFault}
use Rattle.eh_gates.specs.declared.state.Turned.{Turned}
use Rattle.eh_gates.specs.declared.state.Turned.TheVariants.{Went, Ended}
use Rattle.elf_image.specs.Image.{Image}
use Rattle.eh_types.specs.Graph.{Row}
use Rattle.eh_gates.specs.State.{State, Outcome, tables_of, state_of}
use Rattle.eh_gates.specs.declared.state.Core.{Core}
use Rattle.eh_trace.specs.Trace.{Trace}
use Rattle.eh_bus.specs.Memory.{Memory}
use Rattle.eh_machine.specs.Passes.{PassesOn}
use Rattle.eh_gates.specs.Gates.{gate_of}
use Rattle.sim_machines.specs.Program.{Program, program_tables}
use Rattle.sim_machines.specs.Machine.{PassResult, pass_instruction, event_of, in_state, event_after_step, event_after_pass, machine_event, pass_fails, may_fail, with_pc_of}
use Rattle.eh_machine.specs.Turns.{TurnedOnce, IsCounted, CountsFaults}

event_is : (p : Program) (s : State) (r : PassResult) (input : List ℕ) → r ≡ pass_instruction p s → machine_event p s input ≡ event_after_pass p s r input
unfolding machine_event
event_is p s r input e = ap (λ v. event_after_pass p s v input) (sym e)

may_is : (p : Program) (s : State) (r : PassResult) (end : End) → r ≡ pass_instruction p s → pass_fails r end ≡ may_fail p s end
unfolding may_fail
may_is p s r end e = ap (λ v. pass_fails v end) e

on_any_false : (b : Bool) (P : Type 0) → P → OnFalse b P
on_any_false true P p = tt
on_any_false false P p = p

on_false : (b : Bool) (P Q : Type 0) → OnFalse b P → (P → Q) → OnFalse b Q
on_false true P Q p f = tt
on_false false P Q p f = f p

on_true : (b : Bool) (P Q : Type 0) → OnTrue b P → (P → Q) → OnTrue b Q
on_true true P Q p f = f p
on_true false P Q p f = tt

not_true : (b : Bool) (P : Type 0) → b ≡ false → OnTrue b P
not_true true P e = absurd (cc)
not_true false P e = tt

-- an event that nothing of the outside took part in
outcome_turned : (p : Program) (s : State) (input : List ℕ) (result : Turned) (new : State) (before : Option (List ℕ))
    → machine_event p s input ≡ event_of (result, new) input → ((end : End) → result ≡ Ended end → is_fault end ≡ false)
    → TurnedOnce p s input result new (Some input) before before
outcome_turned p s input Went new before e honest =
    record { text = []; rest = input; is = e; leaves = refl; wrote = Appends-nil before }
outcome_turned p s input (Ended end) new before e honest =
    record { is = on_any_false (is_fault end) _ e; fails = not_true (is_fault end) _ (honest end refl); leaves = refl; wrote = Appends-nil before }

ended_is : (end other : End) → Ended end ≡ Ended other → end ≡ other
ended_is end other e = cc

went_ended : (end : End) (P : Type 0) → Went ≡ Ended end → P
went_ended end P e = absurd (cc)

-- an end before the gates
pub end_turned : (told before : Option (List ℕ)) (p : Program) (s : State) (end : End) (new : State) → (Err end, new) ≡ pass_instruction p s → is_fault end ≡ false
    → IfSome told (λ input. TurnedOnce p s input (Ended end) new told before before)
end_turned None before p s end new e fine = tt
end_turned (Some input) before p s end new e fine =
    outcome_turned p s input (Ended end) new before (event_is p s (Err end, new) input e)
    (λ other f. subst (λ (x : End). is_fault x ≡ false) (ended_is end other f) fine)

no_gate : (p : Program) (s : State) (what : Stepped) (new : State) (input : List ℕ) → ((number : ℕ) → what ≡ Gate number → ⊥) → event_after_step p s what new input ≡ Goes new [] input
no_gate p s Done new input h = refl
no_gate p s (Call target ret) new input h = refl
no_gate p s (Return to) new input h = refl
no_gate p s (Trap trap) new input h = refl
no_gate p s (Gate number) new input h = absurd (h number refl)

-- an instruction that is no gate
pub plain_turned : (told before : Option (List ℕ)) (p : Program) (s : State) (what : Stepped) (new : State) → (Ok what, new) ≡ pass_instruction p s
    → ((number : ℕ) → what ≡ Gate number → ⊥) → IfSome told (λ input. TurnedOnce p s input Went new told before before)
plain_turned None before p s what new e h = tt
plain_turned (Some input) before p s what new e h =
    outcome_turned p s input Went new before (event_is p s (Ok what, new) input e ∙ no_gate p s what new input h) (λ end f. went_ended end _ f)

-- a gate of exceptions
pub gate_turned : (told before : Option (List ℕ)) (p : Program) (s t new : State) (number : ℕ) (result : Turned) → (Ok (Gate number), t) ≡ pass_instruction p s
    → nat_lt INPUT_GATE number ≡ true → (result, new) ≡ gate_of (program_tables p) number t.regs.pc s → ((end : End) → result ≡ Ended end → is_fault end ≡ false)
    → IfSome told (λ input. TurnedOnce p s input result new told before before)
gate_turned None before p s t new number result e high g honest = tt
gate_turned (Some input) before p s t new number result e high g honest =
    outcome_turned p s input result new before
    (event_is p s (Ok (Gate number), t) input e ∙ rw high (ap (λ (o : Outcome). event_of o input) (sym g))) honest

-- a gate of every machine, from what it did to the registers
pub plain_gate_turned : (told left before now : Option (List ℕ)) (p : Program) (s t : State) (number : ℕ) (old regs : Regs) (result : Option End) → (Ok (Gate number), t) ≡ pass_instruction p s
    → nat_lt INPUT_GATE number ≡ false → old ≡ s.regs
    → IfSome told (λ input. MatchOption result (GoesOn (gate_event number old t.regs input) regs left before now)
    (λ end. EndsBy is_fault (gate_may_fail number) (gate_event number old t.regs input) end old regs input left before now))
    → IfSome told (λ input. MatchOption result (TurnedOnce p s input Went (record s { regs = regs }) left before now)
    (λ end. TurnedOnce p s input (Ended end) (record s { regs = regs }) left before now))
plain_gate_turned None left before now p s t number old regs result e low same g = tt
plain_gate_turned (Some input) left before now p s t number old regs None e low same g =
    let is : machine_event p s input ≡ in_state s (gate_event number old t.regs input) =
    event_is p s (Ok (Gate number), t) input e ∙ rw (low, same) refl in
    record { text = g.text; rest = g.rest; is = is ∙ ap (in_state s) g.is; leaves = g.leaves; wrote = g.wrote }
plain_gate_turned (Some input) left before now p s t number old regs (Some end) e low same g =
    let is : machine_event p s input ≡ in_state s (gate_event number old t.regs input) =
    event_is p s (Ok (Gate number), t) input e ∙ rw (low, same) refl in
    record {
      is = on_false (is_fault end) _ _ g.is (λ ends. is ∙ ap (in_state s) ends);
      fails = on_true (is_fault end) _ _ g.fails (λ fails. record {
        may = sym (may_is p s (Ok (Gate number), t) end e) ∙ Fails.may fails;
        same = ap (λ (r : Regs). record s { regs = r }) (Fails.same fails ∙ same);
      });
      leaves = g.leaves;
      wrote = g.wrote;
    }

-- ---- as the calls are made: the registers before a gate are put back first

pub gate_told : (told before : Option (List ℕ)) (p : Program) (s t new back : State) (number : ℕ) (result : Turned) (image : Image) (types : List Row)
    → (Ok (Gate number), t) ≡ pass_instruction p s → nat_lt INPUT_GATE number ≡ true → (result, new) ≡ gate_of (tables_of image types) number t.regs.pc back
    → image ≡ p.image → types ≡ p.types → back ≡ s → ((end : End) → result ≡ Ended end → is_fault end ≡ false)
    → IfSome told (λ input. TurnedOnce p s input result new told before before)
gate_told told before p s t new back number result image types e high g ei et eb honest =
    gate_turned told before p s t new number result e high
    (g ∙ ap (λ (i : Image). gate_of (tables_of i types) number t.regs.pc back) ei ∙ ap (λ (ts : List Row). gate_of (tables_of p.image ts) number t.regs.pc back) et
    ∙ ap (λ (b : State). gate_of (program_tables p) number t.regs.pc b) eb) honest

pub plain_gate_told : (told left before now : Option (List ℕ)) (p : Program) (s t : State) (number pc : ℕ) (regs : Regs) (result : Option End) → (Ok (Gate number), t) ≡ pass_instruction p s
    → nat_lt INPUT_GATE number ≡ false → with_pc_of t pc ≡ s
    → IfSome told (λ input. let old : Regs = record t.regs { pc = pc } in
    MatchOption result (GoesOn (gate_event number old t.regs input) regs left before now)
    (λ end. EndsBy is_fault (gate_may_fail number) (gate_event number old t.regs input) end old regs input left before now))
    → IfSome told (λ input. MatchOption result (TurnedOnce p s input Went (record t { regs = regs }) left before now)
    (λ end. TurnedOnce p s input (Ended end) (record t { regs = regs }) left before now))
plain_gate_told told left before now p s t number pc regs result e low back g =
    subst (λ (b : State). IfSome told (λ input. MatchOption result (TurnedOnce p s input Went (record b { regs = regs }) left before now)
    (λ end. TurnedOnce p s input (Ended end) (record b { regs = regs }) left before now))) (sym back)
    (plain_gate_turned told left before now p s t number (record t.regs { pc = pc }) regs result e low (ap (λ (b : State). b.regs) back) g)

pub as_gate : (p : Program) (s t : State) (what : Stepped) (number : ℕ) → what ≡ Gate number → ◌≡◌ {A = PassResult} (Ok what, t) (pass_instruction p s) → ◌≡◌ {A = PassResult} (Ok (Gate number), t) (pass_instruction p s)
as_gate p s t what number is e = let one : Stepped → PassResult = λ w. (Ok w, t) in sym (ap one is) ∙ e

pub ok_gate : (what : Stepped) (number : ℕ) → what ≡ Gate number → ◌≡◌ {A = Result Stepped End} (Ok what) (Ok (Gate number))
ok_gate what number is = ap Ok is

-- ---- on bytes that were given

-- nothing was asked for
given_none : (p : Program) (s : State) (result : Turned) (new : State) (before : Option (List ℕ)) → TurnedOnce p s [] result new (Some []) before before
    → OnGiven (λ bytes left. TurnedOnce p s bytes result new left before before)
given_none p s result new before t = record { bytes = []; left = []; are = All-nil (λ (b : ℕ). b < 256); done = t }

pub given_end : (before : Option (List ℕ)) (p : Program) (s : State) (end : End) (new : State) → (Err end, new) ≡ pass_instruction p s → is_fault end ≡ false
    → OnGiven (λ bytes left. TurnedOnce p s bytes (Ended end) new left before before)
given_end before p s end new e fine = given_none p s (Ended end) new before (end_turned (Some []) before p s end new e fine)

pub given_plain : (before : Option (List ℕ)) (p : Program) (s : State) (what : Stepped) (new : State) → (Ok what, new) ≡ pass_instruction p s
    → ((number : ℕ) → what ≡ Gate number → ⊥) → OnGiven (λ bytes left. TurnedOnce p s bytes Went new left before before)
given_plain before p s what new e h = given_none p s Went new before (plain_turned (Some []) before p s what new e h)

pub given_gate_told : (before : Option (List ℕ)) (p : Program) (s t new back : State) (number : ℕ) (result : Turned) (image : Image) (types : List Row)
    → (Ok (Gate number), t) ≡ pass_instruction p s → nat_lt INPUT_GATE number ≡ true → (result, new) ≡ gate_of (tables_of image types) number t.regs.pc back
    → image ≡ p.image → types ≡ p.types → back ≡ s → ((end : End) → result ≡ Ended end → is_fault end ≡ false)
    → OnGiven (λ bytes left. TurnedOnce p s bytes result new left before before)
given_gate_told before p s t new back number result image types e high g ei et eb honest =
    given_none p s result new before (gate_told (Some []) before p s t new back number result image types e high g ei et eb honest)

-- a gate of every machine, which may be given a byte
pub given_gate : (before now : Option (List ℕ)) (p : Program) (s t : State) (number pc : ℕ) (regs : Regs) (result : Option End) → (Ok (Gate number), t) ≡ pass_instruction p s
    → nat_lt INPUT_GATE number ≡ false → with_pc_of t pc ≡ s
    → OnGiven (λ bytes left. let old : Regs = record t.regs { pc = pc } in
    MatchOption result (GoesOn (gate_event number old t.regs bytes) regs left before now)
    (λ end. EndsBy is_fault (gate_may_fail number) (gate_event number old t.regs bytes) end old regs bytes left before now))
    → OnGiven (λ bytes left. MatchOption result (TurnedOnce p s bytes Went (record t { regs = regs }) left before now)
    (λ end. TurnedOnce p s bytes (Ended end) (record t { regs = regs }) left before now))
given_gate before now p s t number pc regs result e low back g =
    record { bytes = g.bytes; left = g.left; are = g.are; done = plain_gate_told (Some g.bytes) (Some g.left) before now p s t number pc regs result e low back g.done }

-- ---- of a call that tried an instruction

module _ (p : Program) (core core' : Core) (m m' : Memory) (events : Trace) (h : PassesOn p core m core' m') where
  pub went_told : (told before : Option (List ℕ)) → IfSome told (λ input. TurnedOnce p (state_of core m events) input Went (state_of core' m' events) told before before)
  went_told told before = plain_turned told before p (state_of core m events) h.what (state_of core' m' events) (h.passes.does events) h.no_gate

  pub went_given : (before : Option (List ℕ)) → OnGiven (λ bytes left. TurnedOnce p (state_of core m events) bytes Went (state_of core' m' events) left before before)
  went_given before = given_plain before p (state_of core m events) h.what (state_of core' m' events) (h.passes.does events) h.no_gate

-- ---- from a state that is the one before

pub turned_as_before : (told left before now : Option (List ℕ)) (p : Program) (s t new : State) (result : Turned) → t ≡ s
    → IfSome told (λ bytes. TurnedOnce p t bytes result new left before now) → IfSome told (λ bytes. TurnedOnce p s bytes result new left before now)
turned_as_before told left before now p s t new result e h = subst (λ (x : State). IfSome told (λ bytes. TurnedOnce p x bytes result new left before now)) e h

pub given_as_before : (before now : Option (List ℕ)) (p : Program) (s t new : State) (result : Turned) → t ≡ s
    → OnGiven (λ bytes left. TurnedOnce p t bytes result new left before now) → OnGiven (λ bytes left. TurnedOnce p s bytes result new left before now)
given_as_before before now p s t new result e h = subst (λ (x : State). OnGiven (λ bytes left. TurnedOnce p x bytes result new left before now)) e h

-- ---- the counts of faults

-- one that stayed, where no fault of it ended the call
stays : (failed : Type 0) (n : ℕ) → (failed → ⊥) → IsCounted failed n n
stays failed n never = record { rose = λ f. absurd (never f); later = omega arith; kept = λ h. refl }

-- whatever ended the call was no fault of the outside, and nothing was counted
pub fault_free : (IsEnd : End → Type 0) (read wrote : ℕ) → ((end : End) → IsEnd end → is_fault end ≡ false) → CountsFaults IsEnd read read wrote wrote
fault_free IsEnd read wrote inside = record {
  input = stays (IsEnd ReadFault) read (λ e. let h = inside ReadFault e in cc);
  out = stays (IsEnd WriteFault) wrote (λ e. let h = inside WriteFault e in cc);
}

pub fault_free_end : (end : End) (read wrote : ℕ) → is_fault end ≡ false → CountsFaults (λ other. Ended end ≡ Ended other) read read wrote wrote
fault_free_end end read wrote fine = fault_free (λ other. Ended end ≡ Ended other) read wrote (λ other e. subst (λ (x : End). is_fault x ≡ false) (ended_is end other e) fine)

-- an end of an event is that of the run; the counts stood as at its start
counted_from : (failed failed' : Type 0) (first before now : ℕ) → before ≡ first → (failed' → failed) → (failed → failed') → IsCounted failed before now → IsCounted failed' first now
counted_from failed failed' first before now e there back w = subst (λ (n : ℕ). IsCounted failed' n now) e (record { rose = λ f. w.rose (there f); later = w.later; kept = λ never. w.kept (λ f. never (back f)) })

pub ended_counts : (end : End) (read before read' wrote between wrote' : ℕ) → before ≡ read → between ≡ wrote
    → CountsFaults (λ other. Ended end ≡ Ended other) before read' between wrote' → CountsFaults (λ other. end ≡ other) read read' wrote wrote'
ended_counts end read before read' wrote between wrote' r o w = record {
  input = counted_from (Ended end ≡ Ended ReadFault) (end ≡ ReadFault) read before read' r (λ e. ap Ended e) (ended_is end ReadFault) w.input;
  out = counted_from (Ended end ≡ Ended WriteFault) (end ≡ WriteFault) wrote between wrote' o (λ e. ap Ended e) (ended_is end WriteFault) w.out;
}

pub fault_free_went : (read wrote : ℕ) → CountsFaults (λ end. Went ≡ Ended end) read read wrote wrote
fault_free_went read wrote = fault_free (λ end. Went ≡ Ended end) read wrote (λ end e. went_ended end _ e)
