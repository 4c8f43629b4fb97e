-- One event of an accepted image, from what is told over bytes: the same with recorded activations.
use Rattle.std.proofs.Common.{◌≡◌, ℕ, Bool, true, false, List, slice_index, Option, Some, None, IfSome, refl, sym, ap, subst, ◌∙◌}
use Rattle.std.specs.Bool.{OnFalse, OnTrue}
use Rattle.std.specs.Option.{option_or}
use Rattle.std.specs.Io.KnownBytes.{Appends}
use Rattle.run_events.specs.Runs.{Event, Goes, Ends, GoesOn, Fails, EndsBy}
use Rattle.run_gates.specs.Ends.{is_fault}
use Rattle.thumb_core.specs.Outcome.{Outcome as Stepping}
use Rattle.thumb_core.specs.Step.{step_for, instr_for}
use Rattle.thumb_core.specs.declared.regs.TheConstants.{SP}
use Rattle.thumb_ahead.specs.Ahead.{branches_some}
use Rattle.thumb_core.specs.declared.regs.Regs.{Regs}
use Rattle.thumb_core.specs.declared.regs.Stepped.{Stepped}
use Rattle.thumb_core.specs.declared.regs.Stepped.TheVariants.{Done, Call, Return, Gate, Trap}
use Rattle.thumb_core.specs.declared.ends.End.{End}
use Rattle.eh_bus.specs.Memory.{Memory}
use Rattle.eh_gates.specs.declared.state.Turned.{Turned}
use Rattle.eh_gates.specs.declared.state.Turned.TheVariants.{Went, Ended}
use Rattle.eh_gates.specs.State.{State}
use Rattle.elf_image.specs.Image.{IsSound as IsImage}
use Rattle.frame_check.specs.Accepts.{Accepted, IsSound}
use Rattle.sim_machines.specs.Program.{Program, profile_in}
use Rattle.sim_machines.specs.Machine as bytes
use Rattle.sim_machines.specs.Activations.{Recorded, reg_in, memory_of, bytes_of}
use Rattle.sim_machines.specs.ActivationMachine as acts
use Rattle.sim_machines.specs.ActivationLaws.{Matches, KnowsLanding}
use Rattle.sim_machines.specs.Checked.{program_of}
use Rattle.sim_machines.proofs.CallEvents.{knows}
use Rattle.sim_runs.specs.sim_relation.Stands.{Keeps, IsProgram, OnEvent}
use Rattle.sim_runs.specs.Turned.{AreBytes}
use Rattle.sim_runs.proofs.OneEvent.{turns}
use Rattle.eh_machine.specs.Turns.{TurnedOnce}
use Rattle.eh_machine.proofs.StartMaps.{starts_in_map}
use Rattle.eh_machine.specs.Follows.{WentAlike, EndedAlike, TurnedAlike, FollowsOnce}

-- ---- faults may come at the same events

module _ (p : Program) (s : Recorded) (end : End) where
  -- no fault comes where no gate is
  never : (what : Stepped) (regs : Regs) (m : Memory) (o : Option End) → ((number : ℕ) → what ≡ Gate number → ⊥)
      → (bytes.pass_fails (bytes.pass_tests p (bytes_of s) what regs m o) end ≡ false) × (acts.pass_fails (acts.pass_tests p s what regs m o) end ≡ false)
  never what regs m (Some why) none = (refl, refl)
  never Done regs m None none = (refl, refl)
  never (Call target ret) regs m None none = (refl, refl)
  never (Return to) regs m None none = (refl, refl)
  never (Trap trap) regs m None none = (refl, refl)
  never (Gate number) regs m None none = absurd (none number refl)

  gate_same : (number : ℕ) (regs : Regs) (m : Memory) (o : Option End)
      → bytes.pass_fails (bytes.pass_tests p (bytes_of s) (Gate number) regs m o) end ≡ acts.pass_fails (acts.pass_tests p s (Gate number) regs m o) end
  gate_same number regs m (Some why) = refl
  gate_same number regs m None = refl

  tests_same : KnowsLanding s → (number : ℕ) (regs : Regs) → bytes.tests p (bytes_of s) (Gate number) regs ≡ acts.tests p s (Gate number) regs
  tests_same landing number regs =
      ap (λ (l : Option ℕ). option_or (bytes.sp_end (p.look s.regs.pc).lowers l s.home.0 s.regs.pc (reg_in s SP) (slice_index regs.r SP)) (bytes.control_flow_trap p (branches_some (instr_for (profile_in p) (memory_of s) s.regs.pc) s.regs) s.regs.pc (Gate number) regs)) landing

  stepped_same : KnowsLanding s → (o : Stepping) → bytes.pass_fails (bytes.pass_step p (bytes_of s) o) end ≡ acts.pass_fails (acts.pass_step p s o) end
  stepped_same landing (Done, regs, m) =
      (never Done regs m (bytes.tests p (bytes_of s) Done regs) (λ n e. cc)).0 ∙ sym (never Done regs m (acts.tests p s Done regs) (λ n e. cc)).1
  stepped_same landing (Call target ret, regs, m) =
      (never (Call target ret) regs m (bytes.tests p (bytes_of s) (Call target ret) regs) (λ n e. cc)).0 ∙ sym (never (Call target ret) regs m (acts.tests p s (Call target ret) regs) (λ n e. cc)).1
  stepped_same landing (Return to, regs, m) =
      let back = acts.caller_registers s.first.caller regs in
      (never (Return to) regs m (bytes.tests p (bytes_of s) (Return to) regs) (λ n e. cc)).0 ∙ sym (never (Return to) back m (acts.tests p s (Return to) back) (λ n e. cc)).1
  stepped_same landing (Gate number, regs, m) =
      subst (λ (o : Option End). bytes.pass_fails (bytes.pass_tests p (bytes_of s) (Gate number) regs m o) end ≡ acts.pass_fails (acts.with_tests p s (Gate number) regs m) end)
      (sym (tests_same landing number regs)) (gate_same number regs m (acts.tests p s (Gate number) regs))
  stepped_same landing (Trap trap, regs, m) = trapped (acts.pops_back p s)
    where
      trapped : (o : Option Regs) → false ≡ acts.pass_fails (acts.trap_or_return p s trap o) end
      trapped None = refl
      trapped (Some regs) =
          let back = acts.caller_registers s.first.caller regs in
          sym (never (Return s.first.caller.back) back (memory_of s) (acts.tests p s (Return s.first.caller.back) back) (λ n e. cc)).1

  pub may_same : KnowsLanding s → bytes.may_fail p (bytes_of s) end ≡ acts.recorded_may_fail p s end
  unfolding bytes.may_fail acts.recorded_may_fail bytes.pass_instruction acts.pass_instruction
  may_same landing = by_check (p.look s.regs.pc).is_instr
    where
      by_check : (b : Bool) → bytes.pass_fails (bytes.pass_if_checked p (bytes_of s) b) end ≡ acts.pass_fails (acts.pass_if_checked p s b) end
      by_check true = stepped_same landing (step_for (profile_in p) s.regs (memory_of s))
      by_check false = refl

-- ---- one event

pub at_false : (b : Bool) (P : Type 0) → b ≡ false → OnFalse b P → P
at_false true P e p = absurd (cc)
at_false false P e p = p

pub at_true : (b : Bool) (P : Type 0) → b ≡ true → OnTrue b P → P
at_true true P e p = p
at_true false P e p = absurd (cc)

pub if_false : (b : Bool) (P : Type 0) → P → OnFalse b P
if_false true P p = tt
if_false false P p = p

pub if_true : (b : Bool) (P : Type 0) → P → OnTrue b P
if_true true P p = p
if_true false P p = tt

pub no_false : (b : Bool) (P : Type 0) → b ≡ true → OnFalse b P
no_false true P e = tt
no_false false P e = absurd (cc)

pub no_true : (b : Bool) (P : Type 0) → b ≡ false → OnTrue b P
no_true true P e = absurd (cc)
no_true false P e = tt

module _ (x : Accepted) (s : Recorded) (is : IsProgram x) (k : Keeps x s) (input : List ℕ) (fits : AreBytes input) (left before now : Option (List ℕ)) where
  went : (new : State) → GoesOn (bytes.machine_event (program_of x) (bytes_of s) input) new left before now → WentAlike x s input new left before now
  went new t =
      let w = turns x s input is k fits in
      go (acts.recorded_event (program_of x) s input) refl (subst (λ (e : Event State End). Matches e (acts.recorded_event (program_of x) s input)) t.is w.same) w.keeps
    where
      go : (d : Event Recorded End) → acts.recorded_event (program_of x) s input ≡ d → Matches (Goes new t.text t.rest) d → OnEvent x d → WentAlike x s input new left before now
      go (Goes u said rest) e m keeps = record {
        state = u;
        goes = record { text = said; rest = rest; is = e; leaves = t.leaves ∙ ap Some m.2; wrote = subst (λ (text : List ℕ). Appends before now text) m.1 t.wrote };
        stands = record { same = m.0; keeps = keeps };
      }
      go (Ends why u) e m keeps = absurd m

  ended : (end : End) (new : State) (b : Bool) → is_fault end ≡ b
      → EndsBy is_fault (bytes.may_fail (program_of x) (bytes_of s)) (bytes.machine_event (program_of x) (bytes_of s) input) end (bytes_of s) new input left before now
      → EndedAlike x s input end new left before now
  ended end new true e t =
      let f = at_true (is_fault end) _ e t.fails in
      record {
        state = s;
        ends = record {
          is = no_false (is_fault end) _ e;
          fails = if_true (is_fault end) _ (record { may = sym (may_same (program_of x) s end (knows s k.corresponds)) ∙ Fails.may f; same = refl });
          leaves = t.leaves;
          wrote = t.wrote;
        };
        stands = record { same = Fails.same f; keeps = k };
      }
  ended end new false e t =
      let w = turns x s input is k fits in
      let ends : bytes.machine_event (program_of x) (bytes_of s) input ≡ Ends end new = at_false (is_fault end) _ e t.is in
      go (acts.recorded_event (program_of x) s input) refl (subst (λ (v : Event State End). Matches v (acts.recorded_event (program_of x) s input)) ends w.same) w.keeps
    where
      go : (d : Event Recorded End) → acts.recorded_event (program_of x) s input ≡ d → Matches (Ends end new) d → OnEvent x d → EndedAlike x s input end new left before now
      go (Ends why u) q m keeps = record {
        state = u;
        ends = record {
          is = if_false (is_fault end) _ (q ∙ ap (λ (w : End). Ends w u) (sym m.0));
          fails = no_true (is_fault end) _ e;
          leaves = t.leaves;
          wrote = t.wrote;
        };
        stands = record { same = m.1; keeps = keeps };
      }
      go (Goes u said rest) q m keeps = absurd m

  turned : (result : Turned) (new : State) → TurnedOnce (program_of x) (bytes_of s) input result new left before now → TurnedAlike x s input result new left before now
  turned Went new t = went new t
  turned (Ended end) new t = ended end new (is_fault end) refl t

-- what holds of every accepted image
pub accepted_is : (x : Accepted) → IsImage x.image → IsSound x → IsProgram x
accepted_is x image sound = record { image = image; sound = sound; map = starts_in_map x.image image sound.bytes }

-- what is told of a call says it
pub follows_once : (told left before now : Option (List ℕ)) (x : Accepted) (old new : State) (result : Turned) → IsImage x.image → IsSound x
    → IfSome told (λ input. TurnedOnce (program_of x) old input result new left before now) → IfSome told (λ input. FollowsOnce x old input result new left before now)
follows_once None left before now x old new result image sound t = tt
follows_once (Some input) left before now x old new result image sound t = λ fits s r.
    turned x s (accepted_is x image sound) r.keeps input fits left before now result new
    (subst (λ (b : State). TurnedOnce (program_of x) b input result new left before now) r.same t)
