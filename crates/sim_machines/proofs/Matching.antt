-- Instructions that are no returns and no gates of exceptions do the same over bytes and with recorded activations.
use Rattle.std.proofs.Common.{◌≡◌, ℕ, ◌≤◌, nat_lt, Bool, true, false, cond, List, slice_index, Option, Some, None, Ok, Err, refl, sym, ap, subst, ◌∙◌}
use Rattle.std.proofs.lemmas.Bool.{le-ltb}
use Rattle.std.specs.Option.{option_or}
use Rattle.run_events.specs.Runs.{Event, Goes, Ends}
use Rattle.eh_bus.specs.Memory.{Memory}
use Rattle.eh_cxa.specs.Words.{block_slot}
use Rattle.run_gates.specs.declared.gates.TheConstants.{INPUT_GATE}
use Rattle.run_gates.specs.Gates.{gate_event}
use Rattle.thumb_ahead.specs.Ahead.{branches_some, pushes_some}
use Rattle.thumb_core.specs.Laws.{KeepsMap}
use Rattle.thumb_core.specs.Outcome.{Outcome as Stepping}
use Rattle.thumb_core.specs.Step.{step_for, instr_for}
use Rattle.thumb_core.proofs.Follows.{step_follows}
use Rattle.thumb_core.specs.declared.regs.TheConstants.{SP}
use Rattle.thumb_core.specs.declared.regs.Regs.{Regs}
use Rattle.thumb_core.specs.declared.regs.Stepped.{Stepped}
use Rattle.thumb_core.specs.declared.regs.Stepped.TheVariants.{Done, Call, Return, Gate, Trap}
use Rattle.thumb_core.specs.declared.ends.End.{End}
use Rattle.eh_gates.specs.State.{State}
use Rattle.eh_gates.specs.Gates.{gate_of}
use Rattle.sim_machines.specs.Program.{Program, program_tables, profile_in}
use Rattle.sim_machines.specs.Start.{start_of}
use Rattle.sim_machines.specs.Machine as bytes
use Rattle.sim_machines.specs.Activations.{Recorded, memory_of, bytes_of, recorded_start}
use Rattle.sim_machines.specs.ActivationMachine as acts
use Rattle.sim_machines.specs.ActivationLaws.{Matches, IsPlain, KnowsLanding}
use Rattle.sim_machines.proofs.SameSlots.{same_slots}

-- a gate, which must do the same in both, or what is no return
abbrev pub CanMatch : Program → Recorded → Stepped → Type 0
CanMatch p s Done = Unit {0}
CanMatch p s (Call target ret) = Unit {0}
CanMatch p s (Return to) = ⊥
CanMatch p s (Gate number) = (regs : Regs) (input : List ℕ) → Matches (bytes.event_at_gate p number (bytes_of s) regs input) (acts.event_at_gate p number s regs input)
CanMatch p s (Trap trap) = acts.pops_back p s ≡ None

-- alike up to the gates
abbrev Alike : Program → Recorded → bytes.PassResult → acts.PassResult → Type 0
Alike p old (Err end, b) (Err why, s) = (end ≡ why) × (b ≡ bytes_of s)
Alike p old (Ok what, b) (Ok done, s) = (what ≡ done) × (b ≡ bytes_of s) × CanMatch p old what
Alike p old (Err end, b) (Ok done, s) = ⊥
Alike p old (Ok what, b) (Err why, s) = ⊥

-- a memory that a step left, with its segments alone
same_memory : (s : Recorded) (m : Memory) → KeepsMap (memory_of s) m → m ≡ record (memory_of s) { segments = m.segments }
same_memory s m k =
    let one : List ℕ → Memory = λ gs. record m { guards = gs } in
    let two : ℕ × ℕ → Memory = λ h. record m { guards = (memory_of s).guards; home = h } in
    ap one k.guards ∙ ap two k.home

module _ (p : Program) (s : Recorded) (knows : KnowsLanding s) where
  pub reguards : (regs : Regs) (m : Memory) → KeepsMap (memory_of s) m
      → record (bytes_of s) { regs = regs; memory = bytes.update_guards_at p (bytes_of s) regs m } ≡ bytes_of (acts.update_slots_at p s regs (record s { regs = regs; segments = m.segments }))
  reguards regs m k =
      let saves = (p.look s.regs.pc).saves in
      let count = pushes_some (instr_for (profile_in p) (memory_of s) s.regs.pc) in
      let old = slice_index s.regs.r SP in
      let new = slice_index regs.r SP in
      let one : Memory → State = λ n. record (bytes_of s) { regs = regs; memory = n } in
      ap one (ap (bytes.update_guards saves count old new) (same_memory s m k) ∙ same_slots s.home m.segments saves count old new s.first s.outer s.beyond)

  module _ (regs : Regs) (m : Memory) (k : KeepsMap (memory_of s) m) where
    tests_done : bytes.tests p (bytes_of s) Done regs ≡ acts.tests p s Done regs
    tests_done = ap (λ (l : Option ℕ). option_or (bytes.sp_end (p.look s.regs.pc).lowers l s.home.0 s.regs.pc (slice_index s.regs.r SP) (slice_index regs.r SP)) (bytes.control_flow_trap p (branches_some (instr_for (profile_in p) (memory_of s) s.regs.pc) s.regs) s.regs.pc Done regs)) knows

    tests_call : (target ret : ℕ) → bytes.tests p (bytes_of s) (Call target ret) regs ≡ acts.tests p s (Call target ret) regs
    tests_call target ret = ap (λ (l : Option ℕ). option_or (bytes.sp_end (p.look s.regs.pc).lowers l s.home.0 s.regs.pc (slice_index s.regs.r SP) (slice_index regs.r SP)) (bytes.control_flow_trap p (branches_some (instr_for (profile_in p) (memory_of s) s.regs.pc) s.regs) s.regs.pc (Call target ret) regs)) knows

    tests_gate : (number : ℕ) → bytes.tests p (bytes_of s) (Gate number) regs ≡ acts.tests p s (Gate number) regs
    tests_gate number = ap (λ (l : Option ℕ). option_or (bytes.sp_end (p.look s.regs.pc).lowers l s.home.0 s.regs.pc (slice_index s.regs.r SP) (slice_index regs.r SP)) (bytes.control_flow_trap p (branches_some (instr_for (profile_in p) (memory_of s) s.regs.pc) s.regs) s.regs.pc (Gate number) regs)) knows

    done_alike : (o : Option End) → Alike p s (bytes.pass_tests p (bytes_of s) Done regs m o) (acts.pass_tests p s Done regs m o)
    done_alike (Some end) = (refl, refl)
    done_alike None = (refl, reguards regs m k, tt)

    call_alike : (target ret : ℕ) (o : Option End) → Alike p s (bytes.pass_tests p (bytes_of s) (Call target ret) regs m o) (acts.pass_tests p s (Call target ret) regs m o)
    call_alike target ret (Some end) = (refl, refl)
    call_alike target ret None = (refl, reguards regs m k, tt)

    gate_alike : (number : ℕ) → CanMatch p s (Gate number) → (o : Option End) → Alike p s (bytes.pass_tests p (bytes_of s) (Gate number) regs m o) (acts.pass_tests p s (Gate number) regs m o)
    gate_alike number h (Some end) = (refl, refl)
    gate_alike number h None = (refl, reguards regs m k, h)

  stepped_alike : (o : Stepping) → KeepsMap (memory_of s) o.2 → CanMatch p s o.0 → Alike p s (bytes.pass_step p (bytes_of s) o) (acts.pass_step p s o)
  stepped_alike (Trap trap, regs, m) k h =
      subst (λ (o : Option Regs). Alike p s (bytes.pass_step p (bytes_of s) (Trap trap, regs, m)) (acts.trap_or_return p s trap o)) (sym h) (refl, refl)
  stepped_alike (Done, regs, m) k h =
      subst (λ (t : Option End). Alike p s (bytes.pass_tests p (bytes_of s) Done regs m t) (acts.with_tests p s Done regs m)) (sym (tests_done regs m k)) (done_alike regs m k (acts.tests p s Done regs))
  stepped_alike (Call target ret, regs, m) k h =
      subst (λ (t : Option End). Alike p s (bytes.pass_tests p (bytes_of s) (Call target ret) regs m t) (acts.with_tests p s (Call target ret) regs m)) (sym (tests_call regs m k target ret)) (call_alike regs m k target ret (acts.tests p s (Call target ret) regs))
  stepped_alike (Gate number, regs, m) k h =
      subst (λ (t : Option End). Alike p s (bytes.pass_tests p (bytes_of s) (Gate number) regs m t) (acts.with_tests p s (Gate number) regs m)) (sym (tests_gate regs m k number)) (gate_alike regs m k number h (acts.tests p s (Gate number) regs))
  stepped_alike (Return to, regs, m) k h = absurd h

  checked_alike : (b : Bool) → CanMatch p s (step_for (profile_in p) s.regs (memory_of s)).0 → Alike p s (bytes.pass_if_checked p (bytes_of s) b) (acts.pass_if_checked p s b)
  checked_alike true h = stepped_alike (step_for (profile_in p) s.regs (memory_of s)) (step_follows (profile_in p) s.regs (memory_of s)).memory h
  checked_alike false h = (refl, refl)

  passed_alike : CanMatch p s (step_for (profile_in p) s.regs (memory_of s)).0 → Alike p s (bytes.pass_instruction p (bytes_of s)) (acts.pass_instruction p s)
  unfolding bytes.pass_instruction acts.pass_instruction
  passed_alike h = checked_alike (p.look s.regs.pc).is_instr h

  either : (P : Event State End → Event Recorded End → Type 0) (b : Bool) (x y : Event State End) (u v : Event Recorded End) → P x u → P y v → P (cond b x y) (cond b u v)
  either P true x y u v a c = a
  either P false x y u v a c = c

  pub in_state_alike : (e : Event Regs End) → Matches (bytes.in_state (bytes_of s) e) (acts.in_state s e)
  in_state_alike (Goes regs text left) = (refl, refl, refl)
  in_state_alike (Ends end regs) = (refl, refl)

  gated_alike : (number : ℕ) (regs : Regs) (input : List ℕ) → number ≤ INPUT_GATE → Matches (bytes.event_at_gate p number (bytes_of s) regs input) (acts.event_at_gate p number s regs input)
  gated_alike number regs input h = go (nat_lt INPUT_GATE number) (le-ltb INPUT_GATE number h)
    where
      go : (b : Bool) → b ≡ false
          → Matches (cond b (bytes.event_of (gate_of (program_tables p) number regs.pc (bytes_of s)) input) (bytes.in_state (bytes_of s) (gate_event number s.regs regs input)))
          (cond b (acts.event_of (acts.gate_of (program_tables p) number regs.pc s) input) (acts.in_state s (gate_event number s.regs regs input)))
      go true e = absurd (cc)
      go false e = in_state_alike (gate_event number s.regs regs input)

  acted_alike : (what : Stepped) (b : State) (t : Recorded) (input : List ℕ) → b ≡ bytes_of t → CanMatch p s what → Matches (bytes.event_after_step p (bytes_of s) what b input) (acts.event_after_step p s what t input)
  acted_alike Done b t input e h = (e, refl, refl)
  acted_alike (Call target ret) b t input e h = (e, refl, refl)
  acted_alike (Gate number) b t input e h = rw e (h t.regs input)
  acted_alike (Trap trap) b t input e h = (e, refl, refl)
  acted_alike (Return to) b t input e h = absurd h

  onward_alike : (x : bytes.PassResult) (y : acts.PassResult) (input : List ℕ) → Alike p s x y → Matches (bytes.event_after_pass p (bytes_of s) x input) (acts.event_after_pass p s y input)
  onward_alike (Err end, b) (Err why, t) input a = a
  onward_alike (Ok what, b) (Ok done, t) input a = rw (← a.0) (acted_alike what b t input a.1 a.2)
  onward_alike (Err end, b) (Ok done, t) input a = absurd a
  onward_alike (Ok what, b) (Err why, t) input a = absurd a

pub events_match : (p : Program) (s : Recorded) (input : List ℕ) → KnowsLanding s → CanMatch p s (step_for (profile_in p) s.regs (memory_of s)).0
    → Matches (bytes.machine_event p (bytes_of s) input) (acts.recorded_event p s input)
unfolding bytes.machine_event acts.recorded_event
events_match p s input knows h = onward_alike p s knows (bytes.pass_instruction p (bytes_of s)) (acts.pass_instruction p s) input (passed_alike p s knows h)

plain_can : (p : Program) (s : Recorded) (knows : KnowsLanding s) (what : Stepped) → IsPlain p s what → CanMatch p s what
plain_can p s knows Done h = tt
plain_can p s knows (Call target ret) h = tt
plain_can p s knows (Return to) h = h
plain_can p s knows (Gate number) h = λ regs input. gated_alike p s knows number regs input h
plain_can p s knows (Trap trap) h = h

pub plain_match : (p : Program) (s : Recorded) (input : List ℕ) → KnowsLanding s → IsPlain p s (step_for (profile_in p) s.regs (memory_of s)).0
    → Matches (bytes.machine_event p (bytes_of s) input) (acts.recorded_event p s input)
plain_match p s input knows h = events_match p s input knows (plain_can p s knows (step_for (profile_in p) s.regs (memory_of s)).0 h)

pub same_start : (p : Program) → bytes_of (recorded_start p) ≡ start_of p
same_start p = refl

pub start_knows : (p : Program) → KnowsLanding (recorded_start p)
unfolding block_slot
start_knows p = refl
