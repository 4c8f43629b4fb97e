-- From the start the gates of exceptions do the same over bytes and with recorded activations.
use Rattle.std.proofs.Common.{◌≡◌, ℕ, ◌+◌, ◌-◌, ◌*◌, ◌≤◌, ◌==◌, nat_lt, Bool, true, false, cond, List, [], ◌∷◌, map, Option, Some, refl, ap, arith}
use Rattle.eh_bus.specs.Memory.{Memory, number_in}
use Rattle.eh_bus.specs.Segment.{Segment}
use Rattle.frame_check.specs.run_images.Start.{memory_segment}
use Rattle.eh_bus.specs.Built.{zeros_at}
use Rattle.eh_bus.proofs.BuiltLemmas.{zeros_data}
use Rattle.eh_bus.proofs.PartLaws.{data_misses, data_holds, zeros_number}
use Rattle.eh_bus.specs.declared.map.TheConstants.{POOL_END, POOL_SIZE, POOL_START, SLOT_SIZE, STACK_SIZE, STACK_START}
use Rattle.run_gates.specs.declared.gates.TheConstants.{INPUT_GATE}
use Rattle.run_gates.specs.Gates.{gate_event, with_r0}
use Rattle.eh_cxa.specs.Allocate.{first_from, first_slot, allocate_at}
use Rattle.eh_cxa.specs.ListCalls.{is_free, allocate_in}
use Rattle.eh_cxa.specs.Lists.{entry}
use Rattle.eh_cxa.specs.Runs.{empty_lists}
use Rattle.eh_cxa.specs.Words.{Write, word, set_slot_word, set_slot_words, wrote, object, block_slot, object_slot}
use Rattle.eh_cxa.specs.declared.layout.TheConstants.{STATE}
use Rattle.eh_cxa.specs.declared.state.TheConstants.{FREE}
use Rattle.thumb_core.specs.Step.{step_for}
use Rattle.thumb_core.specs.declared.regs.Stepped.{Stepped}
use Rattle.thumb_core.specs.declared.regs.Stepped.TheVariants.{Done, Call, Return, Gate, Trap}
use Rattle.eh_gates.specs.declared.gates.TheConstants.{ALLOCATE_GATE, FREE_GATE, THROW_GATE, BEGIN_CATCH_GATE, END_CATCH_GATE, RETHROW_GATE, END_CLEANUP_GATE, UNEXPECTED_GATE, TERMINATE_GATE, UNCAUGHT_GATE}
use Rattle.eh_gates.specs.declared.state.Turned.TheVariants.{Went, Ended}
use Rattle.eh_gates.specs.State.{Outcome, at_next}
use Rattle.eh_gates.specs.CallGates.{allocate_outcome, allocate_gate, free_gate, begin_catch_gate, end_catch_gate, uncaught_gate}
use Rattle.eh_gates.specs.Throwing.{throw_gate, rethrow_gate}
use Rattle.eh_gates.specs.Resuming.{end_cleanup_gate}
use Rattle.eh_gates.specs.Gates.{gate_of}
use Rattle.sim_machines.specs.Program.{Program, program_tables, profile_in}
use Rattle.sim_machines.specs.Start.{start_of}
use Rattle.sim_machines.specs.Machine as bytes
use Rattle.sim_machines.specs.Activations.{words_in, with_lists, recorded_start}
use Rattle.sim_machines.specs.ActivationMachine as acts
use Rattle.sim_machines.specs.ActivationLaws.{Matches, IsNoReturn, StartsAlike}
use Rattle.sim_machines.specs.Corresponds.{OutcomesMatch}
use Rattle.sim_machines.proofs.Matching.{CanMatch, events_match, same_start, start_knows, in_state_alike}

both : (c : Bool) (x y : Outcome) (u v : acts.Outcome) → OutcomesMatch x u → OutcomesMatch y v → OutcomesMatch (cond c x y) (cond c u v)
both true x y u v h k = h
both false x y u v h k = k

-- words written into the pool change segments alone
pub segments_alone : (ws : List Write) (m : Memory) → set_slot_words ws m ≡ record m { segments = (set_slot_words ws m).segments }
unfolding set_slot_word
segments_alone [] m = refl
segments_alone (x ∷ more) m = segments_alone more (set_slot_word m x.slot x.place x.value)

first_is : (p : ℕ → Bool) → p 0 ≡ true → first_slot p ≡ Some 0
unfolding first_slot first_from
first_is p e = rw e refl

pub at_pool : (image : List Segment) (a : ℕ) → POOL_START ≤ a → a + 4 ≤ POOL_END
    → number_in 4 (zeros_at STACK_START STACK_SIZE ∷ zeros_at POOL_START POOL_SIZE ∷ image) a ≡ 0
at_pool image a l h =
    rw (
      data_misses (zeros_at STACK_START STACK_SIZE) STACK_START STACK_SIZE a 4 (zeros_data STACK_START STACK_SIZE) (omega arith),
      data_holds (zeros_at POOL_START POOL_SIZE) POOL_START POOL_SIZE a 4 (zeros_data POOL_START POOL_SIZE) l (omega arith),
    )
    (zeros_number 4 (a - POOL_START) POOL_SIZE)

module _ (p : Program) (next : ℕ) where
  no_state : word (start_of p).memory 0 STATE ≡ 0
  unfolding word
  no_state = at_pool (map memory_segment p.image.segments) (POOL_START + SLOT_SIZE * 0 + 4 * STATE) (omega arith) (omega arith)

  allocate_by : (o q r : Option ℕ) → o ≡ Some 0 → q ≡ Some 0 → r ≡ Some 0
      → OutcomesMatch (allocate_outcome next (start_of p) (wrote (allocate_at 0 o) (start_of p).memory))
      (acts.allocate_outcome next (recorded_start p) (with_lists (allocate_in empty_lists 0 q).lists (allocate_at 0 r).writes (recorded_start p)) (allocate_in empty_lists 0 q).answer)
  allocate_by o q r eo eq er =
      rw (eo, eq, er)
      (ap (λ (m : Memory). record (start_of p) { regs = at_next next (with_r0 (object 0) (start_of p).regs); memory = m }) (segments_alone (allocate_at 0 (Some 0)).writes (start_of p).memory))

  allocate_matches : OutcomesMatch (allocate_gate next (start_of p)) (acts.allocate_gate next (recorded_start p))
  allocate_matches =
      allocate_by (first_slot (λ s. word (start_of p).memory s STATE == FREE)) (first_slot (λ s. is_free (entry empty_lists s))) (first_slot (λ s. words_in empty_lists s STATE == FREE))
      (first_is _ (ap (λ (n : ℕ). n == FREE) no_state)) (first_is _ refl) (first_is _ refl)

  free_matches : OutcomesMatch (free_gate next (start_of p)) (acts.free_gate next (recorded_start p))
  unfolding object_slot
  free_matches = (refl, refl)

  throw_matches : OutcomesMatch (throw_gate (program_tables p) (start_of p)) (acts.throw_gate (program_tables p) (recorded_start p))
  unfolding object_slot
  throw_matches = (refl, refl)

  begin_matches : OutcomesMatch (begin_catch_gate next (start_of p)) (acts.begin_catch_gate next (recorded_start p))
  unfolding block_slot
  begin_matches = (refl, refl)

  end_matches : OutcomesMatch (end_catch_gate next (start_of p)) (acts.end_catch_gate next (recorded_start p))
  unfolding block_slot
  end_matches = (refl, refl)

  rethrow_matches : OutcomesMatch (rethrow_gate (program_tables p) (start_of p)) (acts.rethrow_gate (program_tables p) (recorded_start p))
  unfolding block_slot
  rethrow_matches = (refl, refl)

  resume_matches : OutcomesMatch (end_cleanup_gate (program_tables p) (start_of p)) (acts.end_cleanup_gate (program_tables p) (recorded_start p))
  unfolding block_slot
  resume_matches = (refl, refl)

  uncaught_matches : OutcomesMatch (uncaught_gate next (start_of p)) (acts.uncaught_gate next (recorded_start p))
  uncaught_matches = refl

  gates_match : (number : ℕ) → OutcomesMatch (gate_of (program_tables p) number next (start_of p)) (acts.gate_of (program_tables p) number next (recorded_start p))
  unfolding gate_of acts.gate_of
  gates_match number =
      both (number == ALLOCATE_GATE) _ _ _ _ allocate_matches (both (number == FREE_GATE) _ _ _ _ free_matches (both (number == THROW_GATE) _ _ _ _ throw_matches (
      both (number == BEGIN_CATCH_GATE) _ _ _ _ begin_matches (both (number == END_CATCH_GATE) _ _ _ _ end_matches (both (number == RETHROW_GATE) _ _ _ _ rethrow_matches (
      both (number == END_CLEANUP_GATE) _ _ _ _ resume_matches (both (number == UNEXPECTED_GATE) _ _ _ _ (refl, refl) (both (number == TERMINATE_GATE) _ _ _ _ (refl, refl) (
      both (number == UNCAUGHT_GATE) _ _ _ _ uncaught_matches (refl, refl))))))))))

pub outcome_event : (o : Outcome) (q : acts.Outcome) (input : List ℕ) → OutcomesMatch o q → Matches (bytes.event_of o input) (acts.event_of q input)
outcome_event (Went, b) (Went, s) input h = (h, refl, refl)
outcome_event (Ended end, b) (Ended why, s) input h = h
outcome_event (Went, b) (Ended why, s) input h = absurd h
outcome_event (Ended end, b) (Went, s) input h = absurd h

module _ (p : Program) where
  at_gate : (number : ℕ) → CanMatch p (recorded_start p) (Gate number)
  at_gate number regs input = go (nat_lt INPUT_GATE number)
    where
      go : (c : Bool) → Matches (cond c (bytes.event_of (gate_of (program_tables p) number regs.pc (start_of p)) input) (bytes.in_state (start_of p) (gate_event number (start_of p).regs regs input)))
          (cond c (acts.event_of (acts.gate_of (program_tables p) number regs.pc (recorded_start p)) input) (acts.in_state (recorded_start p) (gate_event number (start_of p).regs regs input)))
      go true = outcome_event (gate_of (program_tables p) number regs.pc (start_of p)) (acts.gate_of (program_tables p) number regs.pc (recorded_start p)) input (gates_match p regs.pc number)
      go false = in_state_alike p (recorded_start p) (start_knows p) (gate_event number (start_of p).regs regs input)

  can_match : (what : Stepped) → IsNoReturn p (recorded_start p) what → CanMatch p (recorded_start p) what
  can_match Done h = tt
  can_match (Call target ret) h = tt
  can_match (Return to) h = h
  can_match (Gate number) h = at_gate number
  can_match (Trap trap) h = h

pub start_alike : (p : Program) → StartsAlike p
start_alike p = record {
  same = same_start p;
  first = λ input h. events_match p (recorded_start p) input (start_knows p) (can_match p (step_for (profile_in p) (start_of p).regs (start_of p).memory).0 h);
}
