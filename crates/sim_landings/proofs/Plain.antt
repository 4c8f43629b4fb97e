-- An instruction that is no gate of exceptions leaves the cleanups in progress and the words of barriers; it returns from an activation, puts one
-- in front, or leaves them but for slots.
use Rattle.std.proofs.Common.{◌≡◌, ℕ, ◌+◌, ◌*◌, ◌%◌, ◌<◌, ◌≤◌, nat_lt, Bool, true, false, cond, List, [], ◌∷◌, drop, map, inl, inr, Option, Some, None, refl, sym, ap, subst, ◌∙◌, arith}
use Rattle.std.proofs.lemmas.Bool.{le-leb, lt-ltb, le-ltb}
use Rattle.run_events.specs.Runs.{Event, Goes, Ends}
use Rattle.eh_bus.specs.Memory.{Memory, is_closed, host_load}
use Rattle.eh_bus.proofs.MapLaws.{map_refl}
use Rattle.eh_bus.specs.declared.map.TheConstants.{CLOSED_SIZE, POOL_END, POOL_START, SLOT_SIZE}
use Rattle.run_gates.specs.declared.gates.TheConstants.{INPUT_GATE}
use Rattle.run_gates.specs.Gates.{gate_event}
use Rattle.eh_cxa.specs.Words.{word}
use Rattle.eh_cxa.specs.declared.layout.TheConstants.{SLOTS, CLOSED_WORDS}
use Rattle.thumb_core.specs.Laws.{KeepsMap}
use Rattle.thumb_core.specs.Outcome.{Outcome as Stepping}
use Rattle.thumb_core.specs.Step.{step_for}
use Rattle.thumb_core.proofs.Follows.{step_follows}
use Rattle.thumb_core.specs.declared.regs.Regs.{Regs}
use Rattle.thumb_core.specs.declared.regs.Stepped.{Stepped}
use Rattle.thumb_core.specs.declared.regs.Stepped.TheVariants.{Done, Call, Return, Gate, Trap}
use Rattle.thumb_core.specs.declared.ends.End.{End}
use Rattle.sim_machines.specs.Program.{Program, program_tables, profile_in}
use Rattle.sim_machines.specs.Activations.{Activation, Caller, Recorded, memory_of, release_raised}
use Rattle.sim_machines.specs.ActivationLaws.{callers}
use Rattle.sim_machines.specs.ActivationMachine.{with_remaining, update_slots_at, record_step, pass_tests, tests, pass_step, pass_if_checked, pass_instruction, event_after_pass, event_at_gate, in_state, event_of, gate_of, registers_after, caller_registers, pops_back, trap_or_return, recorded_event}
use Rattle.sim_machines.specs.Corresponds.{IsNoCall}
use Rattle.sim_landings.proofs.Beside.{SameBarrier, same_segments}
use Rattle.sim_landings.proofs.Kept.{Moved}

keeps_same : (m : Memory) → KeepsMap m m
keeps_same m = record { map = map_refl m.segments; guards = refl; home = refl; guarded = λ g h. refl; closed = λ a l c. refl }

closed_word : (s k : ℕ) → s < SLOTS → k < CLOSED_WORDS → is_closed (POOL_START + SLOT_SIZE * s + 4 * k) ≡ true
closed_word s k h i =
    let a = POOL_START + SLOT_SIZE * s + 4 * k in
    let low : POOL_START ≤ POOL_START + SLOT_SIZE * s + 4 * k = omega arith in
    let high : POOL_START + SLOT_SIZE * s + 4 * k < POOL_END = omega arith in
    let inside : (POOL_START + SLOT_SIZE * s + 4 * k) % SLOT_SIZE < CLOSED_SIZE = omega arith in
    rw (le-leb POOL_START a low, lt-ltb a POOL_END high, lt-ltb (a % SLOT_SIZE) CLOSED_SIZE inside) refl

same_word : (m n : Memory) → ((a : ℕ) → a % 4 ≡ 0 → is_closed a ≡ true → host_load n a ≡ host_load m a) → (s k : ℕ) → s < SLOTS → k < CLOSED_WORDS → word n s k ≡ word m s k
unfolding word
same_word m n closed s k h i = closed (POOL_START + SLOT_SIZE * s + 4 * k) (omega arith) (closed_word s k h i)

freed_callers : (home : ℕ × ℕ) (old new : ℕ) (acts : List Activation) → callers (map (λ (a : Activation). release_raised home old new a) acts) ≡ callers acts
freed_callers home old new [] = refl
freed_callers home old new (a ∷ more) = ap (λ (cs : List Caller). a.caller ∷ cs) (freed_callers home old new more)

-- what such an event leaves
pub record IsQuiet (s t : Recorded) : Type 0 where
  pub cleanups : t.cleanups ≡ s.cleanups
  pub same : (slot : ℕ) → slot < SLOTS → SameBarrier s t slot
  pub moved : Moved (s.first ∷ s.outer) (t.first ∷ t.outer)

module _ (s : Recorded) where
  -- over segments that kept the closed words
  words_kept : (t : Recorded) (m : Memory) → KeepsMap (memory_of s) m → t.segments ≡ m.segments → (slot : ℕ) → slot < SLOTS → SameBarrier s t slot
  words_kept t m k e slot small j low high = same_segments m (memory_of t) e slot j ∙ same_word (memory_of s) m k.closed slot j small (omega (arith, high))

  abbrev QuietBy : Event Recorded End → Type 0
  QuietBy (Goes t text left) = IsQuiet s t
  QuietBy (Ends end t) = Unit {0}

  by_gate : (e : Event Regs End) → QuietBy (in_state s e)
  by_gate (Goes regs text left) = record { cleanups = refl; same = λ slot small k low high. refl; moved = inl (0, refl) }
  by_gate (Ends end regs) = tt

  module _ (p : Program) (input : List ℕ) where
    base_moved : (regs : Regs) (m : Memory)
        → callers ((update_slots_at p s regs (record s { regs = regs; segments = m.segments })).first ∷ (update_slots_at p s regs (record s { regs = regs; segments = m.segments })).outer) ≡ callers (s.first ∷ s.outer)
    base_moved regs m = ap (λ (cs : List Caller). s.first.caller ∷ cs) (freed_callers s.home _ _ s.outer)

    by_left : (acts : List Activation) (u : Recorded) (m : Memory) → KeepsMap (memory_of s) m → u.cleanups ≡ s.cleanups → u.segments ≡ m.segments → u.outer ≡ acts
        → callers (u.first ∷ u.outer) ≡ callers (s.first ∷ s.outer) → IsQuiet s (with_remaining acts u)
    by_left [] u m k l e is c = record { cleanups = l; same = words_kept u m k e; moved = inl (0, c) }
    by_left (a ∷ more) u m k l e is c = record {
      cleanups = l;
      same = words_kept (record u { first = a; outer = more }) m k e;
      moved = inl (1, ap callers (sym is) ∙ ap (drop 1) c);
    }

    by_number : (number : ℕ) (regs : Regs) → number ≤ INPUT_GATE → QuietBy (event_at_gate p number s regs input)
    by_number number regs h = go (nat_lt INPUT_GATE number) (le-ltb INPUT_GATE number h)
      where
        go : (b : Bool) → b ≡ false → QuietBy (cond b (event_of (gate_of (program_tables p) number regs.pc s) input) (in_state s (gate_event number s.regs regs input)))
        go true e = absurd cc
        go false e = by_gate (gate_event number s.regs regs input)

    by_test : (what : Stepped) → IsNoCall what → (regs : Regs) (m : Memory) → KeepsMap (memory_of s) m → (o : Option End) → QuietBy (event_after_pass p s (pass_tests p s what regs m o) input)
    by_test what h regs m k (Some end) = tt
    by_test Done h regs m k None = record { cleanups = refl; same = words_kept (record_step p s Done regs m) m k refl; moved = inl (0, base_moved regs m) }
    by_test (Call target ret) h regs m k None = record {
      cleanups = refl;
      same = words_kept (record_step p s (Call target ret) regs m) m k refl;
      moved = inr ((record_step p s (Call target ret) regs m).first, (record_step p s (Call target ret) regs m).outer, refl, base_moved regs m);
    }
    by_test (Return to) h regs m k None =
        let base = update_slots_at p s regs (record s { regs = regs; segments = m.segments }) in
        by_left base.outer base m k refl refl refl (base_moved regs m)
    by_test (Gate number) h regs m k None = by_number number regs h
    by_test (Trap trap) h regs m k None = record { cleanups = refl; same = words_kept (record_step p s (Trap trap) regs m) m k refl; moved = inl (0, base_moved regs m) }

    by_step : (o : Stepping) → IsNoCall o.0 → KeepsMap (memory_of s) o.2 → QuietBy (event_after_pass p s (pass_step p s o) input)
    by_step (Trap trap, regs, m) h k = go (pops_back p s)
      where
        go : (o : Option Regs) → QuietBy (event_after_pass p s (trap_or_return p s trap o) input)
        go None = tt
        go (Some after) =
            by_test (Return s.first.caller.back) tt (caller_registers s.first.caller after) (memory_of s) (keeps_same (memory_of s)) (tests p s (Return s.first.caller.back) (caller_registers s.first.caller after))
    by_step (Done, regs, m) h k = by_test Done h regs m k (tests p s Done regs)
    by_step (Call target ret, regs, m) h k = by_test (Call target ret) h regs m k (tests p s (Call target ret) regs)
    by_step (Return to, regs, m) h k =
        by_test (Return to) h (registers_after s.first.caller (Return to) regs) m k (tests p s (Return to) (registers_after s.first.caller (Return to) regs))
    by_step (Gate number, regs, m) h k = by_test (Gate number) h regs m k (tests p s (Gate number) regs)

    by_check : (b : Bool) → IsNoCall (step_for (profile_in p) s.regs (memory_of s)).0 → QuietBy (event_after_pass p s (pass_if_checked p s b) input)
    by_check true h = by_step (step_for (profile_in p) s.regs (memory_of s)) h (step_follows (profile_in p) s.regs (memory_of s)).memory
    by_check false h = tt

    by_event : IsNoCall (step_for (profile_in p) s.regs (memory_of s)).0 → QuietBy (recorded_event p s input)
    unfolding recorded_event pass_instruction
    by_event h = by_check (p.look s.regs.pc).is_instr h

pub plain_quiet : (p : Program) (s t : Recorded) (input text left : List ℕ) → IsNoCall (step_for (profile_in p) s.regs (memory_of s)).0 → recorded_event p s input ≡ Goes t text left → IsQuiet s t
plain_quiet p s t input text left h e = subst (QuietBy s) e (by_event s p input h)
