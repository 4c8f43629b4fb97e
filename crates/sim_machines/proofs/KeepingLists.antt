-- Instructions that are no gates of exceptions leave the lists and the closed words of the pool.
use Rattle.std.proofs.Common.{◌≡◌, ℕ, ◌+◌, ◌*◌, ◌%◌, ◌<◌, ◌≤◌, nat_lt, Bool, true, false, cond, List, [], ◌∷◌, Option, Some, None, refl, sym, ap, subst, ◌∙◌, arith}
use Rattle.std.proofs.lemmas.Bool.{le-leb, lt-ltb, le-ltb}
use Rattle.run_events.specs.Runs.{Event, Goes, Ends}
use Rattle.eh_bus.specs.Memory.{Memory, is_closed, host_load, number_in}
use Rattle.eh_bus.proofs.MapLaws.{map_refl}
use Rattle.eh_bus.specs.declared.map.TheConstants.{CLOSED_SIZE, POOL_END, POOL_START, SLOT_SIZE}
use Rattle.run_gates.specs.declared.gates.TheConstants.{INPUT_GATE}
use Rattle.run_gates.specs.Gates.{gate_event}
use Rattle.eh_cxa.specs.Stands.{Stands}
use Rattle.eh_cxa.specs.Words.{word}
use Rattle.eh_cxa.specs.declared.layout.TheConstants.{SLOTS, CLOSED_WORDS}
use Rattle.eh_cxa.proofs.Kept.{still_stands}
use Rattle.thumb_core.specs.Laws.{KeepsMap}
use Rattle.thumb_core.specs.Outcome.{Outcome as Stepping}
use Rattle.thumb_core.specs.Step.{step_for}
use Rattle.thumb_core.proofs.Follows.{step_follows}
use Rattle.thumb_core.specs.declared.regs.Regs.{Regs}
use Rattle.thumb_core.specs.declared.regs.Stepped.{Stepped}
use Rattle.thumb_core.specs.declared.regs.Stepped.TheVariants.{Done, Call, Return, Gate, Trap}
use Rattle.thumb_core.specs.declared.ends.End.{End}
use Rattle.sim_machines.specs.Program.{Program, program_tables, profile_in}
use Rattle.sim_machines.specs.Activations.{Activation, Recorded, memory_of, heads, lists_of}
use Rattle.sim_machines.specs.ActivationMachine.{with_remaining, update_slots_at, record_step, pass_tests, tests, pass_step, pass_if_checked, pass_instruction, event_after_pass, event_at_gate, in_state, event_of, gate_of, registers_after, caller_registers, pops_back, trap_or_return, recorded_event}
use Rattle.sim_machines.specs.Corresponds.{IsNoCall, KeepLists, ListsAreKept}

keeps_same : (m : Memory) → KeepsMap m m
keeps_same m = record { map = map_refl m.segments; guards = refl; home = refl; guarded = λ g h. refl; closed = λ a l c. refl }

closed_word : (s k : ℕ) → s < SLOTS → k < CLOSED_WORDS → is_closed (POOL_START + SLOT_SIZE * s + 4 * k) ≡ true
closed_word s k h i =
    let a = POOL_START + SLOT_SIZE * s + 4 * k in
    let low : POOL_START ≤ POOL_START + SLOT_SIZE * s + 4 * k = omega arith in
    let high : POOL_START + SLOT_SIZE * s + 4 * k < POOL_END = omega arith in
    let inside : (POOL_START + SLOT_SIZE * s + 4 * k) % SLOT_SIZE < CLOSED_SIZE = omega arith in
    rw (le-leb POOL_START a low, lt-ltb a POOL_END high, lt-ltb (a % SLOT_SIZE) CLOSED_SIZE inside) refl

same_word : (m m' : Memory) → ((a : ℕ) → a % 4 ≡ 0 → is_closed a ≡ true → host_load m' a ≡ host_load m a) → (s k : ℕ) → s < SLOTS → k < CLOSED_WORDS → word m' s k ≡ word m s k
unfolding word
same_word m m' closed s k h i = closed (POOL_START + SLOT_SIZE * s + 4 * k) (omega arith) (closed_word s k h i)

module _ (s : Recorded) (x : Stands (word (memory_of s)) (heads (lists_of s)) (lists_of s)) where
  -- a state with the same lists, over segments that kept the closed words
  kept : (t : Recorded) (m : Memory) → KeepsMap (memory_of s) m → lists_of t ≡ lists_of s → t.cleanups ≡ s.cleanups → t.segments ≡ m.segments → KeepLists s t
  kept t m k l p e = record {
    lists = l;
    cleanups = p;
    stands = subst (λ ls. Stands (word (memory_of t)) (heads ls) ls) (sym l)
        (still_stands (memory_of s) (memory_of t) (heads (lists_of s)) (lists_of s)
        (same_word (memory_of s) (memory_of t) (λ a al cl. ap (λ segments. number_in 4 segments a) e ∙ k.closed a al cl)) x);
  }

  stays : (t : Recorded) → lists_of t ≡ lists_of s → t.cleanups ≡ s.cleanups → t.segments ≡ s.segments → KeepLists s t
  stays t l p e = record {
    lists = l;
    cleanups = p;
    stands = subst (λ ls. Stands (word (memory_of t)) (heads ls) ls) (sym l)
        (still_stands (memory_of s) (memory_of t) (heads (lists_of s)) (lists_of s)
        (same_word (memory_of s) (memory_of t) (λ a al cl. ap (λ segments. number_in 4 segments a) e)) x);
  }

  -- what an event keeps where it goes on
  abbrev KeptBy : Event Recorded End → Type 0
  KeptBy (Goes t text left) = KeepLists s t
  KeptBy (Ends end t) = Unit {0}

  by_gate : (e : Event Regs End) → KeptBy (in_state s e)
  by_gate (Goes regs text left) = stays (record s { regs = regs }) refl refl refl
  by_gate (Ends end regs) = tt

  module _ (p : Program) (input : List ℕ) where
    by_left : (acts : List Activation) (u : Recorded) (m : Memory) → KeepsMap (memory_of s) m → lists_of u ≡ lists_of s → u.cleanups ≡ s.cleanups → u.segments ≡ m.segments → KeepLists s (with_remaining acts u)
    by_left [] u m k l q e = kept u m k l q e
    by_left (a ∷ more) u m k l q e = kept (record u { first = a; outer = more }) m k l q e

    by_number : (number : ℕ) (regs : Regs) → number ≤ INPUT_GATE → KeptBy (event_at_gate p number s regs input)
    by_number number regs h = go (nat_lt INPUT_GATE number) (le-ltb INPUT_GATE number h)
      where
        go : (b : Bool) → b ≡ false → KeptBy (cond b (event_of (gate_of (program_tables p) number regs.pc s) input) (in_state s (gate_event number s.regs regs input)))
        go true e = absurd (cc)
        go false e = by_gate (gate_event number s.regs regs input)

    by_test : (what : Stepped) → IsNoCall what → (regs : Regs) (m : Memory) → KeepsMap (memory_of s) m → (o : Option End) → KeptBy (event_after_pass p s (pass_tests p s what regs m o) input)
    by_test what h regs m k (Some end) = tt
    by_test Done h regs m k None = kept (record_step p s Done regs m) m k refl refl refl
    by_test (Call target ret) h regs m k None = kept (record_step p s (Call target ret) regs m) m k refl refl refl
    by_test (Return to) h regs m k None =
        let base = update_slots_at p s regs (record s { regs = regs; segments = m.segments }) in
        by_left base.outer base m k refl refl refl
    by_test (Gate number) h regs m k None = by_number number regs h
    by_test (Trap trap) h regs m k None = kept (record_step p s (Trap trap) regs m) m k refl refl refl

    by_step : (o : Stepping) → IsNoCall o.0 → KeepsMap (memory_of s) o.2 → KeptBy (event_after_pass p s (pass_step p s o) input)
    by_step (Trap trap, regs, m) h k = go (pops_back p s)
      where
        go : (o : Option Regs) → KeptBy (event_after_pass p s (trap_or_return p s trap o) input)
        go None = tt
        go (Some after) =
            by_test (Return s.first.caller.back) tt (caller_registers s.first.caller after) (memory_of s) (keeps_same (memory_of s)) (tests p s (Return s.first.caller.back) (caller_registers s.first.caller after))
    by_step (Done, regs, m) h k = by_test Done h regs m k (tests p s Done regs)
    by_step (Call target ret, regs, m) h k = by_test (Call target ret) h regs m k (tests p s (Call target ret) regs)
    by_step (Return to, regs, m) h k =
        by_test (Return to) h (registers_after s.first.caller (Return to) regs) m k (tests p s (Return to) (registers_after s.first.caller (Return to) regs))
    by_step (Gate number, regs, m) h k = by_test (Gate number) h regs m k (tests p s (Gate number) regs)

    by_check : (b : Bool) → IsNoCall (step_for (profile_in p) s.regs (memory_of s)).0 → KeptBy (event_after_pass p s (pass_if_checked p s b) input)
    by_check true h = by_step (step_for (profile_in p) s.regs (memory_of s)) h (step_follows (profile_in p) s.regs (memory_of s)).memory
    by_check false h = tt

    by_event : IsNoCall (step_for (profile_in p) s.regs (memory_of s)).0 → KeptBy (recorded_event p s input)
    unfolding recorded_event pass_instruction
    by_event h = by_check (p.look s.regs.pc).is_instr h

pub lists_kept : ListsAreKept
lists_kept p s t input text left x h e = subst (λ (v : Event Recorded End). KeptBy s x v) e (by_event s x p input h)
