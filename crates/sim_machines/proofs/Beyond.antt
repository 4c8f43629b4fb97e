-- Guarded words beyond the running stack stay after every event.
use Rattle.std.proofs.Common.{◌≡◌, ℕ, ◌<◌, ◌≤◌, ◌⊎◌, inl, inr, ◌==◌, ◌&&◌, nat_lt, Bool, true, false, cond, List, [], ◌∷◌, length, filter, slice_index, Option, Some, None, Result, Ok, Err, refl, ap, ◌∙◌, arith}
use Rattle.std.specs.Prelude.{is_some}
use Rattle.run_events.specs.Runs.{Event, Goes, Ends}
use Rattle.eh_bus.specs.Memory.{Memory, stays_guarded}
use Rattle.run_gates.specs.declared.gates.TheConstants.{INPUT_GATE}
use Rattle.run_gates.specs.Gates.{gate_event}
use Rattle.eh_cxa.specs.Allocate.{allocate_of, free_of}
use Rattle.eh_cxa.specs.Catch.{begin_catch_of, end_catch_of}
use Rattle.eh_cxa.specs.ListCalls.{allocate_list, free_list, end_list, rethrow_list}
use Rattle.eh_cxa.specs.Throw.{barrier_of}
use Rattle.eh_cxa.specs.Words.{word, block_slot, object_slot}
use Rattle.eh_cxa.specs.declared.globals.CleanupWords.{CleanupWords}
use Rattle.eh_cxa.specs.declared.globals.CxaFault.{CxaFault}
use Rattle.eh_cxa.specs.declared.globals.CxaFault.TheVariants as fault
use Rattle.eh_phase.specs.Frames.{entry_contents_at}
use Rattle.eh_phase.specs.declared.phase1.Barrier.{Barrier}
use Rattle.eh_phase.specs.declared.phase2.Entered.{Entered}
use Rattle.eh_phase.specs.declared.phase2.Entered.TheVariants as enters
use Rattle.eh_phase.specs.declared.verdict.Thrown.{Thrown}
use Rattle.eh_trace.specs.declared.event.EventKind.{EventKind}
use Rattle.eh_trace.specs.declared.event.EventKind.TheVariants as event
use Rattle.eh_types.specs.Graph.{row_of}
use Rattle.thumb_core.specs.Outcome.{Outcome as Stepping}
use Rattle.thumb_core.specs.Step.{step_for}
use Rattle.thumb_core.specs.declared.regs.TheConstants.{SP}
use Rattle.thumb_core.specs.declared.regs.Regs.{Regs}
use Rattle.thumb_core.specs.declared.regs.Stepped.{Stepped}
use Rattle.thumb_core.specs.declared.regs.Stepped.TheVariants.{Done, Call, Return, Gate, Trap}
use Rattle.thumb_core.specs.declared.ends.End.{End}
use Rattle.thumb_core.specs.declared.ends.End.TheVariants as the_end
use Rattle.thumb_core.specs.declared.ends.TrapKind.TheVariants as kind
use Rattle.eh_gates.specs.declared.gates.TheConstants.{ALLOCATE_GATE, FREE_GATE, THROW_GATE, BEGIN_CATCH_GATE, END_CATCH_GATE, RETHROW_GATE, END_CLEANUP_GATE, UNEXPECTED_GATE, TERMINATE_GATE, UNCAUGHT_GATE}
use Rattle.eh_gates.specs.declared.state.Turned.TheVariants.{Went, Ended}
use Rattle.eh_gates.specs.State.{Tables}
use Rattle.eh_gates.specs.Landing.{words_of}
use Rattle.eh_gates.specs.Throwing.{barrier_in, throw_event}
use Rattle.sim_machines.specs.Program.{Program, program_tables, profile_in}
use Rattle.sim_machines.specs.Activations.{Activation, InProgress, Recorded, reg_in, memory_of, staying_words, words_in, heads, with_lists, lists_of}
use Rattle.sim_machines.specs.ActivationMachine as acts
use Rattle.sim_machines.specs.RecordedSlots.{AreOutside, LeavesBeyond, WordsBeyondStay}
use Rattle.sim_machines.proofs.Released.{it_stays}

pub outside_stay : (home : ℕ × ℕ) (sp : ℕ) (gs : List ℕ) → sp ≤ home.1 → AreOutside home gs → filter (stays_guarded home sp) gs ≡ gs
outside_stay home sp [] l o = refl
outside_stay home sp (g ∷ more) l o = go (stays_guarded home sp g) (it_stays home.0 sp g (side (o g (inl refl)))) (outside_stay home sp more l (λ j h. o j (inr h)))
  where
    side : (g < home.0) ⊎ (home.1 ≤ g) → (sp ≤ g) ⊎ (g < home.0)
    side (inl low) = inr low
    side (inr high) = inl (omega (arith, l, high))

    go : (b : Bool) → b ≡ true → filter (stays_guarded home sp) more ≡ more → cond b (g ∷ filter (stays_guarded home sp) more) (filter (stays_guarded home sp) more) ≡ g ∷ more
    go true e r = ap (λ (xs : List ℕ). g ∷ xs) r
    go false e r = absurd cc

pub freed_outside : (home : ℕ × ℕ) (old new : ℕ) (gs : List ℕ) → new ≤ home.1 → AreOutside home gs → staying_words home old new gs ≡ gs
freed_outside home old new gs l o = go (nat_lt old new)
  where
    go : (b : Bool) → cond b (filter (stays_guarded home new) gs) gs ≡ gs
    go true = outside_stay home new gs l o
    go false = refl

module _ (home : ℕ × ℕ) (beyond : List ℕ) (out : AreOutside home beyond) where
  -- a state with these words
  abbrev Has : Recorded → Type 0
  Has t = (t.home ≡ home) × (t.beyond ≡ beyond)

  abbrev Leaves : acts.Outcome → Type 0
  Leaves (Went, t) = (t.home ≡ home) × (reg_in t SP ≤ home.1 → t.beyond ≡ beyond)
  Leaves (Ended end, t) = Has t

  -- ---- landings

  at_pad : (s : Recorded) (xs : List Activation) (r : List ℕ) (pad answer : ℕ) → Has s
      → ((acts.at_pad s xs r pad answer).home ≡ home) × (reg_in (acts.at_pad s xs r pad answer) SP ≤ home.1 → (acts.at_pad s xs r pad answer).beyond ≡ beyond)
  at_pad s [] r pad answer h = (h.0, λ l. h.1)
  at_pad s (a ∷ more) r pad answer h =
      (h.0, λ l. ap (λ (w : ℕ × ℕ). filter (stays_guarded w (slice_index r SP)) s.beyond) h.0 ∙ ap (filter (stays_guarded home (slice_index r SP))) h.1 ∙ outside_stay home (slice_index r SP) beyond l out)

  progress : (s : Recorded) (outside blk : ℕ) (w : CleanupWords) (o : Option ℕ) → Has s → Has (acts.in_progress s outside blk w o)
  progress s outside blk w None h = h
  progress s outside blk w (Some slot) h = h

  flown : (s : Recorded) (o : Option ℕ) → Has s → Has (acts.land_exception s o)
  flown s None h = h
  flown s (Some slot) h = h

  entered : (s : Recorded) (xs : List Activation) (blk object : ℕ) (e : Entered) → Has s → Leaves (acts.enter_landing s xs blk object e)
  entered s xs blk object (enters.Cleanup vrs pad next site) h =
      at_pad (acts.in_progress s (acts.outside_of xs) blk (words_of vrs.r next site) (block_slot blk)) xs vrs.r pad 0
      (progress s (acts.outside_of xs) blk (words_of vrs.r next site) (block_slot blk) h)
  entered s xs blk object (enters.Catch vrs pad) h = at_pad (acts.land_exception s (block_slot blk)) xs vrs.r pad blk (flown s (block_slot blk) h)
  entered s xs blk object (enters.Spec vrs pad) h = at_pad (acts.land_exception s (block_slot blk)) xs vrs.r pad blk (flown s (block_slot blk) h)
  entered s xs blk object enters.Unexpected h = h
  entered s xs blk object (enters.Terminate why) h = h

  -- ---- throws

  throw_to : (g : Tables) (site blk : ℕ) (b : Barrier) (s : Recorded) → Has s → Leaves (acts.throw_to g site blk b s)
  unfolding acts.throw_to
  throw_to g site blk b s h = entered _ _ blk _ _ h

  sought : (g : Tables) (s : Recorded) (what : EventKind) (thrown : Thrown) (further : Barrier → Recorded → acts.Outcome)
      → ((b : Barrier) (t : Recorded) → Has t → Leaves (further b t)) → Has s → Leaves (acts.from_barrier further (acts.find_barrier g s what thrown))
  unfolding acts.find_barrier
  sought g s what thrown further f h = go (is_some (row_of g.types thrown.ty))
    where
      by_found : (r : Result Barrier End) (t : Recorded) → Has t → Leaves (acts.from_barrier further (r, t))
      by_found (Ok b) t i = f b t i
      by_found (Err end) t i = i

      go : (c : Bool) → Leaves (acts.from_barrier further (cond c
          (barrier_in s.regs.pc (acts.phase1_result g s thrown), acts.log_event s (throw_event what (memory_of s) thrown (acts.size_of (lists_of s) (object_slot thrown.object))))
          (Err (the_end.Trap kind.BadType thrown.ty s.regs.pc), s)))
      go true = by_found (barrier_in s.regs.pc (acts.phase1_result g s thrown)) _ h
      go false = h

  throws : (g : Tables) (s : Recorded) (r : Result ℕ CxaFault) → Has s → Leaves (acts.throw_outcome g s r)
  throws g s (Ok blk) h = sought g s event.Throw (acts.gate_thrown s) (λ b t. acts.throw_to g s.regs.pc blk b (acts.flies_first t)) (λ b t i. throw_to g s.regs.pc blk b (acts.flies_first t) i) h
  throws g s (Err why) h = h

  rethrows : (g : Tables) (s : Recorded) (r : Result ℕ CxaFault) → Has s → Leaves (acts.rethrow_outcome g s r)
  rethrows g s (Ok blk) h =
      sought g s event.Rethrow (acts.slot_thrown (lists_of s) (block_slot blk)) (λ b t. acts.throw_to g s.regs.pc blk b (acts.flies_again t)) (λ b t i. throw_to g s.regs.pc blk b (acts.flies_again t) i) h
  rethrows g s (Err why) h = h

  resumes_in : (g : Tables) (s : Recorded) (p : InProgress) (more : List InProgress) (xs : List Activation) → Has s → Leaves (acts.resumes_in g s p more xs)
  resumes_in g s p more [] h = h
  resumes_in g s p more (a ∷ outer) h = go ((s.first.caller.sp == p.cleanup.sp) && (length outer == p.place))
    where
      go : (b : Bool)
          → Leaves (cond b (acts.continue_flight g (record s { cleanups = more }) p.cleanup s.first.caller a outer (barrier_of (word (memory_of s)) (Some p.cleanup.slot))) (acts.refusal_outcome fault.CleanupElsewhere s.first.caller.sp s))
      go true = entered (record s { cleanups = more }) _ _ _ _ h
      go false = h

  resumes : (g : Tables) (s : Recorded) (ps : List InProgress) → Has s → Leaves (acts.resume_outcome g s ps)
  resumes g s [] h = h
  resumes g s (p ∷ more) h = go (acts.can_unwind (entry_contents_at g.image s.regs.pc))
    where
      go : (b : Bool) → Leaves (cond b (acts.resumes_in g s p more s.outer) (acts.refusal_outcome fault.CleanupElsewhere 0 s))
      go true = resumes_in g s p more s.outer h
      go false = h

  -- ---- the other gates

  allocated : (next : ℕ) (s new : Recorded) (r : Result ℕ CxaFault) → Has s → Has new → Leaves (acts.allocate_outcome next s new r)
  allocated next s new (Ok object) h n = (n.0, λ l. n.1)
  allocated next s new (Err why) h n = h

  freed_by : (next : ℕ) (s new : Recorded) (r : Result (Unit {0}) CxaFault) → Has s → Has new → Leaves (acts.free_outcome next s new r)
  freed_by next s new (Ok done) h n = (n.0, λ l. n.1)
  freed_by next s new (Err why) h n = h

  caught : (next : ℕ) (s new : Recorded) (r : Result ℕ CxaFault) → Has s → Has new → Leaves (acts.begin_catch_outcome next s new r)
  caught next s new (Ok object) h n = (n.0, λ l. n.1)
  caught next s new (Err why) h n = h

  dropped : (next : ℕ) (s new : Recorded) (r : Result (ℕ × ℕ) CxaFault) → Has s → Has new → Leaves (acts.end_catch_outcome next s new r)
  dropped next s new (Ok (object, destructor)) h n = (n.0, λ l. n.1)
  dropped next s new (Err why) h n = h

  either : (b : Bool) (x y : acts.Outcome) → Leaves x → Leaves y → Leaves (cond b x y)
  either true x y p q = p
  either false x y p q = q

  gate : (g : Tables) (number next : ℕ) (s : Recorded) → Has s → Leaves (acts.gate_of g number next s)
  unfolding acts.gate_of
  gate g number next s h =
      either (number == ALLOCATE_GATE) _ _ (allocated next s (with_lists (allocate_list (lists_of s) (reg_in s 0)).lists (allocate_of (words_in (lists_of s)) (reg_in s 0)).writes s) (allocate_list (lists_of s) (reg_in s 0)).answer h h)
      (either (number == FREE_GATE) _ _
      (freed_by next s (with_lists (free_list (lists_of s) (object_slot (reg_in s 0))).lists (free_of (words_in (lists_of s)) (object_slot (reg_in s 0))).writes s) (free_list (lists_of s) (object_slot (reg_in s 0))).answer h h)
      (either (number == THROW_GATE) _ _ (throws g s (acts.first_flight s).answer h)
      (either (number == BEGIN_CATCH_GATE) _ _ (caught next s (with_lists (acts.begin_catch s).lists (begin_catch_of (words_in (lists_of s)) (heads (lists_of s)) (reg_in s 0)).writes s) (acts.begin_catch s).answer h h)
      (either (number == END_CATCH_GATE) _ _ (dropped next s (with_lists (end_list (lists_of s)).lists (end_catch_of (words_in (lists_of s)) (heads (lists_of s))).writes s) (end_list (lists_of s)).answer h h)
      (either (number == RETHROW_GATE) _ _ (rethrows g s (rethrow_list (lists_of s)).answer h)
      (either (number == END_CLEANUP_GATE) _ _ (resumes g s s.cleanups h)
      (either (number == UNEXPECTED_GATE) _ _ h (either (number == TERMINATE_GATE) _ _ h (either (number == UNCAUGHT_GATE) _ _ (h.0, λ l. h.1) h)))))))))

-- ---- the event

module _ (p : Program) (s : Recorded) (input : List ℕ) (out : AreOutside s.home s.beyond) where
  by_outcome : (o : acts.Outcome) → Leaves s.home s.beyond out o → LeavesBeyond s (acts.event_of o input)
  by_outcome (Went, t) h = h
  by_outcome (Ended end, t) h = h

  low_gate : (e : Event Regs End) → LeavesBeyond s (acts.in_state s e)
  low_gate (Goes regs text left) = (refl, λ l. refl)
  low_gate (Ends end regs) = (refl, refl)

  gated : (number : ℕ) (regs : Regs) → LeavesBeyond s (acts.event_at_gate p number s regs input)
  gated number regs = go (nat_lt INPUT_GATE number)
    where
      go : (b : Bool) → LeavesBeyond s (cond b (acts.event_of (acts.gate_of (program_tables p) number regs.pc s) input) (acts.in_state s (gate_event number s.regs regs input)))
      go true = by_outcome (acts.gate_of (program_tables p) number regs.pc s) (gate s.home s.beyond out (program_tables p) number regs.pc s (refl, refl))
      go false = low_gate (gate_event number s.regs regs input)

  reguarded : (regs : Regs) → slice_index regs.r SP ≤ s.home.1 → staying_words s.home (reg_in s SP) (slice_index regs.r SP) s.beyond ≡ s.beyond
  reguarded regs l = freed_outside s.home (reg_in s SP) (slice_index regs.r SP) s.beyond l out

  left : (xs : List Activation) (u : Recorded) → (u.home ≡ s.home) × (reg_in u SP ≤ s.home.1 → u.beyond ≡ s.beyond)
      → ((acts.with_remaining xs u).home ≡ s.home) × (reg_in (acts.with_remaining xs u) SP ≤ s.home.1 → (acts.with_remaining xs u).beyond ≡ s.beyond)
  left [] u h = h
  left (a ∷ more) u h = h

  tested : (what : Stepped) (regs : Regs) (m : Memory) (o : Option End) → LeavesBeyond s (acts.event_after_pass p s (acts.pass_tests p s what regs m o) input)
  tested what regs m (Some end) = (refl, refl)
  tested Done regs m None = (refl, reguarded regs)
  tested (Call target ret) regs m None = (refl, reguarded regs)
  tested (Return to) regs m None =
      let base = acts.update_slots_at p s regs (record s { regs = regs; segments = m.segments }) in
      left base.outer base (refl, reguarded regs)
  tested (Gate number) regs m None = gated number regs
  tested (Trap trap) regs m None = (refl, reguarded regs)

  stepped : (o : Stepping) → LeavesBeyond s (acts.event_after_pass p s (acts.pass_step p s o) input)
  stepped (Trap trap, regs, m) = go (acts.pops_back p s)
    where
      go : (o : Option Regs) → LeavesBeyond s (acts.event_after_pass p s (acts.trap_or_return p s trap o) input)
      go None = (refl, refl)
      go (Some after) = tested (Return s.first.caller.back) (acts.caller_registers s.first.caller after) (memory_of s) _
  stepped (Done, regs, m) = tested Done regs m _
  stepped (Call target ret, regs, m) = tested (Call target ret) regs m _
  stepped (Return to, regs, m) = tested (Return to) (acts.caller_registers s.first.caller regs) m _
  stepped (Gate number, regs, m) = tested (Gate number) regs m _

  checked : (b : Bool) → LeavesBeyond s (acts.event_after_pass p s (acts.pass_if_checked p s b) input)
  checked true = stepped (step_for (profile_in p) s.regs (memory_of s))
  checked false = (refl, refl)

  event_leaves : LeavesBeyond s (acts.recorded_event p s input)
  unfolding acts.recorded_event acts.pass_instruction
  event_leaves = checked (p.look s.regs.pc).is_instr

pub words_beyond_stay : WordsBeyondStay
words_beyond_stay p s input out = event_leaves p s input out
