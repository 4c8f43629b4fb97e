-- What an event leaves of other threads: it writes to slots that are in use, and to no guarded word.
use Rattle.std.proofs.Common.{◌≡◌, ℕ, zero, suc, ◌+◌, ◌*◌, ◌%◌, ◌<◌, ◌≤◌, inl, inr, ◌==◌, ◌&&◌, nat_lt, Bool, true, false, cond, List, [], ◌∷◌, ◌++◌, length, get_or, set, Option, Some, None, Result, Ok, Err, refl, sym, subst, ◌∙◌, arith, ℤ}
use Rattle.std.specs.Prelude.{◌↔◌, is_some}
use Rattle.std.proofs.lemmas.Bool.{cases_lt, le-leb, lt-ltb}
use Rattle.run_events.specs.Runs.{Event, Goes, Ends}
use Rattle.eh_bus.specs.Lists.{Has}
use Rattle.eh_bus.specs.Memory.{Memory, load_number, is_closed, host_load}
use Rattle.eh_bus.specs.Segment.{Segment, Apart}
use Rattle.eh_bus.specs.declared.map.TheConstants.{CLOSED_SIZE, POOL_END, POOL_START, SLOT_SIZE, STACK_START}
use Rattle.eh_bus.proofs.MapLaws.{map_refl}
use Rattle.eh_bus.proofs.PartLaws.{host_apart, host_other, guard_places}
use Rattle.run_gates.specs.declared.gates.TheConstants.{INPUT_GATE}
use Rattle.run_gates.specs.Gates.{gate_event}
use Rattle.eh_cxa.specs.Allocate.{zeros, allocate_at, allocate_of, free_by, free_of, first_slot}
use Rattle.eh_cxa.specs.Catch.{catch_fault, catch_by, catch_at, catch_in, begin_catch_of, Fall, stays, falls, ends, leaves, fall, end_catch_by, end_catch_at, end_catch_of, rethrow_by, rethrow_at, rethrow_of}
use Rattle.eh_cxa.specs.Cleanup.{cleanup_at, begin_cleanup_of}
use Rattle.eh_cxa.specs.Throw.{Throw, throw_by, start_throw_of, set_barrier_of, barrier_of, land_by, land_of}
use Rattle.eh_cxa.specs.ListCalls.{is_free, allocate_in, allocate_list, free_by_list, free_list, throw_by_list, throw_entry, throw_list, land_record, land_entry, land_list, catch_by_list, catch_entry, catch_list, fall_of, end_by_list, end_entry, end_from, end_list, rethrow_by_list, rethrow_entry, rethrow_from, rethrow_list}
use Rattle.eh_cxa.specs.Lists.{Record, Entry, Free, OutOfUse, Live, entry, slots, count_in, state_in, unchanged_lists}
use Rattle.eh_cxa.specs.States.{state_of_word, is_fresh, is_flying, is_caught, may_be_freed}
use Rattle.eh_cxa.specs.Words.{Pool, Write, write, word, set_slot_word, set_slot_words, block, object, block_slot, object_slot}
use Rattle.eh_cxa.specs.declared.globals.BarrierWords.{BarrierWords}
use Rattle.eh_cxa.specs.declared.globals.CleanupWords.{CleanupWords}
use Rattle.eh_cxa.specs.declared.globals.CxaFault.{CxaFault}
use Rattle.eh_cxa.specs.declared.globals.CxaFault.TheVariants as fault
use Rattle.eh_cxa.specs.declared.globals.Globals.{Globals}
use Rattle.eh_cxa.specs.declared.layout.TheConstants.{SLOTS, SLOT_WORDS, CLOSED_WORDS, OBJECT_BYTES, COUNT}
use Rattle.eh_cxa.specs.declared.state.State.TheVariants.{Flying}
use Rattle.eh_cxa.specs.declared.state.TheConstants.{FREE}
use Rattle.eh_cxa.proofs.Pools.{slot_small, slot_block, object_small}
use Rattle.eh_cxa.proofs.Zeros.{first_passes}
use Rattle.eh_phase.specs.Frames.{entry_contents_at}
use Rattle.eh_phase.specs.declared.phase1.Barrier.{Barrier}
use Rattle.eh_phase.specs.declared.phase2.Entered.{Entered}
use Rattle.eh_phase.specs.declared.phase2.Entered.TheVariants as enters
use Rattle.eh_phase.specs.declared.verdict.Thrown.{Thrown}
use Rattle.eh_trace.specs.declared.event.EventKind.{EventKind}
use Rattle.eh_trace.specs.declared.event.EventKind.TheVariants as event
use Rattle.eh_types.specs.Graph.{row_of}
use Rattle.frame_check.specs.Accepts.{Accepted}
use Rattle.thumb_core.specs.Laws.{KeepsMap}
use Rattle.thumb_core.specs.Outcome.{Outcome as Stepping}
use Rattle.thumb_core.specs.Step.{step_for}
use Rattle.thumb_core.proofs.Follows.{step_follows}
use Rattle.thumb_core.specs.declared.regs.Regs.{Regs}
use Rattle.thumb_core.specs.declared.regs.Stepped.{Stepped}
use Rattle.thumb_core.specs.declared.regs.Stepped.TheVariants.{Done, Call, Return, Gate, Trap}
use Rattle.thumb_core.specs.declared.ends.End.{End}
use Rattle.thumb_core.specs.declared.ends.End.TheVariants as the_end
use Rattle.thumb_core.specs.declared.ends.TrapKind.TheVariants as kind
use Rattle.eh_gates.specs.declared.gates.TheConstants.{ALLOCATE_GATE, FREE_GATE, THROW_GATE, BEGIN_CATCH_GATE, END_CATCH_GATE, RETHROW_GATE, END_CLEANUP_GATE, UNEXPECTED_GATE, TERMINATE_GATE, UNCAUGHT_GATE}
use Rattle.eh_gates.specs.declared.state.Turned.TheVariants.{Went, Ended}
use Rattle.eh_gates.specs.State.{Tables}
use Rattle.eh_gates.specs.Landing.{words_of}
use Rattle.eh_gates.specs.Throwing.{barrier_in, barrier_words, throw_event}
use Rattle.sim_machines.specs.Program.{Program, program_tables, profile_in}
use Rattle.sim_machines.specs.Activations.{Activation, InProgress, Recorded, reg_in, memory_of, state_word, count_word, words_in, heads, with_lists, with_words, lists_of, cleanups_in}
use Rattle.sim_machines.specs.ActivationMachine as acts
use Rattle.sim_machines.specs.Checked.{program_of}
use Rattle.sim_machines.proofs.Saving.{are_guarded}
use Rattle.sim_relation.specs.Stands.{Keeps}
use Rattle.thread_laws.specs.Leaving.{LeavesOthers, Leaves, EventsLeaveOthers}

-- ---- slots that are out of use

abbrev at_slot : List Entry → ℕ → Entry
at_slot es n = get_or es n OutOfUse

abbrev IsUnused : List Entry → ℕ → Type 0
IsUnused es n = at_slot es n ≡ OutOfUse

abbrev SameUse : List Entry → List Entry → Type 0
SameUse es fs = (n : ℕ) → IsUnused es n ↔ IsUnused fs n

same_use : (es : List Entry) → SameUse es es
same_use es n = ((λ e. e), (λ e. e))

then_use : (es fs gs : List Entry) → SameUse es fs → SameUse fs gs → SameUse es gs
then_use es fs gs p q n = ((λ e. (q n).0 ((p n).0 e)), (λ e. (p n).1 ((q n).1 e)))

free_used : Free ≡ OutOfUse → ⊥
free_used e = cc

live_used : (r : Record) → Live r ≡ OutOfUse → ⊥
live_used r e = cc

-- a slot in use goes on to be in use
set_use : (es : List Entry) (n : ℕ) (e : Entry) → (IsUnused es n → ⊥) → (e ≡ OutOfUse → ⊥) → SameUse es (set es n e)
set_use [] n e h i m = absurd (h refl)
set_use (x ∷ more) zero e h i zero = ((λ q. absurd (h q)), (λ q. absurd (i q)))
set_use (x ∷ more) zero e h i (suc m) = ((λ q. q), (λ q. q))
set_use (x ∷ more) (suc n) e h i zero = ((λ q. q), (λ q. q))
set_use (x ∷ more) (suc n) e h i (suc m) = set_use more n e h i m

used_by : (es : List Entry) (n : ℕ) (e : Entry) → at_slot es n ≡ e → (e ≡ OutOfUse → ⊥) → IsUnused es n → ⊥
used_by es n e is h q = h (sym is ∙ q)

-- ---- writes to slots in use

pub record IsOwn (es : List Entry) (w : Write) : Type 0 where
  pub slot : w.slot < SLOTS
  pub place : w.place < SLOT_WORDS
  pub used : IsUnused es w.slot → ⊥

abbrev AreOwn : List Entry → List Write → Type 0
AreOwn es [] = Unit {0}
AreOwn es (w ∷ more) = IsOwn es w × AreOwn es more

own_append : (es : List Entry) (xs ys : List Write) → AreOwn es xs → AreOwn es ys → AreOwn es (xs ++ ys)
own_append es [] ys p q = q
own_append es (x ∷ xs) ys p q = (p.0, own_append es xs ys p.1 q)

own : (es : List Entry) (n place value : ℕ) → n < SLOTS → place < SLOT_WORDS → (IsUnused es n → ⊥) → IsOwn es (write n place value)
own es n place value h i used = record { slot = h; place = i; used = used }

own_zeros : (es : List Entry) (n k : ℕ) → n < SLOTS → k ≤ SLOT_WORDS → (IsUnused es n → ⊥) → AreOwn es (zeros n k)
unfolding zeros
own_zeros es n zero h i used = tt
own_zeros es n (suc k) h i used = own_append es (zeros n k) (write n k 0 ∷ []) (own_zeros es n k h (omega (arith, i)) used) (own es n k 0 h (omega (arith, i)) used, tt)

-- ---- what is left of a state

abbrev at_words : List Segment → Pool
at_words segments = word (record { segments = segments; guards = []; home = (0, 0) })

word_in : (m : Memory) (n k : ℕ) → word m n k ≡ at_words m.segments n k
unfolding word
word_in m n k = refl

other_slot : (t n k j : ℕ) → (t ≡ n → ⊥) → k < 128 → j < 128 → Apart (POOL_START + SLOT_SIZE * t + 4 * k) 4 (POOL_START + SLOT_SIZE * n + 4 * j) 4
other_slot t n k j other h i = elim (cases_lt t n) [
  | inl low ↦ inl (omega (arith, low, h, i))
  | inr high ↦ inr (omega (arith, high, other, h, i))
]

put_word : (es : List Entry) (ws : List Write) (m : Memory) → AreOwn es ws → (n k : ℕ) → k < 128 → IsUnused es n → word (set_slot_words ws m) n k ≡ word m n k
unfolding set_slot_word word
put_word es [] m o n k h e = refl
put_word es (w ∷ more) m o n k h e =
    let place = o.0.place in
    put_word es more (set_slot_word m w.slot w.place w.value) o.1 n k h e
    ∙ host_other m (POOL_START + SLOT_SIZE * w.slot + 4 * w.place) w.value (POOL_START + SLOT_SIZE * n + 4 * k)
    (other_slot w.slot n w.place k (λ q. o.0.used (subst (λ t. IsUnused es t) (sym q) e)) (omega (arith, place)) h)

put_load : (es : List Entry) (ws : List Write) (m : Memory) → AreOwn es ws → (g : ℕ) → STACK_START ≤ g → load_number 4 (set_slot_words ws m).segments g ≡ load_number 4 m.segments g
unfolding set_slot_word
put_load es [] m o g h = refl
put_load es (w ∷ more) m o g h =
    let slot = o.0.slot in
    let place = o.0.place in
    put_load es more (set_slot_word m w.slot w.place w.value) o.1 g h
    ∙ host_apart 4 m (POOL_START + SLOT_SIZE * w.slot + 4 * w.place) w.value g (let a : Apart (POOL_START + SLOT_SIZE * w.slot + 4 * w.place) 4 g 4 = inl (omega (arith, slot, place, h)) in a)

-- the words of a header and of a control block are closed
closed_at : (n k : ℕ) → n < SLOTS → k < CLOSED_WORDS → is_closed (POOL_START + SLOT_SIZE * n + 4 * k) ≡ true
closed_at n k h i =
    let a = POOL_START + SLOT_SIZE * n + 4 * k in
    let low : POOL_START ≤ POOL_START + SLOT_SIZE * n + 4 * k = omega arith in
    let high : POOL_START + SLOT_SIZE * n + 4 * k < POOL_END = omega arith in
    let inside : (POOL_START + SLOT_SIZE * n + 4 * k) % SLOT_SIZE < CLOSED_SIZE = omega arith in
    rw (le-leb POOL_START a low, lt-ltb a POOL_END high, lt-ltb (a % SLOT_SIZE) CLOSED_SIZE inside) refl

closed_word : (m new : Memory) → ((a : ℕ) → a % 4 ≡ 0 → is_closed a ≡ true → host_load new a ≡ host_load m a) → (n k : ℕ) → n < SLOTS → k < CLOSED_WORDS → word new n k ≡ word m n k
unfolding word
closed_word m new closed n k h i = closed (POOL_START + SLOT_SIZE * n + 4 * k) (omega arith) (closed_at n k h i)

module _ (s : Recorded) (stack : (g : ℕ) → Has s.beyond g → STACK_START ≤ g) where
  pub record Left (es : List Entry) (ss : List Segment) : Type 0 where
    pub words : (g : ℕ) → Has s.beyond g → load_number 4 ss g ≡ load_number 4 s.segments g
    pub in_use : SameUse s.entries es
    pub closed : (n k : ℕ) → n < SLOTS → k < CLOSED_WORDS → IsUnused s.entries n → at_words ss n k ≡ at_words s.segments n k

  abbrev LeftIn : Recorded → Type 0
  LeftIn u = Left u.entries u.segments

  abbrev LeftBy : acts.Outcome → Type 0
  LeftBy o = LeftIn o.1

  same : LeftIn s
  same = record { words = λ g h. refl; in_use = same_use s.entries; closed = λ n k h i e. refl }

  -- writes to slots in use, and lists with the same slots in use
  written : (u : Recorded) (es : List Entry) (ws : List Write) → LeftIn u → AreOwn u.entries ws → SameUse u.entries es → Left es (set_slot_words ws (memory_of u)).segments
  written u es ws l o in_use = record {
    words = λ g h. put_load u.entries ws (memory_of u) o g (stack g h) ∙ l.words g h;
    in_use = then_use s.entries u.entries es l.in_use in_use;
    closed = λ n k h i e.
        sym (word_in (set_slot_words ws (memory_of u)) n k) ∙ put_word u.entries ws (memory_of u) o n k (omega (arith, i)) ((l.in_use n).0 e) ∙ word_in (memory_of u) n k ∙ l.closed n k h i e;
  }

  -- ---- calls on exceptions

  abbrev Own : Recorded → List Write → Type 0
  Own u ws = AreOwn u.entries ws

  abbrev Used : Recorded → ℕ → Type 0
  Used u n = IsUnused u.entries n → ⊥

  -- of a slot that is out of use the state word names no state and isn't free, and the count is 0
  abbrev state_at : Recorded → ℕ → ℕ
  state_at u n = state_word (at_slot u.entries n)

  allocate_own : (u : Recorded) (size : ℕ) → Own u (allocate_of (words_in (lists_of u)) size).writes
  allocate_own u size = go (nat_lt OBJECT_BYTES size) (first_slot (λ n. state_at u n == FREE)) refl
    where
      at : (o : Option ℕ) → first_slot (λ n. state_at u n == FREE) ≡ o → Own u (allocate_at size o).writes
      at None e = tt
      at (Some n) e =
          let w = first_passes (λ n. state_at u n == FREE) n e in
          let used : Used u n = λ q. absurd (let f : false ≡ true = subst (λ (x : Entry). (state_word x == FREE) ≡ true) q w.1 in cc) in
          own_append u.entries (zeros n SLOT_WORDS) _ (own_zeros u.entries n SLOT_WORDS w.0 (omega arith) used)
          (own u.entries n _ _ w.0 (omega arith) used, (own u.entries n _ _ w.0 (omega arith) used, tt))

      go : (b : Bool) (o : Option ℕ) → first_slot (λ n. state_at u n == FREE) ≡ o
          → Own u (cond b (record { answer = Err fault.TooBig; writes = [] }) (allocate_at size o)).writes
      go true o e = tt
      go false o e = at o e

  allocate_use : (u : Recorded) (size : ℕ) → SameUse u.entries (allocate_list (lists_of u) size).lists.entries
  allocate_use u size = go (nat_lt OBJECT_BYTES size) (first_slot (λ n. is_free (at_slot u.entries n))) refl
    where
      at : (o : Option ℕ) → first_slot (λ n. is_free (at_slot u.entries n)) ≡ o → SameUse u.entries (allocate_in (lists_of u) size o).lists.entries
      at None e = same_use u.entries
      at (Some n) e =
          let w = first_passes (λ n. is_free (at_slot u.entries n)) n e in
          set_use u.entries n _ (λ q. absurd (let f : false ≡ true = subst (λ (x : Entry). is_free x ≡ true) q w.1 in cc)) (live_used _)

      go : (b : Bool) (o : Option ℕ) → first_slot (λ n. is_free (at_slot u.entries n)) ≡ o
          → SameUse u.entries (cond b (unchanged_lists (Err fault.TooBig) (lists_of u)) (allocate_in (lists_of u) size o)).lists.entries
      go true o e = same_use u.entries
      go false o e = at o e

  free_own : (u : Recorded) (o : Option ℕ) → ((n : ℕ) → o ≡ Some n → n < SLOTS) → Own u (free_of (words_in (lists_of u)) o).writes
  free_own u None small = tt
  free_own u (Some n) small = go (may_be_freed (state_of_word (state_at u n))) refl
    where
      go : (b : Bool) → may_be_freed (state_of_word (state_at u n)) ≡ b → Own u (free_by b n).writes
      go true e =
          let used : Used u n = λ q. absurd (let f : false ≡ true = subst (λ (x : Entry). may_be_freed (state_of_word (state_word x)) ≡ true) q e in cc) in
          (own u.entries n _ _ (small n refl) (omega arith) used, tt)
      go false e = tt

  free_use : (u : Recorded) (o : Option ℕ) → SameUse u.entries (free_list (lists_of u) o).lists.entries
  free_use u None = same_use u.entries
  free_use u (Some n) = go (may_be_freed (state_in (at_slot u.entries n))) refl
    where
      go : (b : Bool) → may_be_freed (state_in (at_slot u.entries n)) ≡ b → SameUse u.entries (free_by_list b (lists_of u) n).lists.entries
      go true e = set_use u.entries n Free (λ q. absurd (let f : false ≡ true = subst (λ (x : Entry). may_be_freed (state_in x) ≡ true) q e in cc)) free_used
      go false e = same_use u.entries

  throw_own : (u : Recorded) (g : Globals) (o : Option ℕ) (t : Throw) → ((n : ℕ) → o ≡ Some n → n < SLOTS) → Own u (start_throw_of (words_in (lists_of u)) g o t).writes
  throw_own u g None t small = tt
  throw_own u g (Some n) t small = go (is_fresh (state_of_word (state_at u n))) refl
    where
      go : (b : Bool) → is_fresh (state_of_word (state_at u n)) ≡ b → Own u (throw_by b g n t).writes
      go true e =
          let used : Used u n = λ q. absurd (let f : false ≡ true = subst (λ (x : Entry). is_fresh (state_of_word (state_word x)) ≡ true) q e in cc) in
          let h = small n refl in (
            own u.entries n _ _ h (omega arith) used,
            (own u.entries n _ _ h (omega arith) used, (own u.entries n _ _ h (omega arith) used, (own u.entries n _ _ h (omega arith) used, (own u.entries n _ _ h (omega arith) used, tt)))),
          )
      go false e = tt

  throw_use : (u : Recorded) (o : Option ℕ) (t : Throw) → SameUse u.entries (throw_list (lists_of u) o t).lists.entries
  throw_use u None t = same_use u.entries
  throw_use u (Some n) t = go (at_slot u.entries n) refl
    where
      by : (r : Record) (b : Bool) → at_slot u.entries n ≡ Live r → SameUse u.entries (throw_by_list b (lists_of u) n r t).lists.entries
      by r true e = set_use u.entries n _ (used_by u.entries n (Live r) e (live_used r)) (live_used _)
      by r false e = same_use u.entries

      go : (x : Entry) → at_slot u.entries n ≡ x → SameUse u.entries (throw_entry (lists_of u) n x t).lists.entries
      go Free e = same_use u.entries
      go OutOfUse e = same_use u.entries
      go (Live r) e = by r (is_fresh (Some r.state)) e

  land_own : (u : Recorded) (n : ℕ) → n < SLOTS → Own u (land_of (words_in (lists_of u)) (Some n))
  land_own u n h = go (is_flying (state_of_word (state_at u n))) refl
    where
      go : (b : Bool) → is_flying (state_of_word (state_at u n)) ≡ b → Own u (land_by b n)
      go true e =
          let used : Used u n = λ q. absurd (let f : false ≡ true = subst (λ (x : Entry). is_flying (state_of_word (state_word x)) ≡ true) q e in cc) in
          (own u.entries n _ _ h (omega arith) used, tt)
      go false e = tt

  land_use : (u : Recorded) (n : ℕ) → SameUse u.entries (land_list (lists_of u) n).entries
  land_use u n = go (at_slot u.entries n) refl
    where
      by : (r : Record) (b : Bool) → at_slot u.entries n ≡ Live r → SameUse u.entries (land_record b (lists_of u) n r).entries
      by r true e = set_use u.entries n _ (used_by u.entries n (Live r) e (live_used r)) (live_used _)
      by r false e = same_use u.entries

      go : (x : Entry) → at_slot u.entries n ≡ x → SameUse u.entries (land_entry (lists_of u) n x).entries
      go Free e = same_use u.entries
      go OutOfUse e = same_use u.entries
      go (Live r) e = by r (is_flying (Some r.state)) e

  catch_own : (u : Recorded) (g : Globals) (ucb : ℕ) → Own u (begin_catch_of (words_in (lists_of u)) g ucb).writes
  catch_own u g ucb = at (block_slot ucb) refl
    where
      w : Pool
      w = words_in (lists_of u)

      by : (n : ℕ) (b : Bool) → n < SLOTS → Used u n → Own u (catch_by b w g ucb n).writes
      by n true h used = (own u.entries n _ _ h (omega arith) used, (own u.entries n _ _ h (omega arith) used, (own u.entries n _ _ h (omega arith) used, tt)))
      by n false h used = (own u.entries n _ _ h (omega arith) used, (own u.entries n _ _ h (omega arith) used, tt))

      faulty : (n : ℕ) (o : Option CxaFault) → n < SLOTS → catch_fault (state_of_word (state_at u n)) (w n COUNT == 0) (g.caught == ucb) ≡ o → Own u (catch_at w g ucb n o).writes
      faulty n (Some e) h q = tt
      faulty n None h q =
          by n (w n COUNT == 0) h
          (λ x. absurd (let f : ◌≡◌ {A = Option CxaFault} (Some fault.BadUcb) None = subst (λ (y : Entry). catch_fault (state_of_word (state_word y)) (w n COUNT == 0) (g.caught == ucb) ≡ None) x q in cc))

      at : (o : Option ℕ) → block_slot ucb ≡ o → Own u (catch_in w g ucb o).writes
      at None e = tt
      at (Some n) e = faulty n (catch_fault (state_of_word (state_at u n)) (w n COUNT == 0) (g.caught == ucb)) (slot_small ucb n e) refl

  catch_use : (u : Recorded) (given : ℕ → ℕ) (o : Option ℕ) → SameUse u.entries (catch_list given (lists_of u) o).lists.entries
  catch_use u given None = same_use u.entries
  catch_use u given (Some n) = go (at_slot u.entries n) refl
    where
      by : (r : Record) (o : Option CxaFault) → at_slot u.entries n ≡ Live r → SameUse u.entries (catch_by_list (given n) (lists_of u) n r o).lists.entries
      by r (Some e) is = same_use u.entries
      by r None is = set_use u.entries n _ (used_by u.entries n (Live r) is (live_used r)) (live_used _)

      go : (x : Entry) → at_slot u.entries n ≡ x → SameUse u.entries (catch_entry (given n) (lists_of u) n x).lists.entries
      go Free e = same_use u.entries
      go OutOfUse e = same_use u.entries
      go (Live r) e = by r _ e

  end_own : (u : Recorded) (g : Globals) → Own u (end_catch_of (words_in (lists_of u)) g).writes
  end_own u g = at (block_slot g.caught) refl
    where
      w : Pool
      w = words_in (lists_of u)

      by : (n : ℕ) (f : Fall ℕ) → n < SLOTS → fall (w n COUNT) ≡ f → Own u (end_catch_by f w g n).writes
      by n stays h e = tt
      by n (falls c) h e =
          let used : Used u n = λ q. absurd (let f : ◌≡◌ {A = Fall ℕ} stays (falls c) = subst (λ (x : Entry). fall (count_word (count_in x)) ≡ falls c) q e in cc) in
          (own u.entries n _ _ h (omega arith) used, tt)
      by n ends h e =
          let used : Used u n = λ q. absurd (let f : ◌≡◌ {A = Fall ℕ} stays ends = subst (λ (x : Entry). fall (count_word (count_in x)) ≡ ends) q e in cc) in
          (own u.entries n _ _ h (omega arith) used, (own u.entries n _ _ h (omega arith) used, tt))
      by n leaves h e =
          let used : Used u n = λ q. absurd (let f : ◌≡◌ {A = Fall ℕ} stays leaves = subst (λ (x : Entry). fall (count_word (count_in x)) ≡ leaves) q e in cc) in
          (own u.entries n _ _ h (omega arith) used, tt)

      at : (o : Option ℕ) → block_slot g.caught ≡ o → Own u (end_catch_at w g o).writes
      at None e = tt
      at (Some n) e = by n (fall (w n COUNT)) (slot_small g.caught n e) refl

  end_use : (u : Recorded) → SameUse u.entries (end_list (lists_of u)).lists.entries
  end_use u = from u.caught
    where
      by : (n : ℕ) (more : List ℕ) (r : Record) (f : Fall ℤ) → at_slot u.entries n ≡ Live r → SameUse u.entries (end_by_list (lists_of u) n more r f).lists.entries
      by n more r stays e = same_use u.entries
      by n more r (falls c) e = set_use u.entries n _ (used_by u.entries n (Live r) e (live_used r)) (live_used _)
      by n more r ends e = set_use u.entries n _ (used_by u.entries n (Live r) e (live_used r)) (live_used _)
      by n more r leaves e = set_use u.entries n _ (used_by u.entries n (Live r) e (live_used r)) (live_used _)

      at : (n : ℕ) (more : List ℕ) (x : Entry) → at_slot u.entries n ≡ x → SameUse u.entries (end_entry (lists_of u) n more x).lists.entries
      at n more Free e = same_use u.entries
      at n more OutOfUse e = same_use u.entries
      at n more (Live r) e = by n more r (fall_of r.count) e

      from : (xs : List ℕ) → SameUse u.entries (end_from (lists_of u) xs).lists.entries
      from [] = same_use u.entries
      from (n ∷ more) = at n more (at_slot u.entries n) refl

  rethrow_own : (u : Recorded) (g : Globals) → Own u (rethrow_of (words_in (lists_of u)) g).writes
  rethrow_own u g = at (block_slot g.caught) refl
    where
      w : Pool
      w = words_in (lists_of u)

      by : (n : ℕ) (b : Bool) → n < SLOTS → is_caught (state_of_word (state_at u n)) ≡ b → Own u (rethrow_by b w g n).writes
      by n true h e =
          let used : Used u n = λ q. absurd (let f : false ≡ true = subst (λ (x : Entry). is_caught (state_of_word (state_word x)) ≡ true) q e in cc) in
          (own u.entries n _ _ h (omega arith) used, (own u.entries n _ _ h (omega arith) used, tt))
      by n false h e = tt

      at : (o : Option ℕ) → block_slot g.caught ≡ o → Own u (rethrow_at w g o).writes
      at None e = tt
      at (Some n) e = by n (is_caught (state_of_word (state_at u n))) (slot_small g.caught n e) refl

  rethrow_use : (u : Recorded) → SameUse u.entries (rethrow_list (lists_of u)).lists.entries
  rethrow_use u = from u.caught
    where
      by : (n : ℕ) (r : Record) (b : Bool) → at_slot u.entries n ≡ Live r → SameUse u.entries (rethrow_by_list b (lists_of u) n r).lists.entries
      by n r true e = set_use u.entries n _ (used_by u.entries n (Live r) e (live_used r)) (live_used _)
      by n r false e = same_use u.entries

      at : (n : ℕ) (x : Entry) → at_slot u.entries n ≡ x → SameUse u.entries (rethrow_entry (lists_of u) n x).lists.entries
      at n Free e = same_use u.entries
      at n OutOfUse e = same_use u.entries
      at n (Live r) e = by n r (is_caught (Some r.state)) e

      from : (xs : List ℕ) → SameUse u.entries (rethrow_from (lists_of u) xs).lists.entries
      from [] = same_use u.entries
      from (n ∷ more) = at n (at_slot u.entries n) refl

  -- the control block is none of a slot that is out of use
  abbrev IsInUse : Recorded → ℕ → Type 0
  IsInUse u blk = (n : ℕ) → block_slot blk ≡ Some n → IsUnused u.entries n → ⊥

  barrier_own : (u : Recorded) (blk : ℕ) (b : BarrierWords) → IsInUse u blk → Own u (set_barrier_of (block_slot blk) b)
  barrier_own u blk b in_use = at (block_slot blk) refl
    where
      at : (o : Option ℕ) → block_slot blk ≡ o → Own u (set_barrier_of o b)
      at None e = tt
      at (Some n) e =
          let h = slot_small blk n e in
          let used = in_use n e in (
            own u.entries n _ _ h (omega arith) used,
            (
              own u.entries n _ _ h (omega arith) used,
              (own u.entries n _ _ h (omega arith) used, (own u.entries n _ _ h (omega arith) used, (own u.entries n _ _ h (omega arith) used, (own u.entries n _ _ h (omega arith) used, tt)))),
            ),
          )

  cleanup_own : (u : Recorded) (g : Globals) (blk : ℕ) (c : CleanupWords) → IsInUse u blk → Own u (begin_cleanup_of g blk c).writes
  cleanup_own u g blk c in_use = at (block_slot blk) refl
    where
      at : (o : Option ℕ) → block_slot blk ≡ o → Own u (cleanup_at g blk c o).writes
      at None e = tt
      at (Some n) e =
          let h = slot_small blk n e in
          let used = in_use n e in
          (own u.entries n _ _ h (omega arith) used, (own u.entries n _ _ h (omega arith) used, (own u.entries n _ _ h (omega arith) used, (own u.entries n _ _ h (omega arith) used, tt))))

  block_used : (u : Recorded) (n : ℕ) → Used u n → IsInUse u (block n)
  block_used u n used m e = let same : block n ≡ block m = slot_block (block n) m e in used_at (let i : n ≡ m = omega (arith, same) in i)
    where
      used_at : n ≡ m → IsUnused u.entries m → ⊥
      used_at i = subst (λ (j : ℕ). IsUnused u.entries j → ⊥) i used

  moves_use : (u v : Recorded) (blk : ℕ) → SameUse u.entries v.entries → IsInUse u blk → IsInUse v blk
  moves_use u v blk same in_use n e q = in_use n e ((same n).1 q)

  -- ---- landings

  at_pad : (u : Recorded) (xs : List Activation) (r : List ℕ) (pad answer : ℕ) → LeftIn u → LeftIn (acts.at_pad u xs r pad answer)
  at_pad u [] r pad answer l = record { words = l.words; in_use = l.in_use; closed = l.closed }
  at_pad u (a ∷ more) r pad answer l = record { words = l.words; in_use = l.in_use; closed = l.closed }

  progress : (u : Recorded) (outside blk : ℕ) (w : CleanupWords) (o : Option ℕ) → IsInUse u blk → LeftIn u → LeftIn (acts.in_progress u outside blk w o)
  progress u outside blk w None in_use l = l
  progress u outside blk w (Some n) in_use l = written u u.entries (begin_cleanup_of (heads (lists_of u)) blk w).writes l (cleanup_own u (heads (lists_of u)) blk w in_use) (same_use u.entries)

  flown : (u : Recorded) (blk : ℕ) (o : Option ℕ) → block_slot blk ≡ o → LeftIn u → LeftIn (acts.land_exception u o)
  flown u blk None e l = l
  flown u blk (Some n) e l =
      written u (land_list (lists_of u) n).entries (land_of (words_in (lists_of u)) (Some n)) l (land_own u n (slot_small blk n e)) (land_use u n)

  entered : (u : Recorded) (xs : List Activation) (blk object : ℕ) (e : Entered) → IsInUse u blk → LeftIn u → LeftBy (acts.enter_landing u xs blk object e)
  entered u xs blk object (enters.Cleanup vrs pad next site) in_use l =
      at_pad (acts.in_progress u (acts.outside_of xs) blk (words_of vrs.r next site) (block_slot blk)) xs vrs.r pad 0
      (progress u (acts.outside_of xs) blk (words_of vrs.r next site) (block_slot blk) in_use l)
  entered u xs blk object (enters.Catch vrs pad) in_use l = at_pad (acts.land_exception u (block_slot blk)) xs vrs.r pad blk (flown u blk (block_slot blk) refl l)
  entered u xs blk object (enters.Spec vrs pad) in_use l = at_pad (acts.land_exception u (block_slot blk)) xs vrs.r pad blk (flown u blk (block_slot blk) refl l)
  entered u xs blk object enters.Unexpected in_use l = l
  entered u xs blk object (enters.Terminate why) in_use l = l

  -- ---- throws

  throw_to : (g : Tables) (site blk : ℕ) (b : Barrier) (u : Recorded) → IsInUse u blk → LeftIn u → LeftBy (acts.throw_to g site blk b u)
  unfolding acts.throw_to
  throw_to g site blk b u in_use l =
      let ws = set_barrier_of (block_slot blk) (barrier_words blk b) in
      entered (with_words ws u) _ blk _ _ in_use (written u u.entries ws l (barrier_own u blk (barrier_words blk b) in_use) (same_use u.entries))

  sought : (g : Tables) (u : Recorded) (what : EventKind) (thrown : Thrown) (further : Barrier → Recorded → acts.Outcome)
      → ((b : Barrier) → LeftBy (further b (acts.log_event u (throw_event what (memory_of u) thrown (acts.size_of (lists_of u) (object_slot thrown.object))))))
      → LeftIn u → LeftBy (acts.from_barrier further (acts.find_barrier g u what thrown))
  unfolding acts.find_barrier
  sought g u what thrown further f l = go (is_some (row_of g.types thrown.ty))
    where
      by_found : (r : Result Barrier End) → LeftBy (acts.from_barrier further (r, acts.log_event u (throw_event what (memory_of u) thrown (acts.size_of (lists_of u) (object_slot thrown.object)))))
      by_found (Ok b) = f b
      by_found (Err end) = l

      go : (c : Bool) → LeftBy (acts.from_barrier further (cond c
          (barrier_in u.regs.pc (acts.phase1_result g u thrown), acts.log_event u (throw_event what (memory_of u) thrown (acts.size_of (lists_of u) (object_slot thrown.object))))
          (Err (the_end.Trap kind.BadType thrown.ty u.regs.pc), u)))
      go true = by_found (barrier_in u.regs.pc (acts.phase1_result g u thrown))
      go false = l

  block_is : (a b : ℕ) → ◌≡◌ {A = Result ℕ CxaFault} (Ok a) (Ok b) → a ≡ b
  block_is a b e = cc

  no_answer : (why : CxaFault) (b : ℕ) → ◌≡◌ {A = Result ℕ CxaFault} (Err why) (Ok b) → ⊥
  no_answer why b e = cc

  flight_uses : (u : Recorded) (o : Option ℕ) (t : Throw) (blk : ℕ) → (throw_list (lists_of u) o t).answer ≡ Ok blk → IsInUse u blk
  flight_uses u None t blk a = absurd (no_answer _ blk a)
  flight_uses u (Some n) t blk a = go (at_slot u.entries n) refl a
    where
      by : (r : Record) (b : Bool) → at_slot u.entries n ≡ Live r → (throw_by_list b (lists_of u) n r t).answer ≡ Ok blk → IsInUse u blk
      by r true e a = subst (λ (c : ℕ). IsInUse u c) (block_is (block n) blk a) (block_used u n (used_by u.entries n (Live r) e (live_used r)))
      by r false e a = absurd (no_answer _ blk a)

      go : (x : Entry) → at_slot u.entries n ≡ x → (throw_entry (lists_of u) n x t).answer ≡ Ok blk → IsInUse u blk
      go Free e a = absurd (no_answer _ blk a)
      go OutOfUse e a = absurd (no_answer _ blk a)
      go (Live r) e a = by r (is_fresh (Some r.state)) e a

  rethrow_uses : (u : Recorded) (blk : ℕ) → (rethrow_list (lists_of u)).answer ≡ Ok blk → IsInUse u blk
  rethrow_uses u blk a = from u.caught a
    where
      by : (n : ℕ) (r : Record) (b : Bool) → at_slot u.entries n ≡ Live r → (rethrow_by_list b (lists_of u) n r).answer ≡ Ok blk → IsInUse u blk
      by n r true e a = subst (λ (c : ℕ). IsInUse u c) (block_is (block n) blk a) (block_used u n (used_by u.entries n (Live r) e (live_used r)))
      by n r false e a = absurd (no_answer _ blk a)

      at : (n : ℕ) (x : Entry) → at_slot u.entries n ≡ x → (rethrow_entry (lists_of u) n x).answer ≡ Ok blk → IsInUse u blk
      at n Free e a = absurd (no_answer _ blk a)
      at n OutOfUse e a = absurd (no_answer _ blk a)
      at n (Live r) e a = by n r (is_caught (Some r.state)) e a

      from : (xs : List ℕ) → (rethrow_from (lists_of u) xs).answer ≡ Ok blk → IsInUse u blk
      from [] a = absurd (no_answer _ blk a)
      from (n ∷ more) a = at n (at_slot u.entries n) refl a

  flies : (u : Recorded) (object : ℕ) (t : Throw) → LeftIn u → LeftIn (acts.in_flight object t u)
  flies u object t l =
      written u (throw_list (lists_of u) (object_slot object) t).lists.entries (start_throw_of (words_in (lists_of u)) (heads (lists_of u)) (object_slot object) t).writes l
      (throw_own u (heads (lists_of u)) (object_slot object) t (λ n e. object_small object n e)) (throw_use u (object_slot object) t)

  flies_to : (g : Tables) (site blk : ℕ) (b : Barrier) (u : Recorded) → IsInUse u blk → LeftIn u → LeftBy (acts.throw_to g site blk b (acts.flies_first u))
  flies_to g site blk b u in_use l =
      throw_to g site blk b (acts.flies_first u) (moves_use u (acts.flies_first u) blk (throw_use u (object_slot (reg_in u 0)) (acts.thrown_words u)) in_use)
      (flies u (reg_in u 0) (acts.thrown_words u) l)

  flies_again : (u : Recorded) → LeftIn u → LeftIn (acts.flies_again u)
  flies_again u l =
      written u (rethrow_list (lists_of u)).lists.entries (rethrow_of (words_in (lists_of u)) (heads (lists_of u))).writes l (rethrow_own u (heads (lists_of u))) (rethrow_use u)

  flies_again_to : (g : Tables) (site blk : ℕ) (b : Barrier) (u : Recorded) → IsInUse u blk → LeftIn u → LeftBy (acts.throw_to g site blk b (acts.flies_again u))
  flies_again_to g site blk b u in_use l =
      throw_to g site blk b (acts.flies_again u) (moves_use u (acts.flies_again u) blk (rethrow_use u) in_use) (flies_again u l)

  throws : (g : Tables) (r : Result ℕ CxaFault) → (acts.first_flight s).answer ≡ r → LeftBy (acts.throw_outcome g s r)
  throws g (Ok blk) e =
      let in_use = flight_uses s (object_slot (reg_in s 0)) (acts.thrown_words s) blk e in
      sought g s event.Throw (acts.gate_thrown s) (λ b t. acts.throw_to g s.regs.pc blk b (acts.flies_first t))
      (λ b. flies_to g s.regs.pc blk b
      (acts.log_event s (throw_event event.Throw (memory_of s) (acts.gate_thrown s) (acts.size_of (lists_of s) (object_slot (acts.gate_thrown s).object)))) in_use
      (record { words = same.words; in_use = same.in_use; closed = same.closed }))
      same
  throws g (Err why) e = same

  rethrows : (g : Tables) (r : Result ℕ CxaFault) → (rethrow_list (lists_of s)).answer ≡ r → LeftBy (acts.rethrow_outcome g s r)
  rethrows g (Ok blk) e =
      let in_use = rethrow_uses s blk e in
      let thrown = acts.slot_thrown (lists_of s) (block_slot blk) in
      sought g s event.Rethrow thrown (λ b t. acts.throw_to g s.regs.pc blk b (acts.flies_again t))
      (λ b. flies_again_to g s.regs.pc blk b (acts.log_event s (throw_event event.Rethrow (memory_of s) thrown (acts.size_of (lists_of s) (object_slot thrown.object)))) in_use
      (record { words = same.words; in_use = same.in_use; closed = same.closed }))
      same
  rethrows g (Err why) e = same

  -- ---- the end of a cleanup, and the other gates

  module _ (flying : (n : ℕ) → Has (slots (cleanups_in s.cleanups)) n → IsUnused s.entries n → ⊥) where
    resumes_in : (g : Tables) (p : InProgress) (more : List InProgress) (xs : List Activation) → (IsUnused s.entries p.cleanup.slot → ⊥) → LeftBy (acts.resumes_in g s p more xs)
    resumes_in g p more [] used = same
    resumes_in g p more (a ∷ outer) used = go ((s.first.caller.sp == p.cleanup.sp) && (length outer == p.place))
      where
        go : (b : Bool)
            → LeftBy (cond b (acts.continue_flight g (record s { cleanups = more }) p.cleanup s.first.caller a outer (barrier_of (word (memory_of s)) (Some p.cleanup.slot))) (acts.refusal_outcome fault.CleanupElsewhere s.first.caller.sp s))
        go true = entered (record s { cleanups = more }) _ (block p.cleanup.slot) _ _ (block_used (record s { cleanups = more }) p.cleanup.slot used) (record { words = same.words; in_use = same.in_use; closed = same.closed })
        go false = same

    resumes : (g : Tables) (ps : List InProgress) → ((n : ℕ) → Has (slots (cleanups_in ps)) n → IsUnused s.entries n → ⊥) → LeftBy (acts.resume_outcome g s ps)
    resumes g [] used = same
    resumes g (p ∷ more) used = go (acts.can_unwind (entry_contents_at g.image s.regs.pc))
      where
        go : (b : Bool) → LeftBy (cond b (acts.resumes_in g s p more s.outer) (acts.refusal_outcome fault.CleanupElsewhere 0 s))
        go true = resumes_in g p more s.outer (used p.cleanup.slot (inl refl))
        go false = same

    allocated : (next : ℕ) (new : Recorded) (r : Result ℕ CxaFault) → LeftIn new → LeftBy (acts.allocate_outcome next s new r)
    allocated next new (Ok object) n = record { words = n.words; in_use = n.in_use; closed = n.closed }
    allocated next new (Err why) n = same

    freed_by : (next : ℕ) (new : Recorded) (r : Result (Unit {0}) CxaFault) → LeftIn new → LeftBy (acts.free_outcome next s new r)
    freed_by next new (Ok done) n = record { words = n.words; in_use = n.in_use; closed = n.closed }
    freed_by next new (Err why) n = same

    caught : (next : ℕ) (new : Recorded) (r : Result ℕ CxaFault) → LeftIn new → LeftBy (acts.begin_catch_outcome next s new r)
    caught next new (Ok object) n = record { words = n.words; in_use = n.in_use; closed = n.closed }
    caught next new (Err why) n = same

    dropped : (next : ℕ) (new : Recorded) (r : Result (ℕ × ℕ) CxaFault) → LeftIn new → LeftBy (acts.end_catch_outcome next s new r)
    dropped next new (Ok (object, destructor)) n = record { words = n.words; in_use = n.in_use; closed = n.closed }
    dropped next new (Err why) n = same

    either : (b : Bool) (x y : acts.Outcome) → LeftBy x → LeftBy y → LeftBy (cond b x y)
    either true x y p q = p
    either false x y p q = q

    gate : (g : Tables) (number next : ℕ) → LeftBy (acts.gate_of g number next s)
    unfolding acts.gate_of
    gate g number next =
        let l = lists_of s in
        either (number == ALLOCATE_GATE) _ _
        (allocated next (acts.with_new (reg_in s 0) s) (allocate_list l (reg_in s 0)).answer
        (written s (allocate_list l (reg_in s 0)).lists.entries (allocate_of (words_in l) (reg_in s 0)).writes same (allocate_own s (reg_in s 0)) (allocate_use s (reg_in s 0))))
        (either (number == FREE_GATE) _ _
        (freed_by next (with_lists (free_list l (object_slot (reg_in s 0))).lists (free_of (words_in l) (object_slot (reg_in s 0))).writes s) (free_list l (object_slot (reg_in s 0))).answer
        (written s (free_list l (object_slot (reg_in s 0))).lists.entries (free_of (words_in l) (object_slot (reg_in s 0))).writes same
        (free_own s (object_slot (reg_in s 0)) (λ n e. object_small (reg_in s 0) n e)) (free_use s (object_slot (reg_in s 0)))))
        (either (number == THROW_GATE) _ _ (throws g (acts.first_flight s).answer refl)
        (either (number == BEGIN_CATCH_GATE) _ _
        (caught next (with_lists (acts.begin_catch s).lists (begin_catch_of (words_in l) (heads l) (reg_in s 0)).writes s) (acts.begin_catch s).answer
        (written s (acts.begin_catch s).lists.entries (begin_catch_of (words_in l) (heads l) (reg_in s 0)).writes same (catch_own s (heads l) (reg_in s 0)) (catch_use s (acts.handler_address s) (block_slot (reg_in s 0)))))
        (either (number == END_CATCH_GATE) _ _
        (dropped next (with_lists (end_list l).lists (end_catch_of (words_in l) (heads l)).writes s) (end_list l).answer
        (written s (end_list l).lists.entries (end_catch_of (words_in l) (heads l)).writes same (end_own s (heads l)) (end_use s)))
        (either (number == RETHROW_GATE) _ _ (rethrows g (rethrow_list l).answer refl)
        (either (number == END_CLEANUP_GATE) _ _ (resumes g s.cleanups flying)
        (either (number == UNEXPECTED_GATE) _ _ same
        (either (number == TERMINATE_GATE) _ _ same
        (either (number == UNCAUGHT_GATE) _ _ (record { words = same.words; in_use = same.in_use; closed = same.closed }) same)))))))))

    -- ---- the event

    leaves_it : (t : Recorded) → LeftIn t → LeavesOthers s t
    leaves_it t l = record {
      words = l.words;
      unused = l.in_use;
      closed = λ n k h i e. word_in (memory_of t) n k ∙ l.closed n k h i e ∙ sym (word_in (memory_of s) n k);
    }

    module _ (p : Program) (input : List ℕ) where
      by_outcome : (o : acts.Outcome) → LeftBy o → Leaves s (acts.event_of o input)
      by_outcome (Went, t) h = leaves_it t h
      by_outcome (Ended end, t) h = leaves_it t h

      as_before : (t : Recorded) → t.entries ≡ s.entries → t.segments ≡ s.segments → LeavesOthers s t
      as_before t p q =
          leaves_it t (subst (λ (es : List Entry). Left es t.segments) (sym p) (subst (λ (ss : List Segment). Left s.entries ss) (sym q) same))

      low_gate : (e : Event Regs End) → Leaves s (acts.in_state s e)
      low_gate (Goes regs text left) = as_before (record s { regs = regs }) refl refl
      low_gate (Ends end regs) = as_before (record s { regs = regs }) refl refl

      gated : (number : ℕ) (regs : Regs) → Leaves s (acts.event_at_gate p number s regs input)
      gated number regs = go (nat_lt INPUT_GATE number)
        where
          go : (b : Bool) → Leaves s (cond b (acts.event_of (acts.gate_of (program_tables p) number regs.pc s) input) (acts.in_state s (gate_event number s.regs regs input)))
          go true = by_outcome (acts.gate_of (program_tables p) number regs.pc s) (gate (program_tables p) number regs.pc)
          go false = low_gate (gate_event number s.regs regs input)

      -- a memory that kept the guarded and the closed words
      stepped_left : (m : Memory) → KeepsMap (memory_of s) m → Left s.entries m.segments
      stepped_left m k = record {
        words = λ g h. k.guarded g (((are_guarded s).guards g).1 (inr h));
        in_use = same_use s.entries;
        closed = λ n j h i e. sym (word_in m n j) ∙ closed_word (memory_of s) m k.closed n j h i ∙ word_in (memory_of s) n j;
      }

      left_by : (xs : List Activation) (u : Recorded) → LeftIn u → LeftIn (acts.with_remaining xs u)
      left_by [] u l = l
      left_by (a ∷ more) u l = record { words = l.words; in_use = l.in_use; closed = l.closed }

      tested : (what : Stepped) (regs : Regs) (m : Memory) → KeepsMap (memory_of s) m → (o : Option End) → Leaves s (acts.event_after_pass p s (acts.pass_tests p s what regs m o) input)
      tested what regs m k (Some end) = leaves_it s same
      tested Done regs m k None = let l = stepped_left m k in leaves_it (acts.record_step p s Done regs m) (record { words = l.words; in_use = l.in_use; closed = l.closed })
      tested (Call target ret) regs m k None =
          let l = stepped_left m k in leaves_it (acts.record_step p s (Call target ret) regs m) (record { words = l.words; in_use = l.in_use; closed = l.closed })
      tested (Return to) regs m k None =
          let l = stepped_left m k in
          let base = acts.update_slots_at p s regs (record s { regs = regs; segments = m.segments }) in
          leaves_it (acts.with_remaining base.outer base) (left_by base.outer base (record { words = l.words; in_use = l.in_use; closed = l.closed }))
      tested (Gate number) regs m k None = gated number regs
      tested (Trap trap) regs m k None =
          let l = stepped_left m k in leaves_it (acts.record_step p s (Trap trap) regs m) (record { words = l.words; in_use = l.in_use; closed = l.closed })

      stepped : (o : Stepping) → KeepsMap (memory_of s) o.2 → Leaves s (acts.event_after_pass p s (acts.pass_step p s o) input)
      stepped (Trap trap, regs, m) k = go (acts.pops_back p s)
        where
          go : (o : Option Regs) → Leaves s (acts.event_after_pass p s (acts.trap_or_return p s trap o) input)
          go None = leaves_it s same
          go (Some after) =
              tested (Return s.first.caller.back) (acts.caller_registers s.first.caller after) (memory_of s)
              (record { map = map_refl s.segments; guards = refl; home = refl; guarded = λ g h. refl; closed = λ a l c. refl }) _
      stepped (Done, regs, m) k = tested Done regs m k _
      stepped (Call target ret, regs, m) k = tested (Call target ret) regs m k _
      stepped (Return to, regs, m) k = tested (Return to) (acts.caller_registers s.first.caller regs) m k _
      stepped (Gate number, regs, m) k = tested (Gate number) regs m k _

      checked : (b : Bool) → Leaves s (acts.event_after_pass p s (acts.pass_if_checked p s b) input)
      checked true = stepped (step_for (profile_in p) s.regs (memory_of s)) (step_follows (profile_in p) s.regs (memory_of s)).memory
      checked false = leaves_it s same

      event_leaves : Leaves s (acts.recorded_event p s input)
      unfolding acts.recorded_event acts.pass_instruction
      event_leaves = checked (p.look s.regs.pc).is_instr

in_stack : (x : Accepted) (s : Recorded) → Keeps x s → (g : ℕ) → Has s.beyond g → STACK_START ≤ g
in_stack x s k g h = (guard_places STACK_START (memory_of s).guards g k.corresponds.map.guards (((are_guarded s).guards g).1 (inr h))).0

cleanups_fly : (x : Accepted) (s : Recorded) → Keeps x s → (n : ℕ) → Has (slots (cleanups_in s.cleanups)) n → IsUnused s.entries n → ⊥
cleanups_fly x s k n h e =
    let flies : state_in (entry (lists_of s) n) ≡ Some Flying = k.corresponds.stands.valid.flying n h in
    absurd (let f : None ≡ Some Flying = subst (λ (y : Entry). state_in y ≡ Some Flying) e flies in cc)

pub events_leave : EventsLeaveOthers
events_leave x s input k = event_leaves s (in_stack x s k) (cleanups_fly x s k) (program_of x) input
