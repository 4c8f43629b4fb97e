-- Gates keep the map: they write words of the pool, and release guards.
use Rattle.std.specs.Prelude.{is_some}
use Rattle.std.proofs.Common.{◌≡◌, ℕ, zero, suc, ◌+◌, ◌*◌, ◌<◌, ◌≤◌, ◌==◌, nat_lt, Bool, true, false, cond, List, [], ◌∷◌, ◌++◌, Option, Some, None, Result, Ok, Err, slice_index, refl, sym, subst, arith}
use Rattle.eh_bus.specs.Map.{IsMap, SameMap}
use Rattle.eh_bus.specs.Memory.{Memory, host_store, without_guards_below}
use Rattle.eh_bus.specs.declared.map.TheConstants.{POOL_START, SLOT_SIZE}
use Rattle.eh_bus.proofs.MapLaws.{map_refl, map_trans, host_is_map, released_is_map}
use Rattle.eh_bus.proofs.PartLaws.{host_map}
use Rattle.eh_bytecode.specs.declared.frame.Vrs.{Vrs}
use Rattle.eh_types.specs.Graph.{row_of}
use Rattle.eh_cxa.specs.States.{state_of_word, is_fresh, is_flying, is_caught, may_be_freed}
use Rattle.eh_cxa.specs.Words.{Pool, Write, write, Wrote, word, set_slot_word, set_slot_words, object_slot, block_slot}
use Rattle.eh_cxa.specs.Allocate.{zeros, first_slot, allocate_at, allocate_of, free_by, free_of}
use Rattle.eh_cxa.specs.Throw.{Throw, start_throw_of, throw_by, throw_fault, set_barrier_of, land_by, land_of}
use Rattle.eh_cxa.specs.Catch.{begin_catch_of, catch_in, catch_at, catch_by, catch_fault, end_catch_of, end_catch_at, end_catch_by, Fall, stays, falls, ends, leaves, fall, rethrow_at, rethrow_by}
use Rattle.eh_cxa.specs.Cleanup.{innermost_of, begin_cleanup_of, cleanup_at, end_cleanup_of, end_cleanup_at, end_cleanup_by}
use Rattle.eh_cxa.specs.declared.layout.TheConstants.{SLOTS, SLOT_WORDS, OBJECT_BYTES, STATE, COUNT, CLEANUP_SP}
use Rattle.eh_cxa.specs.declared.state.TheConstants.{FREE}
use Rattle.eh_cxa.specs.declared.globals.Globals.{Globals}
use Rattle.eh_cxa.specs.declared.globals.BarrierWords.{BarrierWords}
use Rattle.eh_cxa.specs.declared.globals.CleanupWords.{CleanupWords}
use Rattle.eh_cxa.specs.declared.globals.CxaFault.{CxaFault}
use Rattle.eh_cxa.proofs.Pools.{slot_small, object_small}
use Rattle.eh_cxa.proofs.Zeros.{first_passes}
use Rattle.eh_phase.specs.declared.phase1.Barrier.{Barrier}
use Rattle.eh_phase.specs.declared.phase2.Entered.{Entered}
use Rattle.eh_phase.specs.declared.phase2.Entered.TheVariants as enters
use Rattle.eh_phase.specs.declared.verdict.Thrown.{Thrown}
use Rattle.eh_phase.specs.Phases.{phase2}
use Rattle.eh_phase.specs.Frames.{caller_at}
use Rattle.eh_phase.specs.Laws.{goal_of}
use Rattle.eh_trace.specs.declared.event.EventKind.{EventKind}
use Rattle.eh_trace.specs.declared.event.EventKind.TheVariants as kind
use Rattle.thumb_core.specs.Registers.{all_of}
use Rattle.thumb_core.specs.declared.regs.TheConstants.{SP}
use Rattle.thumb_core.specs.declared.ends.End.{End}
use Rattle.eh_gates.specs.declared.gates.TheConstants.{ALLOCATE_GATE, FREE_GATE, THROW_GATE, BEGIN_CATCH_GATE, END_CATCH_GATE, RETHROW_GATE, END_CLEANUP_GATE, UNEXPECTED_GATE, TERMINATE_GATE, UNCAUGHT_GATE}
use Rattle.eh_gates.specs.State.{State, Tables, Outcome, reg}
use Rattle.eh_gates.specs.CallGates.{allocate_outcome, free_outcome, begin_catch_outcome, end_catch_outcome}
use Rattle.eh_gates.specs.Landing.{enter_landing, words_of, land_exception}
use Rattle.eh_gates.specs.Throwing.{frames_from, barrier_words, with_barrier, handler_object, throw_to, find_barrier, from_barrier, flies_to, flies, first_flight, throw_outcome, gate_thrown, block_thrown, second_flight, rethrow_outcome}
use Rattle.eh_gates.specs.Resuming.{continue_flight, resumes_in, resumes}
use Rattle.eh_gates.specs.Gates.{gate_of}

either : {A : Type 0} (P : A → Type 0) (b : Bool) (x y : A) → P x → P y → P (cond b x y)
either P true x y px py = px
either P false x y px py = py

-- ---- the words that the calls write are words of the pool

abbrev AreInPool : List Write → Type 0
AreInPool [] = Unit {0}
AreInPool (w ∷ more) = (w.slot < SLOTS) × (w.place < SLOT_WORDS) × AreInPool more

-- where it is a slot at all it is one of the pool
abbrev IsSlot : Option ℕ → Type 0
IsSlot o = (s : ℕ) → o ≡ Some s → s < SLOTS

both_in : (xs ys : List Write) → AreInPool xs → AreInPool ys → AreInPool (xs ++ ys)
both_in [] ys p q = q
both_in (x ∷ xs) ys p q = (p.0, p.1, both_in xs ys p.2 q)

zeros_in : (s n : ℕ) → s < SLOTS → n ≤ SLOT_WORDS → AreInPool (zeros s n)
unfolding zeros
zeros_in s zero h i = tt
zeros_in s (suc n) h i = both_in (zeros s n) (write s n 0 ∷ []) (zeros_in s n h (omega (arith, i))) (h, omega (arith, i), tt)

allocate_at_in : (size : ℕ) (o : Option ℕ) → IsSlot o → AreInPool (allocate_at size o).writes
allocate_at_in size None h = tt
allocate_at_in size (Some s) h = let l = h s refl in both_in (zeros s SLOT_WORDS) _ (zeros_in s SLOT_WORDS l (omega arith)) (l, omega arith, (l, omega arith, tt))

allocate_in : (w : Pool) (size : ℕ) → AreInPool (allocate_of w size).writes
allocate_in w size =
    let o = first_slot (λ s. w s STATE == FREE) in
    either (λ (d : Wrote (Result ℕ CxaFault)). AreInPool d.writes) (nat_lt OBJECT_BYTES size) _ _ tt (allocate_at_in size o (λ s e. (first_passes (λ s. w s STATE == FREE) s e).0))

free_by_in : (b : Bool) (s : ℕ) → s < SLOTS → AreInPool (free_by b s).writes
free_by_in true s l = (l, omega arith, tt)
free_by_in false s l = tt

free_in : (w : Pool) (o : Option ℕ) → IsSlot o → AreInPool (free_of w o).writes
free_in w None h = tt
free_in w (Some s) h = free_by_in (may_be_freed (state_of_word (w s STATE))) s (h s refl)

catch_by_in : (b : Bool) (w : Pool) (g : Globals) (ucb s : ℕ) → s < SLOTS → AreInPool (catch_by b w g ucb s).writes
catch_by_in true w g ucb s l = (l, omega arith, (l, omega arith, (l, omega arith, tt)))
catch_by_in false w g ucb s l = (l, omega arith, (l, omega arith, tt))

catch_at_in : (w : Pool) (g : Globals) (ucb s : ℕ) (o : Option CxaFault) → s < SLOTS → AreInPool (catch_at w g ucb s o).writes
catch_at_in w g ucb s (Some fault) l = tt
catch_at_in w g ucb s None l = catch_by_in (w s COUNT == 0) w g ucb s l

catch_in_pool : (w : Pool) (g : Globals) (ucb : ℕ) (o : Option ℕ) → IsSlot o → AreInPool (catch_in w g ucb o).writes
catch_in_pool w g ucb None h = tt
catch_in_pool w g ucb (Some s) h = catch_at_in w g ucb s (catch_fault (state_of_word (w s STATE)) (w s COUNT == 0) (g.caught == ucb)) (h s refl)

end_by_in : (f : Fall ℕ) (w : Pool) (g : Globals) (s : ℕ) → s < SLOTS → AreInPool (end_catch_by f w g s).writes
end_by_in stays w g s l = tt
end_by_in (falls c) w g s l = (l, omega arith, tt)
end_by_in ends w g s l = (l, omega arith, (l, omega arith, tt))
end_by_in leaves w g s l = (l, omega arith, tt)

end_in : (w : Pool) (g : Globals) (o : Option ℕ) → IsSlot o → AreInPool (end_catch_at w g o).writes
end_in w g None h = tt
end_in w g (Some s) h = end_by_in (fall (w s COUNT)) w g s (h s refl)

throw_by_in : (b : Bool) (g : Globals) (s : ℕ) (t : Throw) → s < SLOTS → AreInPool (throw_by b g s t).writes
throw_by_in true g s t l = (l, omega arith, (l, omega arith, (l, omega arith, (l, omega arith, (l, omega arith, tt)))))
throw_by_in false g s t l = tt

throw_in : (w : Pool) (g : Globals) (o : Option ℕ) (t : Throw) → IsSlot o → AreInPool (start_throw_of w g o t).writes
throw_in w g None t h = tt
throw_in w g (Some s) t h = throw_by_in (is_fresh (state_of_word (w s STATE))) g s t (h s refl)

rethrow_by_in : (b : Bool) (w : Pool) (g : Globals) (s : ℕ) → s < SLOTS → AreInPool (rethrow_by b w g s).writes
rethrow_by_in true w g s l = (l, omega arith, (l, omega arith, tt))
rethrow_by_in false w g s l = tt

rethrow_in : (w : Pool) (g : Globals) (o : Option ℕ) → IsSlot o → AreInPool (rethrow_at w g o).writes
rethrow_in w g None h = tt
rethrow_in w g (Some s) h = rethrow_by_in (is_caught (state_of_word (w s STATE))) w g s (h s refl)

barrier_in_pool : (o : Option ℕ) (b : BarrierWords) → IsSlot o → AreInPool (set_barrier_of o b)
barrier_in_pool None b h = tt
barrier_in_pool (Some s) b h =
    let l = h s refl in (l, omega arith, (l, omega arith, (l, omega arith, (l, omega arith, (l, omega arith, (l, omega arith, tt))))))

land_by_in : (b : Bool) (s : ℕ) → s < SLOTS → AreInPool (land_by b s)
land_by_in true s l = (l, omega arith, tt)
land_by_in false s l = tt

land_in : (w : Pool) (o : Option ℕ) → IsSlot o → AreInPool (land_of w o)
land_in w None h = tt
land_in w (Some s) h = land_by_in (is_flying (state_of_word (w s STATE))) s (h s refl)

begin_in : (g : Globals) (ucb : ℕ) (c : CleanupWords) (o : Option ℕ) → IsSlot o → AreInPool (cleanup_at g ucb c o).writes
begin_in g ucb c None h = tt
begin_in g ucb c (Some s) h = let l = h s refl in (l, omega arith, (l, omega arith, (l, omega arith, (l, omega arith, tt))))

cleanup_by_in : (b : Bool) (w : Pool) (g : Globals) (s : ℕ) → AreInPool (end_cleanup_by b w g s).writes
cleanup_by_in true w g s = tt
cleanup_by_in false w g s = tt

cleanup_in : (w : Pool) (g : Globals) (sp : ℕ) (o : Option ℕ) → AreInPool (end_cleanup_at w g sp o).writes
cleanup_in w g sp None = tt
cleanup_in w g sp (Some s) = cleanup_by_in (w s CLEANUP_SP == sp) w g s

-- ---- from a memory on

module _ (first : Memory) where
  -- a memory whose map is that of the first
  record IsKept (m : Memory) : Type 0 where
    is : IsMap m
    same : SameMap first.segments m.segments

  abbrev LeavesKept : Outcome → Type 0
  LeavesKept o = IsKept o.1.memory

  put_kept : (m : Memory) (slot place v : ℕ) → slot < SLOTS → place < SLOT_WORDS → IsKept m → IsKept (set_slot_word m slot place v)
  unfolding set_slot_word
  put_kept m slot place v l h k =
      record {
        is = host_is_map m (POOL_START + SLOT_SIZE * slot + 4 * place) v k.is;
        same = map_trans first.segments m.segments (host_store m (POOL_START + SLOT_SIZE * slot + 4 * place) v).segments k.same
            (host_map m (POOL_START + SLOT_SIZE * slot + 4 * place) v k.is.segments (omega arith) (omega (arith, l, h)));
      }

  puts_kept : (ws : List Write) (m : Memory) → AreInPool ws → IsKept m → IsKept (set_slot_words ws m)
  puts_kept [] m p k = k
  puts_kept (w ∷ more) m p k = puts_kept more (set_slot_word m w.slot w.place w.value) p.2 (put_kept m w.slot w.place w.value p.0 p.1 k)

  released_kept : (m : Memory) (a : ℕ) → IsKept m → IsKept (without_guards_below m a)
  released_kept m a k = record { is = released_is_map m a k.is; same = k.same }

  -- ---- calls alone

  allocates : (next : ℕ) (s : State) (r : Result ℕ CxaFault) (m : Memory) → IsKept m → IsKept s.memory → LeavesKept (allocate_outcome next s (r, m))
  allocates next s (Ok x) m k h = k
  allocates next s (Err why) m k h = h

  frees : (next : ℕ) (s : State) (r : Result (Unit {0}) CxaFault) (m : Memory) → IsKept m → IsKept s.memory → LeavesKept (free_outcome next s (r, m))
  frees next s (Ok x) m k h = k
  frees next s (Err why) m k h = h

  catches : (next : ℕ) (s : State) (r : Result ℕ CxaFault) (g : Globals) (m : Memory) → IsKept m → IsKept s.memory → LeavesKept (begin_catch_outcome next s (r, g, m))
  catches next s (Ok x) g m k h = k
  catches next s (Err why) g m k h = h

  drops : (next : ℕ) (s : State) (r : Result (ℕ × ℕ) CxaFault) (g : Globals) (m : Memory) → IsKept m → IsKept s.memory → LeavesKept (end_catch_outcome next s (r, g, m))
  drops next s (Ok (x, y)) g m k h = k
  drops next s (Err why) g m k h = h

  -- ---- landings and throws

  flown_kept : (s : State) (block : ℕ) → IsKept s.memory → IsKept (land_exception s block).memory
  flown_kept s block h = puts_kept (land_of (word s.memory) (block_slot block)) s.memory (land_in (word s.memory) (block_slot block) (slot_small block)) h

  lands : (s : State) (block object : ℕ) (e : Entered) → IsKept s.memory → LeavesKept (enter_landing s block object e)
  lands s block object (enters.Cleanup vrs pad next site) h =
      let c = words_of vrs.r next site in
      let d = begin_cleanup_of s.globals block c in
      released_kept (set_slot_words d.writes s.memory) (slice_index vrs.r SP) (puts_kept d.writes s.memory (begin_in s.globals block c (block_slot block) (slot_small block)) h)
  lands s block object (enters.Catch vrs pad) h = released_kept (land_exception s block).memory (slice_index vrs.r SP) (flown_kept s block h)
  lands s block object (enters.Spec vrs pad) h = released_kept (land_exception s block).memory (slice_index vrs.r SP) (flown_kept s block h)
  lands s block object enters.Unexpected h = h
  lands s block object (enters.Terminate why) h = h

  throws_to : (g : Tables) (s : State) (site block : ℕ) (b : Barrier) → IsKept s.memory → LeavesKept (throw_to g s site block b)
  unfolding throw_to
  throws_to g s site block b h =
      let w = barrier_words block b in
      let u = with_barrier s block w in
      lands u block (handler_object block b.hit) (phase2 (goal_of b) 0 (frames_from g u None site))
      (puts_kept (set_barrier_of (block_slot block) w) s.memory (barrier_in_pool (block_slot block) w (slot_small block)) h)

  flies_kept : (g : Tables) (s : State) (given : ℕ) (b : Barrier) (r : Result ℕ CxaFault) → IsKept s.memory → LeavesKept (flies_to g s given b r)
  flies_kept g s given b (Ok block) h = throws_to g s s.regs.pc block b h
  flies_kept g s given b (Err why) h = h

  from_kept : (further : Barrier → State → Outcome) (p : Result Barrier End × State) → IsKept p.1.memory → ((b : Barrier) (t : State) → IsKept t.memory → LeavesKept (further b t))
      → LeavesKept (from_barrier further p)
  from_kept further (Ok b, t) h f = f b t h
  from_kept further (Err end, t) h f = h

  sought_kept : (g : Tables) (s : State) (what : EventKind) (thrown : Thrown) → IsKept s.memory → IsKept (find_barrier g s what thrown).1.memory
  unfolding find_barrier
  sought_kept g s what thrown h = either (λ (p : Result Barrier End × State). IsKept p.1.memory) (is_some (row_of g.types thrown.ty)) _ _ h h

  throws_kept : (g : Tables) (s : State) (r : Result (Unit {0}) CxaFault) → IsKept s.memory → LeavesKept (throw_outcome g s r)
  throws_kept g s (Err why) h = h
  throws_kept g s (Ok may) h =
      from_kept (λ b t. flies g t (reg s 0) (first_flight t) b) (find_barrier g s kind.Throw (gate_thrown s)) (sought_kept g s kind.Throw (gate_thrown s) h)
      (λ b t k. flies_kept g (record t { globals = (first_flight t).globals; memory = set_slot_words (first_flight t).writes t.memory }) (reg s 0) b (first_flight t).answer
      (puts_kept (first_flight t).writes t.memory (throw_in (word t.memory) t.globals (object_slot (reg t 0)) _ (object_small (reg t 0))) k))

  rethrows_kept : (g : Tables) (s : State) (r : Result ℕ CxaFault) → IsKept s.memory → LeavesKept (rethrow_outcome g s r)
  rethrows_kept g s (Err why) h = h
  rethrows_kept g s (Ok block) h =
      from_kept (λ b t. flies g t block (second_flight t) b) (find_barrier g s kind.Rethrow (block_thrown s block)) (sought_kept g s kind.Rethrow (block_thrown s block) h)
      (λ b t k. flies_kept g (record t { globals = (second_flight t).globals; memory = set_slot_words (second_flight t).writes t.memory }) block b (second_flight t).answer
      (puts_kept (second_flight t).writes t.memory (rethrow_in (word t.memory) t.globals (block_slot t.globals.caught) (slot_small t.globals.caught)) k))

  goes_kept : (g : Tables) (s : State) (vrs : Vrs) (r : Result (ℕ × CleanupWords) CxaFault) → IsKept s.memory → LeavesKept (continue_flight g s vrs r)
  goes_kept g s vrs (Ok (block, w)) h = lands s block _ _ h
  goes_kept g s vrs (Err why) h = h

  resumes_in_kept : (g : Tables) (s : State) (o : Option Vrs) → IsKept s.memory → LeavesKept (resumes_in g s o)
  resumes_in_kept g s None h = h
  resumes_in_kept g s (Some vrs) h =
      let d = end_cleanup_of (word s.memory) s.globals (slice_index vrs.r SP) in
      goes_kept g (record s { globals = d.globals; memory = set_slot_words d.writes s.memory }) vrs d.answer
      (puts_kept d.writes s.memory (cleanup_in (word s.memory) s.globals (slice_index vrs.r SP) (block_slot s.globals.cleanup)) h)

  resumes_kept : (g : Tables) (s : State) (o : Option ℕ) → IsKept s.memory → LeavesKept (resumes g s o)
  resumes_kept g s None h = h
  resumes_kept g s (Some sp) h = resumes_in_kept g s (caller_at g.image s.memory.segments s.regs.pc (all_of s.regs)) h

  gate_kept : (g : Tables) (number next : ℕ) (s : State) → IsKept s.memory → LeavesKept (gate_of g number next s)
  unfolding gate_of
  gate_kept g number next s h =
      let w = word s.memory in
      let a = allocate_of w (reg s 0) in
      let f = free_of w (object_slot (reg s 0)) in
      let c = begin_catch_of w s.globals (reg s 0) in
      let d = end_catch_of w s.globals in
      either LeavesKept (number == ALLOCATE_GATE) _ _
      (allocates next s a.answer (set_slot_words a.writes s.memory) (puts_kept a.writes s.memory (allocate_in w (reg s 0)) h) h) (
      either LeavesKept (number == FREE_GATE) _ _
      (frees next s f.answer (set_slot_words f.writes s.memory) (puts_kept f.writes s.memory (free_in w (object_slot (reg s 0)) (object_small (reg s 0))) h) h) (
      either LeavesKept (number == THROW_GATE) _ _ (throws_kept g s (throw_fault w (object_slot (reg s 0))) h) (
      either LeavesKept (number == BEGIN_CATCH_GATE) _ _
      (catches next s c.answer c.globals (set_slot_words c.writes s.memory)
      (puts_kept c.writes s.memory (catch_in_pool w s.globals (reg s 0) (block_slot (reg s 0)) (slot_small (reg s 0))) h) h) (
      either LeavesKept (number == END_CATCH_GATE) _ _
      (drops next s d.answer d.globals (set_slot_words d.writes s.memory)
      (puts_kept d.writes s.memory (end_in w s.globals (block_slot s.globals.caught) (slot_small s.globals.caught)) h) h) (
      either LeavesKept (number == RETHROW_GATE) _ _ (rethrows_kept g s (second_flight s).answer h) (
      either LeavesKept (number == END_CLEANUP_GATE) _ _ (resumes_kept g s (innermost_of w s.globals) h) (
      either LeavesKept (number == UNEXPECTED_GATE) _ _ h (either LeavesKept (number == TERMINATE_GATE) _ _ h (either LeavesKept (number == UNCAUGHT_GATE) _ _ h h)))))))))

pub gate_map : (g : Tables) (number next : ℕ) (s : State) → IsMap s.memory → SameMap s.memory.segments (gate_of g number next s).1.memory.segments
gate_map g number next s is = (gate_kept s.memory g number next s (record { is = is; same = map_refl s.memory.segments })).same

-- what a gate left has the map
pub left_map : (g : Tables) (number next : ℕ) (s : State) (o : Outcome) → IsMap s.memory → o ≡ gate_of g number next s → SameMap s.memory.segments o.1.memory.segments
left_map g number next s o is e = subst (λ (o : Outcome). SameMap s.memory.segments o.1.memory.segments) (sym e) (gate_map g number next s is)
