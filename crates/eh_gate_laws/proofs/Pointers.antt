-- What a handler is given, and that it can load its pointer there.
use Rattle.std.proofs.Common.{◌≡◌, ◌≢◌, inl, inr, ℕ, ◌+◌, ◌*◌, ◌%◌, ◌^◌, ◌<◌, ◌==◌, nat_lt, Bool, true, false, length, slice_index, Option, Some, None, Result, Ok, Err, refl, sym, ap, ◌∙◌, subst, arith}
use Rattle.std.proofs.lemmas.Bool.{ltb-true, ltb-false}
use Rattle.std.proofs.lemmas.List.{get_or-set_same}
use Rattle.eh_bus.specs.Map.{IsMap}
use Rattle.eh_bus.specs.Segment.{Apart}
use Rattle.eh_bus.specs.Memory.{Memory, load, without_guards_below}
use Rattle.eh_bus.specs.declared.map.TheConstants.{POOL_START, SLOT_SIZE}
use Rattle.eh_bus.proofs.MapLaws.{released_is_map}
use Rattle.eh_bus.proofs.PartLaws.{host_back, host_other}
use Rattle.eh_cxa.specs.States.{state_of_word, is_flying}
use Rattle.eh_cxa.specs.Words.{word, set_slot_word, set_slot_words, block_slot}
use Rattle.eh_cxa.specs.Words.{block as block_of}
use Rattle.eh_cxa.specs.Throw.{set_barrier_of, land_of, land_by}
use Rattle.eh_cxa.specs.Catch.{catch_fault, catch_by, catch_at, catch_in, begin_catch_of}
use Rattle.eh_cxa.specs.Cleanup.{cleanup_at}
use Rattle.eh_cxa.specs.declared.globals.Globals.{Globals}
use Rattle.eh_cxa.specs.declared.globals.BarrierWords.{BarrierWords}
use Rattle.eh_cxa.specs.declared.globals.CleanupWords.{CleanupWords}
use Rattle.eh_cxa.specs.declared.globals.CxaFault.{CxaFault}
use Rattle.eh_cxa.specs.declared.layout.TheConstants.{STATE, COUNT}
use Rattle.eh_cxa.proofs.Pools.{slot_small, slot_block, put_is_map, open_word}
use Rattle.eh_phase.specs.declared.phase1.Barrier.{Barrier}
use Rattle.eh_phase.specs.declared.phase2.Entered.{Entered}
use Rattle.eh_phase.specs.declared.phase2.Entered.TheVariants as enters
use Rattle.eh_phase.specs.Phases.{phase2}
use Rattle.eh_phase.specs.Laws.{goal_of}
use Rattle.thumb_core.specs.declared.regs.TheConstants.{SP}
use Rattle.eh_gates.specs.declared.state.Turned.TheVariants.{Went, Ended}
use Rattle.eh_gates.specs.State.{State, Tables, Outcome, reg}
use Rattle.eh_gates.specs.CallGates.{begin_catch_outcome}
use Rattle.eh_gates.specs.Landing.{enter_landing, words_of}
use Rattle.eh_gates.specs.Throwing.{frames_from, barrier_words, with_barrier, handler_object, handler_pointer, throw_to}
use Rattle.eh_gates.specs.Gates.{gate_of}
use Rattle.eh_gate_laws.specs.Pointers.{handler_address, PointersCanBeLoaded, ObjectsAreGiven, CatchesGive}

-- ---- words of one slot

put_other : (m : Memory) (slot k v j : ℕ) → k ≢ j → word (set_slot_word m slot k v) slot j ≡ word m slot j
unfolding word set_slot_word
put_other m slot k v j never = host_other m (POOL_START + SLOT_SIZE * slot + 4 * k) v (POOL_START + SLOT_SIZE * slot + 4 * j) (apart (nat_lt k j) refl)
  where
    apart : (b : Bool) → nat_lt k j ≡ b → Apart (POOL_START + SLOT_SIZE * slot + 4 * k) 4 (POOL_START + SLOT_SIZE * slot + 4 * j) 4
    apart true e = inl (let low = ltb-true k j e in omega arith)
    apart false e = inr (let low = ltb-false k j e in omega (arith, never))

put_same : (m : Memory) (slot k v : ℕ) → IsMap m → slot < 64 → k < 128 → v < 2 ^ 32 → word (set_slot_word m slot k v) slot k ≡ v
unfolding word set_slot_word
put_same m slot k v map inside place small = host_back m (POOL_START + SLOT_SIZE * slot + 4 * k) v map.segments (omega arith) (omega arith) small

released_word : (m : Memory) (a slot k : ℕ) → word (without_guards_below m a) slot k ≡ word m slot k
unfolding word
released_word m a slot k = refl

-- words 19 and 21 of a slot, the address that a handler is given and the pointer
record Holds (m : Memory) (slot object pointer : ℕ) : Type 0 where
  map : IsMap m
  at_19 : word m slot 19 ≡ object
  at_21 : word m slot 21 ≡ pointer

module _ (slot object pointer : ℕ) where
  put_holds : (m : Memory) (k v : ℕ) → k ≢ 19 → k ≢ 21 → Holds m slot object pointer → Holds (set_slot_word m slot k v) slot object pointer
  put_holds m k v a b h = record {
    map = put_is_map m slot k v h.map;
    at_19 = put_other m slot k v 19 a ∙ h.at_19;
    at_21 = put_other m slot k v 21 b ∙ h.at_21;
  }

  released_holds : (m : Memory) (a : ℕ) → Holds m slot object pointer → Holds (without_guards_below m a) slot object pointer
  released_holds m a h = record { map = released_is_map m a h.map; at_19 = released_word m a slot 19 ∙ h.at_19; at_21 = released_word m a slot 21 ∙ h.at_21 }

  begun : (m : Memory) (g : Globals) (block : ℕ) (w : CleanupWords) → Holds m slot object pointer → Holds (set_slot_words (cleanup_at g block w (Some slot)).writes m) slot object pointer
  begun m g block w h =
      put_holds _ 27 _ (λ e. absurd (omega arith)) (λ e. absurd (omega arith)) (
      put_holds _ 26 _ (λ e. absurd (omega arith)) (λ e. absurd (omega arith)) (
      put_holds _ 25 _ (λ e. absurd (omega arith)) (λ e. absurd (omega arith)) (
      put_holds m 24 w.next (λ e. absurd (omega arith)) (λ e. absurd (omega arith)) h)))

  lands_by : (b : Bool) (m : Memory) → Holds m slot object pointer → Holds (set_slot_words (land_by b slot) m) slot object pointer
  lands_by true m h = put_holds m 0 _ (λ e. absurd (omega arith)) (λ e. absurd (omega arith)) h
  lands_by false m h = h

  module _ (block : ℕ) (is : block_slot block ≡ Some slot) where
    begins : (m : Memory) (g : Globals) (w : CleanupWords) (sp : ℕ) → Holds m slot object pointer → Holds (without_guards_below (set_slot_words (cleanup_at g block w (block_slot block)).writes m) sp) slot object pointer
    begins m g w sp h =
        subst (λ (o : Option ℕ). Holds (without_guards_below (set_slot_words (cleanup_at g block w o).writes m) sp) slot object pointer) (sym is) (released_holds _ sp (begun m g block w h))

    lands : (m : Memory) (sp : ℕ) → Holds m slot object pointer → Holds (without_guards_below (set_slot_words (land_of (word m) (block_slot block)) m) sp) slot object pointer
    lands m sp h =
        subst (λ (o : Option ℕ). Holds (without_guards_below (set_slot_words (land_of (word m) o) m) sp) slot object pointer) (sym is)
        (released_holds _ sp (lands_by (is_flying (state_of_word (word m slot STATE))) m h))

    enters_hold : (u : State) (answer : ℕ) (e : Entered) → Holds u.memory slot object pointer → Holds (enter_landing u block answer e).1.memory slot object pointer
    enters_hold u answer (enters.Cleanup vrs pad next site) h = begins u.memory u.globals (words_of vrs.r next site) (slice_index vrs.r SP) h
    enters_hold u answer (enters.Catch vrs pad) h = lands u.memory (slice_index vrs.r SP) h
    enters_hold u answer (enters.Spec vrs pad) h = lands u.memory (slice_index vrs.r SP) h
    enters_hold u answer enters.Unexpected h = h
    enters_hold u answer (enters.Terminate why) h = h

    throw_holds : (g : Tables) (s : State) (site : ℕ) (b : Barrier) → Holds (with_barrier s block (barrier_words block b)).memory slot object pointer
        → Holds (throw_to g s site block b).1.memory slot object pointer
    unfolding throw_to
    throw_holds g s site b h =
        let u = with_barrier s block (barrier_words block b) in
        enters_hold u (handler_object block b.hit) (phase2 (goal_of b) 0 (frames_from g u None site)) h

-- ---- a barrier that is written

written : (m : Memory) (slot : ℕ) (w : BarrierWords) → IsMap m → slot < 64 → w.object < 2 ^ 32 → w.pointer < 2 ^ 32 → Holds (set_slot_words (set_barrier_of (Some slot) w) m) slot w.object w.pointer
written m slot w map inside object_small pointer_small =
    let one = set_slot_word m slot 18 w.sp in
    let two = set_slot_word one slot 19 w.object in
    let three = set_slot_word two slot 20 w.desc in
    let four = set_slot_word three slot 21 w.pointer in
    let map_one = put_is_map m slot 18 w.sp map in
    let map_two = put_is_map one slot 19 w.object map_one in
    let map_three = put_is_map two slot 20 w.desc map_two in
    let map_four = put_is_map three slot 21 w.pointer map_three in
    put_holds slot w.object w.pointer _ 23 0 (λ e. absurd (omega arith)) (λ e. absurd (omega arith)) (
    put_holds slot w.object w.pointer four 22 0 (λ e. absurd (omega arith)) (λ e. absurd (omega arith)) (record {
      map = map_four;
      at_19 = put_other three slot 21 w.pointer 19 (λ e. absurd (omega arith))
          ∙ (put_other two slot 20 w.desc 19 (λ e. absurd (omega arith)) ∙ put_same one slot 19 w.object map_one inside (omega arith) object_small);
      at_21 = put_same three slot 21 w.pointer map_three inside (omega arith) pointer_small;
    }))

module _ (g : Tables) (s : State) (site block slot : ℕ) (b : Barrier) (map : IsMap s.memory) (is : block_slot block ≡ Some slot) where
  after : handler_object block b.hit < 2 ^ 32 → handler_pointer b.hit < 2 ^ 32 → Holds (throw_to g s site block b).1.memory slot (handler_object block b.hit) (handler_pointer b.hit)
  after object_small pointer_small =
      throw_holds slot (handler_object block b.hit) (handler_pointer b.hit) block is g s site b
      (subst (λ (o : Option ℕ). Holds (set_slot_words (set_barrier_of o (barrier_words block b)) s.memory) slot (handler_object block b.hit) (handler_pointer b.hit)) (sym is)
      (written s.memory slot (barrier_words block b) map (slot_small block slot is) object_small pointer_small))

pub can_be_loaded : PointersCanBeLoaded
can_be_loaded g s site block slot b pointer map is hit small =
    let inside = slot_small block slot is in
    let to : handler_object block b.hit ≡ (block + 44) % 2 ^ 32 = ap (handler_object block) hit in
    let of : handler_pointer b.hit ≡ pointer = ap handler_pointer hit in
    let fits : handler_object block b.hit < 2 ^ 32 = omega (arith, to) in
    let fit : handler_pointer b.hit < 2 ^ 32 = omega (arith, of, small) in
    let h = after g s site block slot b map is fits fit in
    let where_it_is : block ≡ block_of slot = slot_block block slot is in
    let place : word (throw_to g s site block b).1.memory slot 19 ≡ block_of slot + 44 = omega (arith, h.at_19, to, where_it_is, inside) in
    ap (load 4 (throw_to g s site block b).1.memory) place
    ∙ (open_word (throw_to g s site block b).1.memory slot h.map inside ∙ ap (λ (x : ℕ). Ok x) (h.at_21 ∙ of))

pub are_given : ObjectsAreGiven
are_given g s site block slot b object map is hit small =
    let to : handler_object block b.hit ≡ object = ap (handler_object block) hit in
    let of : handler_pointer b.hit ≡ 0 = ap handler_pointer hit in
    (after g s site block slot b map is (omega (arith, to, small)) (omega (arith, of))).at_19 ∙ to

-- ---- gate 19

module _ (next : ℕ) (s : State) (slot : ℕ) (some : 0 < length s.regs.r) where
  abbrev GivesIn : Outcome → Type 0
  GivesIn (Went, t) = reg t 0 ≡ handler_address s slot
  GivesIn (Ended end, t) = Unit {0}

  abbrev Answers : Result ℕ CxaFault → Type 0
  Answers (Ok x) = x ≡ handler_address s slot
  Answers (Err why) = Unit {0}

  catch_gives : (r : Result ℕ CxaFault) (g : Globals) (m : Memory) → Answers r → GivesIn (begin_catch_outcome next s (r, g, m))
  catch_gives (Ok x) g m h = get_or-set_same s.regs.r 0 x 0 some ∙ h
  catch_gives (Err why) g m h = tt

  by_answers : (b : Bool) (g : Globals) (ucb : ℕ) → Answers (catch_by b (word s.memory) g ucb slot).answer
  by_answers true g ucb = refl
  by_answers false g ucb = refl

  at_answers : (o : Option CxaFault) (g : Globals) (ucb : ℕ) → Answers (catch_at (word s.memory) g ucb slot o).answer
  at_answers None g ucb = by_answers (word s.memory slot COUNT == 0) g ucb
  at_answers (Some why) g ucb = tt

  answers : block_slot (reg s 0) ≡ Some slot → Answers (begin_catch_of (word s.memory) s.globals (reg s 0)).answer
  answers is =
      subst (λ (o : Option ℕ). Answers (catch_in (word s.memory) s.globals (reg s 0) o).answer) (sym is)
      (at_answers (catch_fault (state_of_word (word s.memory slot STATE)) (word s.memory slot COUNT == 0) (s.globals.caught == reg s 0)) s.globals (reg s 0))

  at_gate : (g : Tables) → block_slot (reg s 0) ≡ Some slot → GivesIn (gate_of g 19 next s)
  unfolding gate_of
  at_gate g is =
      let d = begin_catch_of (word s.memory) s.globals (reg s 0) in
      catch_gives d.answer d.globals (set_slot_words d.writes s.memory) (answers is)

pub give : CatchesGive
give g next s t slot is some e = subst (λ (o : Outcome). GivesIn next s slot some o) e (at_gate next s slot some g is)
