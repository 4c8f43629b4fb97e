-- A new exception, and then a throw of that object, keep what stands for each other, with the lists changed as these calls say.
use Rattle.std.proofs.Common.{◌≡◌, ℕ, inl, inr, List, [], ◌∷◌, refl, sym, ap, subst, arith, ◌+◌, ◌^◌, ◌<◌, ◌==◌, nat_lt, Bool, true, false, cond, Option, Some, None, Result, Err}
use Rattle.eh_bus.specs.Lists.{Has}
use Rattle.eh_bus.specs.Segment.{Segment}
use Rattle.eh_bus.proofs.MapLaws.{map_trans}
use Rattle.eh_cxa.specs.Lists.{Lists, slots, Record, Entry, Free, OutOfUse, Live, entry}
use Rattle.eh_cxa.specs.Words.{Write, set_slot_words, Pool, Wrote, Done, word, object_slot}
use Rattle.eh_gates.specs.Resuming.{goal_in}
use Rattle.eh_phase.specs.declared.phase2.Goal.{Goal}
use Rattle.run_images.specs.Start.{image_start}
use Rattle.thumb_core.specs.declared.regs.TheConstants.{SP}
use Rattle.thumb_isa.specs.declared.instr.Instr.{Instr}
use Rattle.frame_check.specs.Accepts.{Accepted}
use Rattle.sim_machines.specs.Activations.{Recorded, reg_in, memory_of, with_lists, words_in, heads, lists_of, cleanups_in, InProgress}
use Rattle.sim_machines.specs.Corresponds.{Corresponds}
use Rattle.sim_machines.proofs.FirstEvent.{segments_alone}
use Rattle.eh_cxa.specs.declared.globals.Globals.{Globals}
use Rattle.eh_cxa.specs.declared.globals.CxaFault.{CxaFault}
use Rattle.eh_cxa.specs.declared.globals.CxaFault.TheVariants.{TooBig}
use Rattle.eh_cxa.specs.declared.layout.TheConstants.{SLOTS, STATE, TYPE, DESTRUCTOR, CLASS, OBJECT_BYTES}
use Rattle.eh_cxa.specs.declared.state.TheConstants.{FREE}
use Rattle.eh_cxa.specs.Allocate.{allocate_at, allocate_of}
use Rattle.eh_cxa.specs.ListCalls.{allocate_list, throw_by_list, throw_entry, throw_list}
use Rattle.eh_cxa.specs.States.{state_of_word, is_fresh}
use Rattle.eh_cxa.specs.Throw.{Throw, throw_by, start_throw_of}
use Rattle.eh_cxa.proofs.Meets.{allocate_meets, throw_meets}
use Rattle.eh_cxa.proofs.Pools.{object_small}
use Rattle.eh_cxa.proofs.ThrowLaws.{FitThrow}
use Rattle.eh_cxa.proofs.Zeros.{first_same}
use Rattle.eh_gates.specs.Laws.{AreHeads}
use Rattle.sim_machines.proofs.CallGates.{InStep, left}
use Rattle.sim_machines.proofs.WithLists.{allocate_keeps}
use Rattle.sim_machines.proofs.InStep.{same_slot, are_heads}
use Rattle.sim_relation.specs.Chain.{StandsAt, code}
use Rattle.sim_relation.specs.Cleanups.{goal_at, IsHeld, IsWithin, AreInProgress}
use Rattle.sim_relation.specs.Stands.{Keeps, IsCounted, DoesAt}
use Rattle.sim_relation.specs.Holds.{SameAt, AllSameAt}
use Rattle.sim_relation.proofs.Goes.{chain_top}
use Rattle.sim_relation.proofs.Moved.{SameWords, same_at, all_same_at, holds_moves, chain_lies, chain_moves, held_moves}
use Rattle.sim_relation.proofs.Tame.{AreTame, IsKeptByWrites, tame_keeps}
use Rattle.sim_steps.proofs.Gated.{low_write, allocate_tame}
use Rattle.sim_relation.proofs.CountedLists.{allocate_counts, throw_counts}
use Rattle.sim_changes.specs.Free.{KeepThrows}

-- ---- other lists, and tame writes

module _ (x : Accepted) (s : Recorded) (k : Keeps x s) (new : Lists) (ws : List Write) (tame : AreTame (slots (cleanups_in s.cleanups)) ws) (counted : IsCounted new) (c : Corresponds (with_lists new ws s)) where
  abbrev segments : List Segment
  segments = (set_slot_words ws (memory_of s)).segments

  abbrev u : Recorded
  u = with_lists new ws s

  kept : IsKeptByWrites (slots (cleanups_in s.cleanups)) (memory_of s) (record (memory_of s) { segments = segments })
  kept = subst (IsKeptByWrites (slots (cleanups_in s.cleanups)) (memory_of s)) (segments_alone ws (memory_of s)) (tame_keeps (slots (cleanups_in s.cleanups)) ws (memory_of s) k.corresponds.map tame)

  same_words : SameWords s.home s.segments segments
  same_words g low high = let home = k.corresponds.map.home in kept.loads g (omega (arith, home.low, low))

  inner_same : SameAt s.segments segments s.first
  inner_same =
      let top = chain_top x s.segments s.home s.first.caller s.outer k.chain in
      same_at s.home s.segments segments s.first same_words (λ g h. let w = k.slots g h in (omega (arith, w.0, k.low), omega (arith, w.1, top)))

  outer_same : AllSameAt s.segments segments s.outer
  outer_same = all_same_at s.home s.segments segments s.outer same_words (chain_lies x s.segments s.home s.first.caller s.outer (omega (arith, k.low, k.high)) k.chain)

  in_progress : (low : ℕ) (cleanups : List InProgress) → ((slot : ℕ) → Has (slots (cleanups_in cleanups)) slot → goal_at u slot ≡ goal_at s slot) → AreInProgress x s low cleanups → AreInProgress x u low cleanups
  in_progress low [] goals q = tt
  in_progress low (e ∷ later) goals q =
      let d = e.cleanup in
      let goal = goals d.slot (inl refl) in (
        q.0,
        subst (λ (g : Goal). IsHeld x segments g e.place d (s.first ∷ s.outer)) (sym goal) (held_moves s.home s.segments segments x (goal_at s d.slot) e.place d (s.first ∷ s.outer) (inner_same, outer_same) q.1),
        subst (λ (g : Goal). IsWithin g.sp (cleanups_in later)) (sym goal) q.2,
        in_progress d.sp later (λ slot h. goals slot (inr h)) q.3,
      )

  first_moves : StandsAt x s.first s.segments s.regs s.regs.pc → StandsAt x s.first segments s.regs s.regs.pc
  first_moves at = record {
    function = at.function;
    marks = at.marks;
    of = at.of;
    place = at.place;
    address = at.address;
    fact = at.fact;
    state = at.state;
    holds = holds_moves s.home s.segments segments (code x at.function at.marks).prologue at.fact s.first s.regs inner_same at.holds;
  }

  pub writes_do : (i : Instr) → DoesAt x s i → DoesAt x u i
  unfolding first_moves
  writes_do i does = record { reached = does.reached; at = first_moves does.at; size = does.size; stands = does.stands }

  pub writes_keep : Keeps x u
  writes_keep = record {
    corresponds = c;
    counted = counted;
    image = map_trans (image_start x.image).memory.segments s.segments segments k.image kept.map;
    sound = k.sound;
    low = k.low;
    high = k.high;
    whole = k.whole;
    slots = k.slots;
    first = λ reached. first_moves (k.first reached);
    beyond = k.beyond;
    chain = chain_moves s.home s.segments segments x s.first.caller s.outer outer_same k.chain;
    cleanups = in_progress (reg_in s SP) s.cleanups (λ slot has. ap goal_in (kept.barriers slot has)) k.cleanups;
  }

-- ---- a new exception

module _ (s : Recorded) (c : Corresponds s) where
  abbrev l : Lists
  l = lists_of s

  abbrev w : Pool
  w = word (memory_of s)

  same_allocate : (size : ℕ) → allocate_of (words_in l) size ≡ allocate_of w size
  same_allocate size =
      let e = first_same (λ t. words_in l t STATE == FREE) (λ t. w t STATE == FREE) (λ t h. (same_slot w (heads l) l c.stands t h).free) in
      ap (λ (o : Option ℕ). cond (nat_lt OBJECT_BYTES size) (record { answer = Err TooBig; writes = [] }) (allocate_at size o)) e

  abbrev allocated : ℕ → Recorded
  allocated size = with_lists (allocate_list l size).lists (allocate_of (words_in l) size).writes s

  abbrev allocation : ℕ → Done (Result ℕ CxaFault)
  allocation size = record { answer = (allocate_of w size).answer; globals = heads l; writes = (allocate_of w size).writes }

  pub allocate_in_step : (size : ℕ) → size < 2 ^ 32 → InStep s (allocation size) (allocate_of (words_in l) size).writes (allocate_list l size)
  allocate_in_step size small =
      let d = allocate_of w size in
      record {
        writes = ap (λ (v : Wrote (Result ℕ CxaFault)). v.writes) (same_allocate size);
        follows = allocate_meets (memory_of s) (set_slot_words d.writes (memory_of s)) d.answer size c.map small refl (heads l) l c.stands;
        tops = are_heads w (heads l) l c.stands;
        cleanups = allocate_keeps l size;
      }

  allocate_corresponds : (size : ℕ) → size < 2 ^ 32 → Corresponds (allocated size)
  allocate_corresponds size small = left s c (allocation size) (allocate_of (words_in l) size).writes (allocate_list l size) (allocate_in_step size small)

  -- ---- and a throw

  throw_keeps : (o : Option ℕ) (t : Throw) → (throw_list l o t).lists.cleanups ≡ l.cleanups
  throw_keeps None t = refl
  throw_keeps (Some slot) t = by_entry (entry l slot)
    where
      by : (r : Record) (b : Bool) → (throw_by_list b l slot r t).lists.cleanups ≡ l.cleanups
      by r true = refl
      by r false = refl

      by_entry : (e : Entry) → (throw_entry l slot e t).lists.cleanups ≡ l.cleanups
      by_entry Free = refl
      by_entry OutOfUse = refl
      by_entry (Live r) = by r (is_fresh (Some r.state))

  throw_tame : (v : Pool) (g : Globals) (o : Option ℕ) (t : Throw) → ((slot : ℕ) → o ≡ Some slot → slot < SLOTS) → AreTame (slots l.cleanups) (start_throw_of v g o t).writes
  throw_tame v g None t small = tt
  throw_tame v g (Some slot) t small = by (is_fresh (state_of_word (v slot STATE)))
    where
      h : slot < SLOTS
      h = small slot refl

      by : (b : Bool) → AreTame (slots l.cleanups) (throw_by b g slot t).writes
      by true = (
        low_write (slots l.cleanups) slot TYPE _ h (omega arith),
        (
          low_write (slots l.cleanups) slot DESTRUCTOR _ h (omega arith),
          (
            low_write (slots l.cleanups) slot CLASS _ h (omega arith),
            (low_write (slots l.cleanups) slot (CLASS + 1) _ h (omega arith), (low_write (slots l.cleanups) slot STATE _ h (omega arith), tt)),
          ),
        ),
      )
      by false = tt

  throw_writes : (o : Option ℕ) (t : Throw) → ((slot : ℕ) → o ≡ Some slot → slot < SLOTS) → (start_throw_of (words_in l) (heads l) o t).writes ≡ (start_throw_of w (heads l) o t).writes
  throw_writes None t small = refl
  throw_writes (Some slot) t small = ap (λ n. (throw_by (is_fresh n) (heads l) slot t).writes) (same_slot w (heads l) l c.stands slot (small slot refl)).state

  throw_tops : (o : Option ℕ) (t : Throw) → AreHeads (start_throw_of w (heads l) o t).globals
  throw_tops None t = are_heads w (heads l) l c.stands
  throw_tops (Some slot) t = by (is_fresh (state_of_word (w slot STATE)))
    where
      tops : AreHeads (heads l)
      tops = are_heads w (heads l) l c.stands

      by : (b : Bool) → AreHeads (throw_by b (heads l) slot t).globals
      by true = record { caught = tops.caught; cleanup = tops.cleanup }
      by false = tops

  abbrev thrown : ℕ → Throw → Recorded
  thrown object t = with_lists (throw_list l (object_slot object) t).lists (start_throw_of (words_in l) (heads l) (object_slot object) t).writes s

  pub throw_in_step : (object : ℕ) (t : Throw) → FitThrow t
      → InStep s (start_throw_of w (heads l) (object_slot object) t) (start_throw_of (words_in l) (heads l) (object_slot object) t).writes (throw_list l (object_slot object) t)
  throw_in_step object t fit =
      let d = start_throw_of w (heads l) (object_slot object) t in
      record {
        writes = throw_writes (object_slot object) t (λ slot e. object_small object slot e);
        follows = throw_meets (memory_of s) (set_slot_words d.writes (memory_of s)) (heads l) d.globals d.answer object t c.map fit refl l c.stands;
        tops = throw_tops (object_slot object) t;
        cleanups = throw_keeps (object_slot object) t;
      }

  throw_corresponds : (object : ℕ) (t : Throw) → FitThrow t → Corresponds (thrown object t)
  throw_corresponds object t fit =
      left s c (start_throw_of w (heads l) (object_slot object) t) (start_throw_of (words_in l) (heads l) (object_slot object) t).writes (throw_list l (object_slot object) t) (throw_in_step object t fit)

-- ---- both

pub allocate_keeps_all : (x : Accepted) (s : Recorded) (size : ℕ) → Keeps x s → size < 2 ^ 32 → Keeps x (with_lists (allocate_list (lists_of s) size).lists (allocate_of (words_in (lists_of s)) size).writes s)
allocate_keeps_all x s size k small =
    writes_keep x s k (allocate_list (lists_of s) size).lists (allocate_of (words_in (lists_of s)) size).writes (allocate_tame s k.corresponds size) (allocate_counts (lists_of s) k.counted size) (allocate_corresponds s k.corresponds size small)

pub throw_keeps_all : (x : Accepted) (s : Recorded) (object : ℕ) (t : Throw) → Keeps x s → FitThrow t
    → Keeps x (with_lists (throw_list (lists_of s) (object_slot object) t).lists (start_throw_of (words_in (lists_of s)) (heads (lists_of s)) (object_slot object) t).writes s)
throw_keeps_all x s object t k fit =
    writes_keep x s k (throw_list (lists_of s) (object_slot object) t).lists (start_throw_of (words_in (lists_of s)) (heads (lists_of s)) (object_slot object) t).writes
    (throw_tame s k.corresponds (words_in (lists_of s)) (heads (lists_of s)) (object_slot object) t (λ slot e. object_small object slot e)) (throw_counts (lists_of s) k.counted (object_slot object) t) (throw_corresponds s k.corresponds object t fit)

-- and the first activation stands at its instruction as before

pub allocate_does : (x : Accepted) (s : Recorded) (size : ℕ) (k : Keeps x s) → size < 2 ^ 32 → (i : Instr) → DoesAt x s i
    → DoesAt x (with_lists (allocate_list (lists_of s) size).lists (allocate_of (words_in (lists_of s)) size).writes s) i
allocate_does x s size k small =
    writes_do x s k (allocate_list (lists_of s) size).lists (allocate_of (words_in (lists_of s)) size).writes (allocate_tame s k.corresponds size) (allocate_counts (lists_of s) k.counted size) (allocate_corresponds s k.corresponds size small)

pub throw_does : (x : Accepted) (s : Recorded) (object : ℕ) (t : Throw) (k : Keeps x s) → FitThrow t → (i : Instr) → DoesAt x s i
    → DoesAt x (with_lists (throw_list (lists_of s) (object_slot object) t).lists (start_throw_of (words_in (lists_of s)) (heads (lists_of s)) (object_slot object) t).writes s) i
throw_does x s object t k fit =
    writes_do x s k (throw_list (lists_of s) (object_slot object) t).lists (start_throw_of (words_in (lists_of s)) (heads (lists_of s)) (object_slot object) t).writes
    (throw_tame s k.corresponds (words_in (lists_of s)) (heads (lists_of s)) (object_slot object) t (λ slot e. object_small object slot e)) (throw_counts (lists_of s) k.counted (object_slot object) t) (throw_corresponds s k.corresponds object t fit)

pub throws_kept : KeepThrows
throws_kept x s k = record {
  allocate = λ size small. allocate_keeps_all x s size k small;
  start_throw = λ object t ty destructor. throw_keeps_all x s object t k (record { ty = ty; destructor = destructor });
}
