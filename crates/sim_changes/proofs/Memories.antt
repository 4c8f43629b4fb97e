-- Over one thread's running stack: what stands for each other rests on the segments that may not be written, the words of slots
-- of activations, the closed words of the slots of exceptions, and of every other slot of the pool on whether it is free or out of use. All
-- other bytes may change, and a slot without an exception may become free or go out of use.
use Rattle.std.proofs.Common.{◌⊎◌, inl, inr, refl, sym, ◌≡◌, pos, ℕ, ◌<◌, List, [], ◌∷◌, ap, subst, ◌∙◌, arith}
use Rattle.std.proofs.lemmas.Option.{none-some}
use Rattle.eh_cxa.specs.Lists.{Entry, Free, OutOfUse, Live, count_in, Fits, Cleanup, Lists, entry, slots, state_in, Once, IsValid}
use Rattle.eh_bus.specs.Lists.{Has}
use Rattle.eh_bus.specs.Segment.{Segment}
use Rattle.eh_bus.proofs.MapLaws.{map_trans}
use Rattle.eh_cxa.specs.declared.layout.TheConstants.{SLOTS, STATE, SIZE, TYPE, DESTRUCTOR, COUNT, NEXT_CAUGHT, NEXT_CLEANUP, CLEANUP_NEXT, CLEANUP_SP, CLEANUP_SITE}
use Rattle.eh_cxa.specs.declared.state.State.TheVariants.{Flying}
use Rattle.eh_cxa.specs.Stands.{Chain, Frames, Shows, Stands, cleanup_of}
use Rattle.eh_cxa.specs.Words.{Pool, word}
use Rattle.eh_cxa.proofs.Chains.{chain_same, chain_small}
use Rattle.eh_cxa.proofs.Showing.{entry_same, frames_same}
use Rattle.eh_gates.specs.Resuming.{goal_in}
use Rattle.eh_phase.specs.declared.phase2.Goal.{Goal}
use Rattle.run_images.specs.Start.{image_start}
use Rattle.thumb_core.specs.declared.regs.TheConstants.{SP}
use Rattle.frame_check.specs.Accepts.{Accepted}
use Rattle.sim_machines.specs.Activations.{Recorded, reg_in, memory_of, heads, head_of, lists_of, InProgress, cleanups_in, with_exceptions}
use Rattle.sim_changes.specs.Free.{IsIdle, SameRecords, memory_over, SameParts, FreeMemory}
use Rattle.sim_relation.specs.Chain.{StandsAt, code}
use Rattle.sim_relation.specs.Cleanups.{goal_at, IsHeld, IsWithin, AreInProgress}
use Rattle.sim_relation.specs.Stands.{Keeps}
use Rattle.sim_relation.proofs.Moved.{holds_moves, chain_moves, held_moves}
use Rattle.sim_relation.proofs.Tame.{barrier_same}

pub idle_or : (e : Entry) → IsIdle e ⊎ (IsIdle e → ⊥)
idle_or Free = inl refl
idle_or OutOfUse = inl refl
idle_or (Live r) = inr (λ e. none-some r.state (sym e))

pub idle_count : (e : Entry) → IsIdle e → count_in e ≡ pos 0
idle_count Free e = refl
idle_count OutOfUse e = refl
idle_count (Live r) e = absurd (none-some r.state (sym e))

pub idle_fits : (e : Entry) → IsIdle e → Fits e
idle_fits Free e = tt
idle_fits OutOfUse e = tt
idle_fits (Live r) e = absurd (none-some r.state (sym e))

module _ (x : Accepted) (s : Recorded) (k : Keeps x s) (new : Lists) (segments : List Segment) (beyond : List ℕ) (rs : SameRecords (lists_of s) new) (ps : SameParts s new segments beyond) where
  abbrev l : Lists
  l = lists_of s

  abbrev w : Pool
  w = word (memory_of s)

  abbrev u : Pool
  u = word (memory_over s segments beyond)

  old : Shows w (heads l) l
  old = k.corresponds.stands.shows

  valid : IsValid l
  valid = k.corresponds.stands.valid

  live_caught : (t : ℕ) → Has l.caught t → IsIdle (entry l t) → ⊥
  live_caught t has e = (valid.counted t).0 has (idle_count (entry l t) e)

  live_cleanup : (t : ℕ) → Has (slots l.cleanups) t → IsIdle (entry l t) → ⊥
  live_cleanup t has e = none-some Flying (sym e ∙ valid.flying t has)

  cleanup_small : (t : ℕ) → Has (slots l.cleanups) t → t < SLOTS
  cleanup_small t has = chain_small (λ v. w v NEXT_CLEANUP) (heads l).cleanup (slots l.cleanups) t old.cleanups has

  live_same : (t : ℕ) → (IsIdle (entry l t) → ⊥) → entry new t ≡ entry l t
  live_same t live = elim (rs.entries t) [
    | inl e ↦ e
    | inr idle ↦ absurd (live idle.0)
  ]

  same_cleanup : (t : ℕ) → Has (slots l.cleanups) t → cleanup_of u t ≡ cleanup_of w t
  same_cleanup t has =
      let h = cleanup_small t has in
      let live = live_cleanup t has in
      made (u t CLEANUP_NEXT) (u t CLEANUP_SP) (u t CLEANUP_SITE) (w t CLEANUP_NEXT) (w t CLEANUP_SP) (w t CLEANUP_SITE)
      (ps.records t CLEANUP_NEXT h (omega arith) live) (ps.records t CLEANUP_SP h (omega arith) live) (ps.records t CLEANUP_SITE h (omega arith) live)
    where
      one : ℕ → ℕ → ℕ → Cleanup
      one a b c = record { slot = t; next = a; sp = b; site = c }

      made : (a b c a' b' c' : ℕ) → a ≡ a' → b ≡ b' → c ≡ c' → one a b c ≡ one a' b' c'
      made a b c a' b' c' p q r = ap (λ v. one v b c) p ∙ ap (λ v. one a' v c) q ∙ ap (λ v. one a' b' v) r

  shows : Shows u (heads new) new
  shows = record {
    small = ps.small;
    sized = rs.sized;
    entries = λ t h. elim (idle_or (entry l t)) [
      | inl idle ↦ ps.others t h idle
      | inr live ↦ live_same t live ∙ old.entries t h ∙ sym (entry_same w u t (ps.records t STATE h (omega arith) live) (ps.records t SIZE h (omega arith) live)
          (ps.records t TYPE h (omega arith) live) (ps.records t DESTRUCTOR h (omega arith) live) (ps.records t COUNT h (omega arith) live))
    ];
    caught = subst (λ (xs : List ℕ). Chain (λ t. u t NEXT_CAUGHT) (head_of xs) xs) (sym rs.caught)
        (chain_same (λ t. w t NEXT_CAUGHT) (λ t. u t NEXT_CAUGHT) (head_of l.caught) l.caught (λ t h has. ps.records t NEXT_CAUGHT h (omega arith) (live_caught t has)) old.caught);
    cleanups = subst (λ (cs : List Cleanup). Chain (λ t. u t NEXT_CLEANUP) (head_of (slots cs)) (slots cs)) (sym rs.cleanups)
        (chain_same (λ t. w t NEXT_CLEANUP) (λ t. u t NEXT_CLEANUP) (head_of (slots l.cleanups)) (slots l.cleanups) (λ t h has. ps.records t NEXT_CLEANUP h (omega arith) (live_cleanup t has)) old.cleanups);
    frames = subst (Frames u) (sym rs.cleanups) (frames_same w u l.cleanups same_cleanup old.frames);
    uncaught = refl;
  }

  same_count : (t : ℕ) → count_in (entry new t) ≡ count_in (entry l t)
  same_count t = elim (rs.entries t) [
    | inl e ↦ ap count_in e
    | inr idle ↦ idle_count (entry new t) idle.1 ∙ sym (idle_count (entry l t) idle.0)
  ]

  still_valid : IsValid new
  still_valid = record {
    caught_once = subst Once (sym rs.caught) valid.caught_once;
    cleanups_once = subst (λ (cs : List Cleanup). Once (slots cs)) (sym rs.cleanups) valid.cleanups_once;
    counted = λ t. (
      (λ has zero. (valid.counted t).0 (subst (λ (xs : List ℕ). Has xs t) rs.caught has) (sym (same_count t) ∙ zero)),
      (λ some. subst (λ (xs : List ℕ). Has xs t) (sym rs.caught) ((valid.counted t).1 (λ zero. some (same_count t ∙ zero)))),
    );
    fits = λ t. elim (rs.entries t) [
      | inl e ↦ subst Fits (sym e) (valid.fits t)
      | inr idle ↦ idle_fits (entry new t) idle.1
    ];
    flying = λ t has.
        let had = subst (λ (cs : List Cleanup). Has (slots cs) t) rs.cleanups has in
        ap state_in (live_same t (live_cleanup t had)) ∙ valid.flying t had;
  }

  abbrev v : Recorded
  v = record (with_exceptions new s) { segments = segments; beyond = beyond }

  lists_are : lists_of v ≡ new
  lists_are = ap (λ (cs : List Cleanup). record { entries = new.entries; caught = new.caught; cleanups = cs; uncaught = new.uncaught }) (sym rs.cleanups)

  same_goal : (slot : ℕ) → Has (slots l.cleanups) slot → goal_at v slot ≡ goal_at s slot
  same_goal slot has = ap goal_in (barrier_same w u slot (λ j low high. ps.records slot j (cleanup_small slot has) (omega (arith, high)) (live_cleanup slot has)))

  in_progress : (low : ℕ) (cleanups : List InProgress) → ((slot : ℕ) → Has (slots (cleanups_in cleanups)) slot → goal_at v slot ≡ goal_at s slot) → AreInProgress x s low cleanups → AreInProgress x v low cleanups
  in_progress low [] goals q = tt
  in_progress low (c ∷ later) goals q =
      let d = c.cleanup in
      let goal = goals d.slot (inl refl) in (
        q.0,
        subst (λ (g : Goal). IsHeld x segments g c.place d (s.first ∷ s.outer)) (sym goal) (held_moves s.home s.segments segments x (goal_at s d.slot) c.place d (s.first ∷ s.outer) ps.words q.1),
        subst (λ (g : Goal). IsWithin g.sp (cleanups_in later)) (sym goal) q.2,
        in_progress d.sp later (λ slot h. goals slot (inr h)) q.3,
      )

  first_moves : StandsAt x s.first s.segments s.regs s.regs.pc → StandsAt x s.first segments s.regs s.regs.pc
  first_moves at = record {
    function = at.function;
    marks = at.marks;
    of = at.of;
    place = at.place;
    address = at.address;
    fact = at.fact;
    state = at.state;
    holds = holds_moves s.home s.segments segments (code x at.function at.marks).prologue at.fact s.first s.regs ps.words.0 at.holds;
  }

  memory_keeps : Keeps x v
  memory_keeps = record {
    corresponds = record { map = ps.map; stands = subst (λ (ls : Lists). Stands (word (memory_of v)) (heads ls) ls) (sym lists_are) (record { shows = shows; valid = still_valid }) };
    counted = (let e = rs.uncaught in let h = k.counted in omega (arith, e, h));
    image = map_trans (image_start x.image).memory.segments s.segments segments k.image ps.image;
    sound = k.sound;
    low = k.low;
    high = k.high;
    whole = k.whole;
    slots = k.slots;
    first = λ reached. first_moves (k.first reached);
    beyond = ps.outside;
    chain = chain_moves s.home s.segments segments x s.first.caller s.outer ps.words.1 k.chain;
    cleanups = in_progress (reg_in s SP) s.cleanups same_goal k.cleanups;
  }

pub free_memory : (x : Accepted) (s : Recorded) (new : Lists) (segments : List Segment) (beyond : List ℕ) → Keeps x s → SameRecords (lists_of s) new → SameParts s new segments beyond
    → Keeps x (record (with_exceptions new s) { segments = segments; beyond = beyond })
free_memory x s new segments beyond k rs ps = memory_keeps x s k new segments beyond rs ps

pub memory : FreeMemory
memory = free_memory
