-- What stands after an event of a thread.
use Rattle.std.proofs.Common.{◌≡◌, ℕ, ◌<◌, inl, inr, List, [], length, get_or, Option, Some, None, refl, sym, ap, subst, ◌∙◌, arith}
use Rattle.std.proofs.lemmas.Bool.{cases_eq}
use Rattle.std.proofs.lemmas.List.{map-set}
use Rattle.std.proofs.lemmas.Option.{same_Some}
use Rattle.eh_bus.specs.Guards.{insert_all, AreGuards}
use Rattle.eh_bus.specs.Memory.{Memory}
use Rattle.frame_check.specs.Accepts.{Accepted}
use Rattle.sim_machines.specs.Activations.{Recorded, memory_of, bytes_of}
use Rattle.sim_relation.specs.Stands.{Keeps}
use Rattle.thread_memory.specs.Homes.{home_of}
use Rattle.thread_memory.specs.declared.homes.TheConstants.{THREADS}
use Rattle.eh_threads.specs.declared.thread.Thread.{Thread}
use Rattle.eh_threads.specs.Threads.{put_thread}
use Rattle.eh_threads.specs.Elements.{Joint, switch_to, core_in, with_event}
use Rattle.eh_threads.specs.Tags.{tags_up_to}
use Rattle.thread_laws.specs.RecordedThreads.{RecordedThread, RecordedThreads, OwnedException, slots_beside, state_for, thread_from, with_state, bare_option, thread_in}
use Rattle.thread_laws.specs.Standing.{all_slots, memory_for, ThreadsStand}
use Rattle.thread_laws.specs.Leaving.{LeavesOthers}
use Rattle.thread_laws.proofs.Lying.{StateLaws, slots_lie}
use Rattle.thread_laws.proofs.Owning.{owner_after}
use Rattle.thread_laws.proofs.PoolStates.{is_home}
use Rattle.thread_laws.proofs.Switched.{owners_stand_in}
use Rattle.thread_laws.proofs.Turned.{none_started, now_numbered, now_own, now_other, now_moved, now_sized, now_states, now_is, now_guards, other_keeps}

module _ (laws : StateLaws) (x : Accepted) (w : Joint) (v : RecordedThreads) (r : ThreadsStand x w v) (k : ℕ) (t : RecordedThread) (started : thread_in v k ≡ Some t)
    (s : Recorded) (kept : Keeps x s) (leaves : LeavesOthers (state_for k t v) s) (home : s.home ≡ home_of k) (beyond : s.beyond ≡ slots_beside k 0 v.threads) (ended : Option ℕ) where
  abbrev now : RecordedThreads
  now = with_state k ended s v

  abbrev own : RecordedThread
  own = thread_from s ended

  small : k < THREADS
  small = let n = r.numbered in omega (arith, none_started v.threads k t started, n)

  is_own : thread_in now k ≡ Some own
  is_own = now_own laws x v k t started r.numbered r.sized r.map.segments r.keeps s kept leaves home beyond ended

  is_other : (j : ℕ) → (j ≡ k → ⊥) → thread_in now j ≡ thread_in v j
  is_other = now_other laws x v k t started r.numbered r.sized r.map.segments r.keeps s kept leaves home beyond ended

  guards_are : (memory_of s).guards ≡ insert_all (all_slots now.threads) []
  guards_are = now_guards laws x v k t started r.numbered r.sized r.map.segments r.keeps s kept leaves home beyond ended

  owned_after : (n : ℕ) (o : OwnedException) → get_or now.pool n None ≡ Some o → (u : RecordedThread) × (thread_in now o.owner ≡ Some u)
  owned_after n o e = elim (cases_eq o.owner k) [
    | inl mine ↦ (own, subst (λ (j : ℕ). thread_in now j ≡ Some own) (sym mine) is_own)
    | inr other ↦ elim (owner_after k s.entries v.pool n o e) [
      | inl before ↦ let u = r.owned n o before in (u.0, is_other o.owner other ∙ u.1)
      | inr mine ↦ absurd (other mine)
    ]
  ]

  keeps_after : (j : ℕ) (u : RecordedThread) → thread_in now j ≡ Some u → Keeps x (state_for j u now)
  keeps_after j u e = elim (cases_eq j k) [
    | inl mine ↦ subst (λ (i : ℕ). Keeps x (state_for i u now)) (sym mine)
        (subst (λ (y : RecordedThread). Keeps x (state_for k y now)) (same_Some own u (sym is_own ∙ subst (λ (i : ℕ). thread_in now i ≡ Some u) mine e))
        (subst (λ (y : Recorded). Keeps x y) (sym (now_is laws x v k t started r.numbered r.sized r.map.segments r.keeps s kept leaves home beyond ended)) kept))
    | inr other ↦ other_keeps laws x v k t started r.numbered r.sized r.map.segments r.keeps s kept leaves home beyond ended j u other (sym (is_other j other) ∙ e) (slots_lie x s kept)
  ]

  built : List ℕ → ℕ × ℕ → Memory
  built guards at = record { segments = s.segments; guards = guards; home = at }

  memory_after : memory_of s ≡ memory_for k now
  unfolding built
  memory_after = ap (λ (gs : List ℕ). built gs s.home) guards_are ∙ ap (λ (at : ℕ × ℕ). built (insert_all (all_slots now.threads) []) at) home

  pub stands_after : ThreadsStand x (with_event k (bytes_of s) (put_thread w.threads k (core_in (bytes_of s)) ended) (switch_to k w)) now
  stands_after = record {
    threads =
        ap (λ (ts : List (Option Thread)). put_thread ts k (core_in (bytes_of s)) ended) r.threads ∙ sym (map-set bare_option v.threads k (Some own));
    numbered = now_numbered laws x v k t started r.numbered r.sized r.map.segments r.keeps s kept leaves home beyond ended;
    events = refl;
    tags = ap (λ (tags : List ℕ). tags_up_to k (length s.events.kept) tags) r.tags;
    sized = now_sized laws x v k t started r.numbered r.sized r.map.segments r.keeps s kept leaves home beyond ended;
    entered = small;
    map = record { segments = kept.corresponds.map.segments; guards = subst AreGuards guards_are kept.corresponds.map.guards; home = is_home k small };
    image = kept.image;
    memory = memory_after;
    states = now_states laws x v k t started r.numbered r.sized r.map.segments r.keeps s kept leaves home beyond ended (memory_of s) refl;
    owners = owners_stand_in x w v r k now.pool (now_moved laws x v k t started r.numbered r.sized r.map.segments r.keeps s kept leaves home beyond ended);
    owned = owned_after;
    keeps = keeps_after;
  }
