-- A thread that is started, over bytes and with recorded activations.
use Rattle.std.proofs.Common.{◌≡◌, ℕ, zero, suc, ◌+◌, ◌-◌, ◌%◌, ◌^◌, ◌<◌, inl, inr, ◌==◌, Bool, true, false, cond, List, [], ◌∷◌, length, get_or, set, slice_index, Option, Some, None, refl, sym, ap, subst, ◌∙◌, arith}
use Rattle.std.specs.Option.{option_or}
use Rattle.std.proofs.lemmas.Bool.{cases_eq, eqb-true}
use Rattle.std.proofs.lemmas.List.{get_or-set_same, get_or-set_other, length-map, length-set, map-set}
use Rattle.std.proofs.lemmas.Option.{same_Some}
use Rattle.run_events.specs.Runs.{Goes}
use Rattle.eh_bus.specs.Guards.{insert_all, AreGuards}
use Rattle.eh_bus.specs.Map.{IsMap}
use Rattle.eh_bus.specs.Memory.{Memory}
use Rattle.eh_cxa.specs.Lists.{OutOfUse, Live}
use Rattle.eh_cxa.specs.Words.{word}
use Rattle.eh_cxa.specs.declared.layout.TheConstants.{SLOTS, CLOSED_WORDS, STATE}
use Rattle.frame_check.specs.Accepts.{Accepted}
use Rattle.run_gates.specs.Gates.{r0}
use Rattle.run_images.specs.Start.{begins_function}
use Rattle.thumb_core.specs.Laws.{AreSound}
use Rattle.thumb_core.specs.declared.regs.Regs.{Regs}
use Rattle.thumb_core.specs.declared.ends.TrapKind.TheVariants as kind
use Rattle.thumb_core.specs.declared.ends.End.{End}
use Rattle.thumb_core.specs.declared.ends.End.TheVariants.{Trap}
use Rattle.sim_machines.specs.Activations.{Recorded, bytes_of, memory_of}
use Rattle.sim_machines.specs.Checked.{program_of}
use Rattle.sim_machines.specs.RecordedSlots.{AreOutside}
use Rattle.sim_relation.specs.Stands.{Keeps, IsProgram}
use Rattle.sim_runs.specs.Turned.{AreBytes}
use Rattle.sim_changes.specs.Free.{IsIdle}
use Rattle.thread_memory.specs.Homes.{home_of}
use Rattle.thread_memory.specs.declared.homes.TheConstants.{THREADS}
use Rattle.eh_threads.specs.declared.starting.TheConstants.{NO_THREAD, START_GATE}
use Rattle.eh_threads.specs.declared.thread.Thread.{Thread}
use Rattle.eh_threads.specs.Threads.{put_thread}
use Rattle.eh_threads.specs.Starting as bytes_starting
use Rattle.eh_threads.specs.Starting.{next_pc, new_regs, new_core, start_refusal, target_refusal, first_unstarted}
use Rattle.eh_threads.specs.Elements.{Joint, switch_to, core_in, with_event, by_outcome}
use Rattle.thread_laws.specs.RecordedThreads.{RecordedThread, RecordedThreads, OwnedException, entry_for, entries_for, slots_in, slots_beside, state_for, with_state, bare_option, bare_threads, new_recorded_thread, with_gate_answer, with_new, unless_refused, thread_in}
use Rattle.thread_laws.specs.Standing.{all_slots, memory_for, ThreadsStand}
use Rattle.thread_laws.proofs.AfterEvent.{stands_after}
use Rattle.thread_laws.proofs.Alike.{Same, StartsSame}
use Rattle.thread_laws.proofs.Asking.{asking_reached}
use Rattle.thread_laws.proofs.Fresh.{begun_keeps}
use Rattle.thread_laws.proofs.Gate.{asked, answered_keeps}
use Rattle.thread_laws.proofs.GuardedSlots.{all_same, beside_same, guards_beside}
use Rattle.thread_laws.proofs.Lying.{StateLaws}
use Rattle.thread_laws.proofs.PoolStates.{bare_memory, states_other}
use Rattle.thread_laws.proofs.Turned.{beside_outside}

-- ---- the first that was never started

pub record NeverStarted (threads : List (Option RecordedThread)) (number : ℕ) : Type 0 where
  pub inside : number < length threads
  pub none : get_or threads number None ≡ None

unstarted : (i : ℕ) (threads : List (Option RecordedThread)) (number : ℕ) → first_unstarted i (bare_threads threads) ≡ Some number → (j : ℕ) × ((number ≡ i + j) × NeverStarted threads j)
unstarted i [] number e = absurd (none_some number e)
  where
    none_some : (n : ℕ) → ◌≡◌ {A = Option ℕ} None (Some n) → ⊥
    none_some n e = cc
unstarted i (None ∷ more) number e = (0, (same i number e, record { inside = omega arith; none = refl }))
  where
    same : (i number : ℕ) → ◌≡◌ {A = Option ℕ} (Some i) (Some number) → number ≡ i + 0
    same i number e = let f : i ≡ number = cc in omega arith
unstarted i (Some t ∷ more) number e =
    let further = unstarted (suc i) more number e in
    let at : number ≡ suc i + further.0 = further.1.0 in
    let inside = further.1.1.inside in
    (suc further.0, (omega arith, record { inside = omega (arith, inside); none = further.1.1.none }))

never_started : (threads : List (Option RecordedThread)) (number : ℕ) → first_unstarted 0 (bare_threads threads) ≡ Some number → NeverStarted threads number
never_started threads number e =
    let w = unstarted 0 threads number e in
    subst (λ (j : ℕ). NeverStarted threads j) (let s : w.0 ≡ number = (let q = w.1.0 in omega arith) in s) w.1.1

-- ---- what was not refused

no_end : (end : End) → ◌≡◌ {A = Option End} (Some end) None → ⊥
no_end end e = cc

pub record NotRefused (x : Accepted) (regs : Regs) : Type 0 where
  pub next : begins_function x.image.functions (next_pc regs) ≡ false
  pub odd : (r0 regs % 2 == 0) ≡ false
  pub begins : begins_function x.image.functions (r0 regs - 1) ≡ true

not_refused : (x : Accepted) (regs : Regs) → start_refusal (program_of x) regs ≡ None → NotRefused x regs
not_refused x regs e = go (begins_function x.image.functions (next_pc regs)) refl (r0 regs % 2 == 0) refl (begins_function x.image.functions (r0 regs - 1)) refl e
  where
    go : (a : Bool) → begins_function x.image.functions (next_pc regs) ≡ a → (b : Bool) → (r0 regs % 2 == 0) ≡ b → (c : Bool) → begins_function x.image.functions (r0 regs - 1) ≡ c
        → option_or (cond a (Some (Trap kind.FellOff (next_pc regs) regs.pc)) None)
        (cond b (Some (Trap kind.EvenTarget (r0 regs) regs.pc)) (cond c None (Some (Trap kind.BadCallTarget (r0 regs - 1) regs.pc)))) ≡ None
        → NotRefused x regs
    go true p b q c r e = absurd (no_end _ e)
    go false p true q c r e = absurd (no_end _ e)
    go false p false q false r e = absurd (no_end _ e)
    go false p false q true r e = record { next = p; odd = q; begins = r }

-- ---- registers of a new thread

abbrev Each : (ℕ → Type 0) → List ℕ → Type 0
Each P [] = Unit {0}
Each P (x ∷ xs) = P x × Each P xs

each_small : (xs : List ℕ) → Each (λ (x : ℕ). x < 2 ^ 32) xs → (k : ℕ) → slice_index xs k < 2 ^ 32
each_small [] a k = omega arith
each_small (x ∷ xs) a zero = a.0
each_small (x ∷ xs) a (suc k) = each_small xs a.1 k

new_sound : (number target argument : ℕ) → number < THREADS → target < 2 ^ 32 → target % 2 ≡ 0 → argument < 2 ^ 32 → AreSound (new_regs number target argument).r (new_regs number target argument).pc
new_sound number target argument h small is_even word = record {
  words = record {
    count = refl;
    small = each_small (new_regs number target argument).r (
      word,
      (omega arith, (omega arith, (omega arith, (omega arith, (omega arith, (omega arith, (omega arith, (omega arith, (omega arith, (omega arith, (omega arith, (omega arith, (omega (arith, h), (omega arith, tt)))))))))))))),
    );
    aligned = omega (arith, h);
  };
  small = small;
  is_even = is_even;
}

-- ---- the gate

module _ (laws : StateLaws) (x : Accepted) (is : IsProgram x) (w : Joint) (v : RecordedThreads) (r : ThreadsStand x w v) (k : ℕ) (t : RecordedThread) (started : thread_in v k ≡ Some t) (input : List ℕ) (fits : AreBytes input) where
  abbrev old : Recorded
  old = state_for k t v

  kept : Keeps x old
  kept = r.keeps k t started

  none_some : (u : RecordedThread) → ◌≡◌ {A = Option RecordedThread} None (Some u) → ⊥
  none_some u e = cc

  module _ (free : NotRefused x old.regs) (after : (a : ℕ) → a < 2 ^ 32 → Keeps x (with_gate_answer a old)) where
    none_left : ThreadsStand x (with_event k (bytes_of (with_gate_answer NO_THREAD old)) (put_thread w.threads k (core_in (bytes_of (with_gate_answer NO_THREAD old))) None) (switch_to k w))
        (with_state k None (with_gate_answer NO_THREAD old) v)
    none_left =
        stands_after laws x w v r k t started (with_gate_answer NO_THREAD old) (after NO_THREAD (omega arith))
        (record { words = λ g h. refl; unused = λ n. ((λ e. e), (λ e. e)); closed = λ n i h l e. refl }) refl refl None

    module _ (number : ℕ) (unused : NeverStarted v.threads number) where
      abbrev regs : Regs
      regs = new_regs number (r0 old.regs - 1) (slice_index old.regs.r 1)

      abbrev new : Option RecordedThread
      new = Some (new_recorded_thread regs)

      abbrev v1 : RecordedThreads
      v1 = record v { threads = set v.threads number new }

      abbrev w1 : Joint
      w1 = record w { threads = put_thread w.threads number (new_core number (r0 old.regs - 1) (slice_index old.regs.r 1)) None }

      small : number < THREADS
      small = let inside = unused.inside in let n = r.numbered in omega (arith, inside, n)

      -- the new one has no slots
      beside : (j : ℕ) → slots_beside j 0 v1.threads ≡ slots_beside j 0 v.threads
      beside j = beside_same j 0 number v.threads new (sym (ap slots_in unused.none))

      all : all_slots v1.threads ≡ all_slots v.threads
      all = all_same number v.threads new (sym (ap slots_in unused.none))

      is_new : thread_in v1 number ≡ new
      is_new = get_or-set_same v.threads number new None unused.inside

      is_other : (j : ℕ) → (j ≡ number → ⊥) → thread_in v1 j ≡ thread_in v j
      is_other j d = get_or-set_other v.threads number j new None d

      apart : (j : ℕ) (u : RecordedThread) → thread_in v j ≡ Some u → j ≡ number → ⊥
      apart j u e q = none_some u (sym unused.none ∙ ap (λ (i : ℕ). thread_in v i) (sym q) ∙ e)

      none_owned : (n : ℕ) → IsIdle (entry_for number (get_or v.pool n None))
      none_owned n = by (get_or v.pool n None) refl
        where
          by : (o : Option OwnedException) → get_or v.pool n None ≡ o → IsIdle (entry_for number o)
          by None e = refl
          by (Some o) e = go (o.owner == number) refl
            where
              go : (b : Bool) → (o.owner == number) ≡ b → IsIdle (cond b (Live o.exception) OutOfUse)
              go true q = let u = r.owned n o e in absurd (apart o.owner u.0 u.1 (eqb-true o.owner number q))
              go false q = refl

      word_small : (n i : ℕ) → n < SLOTS → i < CLOSED_WORDS → (i ≡ STATE → ⊥) → word (bare_memory v.segments) n i < 2 ^ 32
      word_small n i h l d =
          subst (λ (a : ℕ). a < 2 ^ 32)
          (states_other (entries_for k v.pool) v.segments r.map.segments (length-map v.pool (entry_for k) ∙ r.sized) (memory_of old) refl n i h (omega (arith, l)) d)
          (kept.corresponds.stands.shows.small n i h l)

      target_even : (r0 old.regs - 1) % 2 ≡ 0
      target_even = let odd : (r0 old.regs % 2 ≡ 0 → ⊥) = (λ e. let f : (r0 old.regs % 2 == 0) ≡ true = ap (λ (n : ℕ). n == 0) e in let g = free.odd in cc) in omega (arith, odd)

      keeps_new : Keeps x (state_for number (new_recorded_thread regs) v1)
      keeps_new =
          begun_keeps laws.starts x is v1 number regs small r.sized r.map.segments r.image word_small none_owned
          (subst (λ (more : List ℕ). AreOutside (home_of number) more) (sym (beside number)) (beside_outside x v r.numbered r.keeps number small))
          (subst (λ (gs : List ℕ). AreGuards gs) (sym (ap (λ (more : List ℕ). insert_all more []) (beside number) ∙ guards_beside v.threads number unused.none)) r.map.guards)
          free.begins
          (new_sound number (r0 old.regs - 1) (slice_index old.regs.r 1) small (let s = kept.sound.words.small 0 in omega (arith, s)) target_even (kept.sound.words.small 1))
          refl refl

      keeps_after : (j : ℕ) (u : RecordedThread) → thread_in v1 j ≡ Some u → Keeps x (state_for j u v1)
      keeps_after j u e = elim (cases_eq j number) [
        | inl same ↦ subst (λ (i : ℕ). Keeps x (state_for i u v1)) (sym same)
            (subst (λ (y : RecordedThread). Keeps x (state_for number y v1)) (same_Some (new_recorded_thread regs) u (sym is_new ∙ subst (λ (i : ℕ). thread_in v1 i ≡ Some u) same e)) keeps_new)
        | inr other ↦ subst (λ (more : List ℕ). Keeps x (record (state_for j u v) { beyond = more })) (sym (beside j)) (r.keeps j u (sym (is_other j other) ∙ e))
      ]

      owned_after : (n : ℕ) (o : OwnedException) → get_or v.pool n None ≡ Some o → (u : RecordedThread) × (thread_in v1 o.owner ≡ Some u)
      owned_after n o e = let u = r.owned n o e in (u.0, is_other o.owner (apart o.owner u.0 u.1) ∙ u.1)

      built : List ℕ → Memory
      built gs = record { segments = v.segments; guards = gs; home = home_of w.entered }

      same_memory : memory_for w.entered v ≡ memory_for w.entered v1
      unfolding built
      same_memory = ap (λ (more : List ℕ). built (insert_all more [])) (sym all)

      begins : ThreadsStand x w1 v1
      begins = record {
        threads =
            ap (λ (ts : List (Option Thread)). put_thread ts number (new_core number (r0 old.regs - 1) (slice_index old.regs.r 1)) None) r.threads
            ∙ sym (map-set bare_option v.threads number new);
        numbered = length-set v.threads number new ∙ r.numbered;
        events = r.events;
        tags = r.tags;
        sized = r.sized;
        entered = r.entered;
        map = subst IsMap same_memory r.map;
        image = r.image;
        memory = r.memory ∙ same_memory;
        states = r.states;
        owners = r.owners;
        owned = owned_after;
        keeps = keeps_after;
      }

      started_first : ThreadsStand x (with_event k (bytes_of (with_gate_answer number old)) (put_thread w1.threads k (core_in (bytes_of (with_gate_answer number old))) None) (switch_to k w1))
          (with_state k None (with_gate_answer number old) v1)
      unfolding word
      started_first =
          stands_after laws x w1 v1 begins k t (is_other k (apart k t started) ∙ started) (with_gate_answer number old) (after number (omega (arith, small)))
          (record { words = λ g h. refl; unused = λ n. ((λ e. e), (λ e. e)); closed = λ n i h l e. refl }) refl (sym (beside k)) None

    by_first : (o : Option ℕ) → first_unstarted 0 (bare_threads v.threads) ≡ o
        → Same x (by_outcome k (bytes_of old) (switch_to k w)
        (bytes_starting.go_on_with_thread k (core_in (bytes_of old)) (bytes_starting.start_thread (r0 old.regs - 1) (slice_index old.regs.r 1) w.threads o)) input)
        (Goes (with_new o k old v) [] input)
    by_first None e = (none_left, refl, refl, fits)
    by_first (Some number) e = (started_first number (never_started v.threads number e), refl, refl, fits)

    gate_same : start_refusal (program_of x) old.regs ≡ None
        → Same x (by_outcome k (bytes_of old) (switch_to k w) (bytes_starting.start_gate (program_of x) k (core_in (bytes_of old)) w.threads) input)
        (unless_refused (start_refusal (program_of x) old.regs) k old v input)
    gate_same q =
        subst (λ (o : Option End). Same x (by_outcome k (bytes_of old) (switch_to k w) (bytes_starting.unless_refused o k (core_in (bytes_of old)) w.threads) input) (unless_refused o k old v input)) (sym q)
        (subst (λ (o : Option ℕ). Same x (by_outcome k (bytes_of old) (switch_to k w)
        (bytes_starting.go_on_with_thread k (core_in (bytes_of old)) (bytes_starting.start_thread (r0 old.regs - 1) (slice_index old.regs.r 1) w.threads o)) input)
        (Goes (with_new (first_unstarted 0 (bare_threads v.threads)) k old v) [] input))
        (sym (ap (λ (ts : List (Option Thread)). first_unstarted 0 ts) r.threads))
        (by_first (first_unstarted 0 (bare_threads v.threads)) refl))

pub starts_same : StateLaws → (x : Accepted) → IsProgram x → StartsSame x
starts_same laws x is w v k t kind value pc s input r started fits e asks q =
    let a = asked x (state_for k t v) s input kind value pc (r.keeps k t started) e asks in
    subst (λ (u : Recorded). start_refusal (program_of x) u.regs ≡ None
    → Same x (by_outcome k (bytes_of u) (switch_to k w) (bytes_starting.start_gate (program_of x) k (core_in (bytes_of u)) w.threads) input) (unless_refused (start_refusal (program_of x) u.regs) k u v input))
    (sym a.0)
    (λ q. let free = not_refused x (state_for k t v).regs q in
    gate_same laws x is w v r k t started input fits free
    (λ n small. answered_keeps x is (state_for k t v) (r.keeps k t started) START_GATE a.1.0 a.1.1 (asking_reached (program_of x) (state_for k t v) input kind value pc s e asks) laws.gates n small free.next) q)
    q
