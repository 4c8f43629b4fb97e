-- The slots of a state that is kept lie in its running stack, and small facts of maps, entries and words.
use Rattle.std.proofs.Common.{◌≡◌, ℕ, ◌+◌, ◌≤◌, inl, inr, ◌==◌, Bool, true, false, cond, List, [], ◌∷◌, Option, Some, None, refl, sym, ap, ◌∙◌, arith}
use Rattle.std.proofs.lemmas.Bool.{eqb-true}
use Rattle.std.proofs.lemmas.Option.{same_Some}
use Rattle.eh_bus.specs.Lists.{Has}
use Rattle.eh_bus.specs.Map.{SameSegment, SameMap}
use Rattle.eh_bus.specs.Memory.{load_number}
use Rattle.eh_bus.specs.Segment.{Segment}
use Rattle.eh_cxa.specs.Lists.{Entry, Free, OutOfUse, Live}
use Rattle.eh_cxa.specs.Stands.{entry_of, live_at}
use Rattle.eh_cxa.specs.States.{code, state_of_word}
use Rattle.eh_cxa.specs.Words.{Pool}
use Rattle.eh_cxa.specs.declared.layout.TheConstants.{STATE}
use Rattle.eh_cxa.specs.declared.state.TheConstants.{FREE, FRESH, FLYING, LANDED, CAUGHT, ENDED}
use Rattle.eh_cxa.specs.declared.state.State.{State}
use Rattle.eh_cxa.specs.declared.state.State.TheVariants.{Fresh, Flying, Landed, Caught, Ended}
use Rattle.frame_check.specs.Accepts.{Accepted}
use Rattle.sim_machines.specs.Activations.{Activation, Recorded, slots_of, state_word}
use Rattle.sim_relation.specs.Holds.{AllSameAt}
use Rattle.sim_relation.specs.Stands.{Keeps}
use Rattle.sim_relation.proofs.Goes.{chain_top}
use Rattle.sim_relation.proofs.Moved.{AllLieIn, chain_lies}
use Rattle.sim_changes.specs.Free.{IsIdle, FreeMemory, FreeStarts, FreeAfterGates}
use Rattle.thread_laws.proofs.GuardedSlots.{has_either, has_old, has_new}

-- the laws of one thread's states
pub record StateLaws : Type 0 where
  pub memory : FreeMemory
  pub starts : FreeStarts
  pub gates : FreeAfterGates

-- ---- slots

lie : (home : ℕ × ℕ) (acts : List Activation) → AllLieIn home acts → (g : ℕ) → Has (slots_of acts) g → (home.0 ≤ g) × (g + 4 ≤ home.1)
lie home [] l g h = absurd h
lie home (a ∷ more) l g h = elim (has_either a.slots (slots_of more) g h) [
  | inl k ↦ l.0 g k
  | inr k ↦ lie home more l.1 g k
]

pub slots_lie : (x : Accepted) (s : Recorded) → Keeps x s → (g : ℕ) → Has (slots_of (s.first ∷ s.outer)) g → (s.home.0 ≤ g) × (g + 4 ≤ s.home.1)
slots_lie x s k =
    let top = chain_top x s.segments s.home s.first.caller s.outer k.chain in
    lie s.home (s.first ∷ s.outer) (
      (λ g h. let w = k.slots g h in (omega (arith, w.0, k.low), omega (arith, w.1, top))),
      chain_lies x s.segments s.home s.first.caller s.outer (omega (arith, k.low, k.high)) k.chain,
    )

pub all_words_same : (old new : List Segment) (acts : List Activation) → ((g : ℕ) → Has (slots_of acts) g → load_number 4 new g ≡ load_number 4 old g) → AllSameAt old new acts
all_words_same old new [] h = tt
all_words_same old new (a ∷ more) h =
    ((λ g k. h g (has_new a.slots (slots_of more) g k)), all_words_same old new more (λ g k. h g (has_old a.slots (slots_of more) g k)))

-- ---- maps

both_segments : (a b c : Segment) → SameSegment a b → SameSegment a c → SameSegment b c
both_segments a b c p q = record {
  start = q.start ∙ sym p.start;
  size = q.size ∙ sym p.size;
  write = q.write ∙ sym p.write;
  exec = q.exec ∙ sym p.exec;
  fixed = λ e. let old = sym p.write ∙ e in q.fixed old ∙ sym (p.fixed old);
}

-- two that have the map of a third have the same
pub both_maps : (as_ bs cs : List Segment) → SameMap as_ bs → SameMap as_ cs → SameMap bs cs
both_maps [] [] [] p q = tt
both_maps (a ∷ as_) (b ∷ bs) (c ∷ cs) p q = (both_segments a b c p.0 q.0, both_maps as_ bs cs p.1 q.1)
both_maps [] (b ∷ bs) cs p q = absurd p
both_maps [] [] (c ∷ cs) p q = absurd q
both_maps (a ∷ as_) [] cs p q = absurd p
both_maps (a ∷ as_) (b ∷ bs) [] p q = absurd q

-- ---- entries and their words

some_state : (a b : State) → ◌≡◌ {A = Option State} (Some a) (Some b) → a ≡ b
some_state a b e = same_Some a b e

no_state : (b : State) → ◌≡◌ {A = Option State} None (Some b) → ⊥
no_state b e = cc

named_is : (n : ℕ) (state : State) → state_of_word n ≡ Some state → n ≡ code state
named_is n state e = go (n == FRESH) refl (n == FLYING) refl (n == LANDED) refl (n == CAUGHT) refl (n == ENDED) refl e
  where
    go : (a : Bool) → (n == FRESH) ≡ a → (b : Bool) → (n == FLYING) ≡ b → (c : Bool) → (n == LANDED) ≡ c → (d : Bool) → (n == CAUGHT) ≡ d → (f : Bool) → (n == ENDED) ≡ f
        → cond a (Some Fresh) (cond b (Some Flying) (cond c (Some Landed) (cond d (Some Caught) (cond f (Some Ended) None)))) ≡ Some state → n ≡ code state
    go true p b q c r d s f t e = eqb-true n FRESH p ∙ ap code (some_state Fresh state e)
    go false p true q c r d s f t e = eqb-true n FLYING q ∙ ap code (some_state Flying state e)
    go false p false q true r d s f t e = eqb-true n LANDED r ∙ ap code (some_state Landed state e)
    go false p false q false r true s f t e = eqb-true n CAUGHT s ∙ ap code (some_state Caught state e)
    go false p false q false r false s true t e = eqb-true n ENDED t ∙ ap code (some_state Ended state e)
    go false p false q false r false s false t e = absurd (no_state state e)

-- the state word of a slot that is in use
pub state_of_entry : (w : Pool) (n : ℕ) (e : Entry) → e ≡ entry_of w n → (e ≡ OutOfUse → ⊥) → w n STATE ≡ state_word e
state_of_entry w n e is used = go (w n STATE == FREE) refl (state_of_word (w n STATE)) refl is
  where
    go : (b : Bool) → (w n STATE == FREE) ≡ b → (o : Option State) → state_of_word (w n STATE) ≡ o → e ≡ cond b Free (live_at o w n) → w n STATE ≡ state_word e
    go true z o p q = eqb-true (w n STATE) FREE z ∙ sym (ap state_word q)
    go false z None p q = absurd (used q)
    go false z (Some state) p q = named_is (w n STATE) state p ∙ sym (ap state_word q)

-- an entry without an exception is what its state word shows
pub idle_shown : (w : Pool) (n : ℕ) (e : Entry) → IsIdle e → w n STATE ≡ state_word e → e ≡ entry_of w n
idle_shown w n Free idle is = sym (ap (λ (m : ℕ). cond (m == FREE) Free (live_at (state_of_word m) w n)) is)
idle_shown w n OutOfUse idle is = sym (ap (λ (m : ℕ). cond (m == FREE) Free (live_at (state_of_word m) w n)) is)
idle_shown w n (Live r) idle is = absurd (no_state r.state (sym idle))
