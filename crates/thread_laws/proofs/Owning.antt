-- Whose exception each slot holds, over bytes and with recorded activations.
use Rattle.std.proofs.Common.{◌≡◌, ℕ, zero, suc, ◌+◌, ◌<◌, ◌⊎◌, inl, inr, ◌==◌, not, Bool, true, false, cond, List, [], ◌∷◌, length, get_or, map, Option, Some, None, refl, sym, ap, subst, ◌∙◌, arith, eq-eqb}
use Rattle.std.proofs.lemmas.Bool.{eqb-true}
use Rattle.std.proofs.lemmas.Option.{same_Some}
use Rattle.eh_cxa.specs.Lists.{Entry, Free, OutOfUse, Live}
use Rattle.eh_cxa.specs.States.{code}
use Rattle.eh_cxa.specs.Words.{Pool}
use Rattle.eh_cxa.specs.declared.layout.TheConstants.{STATE}
use Rattle.eh_cxa.specs.declared.state.TheConstants.{FREE}
use Rattle.eh_cxa.specs.declared.state.State.{State}
use Rattle.eh_cxa.specs.declared.state.State.TheVariants.{Fresh, Flying, Landed, Caught, Ended}
use Rattle.sim_machines.specs.Activations.{state_word}
use Rattle.thread_memory.specs.Owners.{state_seen_by, holding_of, holding_after, holdings_after}
use Rattle.thread_memory.specs.declared.owners.Holding.{Holding}
use Rattle.thread_laws.specs.RecordedThreads.{OwnedException, entry_for, entries_for, owned_by_entry, pool_after}
use Rattle.thread_laws.specs.Standing.{holding, is_others, MovesSlot, AllMoved}

-- ---- one slot

same_is : (n : ℕ) → (n == n) ≡ true
same_is n = eq-eqb n n refl

not_false : (b : Bool) → not b ≡ false → b ≡ true
not_false true e = refl
not_false false e = absurd cc

not_true : (b : Bool) → not b ≡ true → b ≡ false
not_true true e = absurd cc
not_true false e = refl

code_used : (state : State) → (code state == FREE) ≡ false
code_used Fresh = refl
code_used Flying = refl
code_used Landed = refl
code_used Caught = refl
code_used Ended = refl

never : true ≡ false → ⊥
never e = cc

pub others_entry : (thread : ℕ) (o : Option OwnedException) → is_others thread o ≡ true → entry_for thread o ≡ OutOfUse
others_entry thread None e = absurd (never (sym e))
others_entry thread (Some o) e = ap (λ (b : Bool). cond b (Live o.exception) OutOfUse) (not_true (o.owner == thread) e)

pub own_entry : (thread : ℕ) (o : OwnedException) → is_others thread (Some o) ≡ false → entry_for thread (Some o) ≡ Live o.exception
own_entry thread o e = ap (λ (b : Bool). cond b (Live o.exception) OutOfUse) (not_false (o.owner == thread) e)

pub used_entry : (thread : ℕ) (o : Option OwnedException) → is_others thread o ≡ false → entry_for thread o ≡ OutOfUse → ⊥
used_entry thread None e q = cc
used_entry thread (Some o) e q = let f : Live o.exception ≡ OutOfUse = sym (own_entry thread o e) ∙ q in cc

-- ---- what a thread that ran is told to have made

holds : Option ℕ → ℕ → Holding
holds owner state = record { owner = owner; state = state }

others_held : (thread : ℕ) (o : Option OwnedException) → is_others thread o ≡ true → holding_after thread (state_word (entry_for thread o)) (holding o) ≡ holding o
others_held thread None e = absurd (never (sym e))
others_held thread (Some o) e = go (o.owner == thread) (not_true (o.owner == thread) e)
  where
    go : (b : Bool) → b ≡ false
        → cond (state_word (cond b (Live o.exception) OutOfUse) == cond (not b) (state_word OutOfUse) (code o.exception.state)) (holding (Some o)) (holding_of thread (state_word (cond b (Live o.exception) OutOfUse)))
        ≡ holding (Some o)
    go true e = absurd (never e)
    go false e = refl

-- a slot that isn't another thread's: it reads as it is
own_seen : (thread : ℕ) (o : Option OwnedException) → is_others thread o ≡ false → state_seen_by thread (holding o) ≡ (holding o).state
own_seen thread None e = refl
own_seen thread (Some o) e = ap (λ (b : Bool). cond b (state_word OutOfUse) (code o.exception.state)) e

unused_state : (state : State) → ◌≡◌ {A = ℕ} FREE (code state) → ⊥
unused_state state e = let f : (code state == FREE) ≡ true = ap (λ (n : ℕ). n == FREE) (sym e) ∙ refl in never (sym f ∙ code_used state)

owner_is : (thread : ℕ) (o : OwnedException) → is_others thread (Some o) ≡ false → o.owner ≡ thread
owner_is thread o e = eqb-true o.owner thread (not_false (o.owner == thread) e)

two_hold : (a b : Option ℕ) (s t : ℕ) → a ≡ b → s ≡ t → holds a s ≡ holds b t
unfolding holds
two_hold a b s t p q = ap (λ (c : Option ℕ). holds c s) p ∙ ap (λ (u : ℕ). holds b u) q

-- the same state is held by the same
same_held : (thread : ℕ) (old new : Option OwnedException) → is_others thread old ≡ false → is_others thread new ≡ false → (holding new).state ≡ (holding old).state → holding old ≡ holding new
unfolding holds
same_held thread None None p q e = refl
same_held thread None (Some n) p q e = absurd (unused_state n.exception.state (sym e))
same_held thread (Some o) None p q e = absurd (unused_state o.exception.state e)
same_held thread (Some o) (Some n) p q e =
    two_hold (Some o.owner) (Some n.owner) (code o.exception.state) (code n.exception.state)
    (ap (λ (k : ℕ). Some k) (owner_is thread o p ∙ sym (owner_is thread n q))) (sym e)

own_state : (thread : ℕ) (o : Option OwnedException) → is_others thread o ≡ false → state_word (entry_for thread o) ≡ (holding o).state
own_state thread None e = refl
own_state thread (Some o) e = ap state_word (own_entry thread o e)

made : (thread : ℕ) (o : Option OwnedException) → is_others thread o ≡ false → holding_of thread (holding o).state ≡ holding o
unfolding holds
made thread None e = refl
made thread (Some o) e =
    ap (λ (b : Bool). holds (cond b None (Some thread)) (code o.exception.state)) (code_used o.exception.state)
    ∙ ap (λ (k : ℕ). holds (Some k) (code o.exception.state)) (sym (owner_is thread o e))

moved_held : (thread : ℕ) (old new : Option OwnedException) → MovesSlot thread old new → holding_after thread (state_word (entry_for thread new)) (holding old) ≡ holding new
moved_held thread old new (inl m) = subst (λ (n : Option OwnedException). holding_after thread (state_word (entry_for thread n)) (holding old) ≡ holding n) (sym m.1) (others_held thread old m.0)
moved_held thread old new (inr m) =
    ap (λ (s : ℕ). holding_after thread s (holding old)) (own_state thread new m.1) ∙ go ((holding new).state == state_seen_by thread (holding old)) refl
  where
    go : (b : Bool) → ((holding new).state == state_seen_by thread (holding old)) ≡ b → cond b (holding old) (holding_of thread (holding new).state) ≡ holding new
    go true e = same_held thread old new m.0 m.1 (eqb-true _ _ e ∙ own_seen thread old m.0)
    go false e = made thread new m.1

-- ---- all slots

module _ (thread : ℕ) (w : Pool) where
  pub owners_are : (i : ℕ) (olds news : List (Option OwnedException)) → AllMoved thread olds news
      → ((j : ℕ) → j < length news → w (i + j) STATE ≡ state_word (entry_for thread (get_or news j None))) → holdings_after thread w i (map holding olds) ≡ map holding news
  owners_are i [] [] m h = refl
  owners_are i (o ∷ olds) (n ∷ news) m h =
      let z : i + 0 ≡ i = omega arith in
      let first : w i STATE ≡ state_word (entry_for thread n) = subst (λ (k : ℕ). w k STATE ≡ state_word (entry_for thread n)) z (h 0 (omega arith)) in
      joined (holding_after thread (w i STATE) (holding o)) (holding n) (holdings_after thread w (suc i) (map holding olds)) (map holding news)
      (ap (λ (s : ℕ). holding_after thread s (holding o)) first ∙ moved_held thread o n m.0)
      (owners_are (suc i) olds news m.1 (λ j l. let s : i + suc j ≡ suc i + j = omega arith in
      subst (λ (k : ℕ). w k STATE ≡ state_word (entry_for thread (get_or news j None))) s (h (suc j) (omega (arith, l)))))
    where
      joined : (a b : Holding) (as_ bs : List Holding) → a ≡ b → as_ ≡ bs → ◌≡◌ {A = List Holding} (a ∷ as_) (b ∷ bs)
      joined a b as_ bs p q = ap (λ (c : Holding). c ∷ as_) p ∙ ap (λ (cs : List Holding). b ∷ cs) q
  owners_are i [] (n ∷ news) m h = absurd m
  owners_are i (o ∷ olds) [] m h = absurd m

stays : (thread : ℕ) (o : Option OwnedException) → MovesSlot thread o o
stays thread o = go (is_others thread o) refl
  where
    go : (b : Bool) → is_others thread o ≡ b → MovesSlot thread o o
    go true e = inl (e, refl)
    go false e = inr (e, e)

pub all_stay : (thread : ℕ) (pool : List (Option OwnedException)) → AllMoved thread pool pool
all_stay thread [] = tt
all_stay thread (o ∷ more) = (stays thread o, all_stay thread more)

then_moved : (thread : ℕ) (a b c : Option OwnedException) → MovesSlot thread a b → MovesSlot thread b c → MovesSlot thread a c
then_moved thread a b c (inl p) (inl q) = inl (p.0, q.1 ∙ p.1)
then_moved thread a b c (inl p) (inr q) = absurd (never (sym (subst (λ (o : Option OwnedException). is_others thread o ≡ true) (sym p.1) p.0) ∙ q.0))
then_moved thread a b c (inr p) (inl q) = absurd (never (sym q.0 ∙ p.1))
then_moved thread a b c (inr p) (inr q) = inr (p.0, q.1)

pub then_all : (thread : ℕ) (as_ bs cs : List (Option OwnedException)) → AllMoved thread as_ bs → AllMoved thread bs cs → AllMoved thread as_ cs
then_all thread [] [] [] p q = tt
then_all thread (a ∷ as_) (b ∷ bs) (c ∷ cs) p q = (then_moved thread a b c p.0 q.0, then_all thread as_ bs cs p.1 q.1)
then_all thread [] [] (c ∷ cs) p q = absurd q
then_all thread [] (b ∷ bs) cs p q = absurd p
then_all thread (a ∷ as_) [] cs p q = absurd p
then_all thread (a ∷ as_) (b ∷ bs) [] p q = absurd q

-- ---- after an event of a thread

held_entry : (thread : ℕ) (e : Entry) (o : Option OwnedException) → (e ≡ OutOfUse → entry_for thread o ≡ OutOfUse) → entry_for thread (owned_by_entry thread e o) ≡ e
held_entry thread Free o h = refl
held_entry thread OutOfUse o h = h refl
held_entry thread (Live r) o h = ap (λ (b : Bool). cond b (Live r) OutOfUse) (same_is thread)

held_moved : (thread : ℕ) (e : Entry) (o : Option OwnedException) → (e ≡ OutOfUse → entry_for thread o ≡ OutOfUse) → (entry_for thread o ≡ OutOfUse → e ≡ OutOfUse) → MovesSlot thread o (owned_by_entry thread e o)
held_moved thread e o h back = go e (is_others thread o) refl h back
  where
    go : (e : Entry) (b : Bool) → is_others thread o ≡ b → (e ≡ OutOfUse → entry_for thread o ≡ OutOfUse) → (entry_for thread o ≡ OutOfUse → e ≡ OutOfUse) → MovesSlot thread o (owned_by_entry thread e o)
    go Free true is h back = absurd (let f : Free ≡ OutOfUse = back (others_entry thread o is) in cc)
    go Free false is h back = inr (is, refl)
    go OutOfUse true is h back = inl (is, refl)
    go OutOfUse false is h back = absurd (used_entry thread o is (h refl))
    go (Live r) true is h back = absurd (let f : Live r ≡ OutOfUse = back (others_entry thread o is) in cc)
    go (Live r) false is h back = inr (is, ap not (same_is thread))

-- the thread has the entries that its event left, and the others' exceptions are as they were
pub pool_entries : (thread : ℕ) (es : List Entry) (pool : List (Option OwnedException)) → length es ≡ length pool
    → ((n : ℕ) → n < length pool → get_or es n OutOfUse ≡ OutOfUse → entry_for thread (get_or pool n None) ≡ OutOfUse) → entries_for thread (pool_after thread es pool) ≡ es
pool_entries thread [] [] l h = refl
pool_entries thread [] (o ∷ more) l h = absurd (omega (arith, l))
pool_entries thread (e ∷ es) [] l h = absurd (omega (arith, l))
pool_entries thread (e ∷ es) (o ∷ more) l h =
    joined (entry_for thread (owned_by_entry thread e o)) e (entries_for thread (pool_after thread es more)) es (held_entry thread e o (h 0 (omega arith)))
    (pool_entries thread es more (omega (arith, l)) (λ n k q. h (suc n) (omega (arith, k)) q))
  where
    joined : (a b : Entry) (as_ bs : List Entry) → a ≡ b → as_ ≡ bs → ◌≡◌ {A = List Entry} (a ∷ as_) (b ∷ bs)
    joined a b as_ bs p q = ap (λ (c : Entry). c ∷ as_) p ∙ ap (λ (cs : List Entry). b ∷ cs) q

pub pool_moved : (thread : ℕ) (es : List Entry) (pool : List (Option OwnedException)) → length es ≡ length pool
    → ((n : ℕ) → n < length pool → get_or es n OutOfUse ≡ OutOfUse → entry_for thread (get_or pool n None) ≡ OutOfUse)
    → ((n : ℕ) → n < length pool → entry_for thread (get_or pool n None) ≡ OutOfUse → get_or es n OutOfUse ≡ OutOfUse) → AllMoved thread pool (pool_after thread es pool)
pool_moved thread [] [] l h back = tt
pool_moved thread [] (o ∷ more) l h back = absurd (omega (arith, l))
pool_moved thread (e ∷ es) [] l h back = absurd (omega (arith, l))
pool_moved thread (e ∷ es) (o ∷ more) l h back = (
  held_moved thread e o (h 0 (omega arith)) (back 0 (omega arith)),
  pool_moved thread es more (omega (arith, l)) (λ n k q. h (suc n) (omega (arith, k)) q) (λ n k q. back (suc n) (omega (arith, k)) q),
)

pub pool_length : (thread : ℕ) (es : List Entry) (pool : List (Option OwnedException)) → length es ≡ length pool → length (pool_after thread es pool) ≡ length pool
pool_length thread [] [] l = refl
pool_length thread [] (o ∷ more) l = absurd (omega (arith, l))
pool_length thread (e ∷ es) [] l = absurd (omega (arith, l))
pool_length thread (e ∷ es) (o ∷ more) l = let next = pool_length thread es more (omega (arith, l)) in omega (arith, next)

pub moved_at : (thread : ℕ) (olds news : List (Option OwnedException)) → AllMoved thread olds news → (n : ℕ) → MovesSlot thread (get_or olds n None) (get_or news n None)
moved_at thread [] [] m n = inr (refl, refl)
moved_at thread (o ∷ olds) (p ∷ news) m zero = m.0
moved_at thread (o ∷ olds) (p ∷ news) m (suc n) = moved_at thread olds news m.1 n
moved_at thread [] (p ∷ news) m n = absurd m
moved_at thread (o ∷ olds) [] m n = absurd m

-- what it holds is as it was, or the thread's
pub owner_after : (thread : ℕ) (es : List Entry) (pool : List (Option OwnedException)) (n : ℕ) (o : OwnedException) → get_or (pool_after thread es pool) n None ≡ Some o
    → (get_or pool n None ≡ Some o) ⊎ (o.owner ≡ thread)
owner_after thread [] pool n o e = absurd (none_some o e)
  where
    none_some : (o : OwnedException) → ◌≡◌ {A = Option OwnedException} None (Some o) → ⊥
    none_some o e = cc
owner_after thread (e ∷ es) [] n o q = absurd (none_some o q)
  where
    none_some : (o : OwnedException) → ◌≡◌ {A = Option OwnedException} None (Some o) → ⊥
    none_some o e = cc
owner_after thread (Free ∷ es) (old ∷ more) zero o q = absurd (none_some o q)
  where
    none_some : (o : OwnedException) → ◌≡◌ {A = Option OwnedException} None (Some o) → ⊥
    none_some o e = cc
owner_after thread (OutOfUse ∷ es) (old ∷ more) zero o q = inl q
owner_after thread (Live r ∷ es) (old ∷ more) zero o q = inr (owner o q)
  where
    owner : (o : OwnedException) → ◌≡◌ {A = Option OwnedException} (Some (record { owner = thread; exception = r })) (Some o) → o.owner ≡ thread
    owner o q = let same : record { owner = thread; exception = r } ≡ o = same_Some _ o q in ap (λ (p : OwnedException). p.owner) (sym same)
owner_after thread (e ∷ es) (old ∷ more) (suc n) o q = owner_after thread es more n o q
