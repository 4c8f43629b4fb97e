-- What a gate that walks no frames leaves: other values in r0 and r1, other lists with the same cleanups, and words in the pool that are no
-- barriers of these.
use Rattle.std.proofs.Common.{◌≡◌, ℕ, ◌≤◌, List, slice_index, true, ◌%◌, ◌^◌, ◌<◌, inl, inr, length, set, sym, subst, ◌∙◌, arith, ◌==◌, nat_lt, Bool, false, cond, [], ◌∷◌, Option, Some, None, Ok, Err, Result, ℤ, refl, ap}
use Rattle.std.proofs.lemmas.Bool.{cases_eq}
use Rattle.std.proofs.lemmas.List.{get_or-set_same, get_or-set_other, length-set}
use Rattle.std.proofs.lemmas.Option.{same_Some, none-some}
use Rattle.eh_cxa.specs.Lists.{Lists, slots, Record, Entry, Free, OutOfUse, Live, entry, state_in}
use Rattle.eh_cxa.specs.Words.{Write, write, Pool, word}
use Rattle.thumb_core.specs.Laws.{AreWords}
use Rattle.thumb_core.specs.declared.regs.Regs.{Regs}
use Rattle.sim_machines.specs.Activations.{Recorded, memory_of, words_in, state_word, heads, lists_of, cleanups_in, with_lists}
use Rattle.eh_gates.specs.declared.state.Turned.TheVariants.{Went, Ended}
use Rattle.sim_machines.specs.Machine.{gate_goes_on}
use Rattle.thumb_core.specs.declared.regs.TheConstants.{SP}
use Rattle.eh_cxa.specs.declared.layout.TheConstants.{SLOTS, SLOT_WORDS, STATE, SIZE, COUNT, NEXT_CAUGHT, DESTRUCTOR, BARRIER_OBJECT, OBJECT_BYTES}
use Rattle.eh_bus.specs.Lists.{Has}
use Rattle.eh_cxa.specs.declared.globals.CxaFault.{CxaFault}
use Rattle.eh_cxa.specs.declared.globals.CxaFault.TheVariants.{TooBig}
use Rattle.eh_cxa.specs.declared.state.TheConstants.{FREE, FRESH, ENDED}
use Rattle.eh_cxa.specs.declared.state.State.TheVariants.{Flying}
use Rattle.eh_cxa.specs.Allocate.{first_slot, zeros, allocate_at, allocate_of, free_by, free_of}
use Rattle.eh_cxa.specs.Catch.{catch_fault, catch_by, catch_at, catch_in, Fall, stays, falls, ends, leaves, fall, end_catch_by, end_catch_at}
use Rattle.eh_cxa.specs.declared.globals.Globals.{Globals}
use Rattle.eh_cxa.specs.ListCalls.{is_free, allocate_in, allocate_list, catch_by_list, catch_entry, catch_list, end_by_list, end_entry, end_from, end_list, fall_of}
use Rattle.eh_cxa.specs.Stands.{Chain}
use Rattle.eh_cxa.specs.States.{state_of_word, may_be_freed}
use Rattle.eh_cxa.proofs.Looking.{Look, live, free, lost, look}
use Rattle.eh_cxa.proofs.Pools.{slot_small}
use Rattle.eh_cxa.proofs.Zeros.{first_passes}
use Rattle.sim_machines.specs.Corresponds.{Corresponds}
use Rattle.sim_machines.specs.ActivationMachine as acts
use Rattle.sim_relation.proofs.Tame.{AreTame, IsTame, tame_append, tame_zeros}

pub record After (s : Recorded) (next : ℕ) (t : Recorded) : Type 0 where
  pub regs : Regs
  pub lists : Lists
  pub writes : List Write
  pub is : t ≡ record (with_lists lists writes s) { regs = regs }
  pub tame : AreTame (slots (cleanups_in s.cleanups)) writes
  pub pc : regs.pc ≡ next
  pub words : AreWords 15 regs.r
  pub others : (j : ℕ) → 2 ≤ j → slice_index regs.r j ≡ slice_index s.regs.r j

-- an end leaves the state
abbrev pub Behaves : Recorded → ℕ → ℕ → acts.Outcome → Type 0
Behaves s number next (Went, t) = (gate_goes_on number ≡ true) × After s next t
Behaves s number next (Ended end, t) = t ≡ s

pub set_words : (r : List ℕ) (d v : ℕ) → d < 2 → v < 2 ^ 32 → AreWords 15 r → AreWords 15 (set r d v)
set_words r d v few small w = record {
  count = length-set r d v ∙ w.count;
  small = λ j. elim (cases_eq j d) [
    | inl e ↦ subst (λ n. slice_index (set r d v) n < 2 ^ 32) (sym e) (subst (λ n. n < 2 ^ 32) (sym (get_or-set_same r d v 0 (let l : d < length r = omega (arith, few, w.count) in l))) small)
    | inr other ↦ subst (λ n. n < 2 ^ 32) (sym (get_or-set_other r d j v 0 other)) (w.small j)
  ];
  aligned = subst (λ n. n % 4 ≡ 0) (sym (get_or-set_other r d SP v 0 (λ e. absurd (omega (arith, few, e))))) w.aligned;
}

pub set_others : (r : List ℕ) (d v j : ℕ) → d < 2 → 2 ≤ j → slice_index (set r d v) j ≡ slice_index r j
set_others r d v j few far = get_or-set_other r d j v 0 (λ e. absurd (omega (arith, few, far, e)))

-- ---- the writes of each call are beside the barriers of cleanups

pub low_write : (ss : List ℕ) (s k v : ℕ) → s < SLOTS → k < 18 → IsTame ss (write s k v)
low_write ss s k v h low = record { slot = h; place = omega (arith, low); beside = inl low }

module _ (s : Recorded) (c : Corresponds s) where
  abbrev l : Lists
  l = lists_of s

  abbrev ss : List ℕ
  ss = slots (cleanups_in s.cleanups)

  -- a cleanup's exception isn't free
  not_freed : (t : ℕ) → (words_in l t STATE == FREE) ≡ true → Has ss t → ⊥
  not_freed t e has = by_entry (entry l t) refl (c.stands.valid.flying t has)
    where
      by_entry : (d : Entry) → entry l t ≡ d → state_in d ≡ Some Flying → ⊥
      by_entry Free is f = absurd (none-some Flying f)
      by_entry OutOfUse is f = absurd (none-some Flying f)
      by_entry (Live r) is f =
          let word_is : words_in l t STATE ≡ state_word (Live (record r { state = Flying })) = ap state_word is ∙ flies r (same_Some r.state Flying f) in
          let clash : true ≡ false = sym e ∙ ap (λ n. n == FREE) word_is in cc
        where
          flies : (r : Record) → r.state ≡ Flying → state_word (Live r) ≡ state_word (Live (record r { state = Flying }))
          flies r q = ap (λ st. let d : Record = record r { state = st } in state_word (Live d)) q

  pub allocate_tame : (size : ℕ) → AreTame ss (allocate_of (words_in l) size).writes
  allocate_tame size = by_size (nat_lt OBJECT_BYTES size)
    where
      by_slot : (o : Option ℕ) → first_slot (λ t. words_in l t STATE == FREE) ≡ o → AreTame ss (allocate_at size o).writes
      by_slot None e = tt
      by_slot (Some t) e =
          let w = first_passes (λ u. words_in l u STATE == FREE) t e in
          tame_append ss (zeros t SLOT_WORDS) (write t SIZE size ∷ (write t STATE FRESH ∷ [])) (tame_zeros ss t SLOT_WORDS w.0 (omega arith) (not_freed t w.1))
          (low_write ss t SIZE size w.0 (omega arith), (low_write ss t STATE FRESH w.0 (omega arith), tt))

      by_size : (b : Bool) → AreTame ss (cond b (record { answer = Err TooBig; writes = [] }) (allocate_at size (first_slot (λ t. words_in l t STATE == FREE)))).writes
      by_size true = tt
      by_size false = by_slot (first_slot (λ t. words_in l t STATE == FREE)) refl

  pub free_tame : (w : Pool) (o : Option ℕ) → ((t : ℕ) → o ≡ Some t → t < SLOTS) → AreTame ss (free_of w o).writes
  free_tame w None small = tt
  free_tame w (Some t) small = by (may_be_freed (state_of_word (w t STATE)))
    where
      by : (b : Bool) → AreTame ss (free_by b t).writes
      by true = (low_write ss t STATE FREE (small t refl) (omega arith), tt)
      by false = tt

  pub catch_tame : (w : Pool) (g : Globals) (ucb : ℕ) (o : Option ℕ) → ((t : ℕ) → o ≡ Some t → t < SLOTS) → AreTame ss (catch_in w g ucb o).writes
  catch_tame w g ucb None small = tt
  catch_tame w g ucb (Some t) small = by_fault (catch_fault (state_of_word (w t STATE)) (w t COUNT == 0) (g.caught == ucb))
    where
      h : t < SLOTS
      h = small t refl

      by : (b : Bool) → AreTame ss (catch_by b w g ucb t).writes
      by true = (low_write ss t NEXT_CAUGHT _ h (omega arith), (low_write ss t COUNT _ h (omega arith), (low_write ss t STATE _ h (omega arith), tt)))
      by false = (low_write ss t COUNT _ h (omega arith), (low_write ss t STATE _ h (omega arith), tt))

      by_fault : (f : Option CxaFault) → AreTame ss (catch_at w g ucb t f).writes
      by_fault (Some why) = tt
      by_fault None = by (w t COUNT == 0)

  pub end_tame : (w : Pool) (g : Globals) (o : Option ℕ) → ((t : ℕ) → o ≡ Some t → t < SLOTS) → AreTame ss (end_catch_at w g o).writes
  end_tame w g None small = tt
  end_tame w g (Some t) small = by (fall (w t COUNT))
    where
      h : t < SLOTS
      h = small t refl

      by : (f : Fall ℕ) → AreTame ss (end_catch_by f w g t).writes
      by stays = tt
      by (falls n) = (low_write ss t COUNT n h (omega arith), tt)
      by ends = (low_write ss t COUNT 0 h (omega arith), (low_write ss t STATE ENDED h (omega arith), tt))
      by leaves = (low_write ss t COUNT 0 h (omega arith), tt)

  -- ---- what they answer is words

  abbrev pub small_answer : Result ℕ CxaFault → Type 0
  small_answer (Ok v) = v < 2 ^ 32
  small_answer (Err why) = Unit {0}

  abbrev pub small_pair : Result (ℕ × ℕ) CxaFault → Type 0
  small_pair (Ok v) = (v.0 < 2 ^ 32) × (v.1 < 2 ^ 32)
  small_pair (Err why) = Unit {0}

  pub allocate_small : (size : ℕ) → small_answer (allocate_list l size).answer
  allocate_small size = by_size (nat_lt OBJECT_BYTES size)
    where
      by_slot : (o : Option ℕ) → first_slot (λ t. is_free (entry l t)) ≡ o → small_answer (allocate_in l size o).answer
      by_slot None e = tt
      by_slot (Some t) e = let w = (first_passes (λ u. is_free (entry l u)) t e).0 in omega (arith, w)

      by_size : (b : Bool) → small_answer (cond b (record { answer = Err TooBig; lists = l }) (allocate_in l size (first_slot (λ t. is_free (entry l t))))).answer
      by_size true = tt
      by_size false = by_slot (first_slot (λ t. is_free (entry l t))) refl

  pub catch_small : (o : Option ℕ) → ((t : ℕ) → o ≡ Some t → t < SLOTS) → small_answer (catch_list (acts.handler_address s) l o).answer
  catch_small None small = tt
  catch_small (Some t) small = by_entry (entry l t)
    where
      by_fault : (r : Record) (f : Option CxaFault) → small_answer (catch_by_list (acts.handler_address s t) l t r f).answer
      by_fault r (Some why) = tt
      by_fault r None = c.stands.shows.small t BARRIER_OBJECT (small t refl) (omega arith)

      by_entry : (e : Entry) → small_answer (catch_entry (acts.handler_address s t) l t e).answer
      by_entry Free = tt
      by_entry OutOfUse = tt
      by_entry (Live r) = by_fault r _

  pub end_small : small_pair (end_list l).answer
  end_small = by_list l.caught c.stands.shows.caught
    where
      by_fall : (t : ℕ) (more : List ℕ) (r : Record) → t < SLOTS → r.destructor < 2 ^ 32 → (f : Fall ℤ) → small_pair (end_by_list l t more r f).answer
      by_fall t more r h d stays = (omega arith, omega arith)
      by_fall t more r h d (falls n) = (omega arith, omega arith)
      by_fall t more r h d ends = (omega (arith, h), d)
      by_fall t more r h d leaves = (omega arith, omega arith)

      by_look : (t : ℕ) (more : List ℕ) → t < SLOTS → Look (word (memory_of s)) l t → (e : Entry) → entry l t ≡ e → small_pair (end_entry l t more e).answer
      by_look t more h seen Free is = (omega arith, omega arith)
      by_look t more h seen OutOfUse is = (omega arith, omega arith)
      by_look t more h (free zero q) (Live r) is = let clash : Free ≡ Live r = sym q ∙ is in absurd cc
      by_look t more h (lost used none q) (Live r) is = let clash : OutOfUse ≡ Live r = sym q ∙ is in absurd cc
      by_look t more h (live st name q) (Live r) is =
          let same : r.destructor ≡ word (memory_of s) t DESTRUCTOR = destructor_is (sym is ∙ q) in
          by_fall t more r h (subst (λ n. n < 2 ^ 32) (sym same) (c.stands.shows.small t DESTRUCTOR h (omega arith))) (fall_of r.count)
        where
          of : Entry → ℕ
          of Free = 0
          of OutOfUse = 0
          of (Live d) = d.destructor

          destructor_is : {u : Entry} → Live r ≡ u → r.destructor ≡ of u
          destructor_is e = ap of e

      by_list : (xs : List ℕ) → Chain (λ t. word (memory_of s) t NEXT_CAUGHT) (heads l).caught xs → small_pair (end_from l xs).answer
      by_list [] k = tt
      by_list (t ∷ more) k =
          let h = slot_small (heads l).caught t k.0 in
          by_look t more h (look (word (memory_of s)) (heads l) l t c.stands.shows h) (entry l t) refl
