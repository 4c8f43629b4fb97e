-- What the states of slots read as, and that a switch makes them so.
use Rattle.std.proofs.Common.{◌≡◌, ℕ, zero, suc, ◌+◌, ◌^◌, ◌<◌, ◌≤◌, Bool, true, false, ◌==◌, cond, List, [], ◌∷◌, ◌++◌, length, get_or, Some, None, refl, sym, ◌∙◌, arith}
use Rattle.std.proofs.lemmas.Bool.{eqb-true, eq-eqb, ne_eqb}
use Rattle.eh_bus.specs.Memory.{Memory}
use Rattle.eh_cxa.proofs.Pools.{AllFit, Agrees, all_agree, slot_of_block_is}
use Rattle.eh_cxa.specs.Words.{Pool, write, word, with_word, with_all, set_slot_words}
use Rattle.eh_cxa.specs.declared.layout.TheConstants.{SLOTS, STATE}
use Rattle.eh_cxa.specs.declared.state.TheConstants.{FREE}
use Rattle.thread_memory.specs.Laws.{RunnersReadTheirOwn, UntouchedStay, FreedAreNobodys, MadeAreItsOwn, SwitchesShow, OthersAreShut, OwnersReadTheirOwn}
use Rattle.thread_memory.specs.Owners.{AreWords, is_others, state_seen_by, holding_of, changes_from, switch_thread}
use Rattle.thread_memory.specs.declared.owners.Holding.{Holding}
use Rattle.thread_memory.specs.declared.owners.TheConstants.{OUT_OF_USE}

same_is : (n : ℕ) → (n == n) ≡ true
same_is n = eq-eqb n n refl

pub law_of_owners : OwnersReadTheirOwn
law_of_owners thread state = rw (same_is thread) refl

pub law_of_runners : RunnersReadTheirOwn
law_of_runners thread state h = go (state == state_seen_by thread h) refl
  where
    made : (t : Bool) → (state == FREE) ≡ t → state_seen_by thread (record { owner = cond t None (Some thread); state = state }) ≡ state
    made true e = refl
    made false e = law_of_owners thread state

    go : (t : Bool) → (state == state_seen_by thread h) ≡ t → state_seen_by thread (cond t h (holding_of thread state)) ≡ state
    go true e = sym (eqb-true state (state_seen_by thread h) e)
    go false e = made (state == FREE) refl

pub law_of_untouched : UntouchedStay
law_of_untouched thread h = rw (same_is (state_seen_by thread h)) refl

pub law_of_freed : FreedAreNobodys
law_of_freed thread h n = rw (ne_eqb FREE (state_seen_by thread h) n) refl

pub law_of_made : MadeAreItsOwn
law_of_made thread state h n f = rw (ne_eqb state (state_seen_by thread h) n, ne_eqb state FREE f) refl

-- ---- the writes of a switch

module _ (old new : ℕ) where
  -- no write is of another place, nor of a slot before the first
  pub other_place : (i : ℕ) (owners : List Holding) (w : Pool) (s k : ℕ) → (k ≡ STATE → ⊥) → with_all (changes_from old new i owners) w s k ≡ w s k
  other_place i [] w s k n = refl
  other_place i (h ∷ more) w s k n = go (state_seen_by old h == state_seen_by new h) (λ w'. other_place (suc i) more w' s k n)
    where
      go : (t : Bool) → ((w' : Pool) → with_all (changes_from old new (suc i) more) w' s k ≡ w' s k)
          → with_all (cond t [] (write i STATE (state_seen_by new h) ∷ []) ++ changes_from old new (suc i) more) w s k ≡ w s k
      go true next = next w
      go false next = next (with_word w (write i STATE (state_seen_by new h))) ∙ rw (ne_eqb k STATE n) refl

  other_slot : (i : ℕ) (owners : List Holding) (w : Pool) (s : ℕ) → s < i → with_all (changes_from old new i owners) w s STATE ≡ w s STATE
  other_slot i [] w s l = refl
  other_slot i (h ∷ more) w s l = go (state_seen_by old h == state_seen_by new h) (λ w'. other_slot (suc i) more w' s (omega arith))
    where
      go : (t : Bool) → ((w' : Pool) → with_all (changes_from old new (suc i) more) w' s STATE ≡ w' s STATE)
          → with_all (cond t [] (write i STATE (state_seen_by new h) ∷ []) ++ changes_from old new (suc i) more) w s STATE ≡ w s STATE
      go true next = next w
      go false next = next (with_word w (write i STATE (state_seen_by new h))) ∙ rw (ne_eqb s i (λ e. absurd (omega arith))) refl

  -- each slot reads as it is to be seen
  pub shown : (i j : ℕ) (owners : List Holding) (w : Pool) (d : Holding) → j < length owners
      → w (i + j) STATE ≡ state_seen_by old (get_or owners j d) → with_all (changes_from old new i owners) w (i + j) STATE ≡ state_seen_by new (get_or owners j d)
  shown i j [] w d l e = absurd (omega arith)
  shown i zero (h ∷ more) w d l e = go (state_seen_by old h == state_seen_by new h) refl
    where
      at : i + zero ≡ i
      at = omega arith

      go : (t : Bool) → (state_seen_by old h == state_seen_by new h) ≡ t
          → with_all (cond t [] (write i STATE (state_seen_by new h) ∷ []) ++ changes_from old new (suc i) more) w (i + zero) STATE ≡ state_seen_by new h
      go true t = other_slot (suc i) more w (i + zero) (omega arith) ∙ e ∙ eqb-true _ _ t
      go false t = other_slot (suc i) more (with_word w (write i STATE (state_seen_by new h))) (i + zero) (omega arith) ∙ rw (at, same_is i) refl
  shown i (suc j) (h ∷ more) w d l e = go (state_seen_by old h == state_seen_by new h) (λ w' f. rw at (shown (suc i) j more w' d (omega arith) (rw at at f)))
    where
      at : i + suc j ≡ suc i + j
      at = omega arith

      go : (t : Bool)
          → ((w' : Pool) → w' (i + suc j) STATE ≡ state_seen_by old (get_or more j d) → with_all (changes_from old new (suc i) more) w' (i + suc j) STATE ≡ state_seen_by new (get_or more j d))
          → with_all (cond t [] (write i STATE (state_seen_by new h) ∷ []) ++ changes_from old new (suc i) more) w (i + suc j) STATE ≡ state_seen_by new (get_or more j d)
      go true next = next w e
      go false next = next (with_word w (write i STATE (state_seen_by new h))) (rw (ne_eqb (i + suc j) i (λ e. absurd (omega arith))) e)

  all_fit : (i : ℕ) (owners : List Holding) → i + length owners ≤ SLOTS → AreWords owners → AllFit (changes_from old new i owners)
  all_fit i [] l w = tt
  all_fit i (h ∷ more) l w = go (state_seen_by old h == state_seen_by new h) (all_fit (suc i) more (omega arith) (λ k d b. w (suc k) d (omega arith)))
    where
      small : (t : Bool) → h.state < 2 ^ 32 → cond t OUT_OF_USE h.state < 2 ^ 32
      small true b = omega arith
      small false b = b

      go : (t : Bool) → AllFit (changes_from old new (suc i) more)
          → AllFit (cond t [] (write i STATE (state_seen_by new h) ∷ []) ++ changes_from old new (suc i) more)
      go true next = next
      go false next = ((omega arith, omega arith, small (is_others new h.owner) (w 0 h (omega arith))), next)

home_apart : (m : Memory) (home : ℕ × ℕ) (s k : ℕ) → word (record m { home = home }) s k ≡ word m s k
unfolding word
home_apart m home s k = refl

pub law_of_switches : SwitchesShow
law_of_switches m old new owners x sized words before = record {
  states = λ s d h.
      home_apart (set_slot_words (changes_from old new 0 owners) m) (switch_thread old new owners m).home s STATE ∙ agrees s STATE h (omega arith)
      ∙ (let z : 0 + s ≡ s = omega arith in rw z at (shown old new 0 s owners (word m) d (omega (arith, sized)) (rw z (before s d h))));
  others = λ s k h l n.
      home_apart (set_slot_words (changes_from old new 0 owners) m) (switch_thread old new owners m).home s k ∙ agrees s k h l ∙ other_place old new 0 owners (word m) s k n;
}
  where
    agrees : Agrees (with_all (changes_from old new 0 owners) (word m)) (set_slot_words (changes_from old new 0 owners) m)
    agrees = all_agree (changes_from old new 0 owners) (word m) m x (all_fit old new 0 owners (omega (arith, sized)) words) (λ s k h l. refl)

pub law_of_shut : OthersAreShut
law_of_shut w thread s h l o e =
    let out : w s STATE ≡ OUT_OF_USE = e ∙ rw o refl in
    record {
      free = rw out refl;
      throw = λ g t. rw out refl;
      catch = λ g. rw (slot_of_block_is s l, out) refl;
      taken = λ f. absurd (let n : FREE ≡ OUT_OF_USE = sym f ∙ out in omega arith);
    }
