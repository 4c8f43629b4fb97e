-- Calls on exceptions, on the words of a state and on its lists.
use Rattle.std.proofs.Common.{◌≡◌, ℕ, ◌-◌, ◌^◌, ◌<◌, ◌≤◌, inl, inr, ◌==◌, nat_lt, Bool, true, false, List, [], ◌∷◌, Option, Some, None, pos, negsuc, refl, sym, ap, subst, ◌∙◌, arith}
use Rattle.std.specs.Prelude.{IsSome}
use Rattle.std.proofs.lemmas.Int.{ints}
use Rattle.std.proofs.lemmas.Bool.Decides.{nat_tests}
use Rattle.eh_cxa.specs.declared.globals.Globals.{Globals}
use Rattle.eh_cxa.specs.declared.globals.CxaFault.{CxaFault}
use Rattle.eh_cxa.specs.declared.layout.TheConstants.{SLOTS, STATE, COUNT, NEXT_CAUGHT, NEXT_CLEANUP}
use Rattle.eh_cxa.specs.declared.state.TheConstants.{FREE}
use Rattle.eh_cxa.specs.declared.state.State.{State}
use Rattle.eh_cxa.specs.declared.state.State.TheVariants.{Fresh, Flying, Landed, Caught, Ended}
use Rattle.eh_cxa.specs.Catch.{catch_fault, catch_by, catch_at, catch_in, Fall, stays, falls, ends, leaves, fall, end_catch_by, end_catch_at}
use Rattle.eh_cxa.specs.States.{code, state_of_word}
use Rattle.eh_cxa.specs.Words.{Pool, block, block_slot, chain_word, word_if_block}
use Rattle.eh_cxa.specs.Lists.{Entry, Live, Lists, entry, slots, count_in}
use Rattle.eh_cxa.specs.Stands.{record_of, Chain, Stands}
use Rattle.eh_cxa.proofs.Counts.{signed}
use Rattle.eh_cxa.proofs.Looking.{Look, live, free, lost, look}
use Rattle.eh_cxa.proofs.Pools.{slot_small, slot_block, slot_of_block_is}
use Rattle.eh_gates.specs.Laws.{IsHead, AreHeads}
use Rattle.sim_machines.specs.Activations.{state_word, count_word, words_in, head_of, heads}

-- ---- the words that lists have, beside those of a pool that stands for them

named_code : (st : State) → state_of_word (code st) ≡ Some st
named_code Fresh = refl
named_code Flying = refl
named_code Landed = refl
named_code Caught = refl
named_code Ended = refl

code_used : (st : State) → (code st == FREE) ≡ false
code_used Fresh = refl
code_used Flying = refl
code_used Landed = refl
code_used Caught = refl
code_used Ended = refl

-- a word that names a state isn't that of a free slot
named_used : (n : ℕ) (st : State) → state_of_word n ≡ Some st → (n == FREE) ≡ false
named_used n st e = go (n == FREE) refl
  where
    go : (b : Bool) → (n == FREE) ≡ b → b ≡ false
    go true q = let z : n ≡ FREE = grind (arith, nat_tests) in let f : Some st ≡ None = sym e ∙ ap state_of_word z in absurd (cc)
    go false q = refl

count_back : (c : ℕ) → c < 2 ^ 32 → count_word (signed c) ≡ c
count_back c h = go (nat_lt c (2 ^ 31)) refl
  where
    go : (b : Bool) → nat_lt c (2 ^ 31) ≡ b → count_word (signed c) ≡ c
    go true e =
        let low : signed c ≡ pos c = grind (arith, ints, nat_tests) in
        ap count_word low
    go false e =
        let high : signed c ≡ negsuc (2 ^ 32 - c - 1) = grind (arith, ints, nat_tests) in
        let above : 2 ^ 31 ≤ c = grind (arith, nat_tests) in
        ap count_word high ∙ omega arith

-- what the calls ask of a slot is the same of its words and of what the lists have there
pub record SameSlot (w : Pool) (l : Lists) (s : ℕ) : Type 0 where
  pub state : state_of_word (words_in l s STATE) ≡ state_of_word (w s STATE)
  pub free : (words_in l s STATE == FREE) ≡ (w s STATE == FREE)

module _ (w : Pool) (g : Globals) (l : Lists) (x : Stands w g l) where
  pub same_slot : (s : ℕ) → s < SLOTS → SameSlot w l s
  same_slot s h = go (look w g l s x.shows h)
    where
      go : Look w l s → SameSlot w l s
      go (live st name is) = record {
        state = ap (λ (e : Entry). state_of_word (state_word e)) is ∙ named_code st ∙ sym name;
        free = ap (λ (e : Entry). state_word e == FREE) is ∙ code_used st ∙ sym (named_used (w s STATE) st name);
      }
      go (free zero is) = record {
        state = ap (λ (e : Entry). state_of_word (state_word e)) is ∙ ap state_of_word (sym zero);
        free = ap (λ (e : Entry). state_word e == FREE) is ∙ ap (λ (n : ℕ). n == FREE) (sym zero);
      }
      go (lost used none is) = record {
        state = ap (λ (e : Entry). state_of_word (state_word e)) is ∙ sym none;
        free = ap (λ (e : Entry). state_word e == FREE) is ∙ sym used;
      }

  -- of a live exception the count too
  pub same_count : (s : ℕ) (st : State) → s < SLOTS → entry l s ≡ Live (record_of st w s) → words_in l s COUNT ≡ w s COUNT
  same_count s st h is = ap (λ (e : Entry). count_word (count_in e)) is ∙ count_back (w s COUNT) (x.shows.small s COUNT h (omega arith))

-- ---- heads

chain_is : (next : ℕ → ℕ) (h : ℕ) (xs : List ℕ) → Chain next h xs → IsHead h → h ≡ head_of xs
chain_is next h [] c (inl e) = e
chain_is next h [] c (inr s) = absurd (let f = rw c at s in cc)
chain_is next h (s ∷ more) c i = slot_block h s c.0

pub heads_are : (w : Pool) (g : Globals) (l : Lists) → Stands w g l → AreHeads g → g ≡ heads l
heads_are w g l x h =
    let one : ℕ → Globals = λ c. record g { caught = c } in
    let two : ℕ → Globals = λ c. record g { caught = head_of l.caught; cleanup = c } in
    let three : ℕ → Globals = λ u. record { caught = head_of l.caught; cleanup = head_of (slots l.cleanups); uncaught = u } in
    ap one (chain_is (λ t. w t NEXT_CAUGHT) g.caught l.caught x.shows.caught h.caught)
    ∙ ap two (chain_is (λ t. w t NEXT_CLEANUP) g.cleanup (slots l.cleanups) x.shows.cleanups h.cleanup)
    ∙ ap three (sym x.shows.uncaught)

head_is : (next : ℕ → ℕ) (h : ℕ) (xs : List ℕ) → Chain next h xs → IsHead (head_of xs)
head_is next h [] c = inl refl
head_is next h (s ∷ more) c =
    let e : block_slot (block s) ≡ Some s = slot_of_block_is s (slot_small h s c.0) in
    inr (rw e refl)

pub are_heads : (w : Pool) (g : Globals) (l : Lists) → Stands w g l → AreHeads (heads l)
are_heads w g l x = record {
  caught = head_is (λ t. w t NEXT_CAUGHT) g.caught l.caught x.shows.caught;
  cleanup = head_is (λ t. w t NEXT_CLEANUP) g.cleanup (slots l.cleanups) x.shows.cleanups;
}

-- ---- the heads that a catch and its end leave

block_head : (a s : ℕ) → block_slot a ≡ Some s → IsHead a
block_head a s e = inr (subst (λ (o : Option ℕ). IsSome o) (sym e) refl)

chained_head : (a : ℕ) → IsHead (chain_word a)
chained_head a = go (block_slot a) refl
  where
    go : (o : Option ℕ) → block_slot a ≡ o → IsHead (word_if_block a o)
    go None e = inl refl
    go (Some s) e = block_head a s e

pub catch_heads : (w : Pool) (g : Globals) (ucb : ℕ) (o : Option ℕ) → block_slot ucb ≡ o → AreHeads g → AreHeads (catch_in w g ucb o).globals
catch_heads w g ucb None e h = h
catch_heads w g ucb (Some s) e h = by_fault (catch_fault (state_of_word (w s STATE)) (w s COUNT == 0) (g.caught == ucb))
  where
    by_count : (b : Bool) → AreHeads (catch_by b w g ucb s).globals
    by_count true = record { caught = block_head ucb s e; cleanup = h.cleanup }
    by_count false = record { caught = h.caught; cleanup = h.cleanup }

    by_fault : (f : Option CxaFault) → AreHeads (catch_at w g ucb s f).globals
    by_fault (Some why) = h
    by_fault None = by_count (w s COUNT == 0)

pub end_heads : (w : Pool) (g : Globals) (o : Option ℕ) → AreHeads g → AreHeads (end_catch_at w g o).globals
end_heads w g None h = h
end_heads w g (Some s) h = by_fall (fall (w s COUNT))
  where
    by_fall : (f : Fall ℕ) → AreHeads (end_catch_by f w g s).globals
    by_fall stays = h
    by_fall (falls c) = h
    by_fall ends = record { caught = chained_head (w s NEXT_CAUGHT); cleanup = h.cleanup }
    by_fall leaves = record { caught = chained_head (w s NEXT_CAUGHT); cleanup = h.cleanup }
