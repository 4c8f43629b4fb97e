-- What a slot holds, by its words; and lists in which the entry of one slot is replaced.
use Rattle.std.proofs.Common.{◌≡◌, ℕ, ◌^◌, ◌<◌, Bool, true, false, ◌&&◌, ◌==◌, cond, List, [], ◌∷◌, set, ℤ, Option, Some, None, refl, sym, ap, ◌∙◌, arith, length-set, eq-eqb}
use Rattle.std.proofs.lemmas.Bool.Decides.{nat_tests}
use Rattle.eh_bus.specs.Lists.{Has}
use Rattle.eh_cxa.specs.declared.globals.Globals.{Globals}
use Rattle.eh_cxa.specs.declared.layout.TheConstants.{SLOTS, CLOSED_WORDS, STATE, SIZE, TYPE, DESTRUCTOR, COUNT, NEXT_CAUGHT, NEXT_CLEANUP}
use Rattle.std.specs.Int.{cast_signed}
use mir.Syntax.{w32}
use Rattle.eh_cxa.specs.declared.state.TheConstants.{FREE}
use Rattle.eh_cxa.specs.declared.state.State.{State}
use Rattle.eh_cxa.specs.declared.state.State.TheVariants.{Fresh, Flying, Landed, Caught, Ended}
use Rattle.eh_cxa.specs.States.{state_of_word, is_fresh, is_flying, is_landed, is_caught}
use Rattle.eh_cxa.specs.Words.{Pool, Write, with_word, with_all}
use Rattle.eh_cxa.specs.Lists.{Entry, Free, OutOfUse, Live, Lists, entry, slots}
use Rattle.eh_cxa.specs.ListCalls.{become}
use Rattle.eh_cxa.specs.Lists.{Record}
use Rattle.eh_cxa.specs.Stands.{record_of, live_at, entry_at, entry_of, cleanup_of, Chain, Shows}
use Rattle.eh_cxa.proofs.Pools.{AllFit}
use Rattle.eh_cxa.proofs.Chains.{chain_same}
use Rattle.eh_cxa.proofs.Showing.{AllAt, only_at, entries_after, frames_same}

pub self : (s : ℕ) → (s == s) ≡ true
self s = eq-eqb s s refl

-- ---- what a slot holds

pub data Look (w : Pool) (l : Lists) (s : ℕ) : Type 0 where
  live : (st : State) → state_of_word (w s STATE) ≡ Some st → entry l s ≡ Live (record_of st w s) → Look w l s
  free : w s STATE ≡ FREE → entry l s ≡ Free → Look w l s
  lost : (w s STATE == FREE) ≡ false → state_of_word (w s STATE) ≡ None → entry l s ≡ OutOfUse → Look w l s

pub look : (w : Pool) (g : Globals) (l : Lists) (s : ℕ) → Shows w g l → s < SLOTS → Look w l s
look w g l s x h = go (w s STATE == FREE) refl (state_of_word (w s STATE)) refl (x.entries s h)
  where
    go : (b : Bool) → (w s STATE == FREE) ≡ b → (o : Option State) → state_of_word (w s STATE) ≡ o → entry l s ≡ cond b Free (live_at o w s) → Look w l s
    go true p o q e = free (grind (arith, nat_tests)) e
    go false p (Some st) q e = live st q e
    go false p None q e = lost p q e

-- a word that names a state shows a record
pub shown : (n : ℕ) (st : State) (w : Pool) (s : ℕ) → state_of_word n ≡ Some st → entry_at n w s ≡ Live (record_of st w s)
shown n st w s e = go (n == FREE) refl
  where
    go : (b : Bool) → (n == FREE) ≡ b → cond b Free (live_at (state_of_word n) w s) ≡ Live (record_of st w s)
    go true q = let z : n ≡ FREE = grind (arith, nat_tests) in let f : Some st ≡ None = sym e ∙ ap state_of_word z in cc
    go false q = rw e refl

-- the record that a slot shows, word by word
pub showing : (u : Pool) (s : ℕ) (st : State) (size ty destructor c : ℕ)
    → state_of_word (u s STATE) ≡ Some st → u s SIZE ≡ size → u s TYPE ≡ ty → u s DESTRUCTOR ≡ destructor → u s COUNT ≡ c
    → Live (record { state = st; size = size; ty = ty; destructor = destructor; count = cast_signed w32 c }) ≡ entry_of u s
showing u s st size ty destructor c n a b d e = same ∙ sym (shown (u s STATE) st u s n)
  where
    same : Live (record { state = st; size = size; ty = ty; destructor = destructor; count = cast_signed w32 c }) ≡ Live (record_of st u s)
    same = rw (a, b, d, e) refl

-- a named state isn't free
pub not_free : (n : ℕ) (st : State) → state_of_word n ≡ Some st → (n == FREE) ≡ false
not_free n st e = go (n == FREE) refl
  where
    go : (b : Bool) → (n == FREE) ≡ b → b ≡ false
    go true q = let z : n ≡ FREE = grind (arith, nat_tests) in let f : Some st ≡ None = sym e ∙ ap state_of_word z in cc
    go false q = refl

-- what a call asks of a state

pub fresh_is : (st : State) → is_fresh (Some st) ≡ true → st ≡ Fresh
fresh_is Fresh e = refl
fresh_is Flying e = cc
fresh_is Landed e = cc
fresh_is Caught e = cc
fresh_is Ended e = cc

pub flying_is : (st : State) → is_flying (Some st) ≡ true → st ≡ Flying
flying_is Fresh e = cc
flying_is Flying e = refl
flying_is Landed e = cc
flying_is Caught e = cc
flying_is Ended e = cc

pub landed_is : (st : State) → is_landed (Some st) ≡ true → st ≡ Landed
landed_is Fresh e = cc
landed_is Flying e = cc
landed_is Landed e = refl
landed_is Caught e = cc
landed_is Ended e = cc

pub caught_is : (st : State) → is_caught (Some st) ≡ true → st ≡ Caught
caught_is Fresh e = cc
caught_is Flying e = cc
caught_is Landed e = cc
caught_is Caught e = refl
caught_is Ended e = cc

pub one_state : (a b : State) → Some a ≡ Some b → a ≡ b
one_state a b e = cc

pub one_count : (st : State) (r : Record) (y z : ℤ) → y ≡ z → Live (become st y r) ≡ Live (become st z r)
one_count st r y z e = ap (λ (n : ℤ). Live (become st n r)) e

-- ---- one slot is written, and its entry replaced

pub small_after : (xs : List Write) (w : Pool) → AllFit xs → ((s k : ℕ) → s < SLOTS → k < CLOSED_WORDS → w s k < 2 ^ 32)
    → (s k : ℕ) → s < SLOTS → k < CLOSED_WORDS → with_all xs w s k < 2 ^ 32
small_after [] w f a = a
small_after (x ∷ more) w f a = small_after more (with_word w x) f.1 (λ s k h i. one s k (k == x.place) (s == x.slot) (a s k h i))
  where
    one : (s k : ℕ) (b c : Bool) → w s k < 2 ^ 32 → cond (b && c) x.value (w s k) < 2 ^ 32
    one s k true true h = f.0.2
    one s k true false h = h
    one s k false c h = h

pub shows_set : (w : Pool) (xs : List Write) (g g' : Globals) (l : Lists) (s : ℕ) (e : Entry) (caught : List ℕ) (uncaught : ℕ)
    → Shows w g l → s < SLOTS → AllAt s xs → AllFit xs → e ≡ entry_of (with_all xs w) s
    → ((t : ℕ) → Has (slots l.cleanups) t → cleanup_of (with_all xs w) t ≡ cleanup_of w t)
    → ((t : ℕ) → Has (slots l.cleanups) t → with_all xs w t NEXT_CLEANUP ≡ w t NEXT_CLEANUP)
    → g'.cleanup ≡ g.cleanup → uncaught ≡ g'.uncaught → Chain (λ t. with_all xs w t NEXT_CAUGHT) g'.caught caught
    → Shows (with_all xs w) g' (record { entries = set l.entries s e; caught = caught; cleanups = l.cleanups; uncaught = uncaught })
shows_set w xs g g' l s e caught uncaught x h at fit is frame link same less chain = record {
  small = small_after xs w fit x.small;
  sized = length-set l.entries s e ∙ x.sized;
  entries = entries_after w (with_all xs w) l s e (only_at s xs w at) is x.sized x.entries;
  caught = chain;
  cleanups = rw same (chain_same (λ t. w t NEXT_CLEANUP) (λ t. with_all xs w t NEXT_CLEANUP) g.cleanup (slots l.cleanups) (λ t h p. link t p) x.cleanups);
  frames = frames_same w (with_all xs w) l.cleanups frame x.frames;
  uncaught = less;
}
