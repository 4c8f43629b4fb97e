-- What words show, when those of one slot are written.
use Rattle.std.proofs.Common.{◌≡◌, ◌≢◌, ℕ, ◌<◌, inl, inr, Bool, true, false, ◌&&◌, ◌==◌, cond, List, [], ◌∷◌, length, get_or, set, Option, Some, None, refl, sym, ◌∙◌, arith, get_or-set_same, get_or-set_other}
use Rattle.std.proofs.lemmas.Bool.Decides.{nat_tests}
use Rattle.eh_bus.specs.Lists.{Has}
use Rattle.eh_cxa.specs.declared.globals.Globals.{Globals}
use Rattle.eh_cxa.specs.Words.{Pool, Write, with_word, with_all}
use Rattle.eh_cxa.specs.Lists.{Entry, Free, OutOfUse, Cleanup, Lists, entry, slots}
use Rattle.eh_cxa.specs.Stands.{live_at, entry_of, cleanup_of, Frames, Shows}
use Rattle.eh_cxa.specs.States.{state_of_word}
use Rattle.eh_cxa.specs.declared.state.State.{State}
use Rattle.eh_cxa.specs.declared.state.TheConstants.{FREE}
use Rattle.eh_cxa.specs.declared.layout.TheConstants.{SLOTS, CLOSED_WORDS, STATE, SIZE, TYPE, DESTRUCTOR, COUNT, NEXT_CAUGHT, CLEANUP_NEXT, CLEANUP_SP, CLEANUP_SITE, NEXT_CLEANUP}
use Rattle.eh_cxa.proofs.Chains.{chain_same, chain_small}

-- u is w but for words of slot s
abbrev pub Only : ℕ → Pool → Pool → Type 0
Only s w u = (t : ℕ) → t ≢ s → (k : ℕ) → u t k ≡ w t k

abbrev pub AllAt : ℕ → List Write → Type 0
AllAt s [] = Unit {0}
AllAt s (x ∷ more) = (x.slot ≡ s) × AllAt s more

pub only_at : (s : ℕ) (xs : List Write) (w : Pool) → AllAt s xs → Only s w (with_all xs w)
only_at s [] w a t n k = refl
only_at s (x ∷ more) w a t n k = only_at s more (with_word w x) a.1 t n k ∙ one (k == x.place)
  where
    away : (t == x.slot) ≡ false
    away = let e = a.0 in grind (arith, nat_tests)

    one : (b : Bool) → cond (b && (t == x.slot)) x.value (w t k) ≡ w t k
    one true = rw away refl
    one false = refl

-- only the header's first five words show
pub entry_same : (w u : Pool) (t : ℕ) → u t STATE ≡ w t STATE → u t SIZE ≡ w t SIZE → u t TYPE ≡ w t TYPE → u t DESTRUCTOR ≡ w t DESTRUCTOR → u t COUNT ≡ w t COUNT
    → entry_of u t ≡ entry_of w t
entry_same w u t state size ty destructor count = rw state (by_cases (w t STATE == FREE) (state_of_word (w t STATE)))
  where
    by_cases : (b : Bool) (o : Option State) → cond b Free (live_at o u t) ≡ cond b Free (live_at o w t)
    by_cases true o = refl
    by_cases false None = refl
    by_cases false (Some st) = rw (size, ty, destructor, count) refl

-- the entry of the slot is replaced by what its words show
pub entries_after : (w u : Pool) (l : Lists) (s : ℕ) (e : Entry) → Only s w u → e ≡ entry_of u s → length l.entries ≡ SLOTS
    → ((t : ℕ) → t < SLOTS → entry l t ≡ entry_of w t) → (t : ℕ) → t < SLOTS → get_or (set l.entries s e) t OutOfUse ≡ entry_of u t
entries_after w u l s e o is z all t h = by_cases (t == s) refl
  where
    by_cases : (b : Bool) → (t == s) ≡ b → get_or (set l.entries s e) t OutOfUse ≡ entry_of u t
    by_cases true q =
        let f : t ≡ s = grind (arith, nat_tests) in
        let inside : s < length l.entries = omega arith in
        rw (f, get_or-set_same) is
    by_cases false q =
        let n : t ≢ s = grind (arith, nat_tests) in
        rw get_or-set_other (all t h ∙ sym (entry_same w u t (o t n STATE) (o t n SIZE) (o t n TYPE) (o t n DESTRUCTOR) (o t n COUNT)))

-- cleanups in progress of other slots stay as they were
pub frames_other : (s : ℕ) (w u : Pool) (cs : List Cleanup) → Only s w u → (Has (slots cs) s → ⊥) → Frames w cs → Frames u cs
frames_other s w u [] o n f = tt
frames_other s w u (c ∷ more) o n f =
    let ne : c.slot ≢ s = λ (e : c.slot ≡ s). n (inl e) in
    (rw (o c.slot ne CLEANUP_NEXT, o c.slot ne CLEANUP_SP, o c.slot ne CLEANUP_SITE) f.0, frames_other s w u more o (λ p. n (inr p)) f.1)

-- and also where the words of a cleanup aren't written
pub frames_same : (w u : Pool) (cs : List Cleanup) → ((t : ℕ) → Has (slots cs) t → cleanup_of u t ≡ cleanup_of w t) → Frames w cs → Frames u cs
frames_same w u [] o f = tt
frames_same w u (c ∷ more) o f = (f.0 ∙ sym (o c.slot (inl refl)), frames_same w u more (λ t p. o t (inr p)) f.1)

-- lists that words show are shown by words that agree
pub shows_same : (w u : Pool) (g : Globals) (l : Lists) → ((s k : ℕ) → s < SLOTS → k < CLOSED_WORDS → u s k ≡ w s k) → Shows w g l → Shows u g l
shows_same w u g l e x = record {
  small = λ s k h i. rw (e s k h i) (x.small s k h i);
  sized = x.sized;
  entries = λ s h. x.entries s h ∙ sym (entry_same w u s (e s STATE h (omega arith)) (e s SIZE h (omega arith)) (e s TYPE h (omega arith)) (e s DESTRUCTOR h (omega arith)) (e s COUNT h (omega arith)));
  caught = chain_same (λ s. w s NEXT_CAUGHT) (λ s. u s NEXT_CAUGHT) g.caught l.caught (λ s h p. e s NEXT_CAUGHT h (omega arith)) x.caught;
  cleanups = chain_same (λ s. w s NEXT_CLEANUP) (λ s. u s NEXT_CLEANUP) g.cleanup (slots l.cleanups) (λ s h p. e s NEXT_CLEANUP h (omega arith)) x.cleanups;
  frames = frames_same w u l.cleanups (λ t p. same t (chain_small (λ s. w s NEXT_CLEANUP) g.cleanup (slots l.cleanups) t x.cleanups p)) x.frames;
  uncaught = x.uncaught;
}
  where
    same : (t : ℕ) → t < SLOTS → cleanup_of u t ≡ cleanup_of w t
    same t h = rw (e t CLEANUP_NEXT h (omega arith), e t CLEANUP_SP h (omega arith), e t CLEANUP_SITE h (omega arith))
