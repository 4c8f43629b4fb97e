-- The end of a catch, and a rethrow.
use Rattle.std.proofs.Common.{◌≡◌, ◌≢◌, ℕ, ◌^◌, ◌<◌, ◌↔◌, inl, inr, Bool, true, false, List, [], ◌∷◌, length, set, ℤ, pos, negsuc, neg_ℤ, ◌<ℤ◌, ◌≤ℤ◌, Some, None, Result, refl, sym, ap, ◌∙◌, arith}
use Rattle.std.proofs.lemmas.Int.{ints}
use Rattle.eh_bus.specs.Lists.{Has}
use Rattle.eh_cxa.specs.declared.globals.Globals.{Globals}
use Rattle.eh_cxa.specs.declared.globals.CxaFault.{CxaFault}
use Rattle.eh_cxa.specs.declared.layout.TheConstants.{SLOTS, STATE, COUNT, NEXT_CAUGHT}
use Rattle.eh_cxa.specs.declared.state.State.{State}
use Rattle.eh_cxa.specs.declared.state.State.TheVariants.{Fresh, Flying, Landed, Caught, Ended}
use Rattle.eh_cxa.specs.States.{state_of_word, is_caught}
use Rattle.eh_cxa.specs.Words.{block_slot, Pool, Write, write, with_all, one_more}
use Rattle.eh_cxa.specs.Catch.{negated_count, Fall, stays, falls, ends, leaves, fall, globals_without_top, end_catch_by, end_catch_of, rethrow_by, rethrow_of}
use Rattle.eh_cxa.specs.Lists.{Entry, Live, Lists, entry, slots, Once, count_in, state_in, CountFits, Fits}
use Rattle.eh_cxa.specs.ListCalls.{become, with_entry, end_list, end_from, end_by_list, rethrow_list, rethrow_from, rethrow_by_list}
use Rattle.eh_cxa.specs.Stands.{record_of, Chain, Shows, Stands, Follows}
use Rattle.eh_cxa.proofs.Pools.{slot_small}
use Rattle.eh_cxa.proofs.Chains.{chain_pop}
use Rattle.eh_cxa.proofs.Counts.{signed, negated_is, fall_is, as_signed, Falls, falls_by, ends_by, leaves_by, negated_small, positive, minus_counts, minus_below}
use Rattle.eh_cxa.proofs.Valid.{set_valid}
use Rattle.eh_cxa.proofs.Looking.{self, Look, live, free, lost, look, one_state, one_count, caught_is, showing, shows_set}

-- the top of the caught list
pub record Top (w : Pool) (g : Globals) (l : Lists) (s : ℕ) (more : List ℕ) (st : State) : Type 0 where
  pub stands : Stands w g l
  pub list : l.caught ≡ s ∷ more
  pub slot : block_slot g.caught ≡ Some s
  pub chain : Chain (λ t. w t NEXT_CAUGHT) (w s NEXT_CAUGHT) more
  pub small : s < SLOTS
  pub inside : s < length l.entries
  pub name : state_of_word (w s STATE) ≡ Some st
  pub is : entry l s ≡ Live (record_of st w s)
  pub in_range : w s COUNT < 2 ^ 32
  pub counts : signed (w s COUNT) ≡ pos 0 → ⊥
  pub fits : CountFits st (signed (w s COUNT))
  pub flying : Has (slots l.cleanups) s → st ≡ Flying
  pub first : Has more s → ⊥
  pub once : Once more
  pub others : (t : ℕ) → t ≢ s → Has more t ↔ Has l.caught t

top : (w : Pool) (g : Globals) (l : Lists) (s : ℕ) (more : List ℕ) → Stands w g l → l.caught ≡ s ∷ more → (st : State) × Top w g l s more st
top w g l s more x e = seen (look w g l s x.shows small)
  where
    chain : Chain (λ t. w t NEXT_CAUGHT) g.caught (s ∷ more)
    chain = rw e at x.shows.caught

    small : s < SLOTS
    small = slot_small g.caught s chain.0

    counts : count_in (entry l s) ≡ pos 0 → ⊥
    counts = (x.valid.counted s).0 (rw e (inl refl))

    once : Once (s ∷ more)
    once = rw e at x.valid.caught_once

    seen : Look w l s → (st : State) × Top w g l s more st
    seen (free zero is) = absurd (counts (rw is refl))
    seen (lost n none is) = absurd (counts (rw is refl))
    seen (live st name is) = (
      st,
      record {
        stands = x;
        list = e;
        slot = chain.0;
        chain = chain.1;
        small = small;
        inside = omega (arith, small);
        name = name;
        is = is;
        in_range = x.shows.small s COUNT small (omega arith);
        counts = rw is at counts;
        fits = let f = x.valid.fits s in rw is at f;
        flying = λ p. one_state st Flying (let two = x.valid.flying s p in rw is at two);
        first = once.0;
        once = once.1;
        others = λ t n. rw e (λ p. inr p, λ p. elim p [ inl q ↦ absurd (n (sym q)) | inr q ↦ q ]);
      },
    )

-- the top's count or state is another, and it stays
stay : (w : Pool) (xs : List Write) (g g' : Globals) (l : Lists) (s : ℕ) (more : List ℕ) (st : State) (e : Entry) (uncaught : ℕ)
    → Top w g l s more st → Shows (with_all xs w) g' (record { entries = set l.entries s e; caught = l.caught; cleanups = l.cleanups; uncaught = uncaught })
    → (count_in e ≡ pos 0 → ⊥) → Fits e → (Has (slots l.cleanups) s → state_in e ≡ Some Flying)
    → Stands (with_all xs w) g' (record { entries = set l.entries s e; caught = l.caught; cleanups = l.cleanups; uncaught = uncaught })
stay w xs g g' l s more st e uncaught p shows counts fits flying = record {
  shows = shows;
  valid = set_valid l s e l.caught uncaught p.inside
      (record { once = p.stands.valid.caught_once; others = λ t n. (λ q. q, λ q. q); counted = (λ q. counts, λ q. rw p.list (inl refl)); fits = fits; flying = flying })
      p.stands.valid;
}

-- it goes, since its count is 0 now
go : (w : Pool) (xs : List Write) (g g' : Globals) (l : Lists) (s : ℕ) (more : List ℕ) (st : State) (e : Entry)
    → Top w g l s more st → Shows (with_all xs w) g' (record { entries = set l.entries s e; caught = more; cleanups = l.cleanups; uncaught = l.uncaught })
    → count_in e ≡ pos 0 → Fits e → (Has (slots l.cleanups) s → state_in e ≡ Some Flying)
    → Stands (with_all xs w) g' (record { entries = set l.entries s e; caught = more; cleanups = l.cleanups; uncaught = l.uncaught })
go w xs g g' l s more st e p shows none fits flying = record {
  shows = shows;
  valid = set_valid l s e more l.uncaught p.inside
      (record { once = p.once; others = p.others; counted = (λ q. absurd (p.first q), λ q. absurd (q none)); fits = fits; flying = flying })
      p.stands.valid;
}

-- a count that falls fits its state as before
still_fits : (st : State) (c d : ℕ) → CountFits st (signed c) → Falls c d → CountFits st (signed d)
still_fits Caught c d f x = x.above f
still_fits Flying c d f x = x.below f
still_fits Landed c d f x = x.below f
still_fits Fresh c d f x = absurd (x.counted f)
still_fits Ended c d f x = absurd (x.counted f)

falling : (w : Pool) (g : Globals) (l : Lists) (s c : ℕ) (more : List ℕ) (st : State) → Top w g l s more st → fall (w s COUNT) ≡ falls c
    → Stands (with_all (write s COUNT c ∷ []) w) g (with_entry l s (Live (become st (signed c) (record_of st w s))))
falling w g l s c more st p q =
    let f = falls_by (w s COUNT) c p.in_range q in
    stay w (write s COUNT c ∷ []) g g l s more st _ l.uncaught p
    (shows_set w (write s COUNT c ∷ []) g g l s _ l.caught l.uncaught p.stands.shows p.small (refl, tt) ((p.small, omega arith, f.small), tt)
    (showing (with_all (write s COUNT c ∷ []) w) s st _ _ _ c p.name refl refl refl (rw (self s) refl)) (λ t h. refl) (λ t h. refl) refl p.stands.shows.uncaught p.stands.shows.caught)
    f.counts
    (still_fits st (w s COUNT) c p.fits f)
    (λ h. ap (λ (a : State). Some a) (p.flying h))

-- a flying exception has no count above 0
below : (st : State) (z : ℤ) → CountFits st z → st ≡ Flying → z ≤ℤ pos 0
below st z f e = rw e at f

ending : (w : Pool) (g : Globals) (l : Lists) (s : ℕ) (more : List ℕ) (st : State) → Top w g l s more st → fall (w s COUNT) ≡ ends
    → Stands (with_all (end_catch_by ends w g s).writes w) (globals_without_top w g s)
    (record { entries = set l.entries s (Live (become Ended (pos 0) (record_of st w s))); caught = more; cleanups = l.cleanups; uncaught = l.uncaught })
ending w g l s more st p q =
    let e : signed (w s COUNT) ≡ pos 1 = rw (ends_by (w s COUNT) q) refl in
    go w (end_catch_by ends w g s).writes g (globals_without_top w g s) l s more st _ p
    (shows_set w (end_catch_by ends w g s).writes g (globals_without_top w g s) l s _ more l.uncaught p.stands.shows p.small (refl, (refl, tt))
    ((p.small, omega arith, omega arith), ((p.small, omega arith, omega arith), tt))
    (showing (with_all (end_catch_by ends w g s).writes w) s Ended _ _ _ 0 (rw (self s) refl) refl refl refl (rw (self s) refl))
    (λ t h. refl) (λ t h. refl) refl p.stands.shows.uncaught (chain_pop (λ t. w t NEXT_CAUGHT) (w s NEXT_CAUGHT) more p.chain))
    refl
    refl
    (λ h. let z = below st (signed (w s COUNT)) p.fits (p.flying h) in absurd (let y : pos 1 ≤ℤ pos 0 = rw e at z in omega (arith, ints)))

-- a count that leaves was below 0, and 0 fits then
none_fits : (st : State) (z : ℤ) → z ≡ negsuc 0 → CountFits st z → CountFits st (pos 0)
none_fits Caught z e f = absurd (let y : pos 0 <ℤ negsuc 0 = rw e at f in omega (arith, ints))
none_fits Flying z e f = omega (arith, ints)
none_fits Landed z e f = omega (arith, ints)
none_fits Fresh z e f = refl
none_fits Ended z e f = refl

leaving : (w : Pool) (g : Globals) (l : Lists) (s : ℕ) (more : List ℕ) (st : State) → Top w g l s more st → fall (w s COUNT) ≡ leaves
    → Stands (with_all (end_catch_by leaves w g s).writes w) (globals_without_top w g s)
    (record { entries = set l.entries s (Live (become st (pos 0) (record_of st w s))); caught = more; cleanups = l.cleanups; uncaught = l.uncaught })
leaving w g l s more st p q =
    let e : signed (w s COUNT) ≡ negsuc 0 = rw (leaves_by (w s COUNT) q) refl in
    go w (end_catch_by leaves w g s).writes g (globals_without_top w g s) l s more st _ p
    (shows_set w (end_catch_by leaves w g s).writes g (globals_without_top w g s) l s _ more l.uncaught p.stands.shows p.small (refl, tt)
    ((p.small, omega arith, omega arith), tt)
    (showing (with_all (end_catch_by leaves w g s).writes w) s st _ _ _ 0 p.name refl refl refl (rw (self s) refl))
    (λ t h. refl) (λ t h. refl) refl p.stands.shows.uncaught (chain_pop (λ t. w t NEXT_CAUGHT) (w s NEXT_CAUGHT) more p.chain))
    refl
    (none_fits st (signed (w s COUNT)) e p.fits)
    (λ h. ap (λ (a : State). Some a) (p.flying h))

pub end_catch_follows : (w : Pool) (g : Globals) (l : Lists) → Stands w g l
    → Follows (with_all (end_catch_of w g).writes w) (end_catch_of w g).globals (end_catch_of w g).answer (end_list l)
end_catch_follows w g l x = start l.caught refl
  where
    effect : (s : ℕ) (more : List ℕ) (st : State) → Top w g l s more st → (f : Fall ℕ) → fall (w s COUNT) ≡ f
        → Follows (with_all (end_catch_by f w g s).writes w) (end_catch_by f w g s).globals (end_catch_by f w g s).answer (end_by_list l s more (record_of st w s) (as_signed f))
    effect s more st p stays q = record { same = refl; stands = x }
    effect s more st p (falls c) q = record { same = refl; stands = falling w g l s c more st p q }
    effect s more st p ends q = record { same = refl; stands = ending w g l s more st p q }
    effect s more st p leaves q = record { same = refl; stands = leaving w g l s more st p q }

    start : (xs : List ℕ) → l.caught ≡ xs → Follows (with_all (end_catch_of w g).writes w) (end_catch_of w g).globals (end_catch_of w g).answer (end_from l xs)
    start [] e = let c = x.shows.caught in let n : block_slot g.caught ≡ None = rw e at c in rw n (record { same = refl; stands = x })
    start (s ∷ more) e =
        let p = top w g l s more x e in
        rw (p.1.slot, p.1.is, fall_is (w s COUNT) p.1.in_range) (effect s more p.0 p.1 (fall (w s COUNT)) refl)

-- a caught exception's count is above 0
caught_fits : (st : State) (z : ℤ) → CountFits st z → st ≡ Caught → pos 0 <ℤ z
caught_fits st z f e = rw e at f

rising : (w : Pool) (g : Globals) (l : Lists) (s : ℕ) (more : List ℕ) (st : State) → Top w g l s more st → st ≡ Caught
    → Stands (with_all (rethrow_by true w g s).writes w) (rethrow_by true w g s).globals
    (record { entries = set l.entries s (Live (become Flying (neg_ℤ (signed (w s COUNT))) (record_of st w s))); caught = l.caught; cleanups = l.cleanups; uncaught = one_more l.uncaught })
rising w g l s more st p q =
    let xs = (rethrow_by true w g s).writes in
    let above = caught_fits st (signed (w s COUNT)) p.fits q in
    let low = positive (w s COUNT) p.in_range above in
    stay w (rethrow_by true w g s).writes g _ l s more st _ (one_more l.uncaught) p
    (shows_set w (rethrow_by true w g s).writes g _ l s _ l.caught (one_more l.uncaught) p.stands.shows p.small (refl, (refl, tt))
    ((p.small, omega arith, negated_small (w s COUNT)), ((p.small, omega arith, omega arith), tt))
    (one_count Flying (record_of st w s) _ _ (sym (negated_is (w s COUNT) p.in_range (omega arith)))
    ∙ showing (with_all (rethrow_by true w g s).writes w) s Flying _ _ _ (negated_count (w s COUNT)) (rw (self s) refl) refl refl refl (rw (self s) refl))
    (λ t h. refl) (λ t h. refl) refl
    (ap one_more p.stands.shows.uncaught) p.stands.shows.caught)
    (λ z. minus_counts (signed (w s COUNT)) above z)
    (minus_below (signed (w s COUNT)) above)
    (λ h. refl)

pub rethrow_follows : (w : Pool) (g : Globals) (l : Lists) → Stands w g l
    → Follows (with_all (rethrow_of w g).writes w) (rethrow_of w g).globals (rethrow_of w g).answer (rethrow_list l)
rethrow_follows w g l x = start l.caught refl
  where
    effect : (s : ℕ) (more : List ℕ) (st : State) → Top w g l s more st → (b : Bool) → is_caught (Some st) ≡ b
        → Follows {A = Result ℕ CxaFault} (with_all (rethrow_by b w g s).writes w) (rethrow_by b w g s).globals (rethrow_by b w g s).answer (rethrow_by_list b l s (record_of st w s))
    effect s more st p true q = record { same = refl; stands = rising w g l s more st p (caught_is st q) }
    effect s more st p false q = record { same = refl; stands = x }

    start : (xs : List ℕ) → l.caught ≡ xs → Follows (with_all (rethrow_of w g).writes w) (rethrow_of w g).globals (rethrow_of w g).answer (rethrow_from l xs)
    start [] e = let c = x.shows.caught in let n : block_slot g.caught ≡ None = rw e at c in rw n (record { same = refl; stands = x })
    start (s ∷ more) e =
        let p = top w g l s more x e in
        rw (p.1.slot, p.1.is, p.1.name) (effect s more p.0 p.1 (is_caught (Some p.0)) refl)
