-- A new exception, and its end.
use Rattle.std.proofs.Common.{◌≡◌, ◌≢◌, ℕ, ◌^◌, ◌<◌, Bool, true, false, ◌==◌, cond, nat_lt, List, [], ◌∷◌, ◌++◌, length, set, Option, Some, None, Err, ℤ, pos, refl, sym, ◌∙◌, arith}
use Rattle.eh_bus.specs.Lists.{Has}
use Rattle.eh_cxa.specs.declared.globals.Globals.{Globals}
use Rattle.eh_cxa.specs.declared.globals.CxaFault.TheVariants.{TooBig}
use Rattle.eh_cxa.specs.declared.layout.TheConstants.{SLOTS, SLOT_WORDS, OBJECT_BYTES, STATE, SIZE, TYPE, DESTRUCTOR, COUNT, NEXT_CAUGHT, CLEANUP_NEXT, CLEANUP_SP, CLEANUP_SITE, NEXT_CLEANUP}
use Rattle.eh_cxa.specs.declared.state.TheConstants.{FREE, FRESH}
use Rattle.eh_cxa.specs.declared.state.State.{State}
use Rattle.eh_cxa.specs.declared.state.State.TheVariants.{Fresh, Flying, Landed, Caught, Ended}
use Rattle.eh_cxa.specs.States.{may_be_freed}
use Rattle.eh_cxa.specs.Words.{Pool, Write, write, with_all}
use Rattle.eh_cxa.specs.Allocate.{zeros, first_slot, allocate_at, allocate_of, free_by, free_of, size_at}
use Rattle.eh_cxa.specs.Lists.{Entry, Free, OutOfUse, Live, Lists, entry, slots, state_in, count_in, CountFits}
use Rattle.eh_cxa.specs.ListCalls.{with_entry, is_free, fresh_record, allocate_in, allocate_list, free_by_list, free_list, size_in}
use Rattle.eh_cxa.specs.Stands.{record_of, entry_of, Shows, Stands, Follows}
use Rattle.eh_cxa.proofs.Pools.{AllFit}
use Rattle.eh_cxa.proofs.Chains.{chain_same}
use Rattle.eh_cxa.proofs.Showing.{AllAt, only_at}
use Rattle.eh_cxa.proofs.Valid.{set_valid}
use Rattle.eh_cxa.proofs.Looking.{self, Look, live, free, lost, look, not_free, one_state, showing, shows_set}
use Rattle.eh_cxa.proofs.Zeros.{with_append, all_append, at_append, zeros_fit, zeros_at, zeroed, first_same, first_passes}

-- ---- a slot that no handler counts and that isn't flying may hold anything else that is so

-- it is in neither list
pub record Aside (l : Lists) (s : ℕ) : Type 0 where
  pub uncounted : Has l.caught s → ⊥
  pub idle : Has (slots l.cleanups) s → ⊥

pub aside : (w : Pool) (g : Globals) (l : Lists) (s : ℕ) → Stands w g l → count_in (entry l s) ≡ pos 0 → (state_in (entry l s) ≡ Some Flying → ⊥) → Aside l s
aside w g l s x none fault_free = record {
  uncounted = λ p. (x.valid.counted s).0 p none;
  idle = λ p. fault_free (x.valid.flying s p);
}

-- words of its slot are written, and its entry is replaced by one without a count
pub replaced : (w : Pool) (xs : List Write) (g g' : Globals) (l : Lists) (s : ℕ) (e : Entry) (uncaught : ℕ) → Stands w g l → s < SLOTS → Aside l s
    → AllAt s xs → AllFit xs → e ≡ entry_of (with_all xs w) s → count_in e ≡ pos 0 → Rattle.eh_cxa.specs.Lists.Fits e
    → g'.caught ≡ g.caught → g'.cleanup ≡ g.cleanup → uncaught ≡ g'.uncaught
    → Stands (with_all xs w) g' (record { entries = set l.entries s e; caught = l.caught; cleanups = l.cleanups; uncaught = uncaught })
replaced w xs g g' l s e uncaught x h a at fit is none fits top inner less =
    let inside : s < length l.entries = omega (arith, x.shows.sized) in
    let other = only_at s xs w at in
    record {
      shows = shows_set w xs g g' l s e l.caught uncaught x.shows h at fit is
          (λ t p. let n : t ≢ s = λ (q : t ≡ s). a.idle (rw q at p) in rw (other t n CLEANUP_NEXT, other t n CLEANUP_SP, other t n CLEANUP_SITE) refl)
          (λ t p. let n : t ≢ s = λ (q : t ≡ s). a.idle (rw q at p) in other t n NEXT_CLEANUP)
          inner less
          (rw top (chain_same (λ t. w t NEXT_CAUGHT) (λ t. with_all xs w t NEXT_CAUGHT) g.caught l.caught
          (λ t i p. let n : t ≢ s = λ (q : t ≡ s). a.uncounted (rw q at p) in other t n NEXT_CAUGHT) x.shows.caught));
      valid = set_valid l s e l.caught uncaught inside
          (record {
            once = x.valid.caught_once;
            others = λ t n. (λ p. p, λ p. p);
            counted = (λ p. absurd (a.uncounted p), λ n. absurd (n none));
            fits = fits;
            flying = λ p. absurd (a.idle p);
          })
          x.valid;
    }

-- ---- allocate

abbrev pub fresh : ℕ → ℕ → List Write
fresh s size = zeros s SLOT_WORDS ++ (write s SIZE size ∷ (write s STATE FRESH ∷ []))

-- a slot is free in the lists where its state word is 0
free_is : (w : Pool) (g : Globals) (l : Lists) (s : ℕ) → Shows w g l → s < SLOTS → (w s STATE == FREE) ≡ is_free (entry l s)
free_is w g l s x h = seen (look w g l s x h)
  where
    seen : Look w l s → (w s STATE == FREE) ≡ is_free (entry l s)
    seen (live st name is) = rw is (not_free (w s STATE) st name)
    seen (free zero is) = rw (is, zero) refl
    seen (lost n none is) = rw is n

pub is_free_entry : (e : Entry) → is_free e ≡ true → e ≡ Free
is_free_entry Free p = refl
is_free_entry OutOfUse p = cc
is_free_entry (Live r) p = cc

pub fresh_fit : (s size : ℕ) → s < SLOTS → size < 2 ^ 32 → AllFit (fresh s size)
fresh_fit s size h fit =
    all_append (zeros s SLOT_WORDS) (write s SIZE size ∷ (write s STATE FRESH ∷ [])) (zeros_fit s SLOT_WORDS h (omega arith)) ((h, omega arith, fit), ((h, omega arith, omega arith), tt))

new_record : (w : Pool) (s size : ℕ) → Live (fresh_record size) ≡ entry_of (with_all (fresh s size) w) s
new_record w s size =
    rw (with_append (zeros s SLOT_WORDS) (write s SIZE size ∷ (write s STATE FRESH ∷ [])) w)
    (showing (with_all (write s SIZE size ∷ (write s STATE FRESH ∷ [])) (with_all (zeros s SLOT_WORDS) w)) s Fresh size 0 0 0
    (rw (self s) refl) (rw (self s) refl) (zeroed s SLOT_WORDS w TYPE (omega arith)) (zeroed s SLOT_WORDS w DESTRUCTOR (omega arith)) (zeroed s SLOT_WORDS w COUNT (omega arith)))

pub allocated : (w : Pool) (g : Globals) (l : Lists) (s size : ℕ) → Stands w g l → s < SLOTS → entry l s ≡ Free → size < 2 ^ 32
    → Stands (with_all (fresh s size) w) g (with_entry l s (Live (fresh_record size)))
allocated w g l s size x h is fit =
    replaced w (fresh s size) g g l s _ l.uncaught x h (aside w g l s x (rw is refl) (rw is (λ e. cc)))
    (at_append s (zeros s SLOT_WORDS) (write s SIZE size ∷ (write s STATE FRESH ∷ [])) (zeros_at s SLOT_WORDS) (refl, (refl, tt)))
    (fresh_fit s size h fit) (new_record w s size) refl refl refl refl x.shows.uncaught

pub allocate_follows : (w : Pool) (g : Globals) (l : Lists) (size : ℕ) → size < 2 ^ 32 → Stands w g l
    → Follows (with_all (allocate_of w size).writes w) g (allocate_of w size).answer (allocate_list l size)
allocate_follows w g l size fit x = by_size (nat_lt OBJECT_BYTES size)
  where
    by_slot : (o : Option ℕ) → first_slot (λ s. w s STATE == FREE) ≡ o → Follows (with_all (allocate_at size o).writes w) g (allocate_at size o).answer (allocate_in l size o)
    by_slot None q = record { same = refl; stands = x }
    by_slot (Some s) q =
        let f = first_passes (λ s. w s STATE == FREE) s q in
        let is : entry l s ≡ Free = is_free_entry (entry l s) (sym (free_is w g l s x.shows f.0) ∙ f.1) in
        record { same = refl; stands = allocated w g l s size x f.0 is fit }

    by_size : (b : Bool) → Follows (with_all (cond b (record { answer = Err TooBig; writes = [] }) (allocate_at size (first_slot (λ s. w s STATE == FREE)))).writes w) g
        (cond b (record { answer = Err TooBig; writes = [] }) (allocate_at size (first_slot (λ s. w s STATE == FREE)))).answer
        (cond b (record { answer = Err TooBig; lists = l }) (allocate_in l size (first_slot (λ s. is_free (entry l s)))))
    by_size true = record { same = refl; stands = x }
    by_size false =
        let same = first_same (λ s. w s STATE == FREE) (λ s. is_free (entry l s)) (λ s h. free_is w g l s x.shows h) in
        rw (← same) (by_slot _ refl)

-- ---- free

-- what may be freed has no count and isn't flying
may_go : (st : State) (z : ℤ) → CountFits st z → may_be_freed (Some st) ≡ true → (z ≡ pos 0) × (Some st ≡ Some Flying → ⊥)
may_go Fresh z f e = (f, λ q. let a : Fresh ≡ Flying = one_state Fresh Flying q in cc)
may_go Ended z f e = (f, λ q. let a : Ended ≡ Flying = one_state Ended Flying q in cc)
may_go Flying z f e = cc
may_go Landed z f e = cc
may_go Caught z f e = cc

now_free : (w : Pool) (s : ℕ) → Free ≡ entry_of (with_all (write s STATE FREE ∷ []) w) s
now_free w s = rw (self s) refl

pub free_follows : (w : Pool) (g : Globals) (l : Lists) (o : Option ℕ) → ((s : ℕ) → o ≡ Some s → s < SLOTS) → Stands w g l
    → Follows (with_all (free_of w o).writes w) g (free_of w o).answer (free_list l o)
free_follows w g l None small x = record { same = refl; stands = x }
free_follows w g l (Some s) small x = seen (look w g l s x.shows h)
  where
    h : s < SLOTS
    h = small s refl

    by : (st : State) → entry l s ≡ Live (record_of st w s) → (b : Bool) → may_be_freed (Some st) ≡ b → Follows (with_all (free_by b s).writes w) g (free_by b s).answer (free_by_list b l s)
    by st is false q = record { same = refl; stands = x }
    by st is true q =
        let f = x.valid.fits s in let f' = rw is at f in
        let m = may_go st _ f' q in
        record {
          same = refl;
          stands =
              replaced w (write s STATE FREE ∷ []) g g l s Free l.uncaught x h (aside w g l s x (rw is m.0) (rw is m.1))
              (refl, tt) ((h, omega arith, omega arith), tt) (now_free w s) refl tt refl refl x.shows.uncaught;
        }

    seen : Look w l s → Follows (with_all (free_of w (Some s)).writes w) g (free_of w (Some s)).answer (free_list l (Some s))
    seen (live st name is) = rw (name, is) (by st is (may_be_freed (Some st)) refl)
    seen (free zero is) = rw (zero, is) (record { same = refl; stands = x })
    seen (lost n none is) = rw (none, is) (record { same = refl; stands = x })

-- ---- object_size, of a live exception

pub size_follows : (w : Pool) (g : Globals) (l : Lists) (s : ℕ) → s < SLOTS → Stands w g l → (r : Rattle.eh_cxa.specs.Lists.Record) → entry l s ≡ Live r → size_at w (Some s) ≡ size_in (entry l s)
size_follows w g l s h x r e = seen (look w g l s x.shows h)
  where
    seen : Look w l s → w s SIZE ≡ size_in (entry l s)
    seen (live st name is) = rw is refl
    seen (free zero is) = let a : Live r ≡ Free = sym e ∙ is in cc
    seen (lost n none is) = let a : Live r ≡ OutOfUse = sym e ∙ is in cc
