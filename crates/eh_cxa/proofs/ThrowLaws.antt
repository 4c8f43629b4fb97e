-- A throw, its barrier and its landing.
use Rattle.std.proofs.Common.{◌≡◌, ℕ, ◌^◌, ◌<◌, Bool, true, false, length, Option, Some, None, Result, ℤ, pos, ◌≤ℤ◌, refl, sym, ap, ◌∙◌, arith}
use Rattle.std.proofs.lemmas.Int.{ints}
use Rattle.eh_bus.specs.Lists.{Has}
use Rattle.eh_cxa.specs.declared.globals.Globals.{Globals}
use Rattle.eh_cxa.specs.declared.globals.BarrierWords.{BarrierWords}
use Rattle.eh_cxa.specs.declared.globals.CxaFault.{CxaFault}
use Rattle.eh_cxa.specs.declared.layout.TheConstants.{SLOTS, STATE, COUNT}
use Rattle.eh_cxa.specs.declared.state.State.{State}
use Rattle.eh_cxa.specs.declared.state.State.TheVariants.{Fresh, Flying, Landed}
use Rattle.eh_cxa.specs.States.{state_of_word, is_fresh, is_flying}
use Rattle.eh_cxa.specs.Words.{Pool, with_all, one_more}
use Rattle.eh_cxa.specs.Throw.{Throw, throw_by, start_throw_of, set_barrier_of, land_by, land_of}
use Rattle.eh_cxa.specs.Lists.{Live, Lists, entry, slots, CountFits}
use Rattle.eh_cxa.specs.ListCalls.{record_of_throw, throw_by_list, throw_list, land_record, land_list}
use Rattle.eh_cxa.specs.Stands.{record_of, Stands, Follows}
use Rattle.eh_cxa.proofs.Counts.{signed}
use Rattle.eh_cxa.proofs.Showing.{entry_same}
use Rattle.eh_cxa.proofs.Valid.{set_valid}
use Rattle.eh_cxa.proofs.Looking.{self, Look, live, free, lost, look, fresh_is, flying_is, one_state, showing, shows_set, small_after}
use Rattle.eh_cxa.proofs.Pools.{AllFit}
use Rattle.eh_cxa.proofs.Showing.{frames_same}
use Rattle.eh_cxa.proofs.AllocateLaws.{aside, replaced}

-- words that fit
pub record FitThrow (t : Throw) : Type 0 where
  pub ty : t.ty < 2 ^ 32
  pub destructor : t.destructor < 2 ^ 32

-- a fresh exception has no count, and isn't flying
fresh_counts : (st : State) (z : ℤ) → CountFits st z → st ≡ Fresh → z ≡ pos 0
fresh_counts st z f e = rw e at f

fresh_rests : (st : State) → st ≡ Fresh → Some st ≡ Some Flying → ⊥
fresh_rests st e q = let a : Fresh ≡ Flying = sym e ∙ one_state st Flying q in cc

none_at_most : (z : ℤ) → z ≡ pos 0 → z ≤ℤ pos 0
none_at_most z e = rw e (omega (arith, ints))

pub throw_follows : (w : Pool) (g : Globals) (l : Lists) (o : Option ℕ) (t : Throw) → ((s : ℕ) → o ≡ Some s → s < SLOTS) → FitThrow t → Stands w g l
    → Follows (with_all (start_throw_of w g o t).writes w) (start_throw_of w g o t).globals (start_throw_of w g o t).answer (throw_list l o t)
throw_follows w g l None t small fit x = record { same = refl; stands = x }
throw_follows w g l (Some s) t small fit x = seen (look w g l s x.shows h)
  where
    h : s < SLOTS
    h = small s refl

    by : (st : State) → entry l s ≡ Live (record_of st w s) → (b : Bool) → is_fresh (Some st) ≡ b
        → Follows {A = Result ℕ CxaFault} (with_all (throw_by b g s t).writes w) (throw_by b g s t).globals (throw_by b g s t).answer (throw_by_list b l s (record_of st w s) t)
    by st is false q = record { same = refl; stands = x }
    by st is true q =
        let f = x.valid.fits s in let f' = rw is at f in
        let zero = fresh_counts st (signed (w s COUNT)) f' (fresh_is st q) in
        record {
          same = refl;
          stands =
              replaced w (throw_by true g s t).writes g (throw_by true g s t).globals l s (Live (record_of_throw t (record_of st w s))) (one_more l.uncaught) x h
              (aside w g l s x (rw is zero) (rw is (fresh_rests st (fresh_is st q))))
              (refl, (refl, (refl, (refl, (refl, tt)))))
              ((h, omega arith, fit.ty), ((h, omega arith, fit.destructor), ((h, omega arith, omega arith), ((h, omega arith, omega arith), ((h, omega arith, omega arith), tt)))))
              (showing (with_all (throw_by true g s t).writes w) s Flying _ t.ty t.destructor (w s COUNT) (rw (self s) refl) refl (rw (self s) refl) (rw (self s) refl) refl)
              zero (none_at_most (signed (w s COUNT)) zero) refl refl (ap one_more x.shows.uncaught);
        }

    seen : Look w l s → Follows (with_all (start_throw_of w g (Some s) t).writes w) (start_throw_of w g (Some s) t).globals (start_throw_of w g (Some s) t).answer (throw_list l (Some s) t)
    seen (live st name is) = rw (name, is) (by st is (is_fresh (Some st)) refl)
    seen (free zero is) = rw (zero, is) (record { same = refl; stands = x })
    seen (lost n none is) = rw (none, is) (record { same = refl; stands = x })

-- ---- the barrier's words stand in no list

pub barrier_keeps : (w : Pool) (g : Globals) (l : Lists) (s : ℕ) (b : BarrierWords) → AllFit (set_barrier_of (Some s) b) → Stands w g l → Stands (with_all (set_barrier_of (Some s) b) w) g l
barrier_keeps w g l s b fit x = record {
  shows = record {
    small = small_after (set_barrier_of (Some s) b) w fit x.shows.small;
    sized = x.shows.sized;
    entries = λ t i. x.shows.entries t i ∙ sym (entry_same w (with_all (set_barrier_of (Some s) b) w) t refl refl refl refl refl);
    caught = x.shows.caught;
    cleanups = x.shows.cleanups;
    frames = frames_same w (with_all (set_barrier_of (Some s) b) w) l.cleanups (λ t p. refl) x.shows.frames;
    uncaught = x.shows.uncaught;
  };
  valid = x.valid;
}

-- ---- land

flying_counts : (st : State) (z : ℤ) → CountFits st z → st ≡ Flying → z ≤ℤ pos 0
flying_counts st z f e = rw e at f

-- where the exception isn't among the cleanups in progress
pub land_follows : (w : Pool) (g : Globals) (l : Lists) (s : ℕ) → s < SLOTS → (Has (slots l.cleanups) s → ⊥) → Stands w g l
    → Stands (with_all (land_of w (Some s)) w) g (land_list l s)
land_follows w g l s h idle x = seen (look w g l s x.shows h)
  where
    by : (st : State) → state_of_word (w s STATE) ≡ Some st → entry l s ≡ Live (record_of st w s) → (b : Bool) → is_flying (Some st) ≡ b
        → Stands (with_all (land_by b s) w) g (land_record b l s (record_of st w s))
    by st name is false q = x
    by st name is true q =
        let inside : s < length l.entries = omega (arith, x.shows.sized) in
        let f = x.valid.fits s in let f' = rw is at f in
        let c = x.valid.counted s in let c' = rw is at c in
        record {
          shows = shows_set w (land_by true s) g g l s _ l.caught l.uncaught x.shows h (refl, tt) ((h, omega arith, omega arith), tt)
              (showing (with_all (land_by true s) w) s Landed _ _ _ (w s COUNT) (rw (self s) refl) refl refl refl refl)
              (λ t p. refl) (λ t p. refl) refl x.shows.uncaught x.shows.caught;
          valid = set_valid l s _ l.caught l.uncaught inside
              (record {
                once = x.valid.caught_once;
                others = λ t n. (λ p. p, λ p. p);
                counted = c';
                fits = flying_counts st (signed (w s COUNT)) f' (flying_is st q);
                flying = λ p. absurd (idle p);
              })
              x.valid;
        }

    seen : Look w l s → Stands (with_all (land_of w (Some s)) w) g (land_list l s)
    seen (live st name is) = rw (name, is) (by st name is (is_flying (Some st)) refl)
    seen (free zero is) = rw (zero, is) x
    seen (lost n none is) = rw (none, is) x
