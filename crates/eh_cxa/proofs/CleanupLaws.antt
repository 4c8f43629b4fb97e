-- Cleanups in progress.
use Rattle.std.proofs.Common.{◌≡◌, ◌≢◌, ℕ, ◌^◌, ◌<◌, inl, inr, Bool, true, false, ◌==◌, List, [], ◌∷◌, Some, None, Result, refl, sym, ap, ◌∙◌, arith}
use Rattle.eh_bus.specs.Lists.{Has}
use Rattle.eh_cxa.specs.declared.globals.Globals.{Globals}
use Rattle.eh_cxa.specs.declared.globals.CleanupWords.{CleanupWords}
use Rattle.eh_cxa.specs.declared.globals.CxaFault.{CxaFault}
use Rattle.eh_cxa.specs.declared.layout.TheConstants.{SLOTS, CLEANUP_NEXT, CLEANUP_SP, CLEANUP_SITE, NEXT_CLEANUP}
use Rattle.eh_cxa.specs.declared.state.State.TheVariants.{Flying}
use Rattle.eh_cxa.specs.Words.{block_slot, Pool, with_all, chain_word}
use Rattle.eh_cxa.specs.Cleanup.{cleanup_at, begin_cleanup_of, end_cleanup_by, end_cleanup_of}
use Rattle.eh_cxa.specs.Lists.{Cleanup, Lists, entry, slots, state_in}
use Rattle.eh_cxa.specs.ListCalls.{begin_cleanup_list, end_cleanup_list, end_cleanup_from, end_cleanup_by_list, innermost_in}
use Rattle.eh_cxa.specs.Cleanup.{innermost_of}
use Rattle.eh_cxa.specs.Stands.{cleanup_of, Stands, Follows}
use Rattle.eh_cxa.proofs.Pools.{slot_small}
use Rattle.eh_cxa.proofs.Chains.{chain_same, chain_pop}
use Rattle.eh_cxa.proofs.Showing.{only_at, entry_same, frames_other}
use Rattle.eh_cxa.proofs.Looking.{self, small_after}

-- words that fit
pub record FitCleanup (c : CleanupWords) : Type 0 where
  pub next : c.next < 2 ^ 32
  pub sp : c.sp < 2 ^ 32
  pub site : c.site < 2 ^ 32

-- for a flying exception that isn't among the cleanups in progress
pub begin_cleanup_follows : (w : Pool) (g : Globals) (l : Lists) (ucb s : ℕ) (c : CleanupWords) → Stands w g l → g.cleanup < 2 ^ 32 → FitCleanup c
    → block_slot ucb ≡ Some s → state_in (entry l s) ≡ Some Flying → (Has (slots l.cleanups) s → ⊥)
    → Stands (with_all (begin_cleanup_of g ucb c).writes w) (begin_cleanup_of g ucb c).globals (begin_cleanup_list l s c)
begin_cleanup_follows w g l ucb s c x gs f e two fresh = rw e (done (slot_small ucb s e))
  where
    done : s < SLOTS → Stands (with_all (cleanup_at g ucb c (Some s)).writes w) (cleanup_at g ucb c (Some s)).globals (begin_cleanup_list l s c)
    done h =
        let xs = (cleanup_at g ucb c (Some s)).writes in
        let other = only_at s xs w (refl, (refl, (refl, (refl, tt)))) in
        record {
          shows = record {
            small = small_after xs w ((h, omega arith, f.next), ((h, omega arith, f.sp), ((h, omega arith, f.site), ((h, omega arith, gs), tt)))) x.shows.small;
            sized = x.shows.sized;
            entries = λ t i. x.shows.entries t i ∙ sym (entry_same w (with_all xs w) t refl refl refl refl refl);
            caught = x.shows.caught;
            cleanups = (
              e,
              rw (self s) (chain_same (λ t. w t NEXT_CLEANUP) (λ t. with_all xs w t NEXT_CLEANUP) g.cleanup (slots l.cleanups)
                  (λ t i p. let n : t ≢ s = λ (q : t ≡ s). fresh (rw q at p) in other t n NEXT_CLEANUP) x.shows.cleanups),
            );
            frames = (rw (self s) refl, frames_other s w (with_all xs w) l.cleanups other fresh x.shows.frames);
            uncaught = x.shows.uncaught;
          };
          valid = record {
            caught_once = x.valid.caught_once;
            cleanups_once = (fresh, x.valid.cleanups_once);
            counted = x.valid.counted;
            fits = x.valid.fits;
            flying = λ t p. elim p [ inl q ↦ rw (← q) two | inr q ↦ x.valid.flying t q ];
          };
        }

pub end_cleanup_follows : (w : Pool) (g : Globals) (l : Lists) (sp : ℕ) → Stands w g l
    → Follows (with_all (end_cleanup_of w g sp).writes w) (end_cleanup_of w g sp).globals (end_cleanup_of w g sp).answer (end_cleanup_list l sp)
end_cleanup_follows w g l sp x = start l.cleanups refl
  where
    -- the innermost goes
    gone : (c : Cleanup) (more : List Cleanup) → l.cleanups ≡ c ∷ more
        → Stands w (record { caught = g.caught; cleanup = chain_word (w c.slot NEXT_CLEANUP); uncaught = g.uncaught }) (record { entries = l.entries; caught = l.caught; cleanups = more; uncaught = l.uncaught })
    gone c more e =
        let chain = x.shows.cleanups in let chain' = rw e at chain in
        let frames = x.shows.frames in let frames' = rw e at frames in
        let once = x.valid.cleanups_once in let once' = rw e at once in
        record {
          shows = record {
            small = x.shows.small;
            sized = x.shows.sized;
            entries = x.shows.entries;
            caught = x.shows.caught;
            cleanups = chain_pop (λ t. w t NEXT_CLEANUP) (w c.slot NEXT_CLEANUP) (slots more) chain'.1;
            frames = frames'.1;
            uncaught = x.shows.uncaught;
          };
          valid = record {
            caught_once = x.valid.caught_once;
            cleanups_once = once'.1;
            counted = x.valid.counted;
            fits = x.valid.fits;
            flying = λ t p. x.valid.flying t (rw e (inr p));
          };
        }

    ends_at : (c : Cleanup) (more : List Cleanup) → l.cleanups ≡ c ∷ more → c ≡ cleanup_of w c.slot → (b b' : Bool) → b' ≡ b
        → Follows {A = Result (ℕ × CleanupWords) CxaFault} (with_all (end_cleanup_by b w g c.slot).writes w) (end_cleanup_by b w g c.slot).globals (end_cleanup_by b w g c.slot).answer (end_cleanup_by_list b' l c more)
    ends_at c more e f true false i = cc
    ends_at c more e f false true i = cc
    ends_at c more e f false false i = record { same = refl; stands = x }
    ends_at c more e f true true i =
        let next : c.next ≡ w c.slot CLEANUP_NEXT = ap (λ (d : Cleanup). d.next) f in
        let low : c.sp ≡ w c.slot CLEANUP_SP = ap (λ (d : Cleanup). d.sp) f in
        let site : c.site ≡ w c.slot CLEANUP_SITE = ap (λ (d : Cleanup). d.site) f in
        record { same = rw (next, low, site) refl; stands = gone c more e }

    start : (xs : List Cleanup) → l.cleanups ≡ xs → Follows (with_all (end_cleanup_of w g sp).writes w) (end_cleanup_of w g sp).globals (end_cleanup_of w g sp).answer (end_cleanup_from l sp xs)
    start [] e = let c = x.shows.cleanups in let n : block_slot g.cleanup ≡ None = rw e at c in rw n (record { same = refl; stands = x })
    start (c ∷ more) e =
        let chain = x.shows.cleanups in let chain' = rw e at chain in
        let frames = x.shows.frames in let frames' = rw e at frames in
        let low : c.sp ≡ w c.slot CLEANUP_SP = ap (λ (d : Cleanup). d.sp) frames'.0 in
        rw (chain'.0) (ends_at c more e frames'.0 (w c.slot CLEANUP_SP == sp) (c.sp == sp) (ap (λ (n : ℕ). n == sp) low))

-- the innermost landing sp is the innermost cleanup's
pub innermost_follows : (w : Pool) (g : Globals) (l : Lists) → Stands w g l → innermost_of w g ≡ innermost_in l.cleanups
innermost_follows w g l x = start l.cleanups x.shows.cleanups x.shows.frames
  where
    start : (xs : List Cleanup) → Rattle.eh_cxa.specs.Stands.Chain (λ s. w s NEXT_CLEANUP) g.cleanup (slots xs) → Rattle.eh_cxa.specs.Stands.Frames w xs → innermost_of w g ≡ innermost_in xs
    start [] c f = rw c refl
    start (d ∷ more) c f = let low : d.sp ≡ w d.slot CLEANUP_SP = ap (λ (d : Cleanup). d.sp) f.0 in rw (c.0, low) refl
