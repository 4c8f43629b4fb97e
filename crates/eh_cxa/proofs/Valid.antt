-- Lists stay valid.
use Rattle.std.proofs.Common.{◌≡◌, ◌≢◌, ℕ, ◌<◌, ◌↔◌, Bool, true, false, ◌==◌, List, length, get_or, set, pos, Some, refl, arith, get_or-set_same, get_or-set_other}
use Rattle.std.proofs.lemmas.Bool.Decides.{nat_tests}
use Rattle.eh_bus.specs.Lists.{Has}
use Rattle.eh_cxa.specs.declared.state.State.TheVariants.{Flying}
use Rattle.eh_cxa.specs.Lists.{Entry, OutOfUse, Lists, entry, slots, Once, count_in, state_in, Fits, IsValid}

-- the entry at t, where that of s is replaced
pub at_set : (P : Entry → Type 0) (l : Lists) (s t : ℕ) (e : Entry) → s < length l.entries → (t ≡ s → P e) → (t ≢ s → P (entry l t)) → P (get_or (set l.entries s e) t OutOfUse)
at_set P l s t e h same other = by_cases (t == s) refl
  where
    by_cases : (b : Bool) → (t == s) ≡ b → P (get_or (set l.entries s e) t OutOfUse)
    by_cases true q =
        let f : t ≡ s = grind (arith, nat_tests) in
        rw (f, get_or-set_same) (same f)
    by_cases false q =
        let n : t ≢ s = grind (arith, nat_tests) in
        rw get_or-set_other (other n)

-- a valid change of one entry: where it counts nothing the caught list has none, and where it is no flying one it is in no cleanup
pub record Fitting (l : Lists) (s : ℕ) (e : Entry) (caught : List ℕ) : Type 0 where
  pub once : Once caught
  pub others : (t : ℕ) → t ≢ s → Has caught t ↔ Has l.caught t
  pub counted : Has caught s ↔ (count_in e ≡ pos 0 → ⊥)
  pub fits : Fits e
  pub flying : Has (slots l.cleanups) s → state_in e ≡ Some Flying

pub set_valid : (l : Lists) (s : ℕ) (e : Entry) (caught : List ℕ) (uncaught : ℕ) → s < length l.entries → Fitting l s e caught → IsValid l
    → IsValid (record { entries = set l.entries s e; caught = caught; cleanups = l.cleanups; uncaught = uncaught })
set_valid l s e caught uncaught h f v = record {
  caught_once = f.once;
  cleanups_once = v.cleanups_once;
  counted = λ t.
      at_set (λ x. Has caught t ↔ (count_in x ≡ pos 0 → ⊥)) l s t e h
      (λ q. rw q f.counted)
      (λ n. let a = f.others t n in let b = v.counted t in (λ p. b.0 (a.0 p), λ p. a.1 (b.1 p)));
  fits = λ t. at_set Fits l s t e h (λ q. f.fits) (λ n. v.fits t);
  flying = λ t p. at_set (λ x. state_in x ≡ Some Flying) l s t e h (λ q. f.flying (rw q at p)) (λ n. v.flying t p);
}
