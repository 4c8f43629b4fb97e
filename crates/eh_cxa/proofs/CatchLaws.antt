-- A catch begins.
use Rattle.std.proofs.Common.{◌≡◌, ◌≢◌, ℕ, ◌^◌, ◌<◌, inl, inr, Bool, true, false, not, ◌&&◌, ◌==◌, cond, List, [], ◌∷◌, length, set, ℤ, pos, Option, Some, None, Result, Ok, Err, refl, sym, ap, ◌∙◌, arith}
use Rattle.std.proofs.lemmas.Bool.Decides.{nat_tests}
use Rattle.std.proofs.lemmas.Int.{ints}
use Rattle.eh_bus.specs.Lists.{Has}
use Rattle.eh_cxa.specs.declared.globals.Globals.{Globals}
use Rattle.eh_cxa.specs.declared.globals.CxaFault.{CxaFault}
use Rattle.eh_cxa.specs.declared.globals.CxaFault.TheVariants.{BadUcb, CaughtOrder}
use Rattle.eh_cxa.specs.declared.layout.TheConstants.{SLOTS, COUNT, NEXT_CAUGHT, BARRIER_OBJECT}
use Rattle.eh_cxa.specs.declared.state.State.{State}
use Rattle.eh_cxa.specs.declared.state.State.TheVariants.{Flying, Landed, Caught}
use Rattle.eh_cxa.specs.States.{is_landed}
use Rattle.eh_cxa.specs.Words.{block_slot, block, Pool, with_all, one_less}
use Rattle.eh_cxa.specs.Catch.{count_after_catch, catch_fault, catch_at, catch_in, catch_by, begin_catch_of}
use Rattle.eh_cxa.specs.Lists.{Record, Live, Lists, entry, slots, count_in, state_in}
use Rattle.eh_cxa.specs.ListCalls.{become, is_top, push_if, one_more_handler, catch_entry, catch_by_list, catch_list}
use Rattle.eh_cxa.specs.Stands.{record_of, entry_of, Chain, Stands, Follows}
use Rattle.eh_cxa.proofs.Pools.{slot_small, slot_block}
use Rattle.eh_cxa.proofs.Chains.{chain_same}
use Rattle.eh_cxa.proofs.Counts.{signed, zero_count, signed_zero, counted_is, caught_above}
use Rattle.eh_cxa.proofs.Valid.{set_valid}
use Rattle.eh_cxa.proofs.Looking.{self, Look, live, free, lost, look, landed_is, one_state, one_count, showing, shows_set}

-- the control block of a slot is the head of the chain exactly where the slot is on top
top_is : (next : ℕ → ℕ) (head ucb s : ℕ) (xs : List ℕ) → block_slot ucb ≡ Some s → Chain next head xs → is_top xs s ≡ (head == ucb)
top_is next head ucb s [] e c = go (head == ucb) refl
  where
    go : (b : Bool) → (head == ucb) ≡ b → false ≡ b
    go true p = let f : head ≡ ucb = grind (arith, nat_tests) in let d : Some s ≡ None = sym e ∙ (ap block_slot (sym f) ∙ c) in cc
    go false p = refl
top_is next head ucb s (t ∷ more) e c = go (head == ucb) refl (t == s) refl
  where
    go : (b : Bool) → (head == ucb) ≡ b → (a : Bool) → (t == s) ≡ a → a ≡ b
    go true p true q = refl
    go false p false q = refl
    go true p false q =
        let f : head ≡ ucb = grind (arith, nat_tests) in
        let d : Some t ≡ Some s = sym c.0 ∙ (ap block_slot f ∙ e) in
        let i : t ≡ s = cc in
        grind (arith, nat_tests)
    go false p true q =
        let f : t ≡ s = grind (arith, nat_tests) in
        let i = slot_block head t c.0 in
        let j = slot_block ucb s e in
        let k : head ≡ ucb = i ∙ (ap block f ∙ sym j) in
        grind (arith, nat_tests)

pub no_fault : (st : State) (b c : Bool) → catch_fault (Some st) b c ≡ None → st ≡ Landed
no_fault st b c e = go (is_landed (Some st)) refl e
  where
    go : (a : Bool) → is_landed (Some st) ≡ a → cond (not a) (Some BadUcb) (cond (not b && not c) (Some CaughtOrder) None) ≡ None → st ≡ Landed
    go true p e = landed_is st p
    go false p e = cc

caught_counts : (z : ℤ) → one_more_handler z ≡ pos 0 → ⊥
caught_counts z e = let a = caught_above z in omega (arith, ints)

-- a landed exception is in no cleanup in progress
idle : (l : Lists) (s : ℕ) (r : Record) → entry l s ≡ Live r → r.state ≡ Landed → (Has (slots l.cleanups) s → state_in (entry l s) ≡ Some Flying) → Has (slots l.cleanups) s → ⊥
idle l s r is landed flying p =
    let f = flying p in let f' : Some r.state ≡ Some Flying = rw is at f in
    let g : Landed ≡ Flying = sym landed ∙ one_state r.state Flying f' in cc

catch_new : (w : Pool) (g : Globals) (l : Lists) (ucb s : ℕ) (st : State) → Stands w g l → block_slot ucb ≡ Some s → g.caught < 2 ^ 32 → entry l s ≡ Live (record_of st w s) → st ≡ Landed → w s COUNT ≡ 0
    → Stands (with_all (catch_by true w g ucb s).writes w) (catch_by true w g ucb s).globals
    (record { entries = set l.entries s (Live (become Caught (one_more_handler (signed (w s COUNT))) (record_of st w s))); caught = s ∷ l.caught; cleanups = l.cleanups; uncaught = one_less l.uncaught })
catch_new w g l ucb s st x e gs is three none =
    let h : s < SLOTS = slot_small ucb s e in
    let in_range : w s COUNT < 2 ^ 32 = x.shows.small s COUNT h (omega arith) in
    let inside : s < length l.entries = omega (arith, x.shows.sized) in
    let zero : signed (w s COUNT) ≡ pos 0 = rw none refl in
    let count : count_in (entry l s) ≡ pos 0 = rw is zero in
    let fresh = λ (p : Has l.caught s). (x.valid.counted s).0 p count in
    record {
      shows = shows_set w (catch_by true w g ucb s).writes g (catch_by true w g ucb s).globals l s _ (s ∷ l.caught) (one_less l.uncaught) x.shows h
          (refl, (refl, (refl, tt))) ((h, omega arith, gs), ((h, omega arith, grind (arith, nat_tests)), ((h, omega arith, omega arith), tt)))
          (one_count Caught (record_of st w s) _ _ (sym (counted_is (w s COUNT) in_range)) ∙ shown_now) (λ t p. refl) (λ t p. refl) refl (ap one_less x.shows.uncaught)
          (e, rw (self s) (chain_same (λ t. w t NEXT_CAUGHT) (λ t. with_all (catch_by true w g ucb s).writes w t NEXT_CAUGHT) g.caught l.caught (λ t i p. other t p fresh (t == s) refl) x.shows.caught));
      valid = set_valid l s _ (s ∷ l.caught) (one_less l.uncaught) inside
          (record {
            once = (fresh, x.valid.caught_once);
            others = λ t n. (λ p. elim p [ inl q ↦ absurd (n (sym q)) | inr q ↦ q ], λ p. inr p);
            counted = (λ p. caught_counts (signed (w s COUNT)), λ n. inl refl);
            fits = caught_above (signed (w s COUNT));
            flying = λ p. absurd (idle l s _ is three (x.valid.flying s) p);
          })
          x.valid;
    }
  where
    shown_now : Live (become Caught (signed (count_after_catch (w s COUNT))) (record_of st w s)) ≡ entry_of (with_all (catch_by true w g ucb s).writes w) s
    shown_now = showing (with_all (catch_by true w g ucb s).writes w) s Caught _ _ _ (count_after_catch (w s COUNT)) (rw (self s) refl) refl refl refl (rw (self s) refl)

    other : (t : ℕ) → Has l.caught t → (Has l.caught s → ⊥) → (b : Bool) → (t == s) ≡ b → cond b g.caught (w t NEXT_CAUGHT) ≡ w t NEXT_CAUGHT
    other t p n true q = let f : t ≡ s = grind (arith, nat_tests) in absurd (n (rw f at p))
    other t p n false q = refl

catch_again : (w : Pool) (g : Globals) (l : Lists) (ucb s : ℕ) (st : State) → Stands w g l → block_slot ucb ≡ Some s → entry l s ≡ Live (record_of st w s) → st ≡ Landed → w s COUNT ≢ 0
    → Stands (with_all (catch_by false w g ucb s).writes w) (catch_by false w g ucb s).globals
    (record { entries = set l.entries s (Live (become Caught (one_more_handler (signed (w s COUNT))) (record_of st w s))); caught = l.caught; cleanups = l.cleanups; uncaught = one_less l.uncaught })
catch_again w g l ucb s st x e is three some =
    let h : s < SLOTS = slot_small ucb s e in
    let in_range : w s COUNT < 2 ^ 32 = x.shows.small s COUNT h (omega arith) in
    let inside : s < length l.entries = omega (arith, x.shows.sized) in
    let count : count_in (entry l s) ≡ pos 0 → ⊥ = rw is (λ z. some (signed_zero (w s COUNT) in_range z)) in
    let there = (x.valid.counted s).1 count in
    record {
      shows = shows_set w (catch_by false w g ucb s).writes g (catch_by false w g ucb s).globals l s _ l.caught (one_less l.uncaught) x.shows h
          (refl, (refl, tt)) ((h, omega arith, grind (arith, nat_tests)), ((h, omega arith, omega arith), tt))
          (one_count Caught (record_of st w s) _ _ (sym (counted_is (w s COUNT) in_range)) ∙ shown_now) (λ t p. refl) (λ t p. refl) refl (ap one_less x.shows.uncaught)
          x.shows.caught;
      valid = set_valid l s _ l.caught (one_less l.uncaught) inside
          (record {
            once = x.valid.caught_once;
            others = λ t n. (λ p. p, λ p. p);
            counted = (λ p. caught_counts (signed (w s COUNT)), λ n. there);
            fits = caught_above (signed (w s COUNT));
            flying = λ p. absurd (idle l s _ is three (x.valid.flying s) p);
          })
          x.valid;
    }
  where
    shown_now : Live (become Caught (signed (count_after_catch (w s COUNT))) (record_of st w s)) ≡ entry_of (with_all (catch_by false w g ucb s).writes w) s
    shown_now = showing (with_all (catch_by false w g ucb s).writes w) s Caught _ _ _ (count_after_catch (w s COUNT)) (rw (self s) refl) refl refl refl (rw (self s) refl)

pub begin_catch_follows : (w : Pool) (g : Globals) (l : Lists) (ucb : ℕ) → g.caught < 2 ^ 32 → Stands w g l
    → Follows (with_all (begin_catch_of w g ucb).writes w) (begin_catch_of w g ucb).globals (begin_catch_of w g ucb).answer (catch_list (λ s. w s BARRIER_OBJECT) l (block_slot ucb))
begin_catch_follows w g l ucb gs x = start (block_slot ucb) refl
  where
    unchanged : (e : CxaFault) → Follows {A = Result ℕ CxaFault} w g (Err e) (record { answer = Err e; lists = l })
    unchanged e = record { same = refl; stands = x }

    effect : (s : ℕ) (st : State) → block_slot ucb ≡ Some s → entry l s ≡ Live (record_of st w s) → st ≡ Landed → (b : Bool) → (w s COUNT == 0) ≡ b
        → Follows (with_all (catch_by b w g ucb s).writes w) (catch_by b w g ucb s).globals (catch_by b w g ucb s).answer
        (record { answer = Ok (w s BARRIER_OBJECT); lists = record { entries = set l.entries s (Live (become Caught (one_more_handler (signed (w s COUNT))) (record_of st w s))); caught = push_if b s l.caught; cleanups = l.cleanups; uncaught = one_less l.uncaught } })
    effect s st e is three true q = record { same = refl; stands = catch_new w g l ucb s st x e gs is three (grind (arith, nat_tests)) }
    effect s st e is three false q = record { same = refl; stands = catch_again w g l ucb s st x e is three (grind (arith, nat_tests)) }

    tested : (s : ℕ) (st : State) → block_slot ucb ≡ Some s → entry l s ≡ Live (record_of st w s) → (f : Option CxaFault) → catch_fault (Some st) (w s COUNT == 0) (g.caught == ucb) ≡ f
        → Follows (with_all (catch_at w g ucb s f).writes w) (catch_at w g ucb s f).globals (catch_at w g ucb s f).answer (catch_by_list (w s BARRIER_OBJECT) l s (record_of st w s) f)
    tested s st e is (Some a) p = unchanged a
    tested s st e is None p =
        let h : s < SLOTS = slot_small ucb s e in
        let in_range : w s COUNT < 2 ^ 32 = x.shows.small s COUNT h (omega arith) in
        rw (zero_count (w s COUNT) in_range) (effect s st e is (no_fault st _ _ p) (w s COUNT == 0) refl)

    seen : (s : ℕ) → block_slot ucb ≡ Some s → Look w l s
        → Follows (with_all (catch_in w g ucb (Some s)).writes w) (catch_in w g ucb (Some s)).globals (catch_in w g ucb (Some s)).answer (catch_entry (w s BARRIER_OBJECT) l s (entry l s))
    seen s e (live st name is) =
        let h : s < SLOTS = slot_small ucb s e in
        let in_range : w s COUNT < 2 ^ 32 = x.shows.small s COUNT h (omega arith) in
        rw (name, is, zero_count (w s COUNT) in_range, top_is (λ t. w t NEXT_CAUGHT) g.caught ucb s l.caught e x.shows.caught) (tested s st e is _ refl)
    seen s e (free zero is) = rw (is, zero) (unchanged BadUcb)
    seen s e (lost n none is) = rw (is, none) (unchanged BadUcb)

    start : (o : Option ℕ) → block_slot ucb ≡ o
        → Follows (with_all (catch_in w g ucb o).writes w) (catch_in w g ucb o).globals (catch_in w g ucb o).answer (catch_list (λ s. w s BARRIER_OBJECT) l o)
    start None e = unchanged BadUcb
    start (Some s) e = seen s e (look w g l s x.shows (slot_small ucb s e))
