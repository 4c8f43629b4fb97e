-- By which faults each call on exceptions is refused.
use Rattle.std.proofs.Common.{◌≡◌, ℕ, ◌==◌, ◌&&◌, nat_lt, not, Bool, true, false, cond, Option, Some, None, Result, Ok, Err, refl, sym, ap, ◌∙◌}
use Rattle.eh_cxa.specs.States.{state_of_word, is_fresh, is_caught, is_landed, may_be_freed}
use Rattle.eh_cxa.specs.declared.state.State.{State}
use Rattle.eh_cxa.specs.declared.layout.TheConstants.{STATE, COUNT, OBJECT_BYTES}
use Rattle.eh_cxa.specs.declared.state.TheConstants.{FREE}
use Rattle.eh_cxa.specs.declared.globals.Globals.{Globals}
use Rattle.eh_cxa.specs.declared.globals.CxaFault.{CxaFault}
use Rattle.eh_cxa.specs.declared.globals.CxaFault.TheVariants.{PoolFull, TooBig, BadObject, BadUcb, CaughtOrder, NoCaught}
use Rattle.eh_cxa.specs.Words.{Pool, Wrote, block, block_slot}
use Rattle.eh_cxa.specs.Allocate.{first_slot, allocate_at, allocate_of, free_by, free_of}
use Rattle.eh_cxa.specs.Throw.{Throw, throw_by, start_throw_of, throw_fault}
use Rattle.eh_cxa.specs.Catch.{catch_fault, catch_by, catch_at, catch_in, begin_catch_of, Fall, stays, falls, ends, leaves, fall, end_catch_by, end_catch_at, end_catch_of, rethrow_by, rethrow_at, rethrow_of}
use Rattle.eh_cxa.proofs.Pools.{slot_small, slot_of_block_is}

abbrev pub ErrIs : {A : Type 0} → (CxaFault → Type 0) → Result A CxaFault → Type 0
ErrIs P (Ok x) = Unit {0}
ErrIs P (Err why) = P why

either : {A : Type 0} (P : A → Type 0) (b : Bool) (x y : A) → P x → P y → P (cond b x y)
either P true x y px py = px
either P false x y px py = py

module _ (P : CxaFault → Type 0) where
  allocated : (size : ℕ) (o : Option ℕ) → P PoolFull → ErrIs P (allocate_at size o).answer
  allocated size None full = full
  allocated size (Some s) full = tt

  pub allocate_err : (w : Pool) (size : ℕ) → P TooBig → P PoolFull → ErrIs P (allocate_of w size).answer
  allocate_err w size big full =
      either (λ (d : Wrote (Result ℕ CxaFault)). ErrIs P d.answer) (nat_lt OBJECT_BYTES size) _ _ big (allocated size (first_slot (λ s. w s STATE == FREE)) full)

  freed : (b : Bool) (s : ℕ) → P BadObject → ErrIs P (free_by b s).answer
  freed true s bad = tt
  freed false s bad = bad

  pub free_err : (w : Pool) (o : Option ℕ) → P BadObject → ErrIs P (free_of w o).answer
  free_err w None bad = bad
  free_err w (Some s) bad = freed (may_be_freed (state_of_word (w s STATE))) s bad

  thrown : (b : Bool) (g : Globals) (s : ℕ) (t : Throw) → P BadObject → ErrIs P (throw_by b g s t).answer
  thrown true g s t bad = tt
  thrown false g s t bad = bad

  pub throw_err : (w : Pool) (g : Globals) (o : Option ℕ) (t : Throw) → P BadObject → ErrIs P (start_throw_of w g o t).answer
  throw_err w g None t bad = bad
  throw_err w g (Some s) t bad = thrown (is_fresh (state_of_word (w s STATE))) g s t bad

  pub may_throw_err : (w : Pool) (o : Option ℕ) → P BadObject → ErrIs P (throw_fault w o)
  may_throw_err w None bad = bad
  may_throw_err w (Some s) bad = either (ErrIs P) (is_fresh (state_of_word (w s STATE))) _ _ tt bad

  caught : (b : Bool) (w : Pool) (g : Globals) (ucb s : ℕ) → ErrIs P (catch_by b w g ucb s).answer
  caught true w g ucb s = tt
  caught false w g ucb s = tt

  abbrev SomeIs : Option CxaFault → Type 0
  SomeIs None = Unit {0}
  SomeIs (Some why) = P why

  catching : (w : Pool) (g : Globals) (ucb s : ℕ) (o : Option CxaFault) → SomeIs o → ErrIs P (catch_at w g ucb s o).answer
  catching w g ucb s None h = caught (w s COUNT == 0) w g ucb s
  catching w g ucb s (Some why) h = h

  catch_is : (state : Option State) (uncounted top : Bool) → P BadUcb → P CaughtOrder → SomeIs (catch_fault state uncounted top)
  catch_is state uncounted top bad order =
      either SomeIs (not (is_landed state)) _ _ bad (either SomeIs (not uncounted && not top) _ _ order tt)

  catch_from : (w : Pool) (g : Globals) (ucb : ℕ) (o : Option ℕ) → P BadUcb → P CaughtOrder → ErrIs P (catch_in w g ucb o).answer
  catch_from w g ucb None bad order = bad
  catch_from w g ucb (Some s) bad order =
      catching w g ucb s (catch_fault (state_of_word (w s STATE)) (w s COUNT == 0) (g.caught == ucb)) (catch_is (state_of_word (w s STATE)) (w s COUNT == 0) (g.caught == ucb) bad order)

  pub catch_err : (w : Pool) (g : Globals) (ucb : ℕ) → P BadUcb → P CaughtOrder → ErrIs P (begin_catch_of w g ucb).answer
  catch_err w g ucb bad order = catch_from w g ucb (block_slot ucb) bad order

  ended : (f : Fall ℕ) (w : Pool) (g : Globals) (s : ℕ) → ErrIs P (end_catch_by f w g s).answer
  ended stays w g s = tt
  ended (falls c) w g s = tt
  ended ends w g s = tt
  ended leaves w g s = tt

  ending : (w : Pool) (g : Globals) (o : Option ℕ) → P NoCaught → ErrIs P (end_catch_at w g o).answer
  ending w g None none = none
  ending w g (Some s) none = ended (fall (w s COUNT)) w g s

  pub end_catch_err : (w : Pool) (g : Globals) → P NoCaught → ErrIs P (end_catch_of w g).answer
  end_catch_err w g none = ending w g (block_slot g.caught) none

  rethrown : (b : Bool) (w : Pool) (g : Globals) (s : ℕ) → P CaughtOrder → ErrIs P (rethrow_by b w g s).answer
  rethrown true w g s order = tt
  rethrown false w g s order = order

  rethrowing : (w : Pool) (g : Globals) (o : Option ℕ) → P NoCaught → P CaughtOrder → ErrIs P (rethrow_at w g o).answer
  rethrowing w g None none order = none
  rethrowing w g (Some s) none order = rethrown (is_caught (state_of_word (w s STATE))) w g s order

  pub rethrow_err : (w : Pool) (g : Globals) → P NoCaught → P CaughtOrder → ErrIs P (rethrow_of w g).answer
  rethrow_err w g none order = rethrowing w g (block_slot g.caught) none order

-- ---- a rethrow is of the top of the caught stack

top_by : (b : Bool) (w : Pool) (g : Globals) (s answer : ℕ) → (rethrow_by b w g s).answer ≡ Ok answer → answer ≡ block s
top_by true w g s answer e = cc
top_by false w g s answer e = absurd (cc)

top_at : (w : Pool) (g : Globals) (a : ℕ) (o : Option ℕ) (answer : ℕ) → block_slot a ≡ o → (rethrow_at w g o).answer ≡ Ok answer → block_slot answer ≡ block_slot a
top_at w g a None answer at e = absurd (cc)
top_at w g a (Some s) answer at e =
    let is = top_by (is_caught (state_of_word (w s STATE))) w g s answer e in
    ap block_slot is ∙ (slot_of_block_is s (slot_small a s at) ∙ sym at)

pub rethrow_top : (w : Pool) (g : Globals) (answer : ℕ) → (rethrow_of w g).answer ≡ Ok answer → block_slot answer ≡ block_slot g.caught
rethrow_top w g answer e = top_at w g g.caught (block_slot g.caught) answer refl e
