-- What a call's clause on words says of lists.
use Rattle.std.proofs.Common.{◌≡◌, ℕ, ◌^◌, ◌<◌, Bool, true, false, ◌==◌, cond, nat_lt, List, ◌≤◌, ◌*◌, [], ◌∷◌, MatchResult, IsSome, ◌+◌, Option, Some, None, Result, Ok, Err, refl, sym, ap, ◌∙◌, arith}
use Rattle.std.proofs.lemmas.Bool.Decides.{nat_tests}
use Rattle.eh_bus.specs.Lists.{Has}
use Rattle.eh_bus.specs.Memory.{Memory, load}
use Rattle.eh_bus.specs.Map.{IsMap}
use Rattle.eh_cxa.specs.declared.globals.Globals.{Globals}
use Rattle.eh_cxa.specs.declared.globals.BarrierWords.{BarrierWords}
use Rattle.eh_cxa.specs.declared.globals.CleanupWords.{CleanupWords}
use Rattle.eh_cxa.specs.declared.globals.CxaFault.{CxaFault}
use Rattle.eh_cxa.specs.declared.globals.CxaFault.TheVariants.{TooBig, PoolFull}
use Rattle.eh_cxa.specs.declared.layout.TheConstants.{SLOTS, SLOT_WORDS, OBJECT_BYTES, STATE, SIZE, COUNT, CLEANUP_SP, BARRIER_OBJECT, BARRIER_POINTER}
use Rattle.eh_bus.specs.declared.map.TheConstants.{SLOT_SIZE}
use Rattle.eh_cxa.specs.declared.state.TheConstants.{FREE, FRESH}
use Rattle.eh_cxa.specs.declared.state.State.TheVariants.{Flying}
use Rattle.eh_cxa.specs.States.{state_of_word, is_fresh, is_flying, is_caught, may_be_freed}
use Rattle.eh_cxa.specs.Words.{block_slot, object_slot, object, write, word, Pool, Write, with_all, set_slot_words, Wrote, wrote, Done, call_result}
use Rattle.eh_cxa.specs.Allocate.{zeros, first_slot, allocate_at, allocate_of, free_by, free_of}
use Rattle.eh_cxa.specs.Throw.{Throw, throw_by, start_throw_of, set_barrier_of, land_by, land_of}
use Rattle.eh_cxa.specs.Catch.{begin_catch_of, catch_in, catch_at, catch_by, Fall, stays, falls, ends, leaves, fall, end_catch_by, end_catch_of, end_catch_at, rethrow_of, rethrow_at, rethrow_by}
use Rattle.eh_cxa.specs.Cleanup.{end_cleanup_of, end_cleanup_at, end_cleanup_by, begin_cleanup_of, cleanup_at}
use Rattle.eh_cxa.specs.Lists.{Lists, Outcome, entry, slots, state_in}
use Rattle.eh_cxa.specs.ListCalls.{allocate_list, free_list, throw_list, land_list, catch_list, end_list, rethrow_list, begin_cleanup_list, end_cleanup_list}
use Rattle.eh_cxa.specs.Stands.{Stands, Follows}
use Rattle.eh_cxa.proofs.Pools.{slot_small, slot_block, object_small, AllFit, all_agree, all_is_map, open_word}
use Rattle.eh_cxa.proofs.Looking.{self}
use Rattle.eh_cxa.proofs.Counts.{negated_small, falls_by}
use Rattle.eh_cxa.proofs.Showing.{shows_same}
use Rattle.eh_cxa.proofs.Zeros.{first_passes, first_lowest, first_all, with_append, zeroed}
use Rattle.eh_cxa.proofs.AllocateLaws.{fresh, fresh_fit, allocate_follows, free_follows}
use Rattle.eh_cxa.proofs.ThrowLaws.{FitThrow, throw_follows, barrier_keeps, land_follows}
use Rattle.eh_cxa.proofs.CatchLaws.{begin_catch_follows}
use Rattle.eh_cxa.proofs.EndLaws.{end_catch_follows, rethrow_follows}
use Rattle.eh_cxa.proofs.CleanupLaws.{FitCleanup, begin_cleanup_follows, end_cleanup_follows}

-- lists that the written words stand for are those that the memory stands for
pub moved : (m : Memory) (xs : List Write) (g : Globals) (l : Lists) → IsMap m → AllFit xs → Stands (with_all xs (word m)) g l → Stands (word (set_slot_words xs m)) g l
moved m xs g l map fit x = record { shows = shows_same _ _ g l (λ s k h i. all_agree xs (word m) m map fit (λ s k h i. refl) s k h (omega arith)) x.shows; valid = x.valid }

pub meets : {A : Type 0} (m m' : Memory) (g' : Globals) (r : A) (d : Done A) (o : Outcome A) → IsMap m → (r, g', m') ≡ call_result d m → AllFit d.writes
    → Follows (with_all d.writes (word m)) d.globals d.answer o → Follows (word m') g' r o
meets {A} m m' g' r d o map e fit f =
    let a : r ≡ d.answer = ap (λ (p : A × Globals × Memory). p.0) e in
    let b : g' ≡ d.globals = ap (λ (p : A × Globals × Memory). p.1) e in
    let c : m' ≡ set_slot_words d.writes m = ap (λ (p : A × Globals × Memory). p.2) e in
    record { same = a ∙ f.same; stands = rw (b, c) (moved m d.writes d.globals o.lists map fit f.stands) }

pub meets_wrote : {A : Type 0} (m m' : Memory) (g : Globals) (r : A) (d : Wrote A) (o : Outcome A) → IsMap m → (r, m') ≡ wrote d m → AllFit d.writes
    → Follows (with_all d.writes (word m)) g d.answer o → Follows (word m') g r o
meets_wrote {A} m m' g r d o map e fit f =
    let a : r ≡ d.answer = ap (λ (p : A × Memory). p.0) e in
    let c : m' ≡ set_slot_words d.writes m = ap (λ (p : A × Memory). p.1) e in
    record { same = a ∙ f.same; stands = rw c (moved m d.writes g o.lists map fit f.stands) }

-- ---- what each call writes are words

pub allocate_fit : (w : Pool) (size : ℕ) → size < 2 ^ 32 → AllFit (allocate_of w size).writes
allocate_fit w size fit = by_size (nat_lt OBJECT_BYTES size)
  where
    by_slot : (o : Option ℕ) → first_slot (λ s. w s STATE == FREE) ≡ o → AllFit (allocate_at size o).writes
    by_slot None q = tt
    by_slot (Some s) q = fresh_fit s size (first_passes (λ s. w s STATE == FREE) s q).0 fit

    by_size : (b : Bool) → AllFit (cond b (record { answer = Err TooBig; writes = [] }) (allocate_at size (first_slot (λ s. w s STATE == FREE)))).writes
    by_size true = tt
    by_size false = by_slot _ refl

free_fit : (w : Pool) (o : Option ℕ) → ((s : ℕ) → o ≡ Some s → s < SLOTS) → AllFit (free_of w o).writes
free_fit w None small = tt
free_fit w (Some s) small = by (may_be_freed (state_of_word (w s STATE)))
  where
    by : (b : Bool) → AllFit (free_by b s).writes
    by false = tt
    by true = ((small s refl, omega arith, omega arith), tt)

throw_fit : (w : Pool) (g : Globals) (o : Option ℕ) (t : Throw) → ((s : ℕ) → o ≡ Some s → s < SLOTS) → FitThrow t → AllFit (start_throw_of w g o t).writes
throw_fit w g None t small fit = tt
throw_fit w g (Some s) t small fit = by (is_fresh (state_of_word (w s STATE)))
  where
    h : s < SLOTS
    h = small s refl

    by : (b : Bool) → AllFit (throw_by b g s t).writes
    by false = tt
    by true = ((h, omega arith, fit.ty), ((h, omega arith, fit.destructor), ((h, omega arith, omega arith), ((h, omega arith, omega arith), ((h, omega arith, omega arith), tt)))))

-- words that fit
pub record FitBarrier (b : BarrierWords) : Type 0 where
  pub sp : b.sp < 2 ^ 32
  pub object : b.object < 2 ^ 32
  pub desc : b.desc < 2 ^ 32
  pub pointer : b.pointer < 2 ^ 32

barrier_fit : (s : ℕ) (b : BarrierWords) → s < SLOTS → FitBarrier b → AllFit (set_barrier_of (Some s) b)
barrier_fit s b h f =
    ((h, omega arith, f.sp), ((h, omega arith, f.object), ((h, omega arith, f.desc), ((h, omega arith, f.pointer), ((h, omega arith, omega arith), ((h, omega arith, omega arith), tt))))))

land_fit : (w : Pool) (s : ℕ) → s < SLOTS → AllFit (land_of w (Some s))
land_fit w s h = by (is_flying (state_of_word (w s STATE)))
  where
    by : (b : Bool) → AllFit (land_by b s)
    by false = tt
    by true = ((h, omega arith, omega arith), tt)

catch_fit : (w : Pool) (g : Globals) (ucb : ℕ) → g.caught < 2 ^ 32 → AllFit (begin_catch_of w g ucb).writes
catch_fit w g ucb gs = start (block_slot ucb) refl
  where
    by_count : (s : ℕ) → s < SLOTS → (b : Bool) → AllFit (catch_by b w g ucb s).writes
    by_count s h true = ((h, omega arith, gs), ((h, omega arith, grind (arith, nat_tests)), ((h, omega arith, omega arith), tt)))
    by_count s h false = ((h, omega arith, grind (arith, nat_tests)), ((h, omega arith, omega arith), tt))

    by_fault : (s : ℕ) → s < SLOTS → (f : Option CxaFault) → AllFit (catch_at w g ucb s f).writes
    by_fault s h (Some e) = tt
    by_fault s h None = by_count s h (w s COUNT == 0)

    start : (o : Option ℕ) → block_slot ucb ≡ o → AllFit (catch_in w g ucb o).writes
    start None e = tt
    start (Some s) e = by_fault s (slot_small ucb s e) _

end_fit : (w : Pool) (g : Globals) → ((s : ℕ) → s < SLOTS → w s COUNT < 2 ^ 32) → AllFit (end_catch_of w g).writes
end_fit w g small = start (block_slot g.caught) refl
  where
    by_fall : (s : ℕ) → s < SLOTS → (f : Fall ℕ) → fall (w s COUNT) ≡ f → AllFit (end_catch_by f w g s).writes
    by_fall s h stays q = tt
    by_fall s h (falls c) q = ((h, omega arith, (falls_by (w s COUNT) c (small s h) q).small), tt)
    by_fall s h ends q = ((h, omega arith, omega arith), ((h, omega arith, omega arith), tt))
    by_fall s h leaves q = ((h, omega arith, omega arith), tt)

    start : (o : Option ℕ) → block_slot g.caught ≡ o → AllFit (end_catch_at w g o).writes
    start None e = tt
    start (Some s) e = by_fall s (slot_small g.caught s e) _ refl

rethrow_fit : (w : Pool) (g : Globals) → AllFit (rethrow_of w g).writes
rethrow_fit w g = start (block_slot g.caught) refl
  where
    by : (s : ℕ) → s < SLOTS → (b : Bool) → AllFit (rethrow_by b w g s).writes
    by s h false = tt
    by s h true = ((h, omega arith, negated_small (w s COUNT)), ((h, omega arith, omega arith), tt))

    start : (o : Option ℕ) → block_slot g.caught ≡ o → AllFit (rethrow_at w g o).writes
    start None e = tt
    start (Some s) e = by s (slot_small g.caught s e) (is_caught (state_of_word (w s STATE)))

end_cleanup_fit : (w : Pool) (g : Globals) (sp : ℕ) → AllFit (end_cleanup_of w g sp).writes
end_cleanup_fit w g sp = start (block_slot g.cleanup)
  where
    by : (s : ℕ) (b : Bool) → AllFit (end_cleanup_by b w g s).writes
    by s false = tt
    by s true = tt

    start : (o : Option ℕ) → AllFit (end_cleanup_at w g sp o).writes
    start None = tt
    start (Some s) = by s (w s CLEANUP_SP == sp)

-- ---- the calls

pub allocate_meets : (m m' : Memory) (r : Result ℕ CxaFault) (size : ℕ) → IsMap m → size < 2 ^ 32 → (r, m') ≡ wrote (allocate_of (word m) size) m
    → (g : Globals) (l : Lists) → Stands (word m) g l → Follows (word m') g r (allocate_list l size)
allocate_meets m m' r size map fit e g l x =
    meets_wrote m m' g r (allocate_of (word m) size) _ map e (allocate_fit (word m) size fit) (allocate_follows (word m) g l size fit x)

pub free_meets : (m m' : Memory) (r : Result (Unit {0}) CxaFault) (object : ℕ) → IsMap m → (r, m') ≡ wrote (free_of (word m) (object_slot object)) m
    → (g : Globals) (l : Lists) → Stands (word m) g l → Follows (word m') g r (free_list l (object_slot object))
free_meets m m' r object map e g l x =
    let small = λ (s : ℕ) (h : object_slot object ≡ Some s). object_small object s h in
    meets_wrote m m' g r (free_of (word m) (object_slot object)) _ map e (free_fit (word m) (object_slot object) small) (free_follows (word m) g l (object_slot object) small x)

pub throw_meets : (m m' : Memory) (g g' : Globals) (r : Result ℕ CxaFault) (object : ℕ) (t : Throw) → IsMap m → FitThrow t → (r, g', m') ≡ call_result (start_throw_of (word m) g (object_slot object) t) m
    → (l : Lists) → Stands (word m) g l → Follows (word m') g' r (throw_list l (object_slot object) t)
throw_meets m m' g g' r object t map fit e l x =
    let small = λ (s : ℕ) (h : object_slot object ≡ Some s). object_small object s h in
    meets m m' g' r (start_throw_of (word m) g (object_slot object) t) _ map e (throw_fit (word m) g (object_slot object) t small fit) (throw_follows (word m) g l (object_slot object) t small fit x)

pub barrier_meets : (m m' : Memory) (ucb : ℕ) (b : BarrierWords) → IsMap m → FitBarrier b → m' ≡ set_slot_words (set_barrier_of (block_slot ucb) b) m
    → (g : Globals) (l : Lists) → Stands (word m) g l → Stands (word m') g l
barrier_meets m m' ucb b map fit e g l x = start (block_slot ucb) refl e
  where
    start : (o : Option ℕ) → block_slot ucb ≡ o → m' ≡ set_slot_words (set_barrier_of o b) m → Stands (word m') g l
    start None q e = rw e x
    start (Some s) q e =
        let f = barrier_fit s b (slot_small ucb s q) fit in
        rw e (moved m (set_barrier_of (Some s) b) g l map f (barrier_keeps (word m) g l s b f x))

-- the guest can load the pointer
pub barrier_open : (m m' : Memory) (ucb : ℕ) (b : BarrierWords) → IsMap m → FitBarrier b → m' ≡ set_slot_words (set_barrier_of (block_slot ucb) b) m
    → IsSome (block_slot ucb) → load 4 m' (ucb + 44) ≡ Ok b.pointer
barrier_open m m' ucb b map fit e some = start (block_slot ucb) refl e some
  where
    written : (w : Pool) (s : ℕ) → with_all (set_barrier_of (Some s) b) w s BARRIER_POINTER ≡ b.pointer
    written w s = rw (self s) refl

    start : (o : Option ℕ) → block_slot ucb ≡ o → m' ≡ set_slot_words (set_barrier_of o b) m → IsSome o → load 4 m' (ucb + 44) ≡ Ok b.pointer
    start None q e i = cc
    start (Some s) q e i =
        let h = slot_small ucb s q in
        let f = barrier_fit s b h fit in
        let g = all_agree (set_barrier_of (Some s) b) (word m) m map f (λ s k h i. refl) s BARRIER_POINTER h (omega arith) ∙ written (word m) s in
        rw (e, slot_block ucb s q) (open_word (set_slot_words (set_barrier_of (Some s) b) m) s (all_is_map (set_barrier_of (Some s) b) m map) h ∙ ap (λ (v : ℕ). Ok v) g)

pub land_meets : (m m' : Memory) (ucb : ℕ) → IsMap m → m' ≡ set_slot_words (land_of (word m) (block_slot ucb)) m
    → (g : Globals) (l : Lists) (s : ℕ) → Stands (word m) g l → block_slot ucb ≡ Some s → (Has (slots l.cleanups) s → ⊥) → Stands (word m') g (land_list l s)
land_meets m m' ucb map e g l s x is idle =
    let h = slot_small ucb s is in
    let e' = rw is at e in
    rw e' (moved m (land_of (word m) (Some s)) g _ map (land_fit (word m) s h) (land_follows (word m) g l s h idle x))

pub begin_catch_meets : (m m' : Memory) (g g' : Globals) (r : Result ℕ CxaFault) (ucb : ℕ) → IsMap m → g.caught < 2 ^ 32 → (r, g', m') ≡ call_result (begin_catch_of (word m) g ucb) m
    → (l : Lists) → Stands (word m) g l → Follows (word m') g' r (catch_list (λ s. word m s BARRIER_OBJECT) l (block_slot ucb))
begin_catch_meets m m' g g' r ucb map gs e l x =
    meets m m' g' r (begin_catch_of (word m) g ucb) _ map e (catch_fit (word m) g ucb gs) (begin_catch_follows (word m) g l ucb gs x)

pub end_catch_meets : (m m' : Memory) (g g' : Globals) (r : Result (ℕ × ℕ) CxaFault) → IsMap m → (r, g', m') ≡ call_result (end_catch_of (word m) g) m
    → (l : Lists) → Stands (word m) g l → Follows (word m') g' r (end_list l)
end_catch_meets m m' g g' r map e l x =
    meets m m' g' r (end_catch_of (word m) g) _ map e (end_fit (word m) g (λ s h. x.shows.small s COUNT h (omega arith))) (end_catch_follows (word m) g l x)

pub rethrow_meets : (m m' : Memory) (g g' : Globals) (r : Result ℕ CxaFault) → IsMap m → (r, g', m') ≡ call_result (rethrow_of (word m) g) m
    → (l : Lists) → Stands (word m) g l → Follows (word m') g' r (rethrow_list l)
rethrow_meets m m' g g' r map e l x = meets m m' g' r (rethrow_of (word m) g) _ map e (rethrow_fit (word m) g) (rethrow_follows (word m) g l x)

pub end_cleanup_meets : (m m' : Memory) (g g' : Globals) (r : Result (ℕ × CleanupWords) CxaFault) (sp : ℕ) → IsMap m → (r, g', m') ≡ call_result (end_cleanup_of (word m) g sp) m
    → (l : Lists) → Stands (word m) g l → Follows (word m') g' r (end_cleanup_list l sp)
end_cleanup_meets m m' g g' r sp map e l x = meets m m' g' r (end_cleanup_of (word m) g sp) _ map e (end_cleanup_fit (word m) g sp) (end_cleanup_follows (word m) g l sp x)

pub begin_cleanup_meets : (m m' : Memory) (g g' : Globals) (ucb : ℕ) (c : CleanupWords) → IsMap m → g.cleanup < 2 ^ 32 → FitCleanup c
    → (tt, g', m') ≡ call_result (begin_cleanup_of g ucb c) m
    → (l : Lists) (s : ℕ) → Stands (word m) g l → block_slot ucb ≡ Some s → state_in (entry l s) ≡ Some Flying → (Has (slots l.cleanups) s → ⊥)
    → Stands (word m') g' (begin_cleanup_list l s c)
begin_cleanup_meets m m' g g' ucb c map gs f e l s x is two fresh =
    let d = begin_cleanup_of g ucb c in
    let b : g' ≡ d.globals = ap (λ (p : Unit {0} × Globals × Memory). p.1) e in
    let a : m' ≡ set_slot_words d.writes m = ap (λ (p : Unit {0} × Globals × Memory). p.2) e in
    rw (b, a) (moved m d.writes d.globals _ map (rw is fit) (begin_cleanup_follows (word m) g l ucb s c x gs f is two fresh))
  where
    fit : AllFit (cleanup_at g ucb c (Some s)).writes
    fit = let h = slot_small ucb s is in ((h, omega arith, f.next), ((h, omega arith, f.sp), ((h, omega arith, f.site), ((h, omega arith, gs), tt))))

-- ---- what is allocated

-- the answer, and the words
answered : (m m' : Memory) (r : Result ℕ CxaFault) (size : ℕ) → (r, m') ≡ wrote (allocate_of (word m) size) m → r ≡ (allocate_of (word m) size).answer
answered m m' r size e = ap (λ (p : Result ℕ CxaFault × Memory). p.0) e

-- no free slot is below it, and none is left where the pool is full
pub allocate_lowest : (m m' : Memory) (r : Result ℕ CxaFault) (size : ℕ) → (r, m') ≡ wrote (allocate_of (word m) size) m
    → (t : ℕ) → t < SLOTS → word m t STATE ≡ FREE → MatchResult r (λ a. a ≤ object t) (λ e. e ≡ TooBig)
allocate_lowest m m' r size e t h is = rw (answered m m' r size e) (by_size (nat_lt OBJECT_BYTES size))
  where
    passes : (word m t STATE == FREE) ≡ true
    passes = rw is refl

    by_slot : (o : Option ℕ) → first_slot (λ s. word m s STATE == FREE) ≡ o → MatchResult (allocate_at size o).answer (λ a. a ≤ object t) (λ e. e ≡ TooBig)
    by_slot None q = absurd (first_all (λ s. word m s STATE == FREE) q t h passes)
    by_slot (Some s) q = let low = first_lowest (λ s. word m s STATE == FREE) s q t passes in omega arith

    by_size : (b : Bool) → MatchResult (cond b (record { answer = Err TooBig; writes = [] }) (allocate_at size (first_slot (λ s. word m s STATE == FREE)))).answer (λ a. a ≤ object t) (λ e. e ≡ TooBig)
    by_size true = refl
    by_size false = by_slot _ refl

fresh_clear : (w : Pool) (s size k : ℕ) → 2 ≤ k → k < SLOT_WORDS → with_all (fresh s size) w s k ≡ 0
fresh_clear w s size k low high =
    let a : (k == STATE) ≡ false = grind (arith, nat_tests) in
    let b : (k == SIZE) ≡ false = grind (arith, nat_tests) in
    rw (with_append (zeros s SLOT_WORDS) (write s SIZE size ∷ (write s STATE FRESH ∷ [])) w, a, b) (zeroed s SLOT_WORDS w k high)

-- all of its other words are 0
pub allocate_clears : (m m' : Memory) (r : Result ℕ CxaFault) (size : ℕ) → IsMap m → size < 2 ^ 32 → (r, m') ≡ wrote (allocate_of (word m) size) m
    → (s k : ℕ) → r ≡ Ok (object s) → s < SLOTS → 2 ≤ k → 4 * k < SLOT_SIZE → word m' s k ≡ 0
allocate_clears m m' r size map fit e s k is h low high = by_size (nat_lt OBJECT_BYTES size) e
  where
    by_slot : (o : Option ℕ) → first_slot (λ s. word m s STATE == FREE) ≡ o → (r, m') ≡ wrote (allocate_at size o) m → word m' s k ≡ 0
    by_slot None q e = let a : Ok (object s) ≡ Err PoolFull = sym is ∙ ap (λ (p : Result ℕ CxaFault × Memory). p.0) e in cc
    by_slot (Some t) q e =
        let a : Ok (object s) ≡ Ok (object t) = sym is ∙ ap (λ (p : Result ℕ CxaFault × Memory). p.0) e in
        let b : object s ≡ object t = cc in
        let c : t ≡ s = omega arith in
        let d : m' ≡ set_slot_words (fresh t size) m = ap (λ (p : Result ℕ CxaFault × Memory). p.1) e in
        rw (d, c) (all_agree (fresh s size) (word m) m map (fresh_fit s size h fit) (λ s k h i. refl) s k h (omega arith) ∙ fresh_clear (word m) s size k low (omega arith))

    by_size : (b : Bool) → (r, m') ≡ wrote (cond b (record { answer = Err TooBig; writes = [] }) (allocate_at size (first_slot (λ s. word m s STATE == FREE)))) m → word m' s k ≡ 0
    by_size true e = let a : Ok (object s) ≡ Err TooBig = sym is ∙ ap (λ (p : Result ℕ CxaFault × Memory). p.0) e in cc
    by_size false e = by_slot _ refl e
