-- The lives of exceptions in a run from an empty pool.
use Rattle.std.proofs.Common.{◌≡◌, ◌≢◌, ℕ, ◌+◌, ◌<◌, Bool, true, false, ◌==◌, cond, nat_lt, List, [], ◌∷◌, length, get_or, set, ℤ, pos, Option, Some, None, Result, Ok, Err, refl, sym, ap, ◌∙◌, arith, get_or-set_same, get_or-set_other}
use Rattle.std.specs.Ordering.{int_eq}
use Rattle.std.proofs.lemmas.Bool.Decides.{nat_tests}
use Rattle.eh_cxa.specs.declared.globals.CxaFault.{CxaFault}
use Rattle.eh_cxa.specs.declared.globals.CxaFault.TheVariants.{TooBig}
use Rattle.eh_cxa.specs.declared.layout.TheConstants.{OBJECT_BYTES}
use Rattle.eh_cxa.specs.declared.state.State.{State}
use Rattle.eh_cxa.specs.declared.state.State.TheVariants.{Fresh, Flying, Landed, Caught, Ended}
use Rattle.eh_cxa.specs.States.{is_fresh, is_flying, is_caught, may_be_freed}
use Rattle.eh_cxa.specs.Words.{block, object}
use Rattle.eh_cxa.specs.Allocate.{first_slot}
use Rattle.eh_cxa.specs.Throw.{Throw}
use Rattle.eh_cxa.specs.Catch.{catch_fault, Fall, stays, falls, ends, leaves}
use Rattle.eh_cxa.specs.Lists.{Record, Entry, Free, OutOfUse, Live, Lists, entry, state_in, Outcome}
use Rattle.eh_cxa.specs.ListCalls.{become, is_free, fresh_record, allocate_in, allocate_list, free_by_list, free_list, record_of_throw, throw_by_list, throw_entry, throw_list, land_record, land_entry, land_list, one_more_handler, is_top, catch_by_list, catch_entry, catch_list, fall_of, end_by_list, end_entry, end_from, end_list, rethrow_by_list, rethrow_entry, rethrow_from, rethrow_list, end_cleanup_by_list, end_cleanup_from, end_cleanup_list}
use Rattle.eh_cxa.specs.Runs.{empty_lists, Call, Allocate, GiveBack, StartThrow, Land, BeginCatch, EndCatch, Rethrow, BeginCleanup, EndCleanup, lists_after, run, Life, no_life, new_life, life_so_far, Over, unused, unthrown, done, LifeFits, life_after_allocate, life_after_throw, life_after_end, life_after_free, names_slot, life_after_call, life_after_calls, LivesFit}
use Rattle.eh_cxa.proofs.Zeros.{first_passes}
use Rattle.eh_cxa.proofs.Looking.{fresh_is, flying_is, caught_is}
use Rattle.eh_cxa.proofs.CatchLaws.{no_fault}
use Rattle.eh_cxa.proofs.RunLaws.{Sound, live_inside, ends_at_one, one_is_caught, sound_after, sound_nothing}
use Rattle.eh_cxa.proofs.Kept.{blank_at}

-- ---- one entry is replaced, and the life of its slot goes on; that of any other slot stays

pub changed : (l : Lists) (s t : ℕ) (e : Entry) (b b' : Life) (own : Bool) → own ≡ (s == t) → s < length l.entries
    → (LifeFits (entry l s) b → LifeFits e b') → LifeFits (entry l t) b → LifeFits (get_or (set l.entries s e) t OutOfUse) (cond own b' b)
changed l s t e b b' own o h step x = rw o (by (s == t) refl)
  where
    by : (c : Bool) → (s == t) ≡ c → LifeFits (get_or (set l.entries s e) t OutOfUse) (cond c b' b)
    by true q = let f : t ≡ s = grind (arith, nat_tests) in rw (f, get_or-set_same) (step (rw f at x))
    by false q = let n : t ≢ s = grind (arith, nat_tests) in rw get_or-set_other x

pub quiet : (l : Lists) (s t : ℕ) (e : Entry) (b : Life) → s < length l.entries
    → (LifeFits (entry l s) b → LifeFits e b) → LifeFits (entry l t) b → LifeFits (get_or (set l.entries s e) t OutOfUse) b
quiet l s t e b h step x = by (s == t) refl
  where
    by : (c : Bool) → (s == t) ≡ c → LifeFits (get_or (set l.entries s e) t OutOfUse) b
    by true q = let f : t ≡ s = grind (arith, nat_tests) in rw (f, get_or-set_same) (step (rw f at x))
    by false q = let n : t ≢ s = grind (arith, nat_tests) in rw get_or-set_other x

own_object : (s t : ℕ) → (object s == object t) ≡ (s == t)
own_object s t = grind (arith, nat_tests)

own_block : (s t : ℕ) → (block s == block t) ≡ (s == t)
own_block s t = grind (arith, nat_tests)

no_object : (t : ℕ) → (0 == object t) ≡ false
no_object t = grind (arith, nat_tests)

-- a record's life, where its state is known
in_state : (r : Record) (st : State) (b : Life) → r.state ≡ st → b ≡ life_so_far r.state → b ≡ life_so_far st
in_state r st b e f = f ∙ ap life_so_far e

-- ---- each call

life_allocate : (l : Lists) (t size : ℕ) (b : Life) → Sound l → LifeFits (entry l t) b → LifeFits (entry (allocate_list l size).lists t) (life_after_allocate t (allocate_list l size).answer b)
life_allocate l t size b x f = by_size (nat_lt OBJECT_BYTES size)
  where
    by_slot : (o : Option ℕ) → first_slot (λ s. is_free (entry l s)) ≡ o → LifeFits (entry (allocate_in l size o).lists t) (life_after_allocate t (allocate_in l size o).answer b)
    by_slot None q = f
    by_slot (Some s) q =
        let p = first_passes (λ s. is_free (entry l s)) s q in
        let h : s < length l.entries = omega (arith, x.sized, p.0) in
        changed l s t (Live (fresh_record size)) b new_life (object s == object t) (own_object s t) h (λ y. refl) f

    by_size : (c : Bool) → LifeFits (entry (cond c (record { answer = Err TooBig; lists = l }) (allocate_in l size (first_slot (λ s. is_free (entry l s))))).lists t)
        (life_after_allocate t (cond c (record { answer = Err TooBig; lists = l }) (allocate_in l size (first_slot (λ s. is_free (entry l s))))).answer b)
    by_size true = f
    by_size false = by_slot _ refl

abbrev freed_once : Life → Life
freed_once b = record { allocated = b.allocated; thrown = b.thrown; ended = b.ended; freed = b.freed + 1 }

over : (st : State) (b : Life) → may_be_freed (Some st) ≡ true → b ≡ life_so_far st → Over (freed_once b)
over Fresh b e f = unthrown (rw f refl)
over Ended b e f = done (rw f refl)
over Flying b e f = cc
over Landed b e f = cc
over Caught b e f = cc

life_free : (l : Lists) (t : ℕ) (o : Option ℕ) (b : Life) → LifeFits (entry l t) b → LifeFits (entry (free_list l o).lists t) (life_after_free (names_slot o t) (free_list l o).answer b)
life_free l t None b f = f
life_free l t (Some s) b f = by (entry l s) refl
  where
    back : (r : Record) → entry l s ≡ Live r → (c : Bool) → may_be_freed (Some r.state) ≡ c → LifeFits (entry (free_by_list c l s).lists t) (life_after_free (s == t) (free_by_list c l s).answer b)
    back r is false q = f
    back r is true q = changed l s t Free b (freed_once b) (s == t) refl (live_inside l.entries s r is) (rw is (λ y. over r.state b q y)) f

    by : (e : Entry) → entry l s ≡ e → LifeFits (entry (free_by_list (may_be_freed (state_in e)) l s).lists t) (life_after_free (s == t) (free_by_list (may_be_freed (state_in e)) l s).answer b)
    by Free is = f
    by OutOfUse is = f
    by (Live r) is = back r is (may_be_freed (Some r.state)) refl

abbrev thrown_once : Life → Life
thrown_once b = record { allocated = b.allocated; thrown = b.thrown + 1; ended = b.ended; freed = b.freed }

life_throw : (l : Lists) (t : ℕ) (o : Option ℕ) (w : Throw) (b : Life) → LifeFits (entry l t) b → LifeFits (entry (throw_list l o w).lists t) (life_after_throw t (throw_list l o w).answer b)
life_throw l t None w b f = f
life_throw l t (Some s) w b f = by (entry l s) refl
  where
    thrown : (r : Record) → entry l s ≡ Live r → (c : Bool) → is_fresh (Some r.state) ≡ c → LifeFits (entry (throw_by_list c l s r w).lists t) (life_after_throw t (throw_by_list c l s r w).answer b)
    thrown r is false q = f
    thrown r is true q =
        changed l s t (Live (record_of_throw w r)) b (thrown_once b) (block s == block t) (own_block s t) (live_inside l.entries s r is)
        (rw is (λ y. rw (in_state r Fresh b (fresh_is r.state q) y) refl)) f

    by : (e : Entry) → entry l s ≡ e → LifeFits (entry (throw_entry l s e w).lists t) (life_after_throw t (throw_entry l s e w).answer b)
    by Free is = f
    by OutOfUse is = f
    by (Live r) is = thrown r is (is_fresh (Some r.state)) refl

life_land : (l : Lists) (t s : ℕ) (b : Life) → LifeFits (entry l t) b → LifeFits (entry (land_list l s) t) b
life_land l t s b f = by (entry l s) refl
  where
    landed : (r : Record) → entry l s ≡ Live r → (c : Bool) → is_flying (Some r.state) ≡ c → LifeFits (entry (land_record c l s r) t) b
    landed r is false q = f
    landed r is true q = quiet l s t (Live (become Landed r.count r)) b (live_inside l.entries s r is) (rw is (λ y. in_state r Flying b (flying_is r.state q) y)) f

    by : (e : Entry) → entry l s ≡ e → LifeFits (entry (land_entry l s e) t) b
    by Free is = f
    by OutOfUse is = f
    by (Live r) is = landed r is (is_flying (Some r.state)) refl

life_catch : (given : ℕ → ℕ) (l : Lists) (t : ℕ) (o : Option ℕ) (b : Life) → LifeFits (entry l t) b → LifeFits (entry (catch_list given l o).lists t) b
life_catch given l t None b f = f
life_catch given l t (Some s) b f = by (entry l s) refl
  where
    caught : (r : Record) → entry l s ≡ Live r → (c : Option CxaFault) → catch_fault (Some r.state) (int_eq r.count (pos 0)) (is_top l.caught s) ≡ c → LifeFits (entry (catch_by_list (given s) l s r c).lists t) b
    caught r is (Some e) q = f
    caught r is None q =
        quiet l s t (Live (become Caught (one_more_handler r.count) r)) b (live_inside l.entries s r is) (rw is (λ y. in_state r Landed b (no_fault r.state _ _ q) y)) f

    by : (e : Entry) → entry l s ≡ e → LifeFits (entry (catch_entry (given s) l s e).lists t) b
    by Free is = f
    by OutOfUse is = f
    by (Live r) is = caught r is _ refl

abbrev ended_once : Life → Life
ended_once b = record { allocated = b.allocated; thrown = b.thrown; ended = b.ended + 1; freed = b.freed }

life_end : (l : Lists) (t : ℕ) (b : Life) → Sound l → LifeFits (entry l t) b → LifeFits (entry (end_list l).lists t) (life_after_end t (end_list l).answer b)
life_end l t b x f = start l.caught
  where
    -- two zeros name no object
    none : (m : Lists) → LifeFits (entry m t) b → LifeFits (entry m t) (life_after_end t (Ok (0, 0)) b)
    none m y = rw (no_object t) y

    ended : (s : ℕ) (more : List ℕ) (r : Record) → entry l s ≡ Live r → (c : Fall ℤ) → fall_of r.count ≡ c → LifeFits (entry (end_by_list l s more r c).lists t) (life_after_end t (end_by_list l s more r c).answer b)
    ended s more r is stays q = none l f
    ended s more r is (falls n) q = none (end_by_list l s more r (falls n)).lists (quiet l s t (Live (become r.state n r)) b (live_inside l.entries s r is) (rw is (λ y. y)) f)
    ended s more r is leaves q = none (end_by_list l s more r leaves).lists (quiet l s t (Live (become r.state (pos 0) r)) b (live_inside l.entries s r is) (rw is (λ y. y)) f)
    ended s more r is ends q =
        let g = x.fits s in let g' = rw is at g in
        let st = one_is_caught r.state r.count (ends_at_one r.count q) g' in
        changed l s t (Live (become Ended (pos 0) r)) b (ended_once b) (object s == object t) (own_object s t) (live_inside l.entries s r is)
        (rw is (λ y. rw (in_state r Caught b st y) refl)) f

    by : (s : ℕ) (more : List ℕ) (e : Entry) → entry l s ≡ e → LifeFits (entry (end_entry l s more e).lists t) (life_after_end t (end_entry l s more e).answer b)
    by s more Free is = none l f
    by s more OutOfUse is = none l f
    by s more (Live r) is = ended s more r is _ refl

    start : (xs : List ℕ) → LifeFits (entry (end_from l xs).lists t) (life_after_end t (end_from l xs).answer b)
    start [] = f
    start (s ∷ more) = by s more (entry l s) refl

life_rethrow : (l : Lists) (t : ℕ) (b : Life) → LifeFits (entry l t) b → LifeFits (entry (rethrow_list l).lists t) b
life_rethrow l t b f = start l.caught
  where
    thrown : (s : ℕ) (r : Record) → entry l s ≡ Live r → (c : Bool) → is_caught (Some r.state) ≡ c → LifeFits (entry (rethrow_by_list c l s r).lists t) b
    thrown s r is false q = f
    thrown s r is true q =
        quiet l s t (Live (become Flying (Rattle.std.proofs.Common.neg_ℤ r.count) r)) b (live_inside l.entries s r is) (rw is (λ y. in_state r Caught b (caught_is r.state q) y)) f

    by : (s : ℕ) (e : Entry) → entry l s ≡ e → LifeFits (entry (rethrow_entry l s e).lists t) b
    by s Free is = f
    by s OutOfUse is = f
    by s (Live r) is = thrown s r is _ refl

    start : (xs : List ℕ) → LifeFits (entry (rethrow_from l xs).lists t) b
    start [] = f
    start (s ∷ more) = by s (entry l s) refl

life_end_cleanup : (l : Lists) (t sp : ℕ) (b : Life) → LifeFits (entry l t) b → LifeFits (entry (end_cleanup_list l sp).lists t) b
life_end_cleanup l t sp b f = start l.cleanups
  where
    by : (c : Bool) (d : Rattle.eh_cxa.specs.Lists.Cleanup) (more : List Rattle.eh_cxa.specs.Lists.Cleanup) → LifeFits (entry (end_cleanup_by_list c l d more).lists t) b
    by false d more = f
    by true d more = f

    start : (xs : List Rattle.eh_cxa.specs.Lists.Cleanup) → LifeFits (entry (end_cleanup_from l sp xs).lists t) b
    start [] = f
    start (d ∷ more) = by (d.sp == sp) d more

life_after : (t : ℕ) (c : Call) (l : Lists) (b : Life) → Sound l → LifeFits (entry l t) b → LifeFits (entry (lists_after c l) t) (life_after_call t c l b)
life_after t (Allocate size) l b x f = life_allocate l t size b x f
life_after t (GiveBack s) l b x f = life_free l t s b f
life_after t (StartThrow s w) l b x f = life_throw l t s w b f
life_after t (Land s) l b x f = life_land l t s b f
life_after t (BeginCatch given s) l b x f = life_catch given l t s b f
life_after t EndCatch l b x f = life_end l t b x f
life_after t Rethrow l b x f = life_rethrow l t b f
life_after t (BeginCleanup s c) l b x f = f
life_after t (EndCleanup sp) l b x f = life_end_cleanup l t sp b f

life_run : (t : ℕ) (calls : List Call) (l : Lists) (b : Life) → Sound l → LifeFits (entry l t) b → LifeFits (entry (run calls l) t) (life_after_calls t calls l b)
life_run t [] l b x f = f
life_run t (c ∷ more) l b x f = life_run t more (lists_after c l) (life_after_call t c l b) (sound_after c l x) (life_after t c l b x f)

pub lives_fit : LivesFit
lives_fit calls s h = life_run s calls empty_lists no_life sound_nothing (let e = blank_at 64 s h in rw e (unused refl))
