-- Lists that a run from an empty pool reaches.
use Rattle.std.proofs.Common.{◌≡◌, ℕ, zero, suc, ◌+◌, ◌<◌, Bool, true, false, ◌==◌, cond, nat_lt, List, [], ◌∷◌, length, get_or, set, replicate, ℤ, pos, negsuc, neg_ℤ, ◌<ℤ◌, ◌≤ℤ◌, ◌+ℤ◌, ◌-ℤ◌, int_lt, Option, Some, None, Err, refl, sym, ap, ◌∙◌, arith, length-set}
use Rattle.std.specs.List.{count_by}
use Rattle.std.specs.Ordering.{int_eq}
use Rattle.std.proofs.lemmas.List.Sums.{count_by-le-length, sum_by-set}
use Rattle.std.proofs.lemmas.List.Folds.{sum_by-replicate}
use Rattle.std.proofs.lemmas.Bool.Decides.{Decides-int_eq}
use Rattle.std.proofs.lemmas.Int.{ints}
use Rattle.eh_cxa.specs.declared.globals.CxaFault.{CxaFault}
use Rattle.eh_cxa.specs.declared.globals.CxaFault.TheVariants.{TooBig}
use Rattle.eh_cxa.specs.declared.layout.TheConstants.{SLOTS, OBJECT_BYTES}
use Rattle.eh_cxa.specs.declared.state.State.{State}
use Rattle.eh_cxa.specs.declared.state.State.TheVariants.{Fresh, Flying, Landed, Caught, Ended}
use Rattle.eh_cxa.specs.States.{is_fresh, is_flying, is_caught, may_be_freed, is_in_flight}
use Rattle.eh_cxa.specs.Words.{one_more, one_less}
use Rattle.eh_cxa.specs.Allocate.{first_slot}
use Rattle.eh_cxa.specs.Throw.{Throw}
use Rattle.eh_cxa.specs.Catch.{catch_fault, Fall, stays, falls, ends, leaves}
use Rattle.eh_cxa.specs.Lists.{Record, Entry, Free, OutOfUse, Live, Lists, entry, state_in, CountFits, Fits}
use Rattle.eh_cxa.specs.ListCalls.{become, is_free, fresh_record, allocate_in, allocate_list, free_by_list, free_list, record_of_throw, throw_by_list, throw_entry, throw_list, land_record, land_entry, land_list, one_more_handler, is_top, catch_by_list, catch_entry, catch_list, fall_of, end_by_list, end_entry, end_from, end_list, rethrow_by_list, rethrow_entry, rethrow_from, rethrow_list, end_cleanup_by_list, end_cleanup_from, end_cleanup_list}
use Rattle.eh_cxa.specs.Runs.{flies, empty_lists, Call, Allocate, GiveBack, StartThrow, Land, BeginCatch, EndCatch, Rethrow, BeginCleanup, EndCleanup, lists_after, run, UncaughtFly}
use Rattle.eh_cxa.proofs.Counts.{caught_above, minus_below}
use Rattle.eh_cxa.proofs.Valid.{at_set}
use Rattle.eh_cxa.proofs.Zeros.{first_passes}
use Rattle.eh_cxa.proofs.Looking.{fresh_is, flying_is, caught_is}
use Rattle.eh_cxa.proofs.CatchLaws.{no_fault}
use Rattle.eh_cxa.proofs.AllocateLaws.{is_free_entry}
use Rattle.eh_cxa.proofs.Kept.{blank}

pub record Sound (l : Lists) : Type 0 where
  pub sized : length l.entries ≡ SLOTS
  pub fits : (s : ℕ) → Fits (entry l s)
  pub tallied : l.uncaught ≡ count_by flies l.entries

-- ---- how many fly, where one entry is replaced

abbrev one : Entry → ℕ
one e = cond (flies e) 1 0

pub tally : (xs : List Entry) (s : ℕ) (e : Entry) → s < length xs → count_by flies (set xs s e) + one (get_or xs s OutOfUse) ≡ count_by flies xs + one e
tally xs s e h = sum_by-set one xs s e OutOfUse h

pub live_inside : (xs : List Entry) (s : ℕ) (r : Record) → get_or xs s OutOfUse ≡ Live r → s < length xs
live_inside [] s r e = cc
live_inside (x ∷ xs) zero r e = omega arith
live_inside (x ∷ xs) (suc s) r e = let h = live_inside xs s r e in omega arith

fits_set : (l : Lists) (s : ℕ) (e : Entry) → s < length l.entries → Fits e → ((t : ℕ) → Fits (entry l t)) → (t : ℕ) → Fits (get_or (set l.entries s e) t OutOfUse)
fits_set l s e h f all t = at_set Fits l s t e h (λ q. f) (λ n. all t)

-- as many fly as before, one more, or one less

pub as_many : (l m : Lists) (s : ℕ) (e : Entry) → m.entries ≡ set l.entries s e → m.uncaught ≡ l.uncaught → s < length l.entries → Fits e → flies e ≡ flies (entry l s) → Sound l → Sound m
as_many l m s e c u h f q x = record {
  sized = rw c (length-set l.entries s e ∙ x.sized);
  fits = rw c (fits_set l s e h f x.fits);
  tallied = let a = tally l.entries s e h in let b : one e ≡ one (entry l s) = ap (λ (b : Bool). cond b 1 0) q in let d = x.tallied in rw (u, c) (omega arith);
}

pub one_flies : (l m : Lists) (s : ℕ) (e : Entry) → m.entries ≡ set l.entries s e → m.uncaught ≡ one_more l.uncaught → s < length l.entries → Fits e → flies (entry l s) ≡ false → flies e ≡ true → Sound l → Sound m
one_flies l m s e c u h f p q x = record {
  sized = rw c (length-set l.entries s e ∙ x.sized);
  fits = rw c (fits_set l s e h f x.fits);
  tallied =
      let a = tally l.entries s e h in
      let b : one e ≡ 1 = rw q refl in
      let d : one (entry l s) ≡ 0 = rw p refl in
      let k = count_by-le-length flies (set l.entries s e) in
      let n = length-set l.entries s e in
      let z = x.sized in
      let y = x.tallied in
      rw (u, c) (omega arith);
}

pub one_lands : (l m : Lists) (s : ℕ) (e : Entry) → m.entries ≡ set l.entries s e → m.uncaught ≡ one_less l.uncaught → s < length l.entries → Fits e → flies (entry l s) ≡ true → flies e ≡ false → Sound l → Sound m
one_lands l m s e c u h f p q x = record {
  sized = rw c (length-set l.entries s e ∙ x.sized);
  fits = rw c (fits_set l s e h f x.fits);
  tallied =
      let a = tally l.entries s e h in
      let b : one e ≡ 0 = rw q refl in
      let d : one (entry l s) ≡ 1 = rw p refl in
      let k = count_by-le-length flies l.entries in
      let z = x.sized in
      let y = x.tallied in
      rw (u, c) (omega arith);
}

-- ---- counts

pub zero_fits : (st : State) (z : ℤ) → st ≡ Fresh → CountFits st z → z ≤ℤ pos 0
zero_fits st z e f = let g : z ≡ pos 0 = rw e at f in rw g (omega (arith, ints))

pub flying_fits : (st : State) (z : ℤ) → st ≡ Flying → CountFits st z → z ≤ℤ pos 0
flying_fits st z e f = rw e at f

pub rethrown_fits : (st : State) (z : ℤ) → st ≡ Caught → CountFits st z → neg_ℤ z ≤ℤ pos 0
rethrown_fits st z e f = minus_below z (rw e at f)

-- what becomes of a count
pub record FallFits (z n : ℤ) : Type 0 where
  pub some : z ≡ pos 0 → ⊥
  pub above : pos 0 <ℤ z → pos 0 <ℤ n
  pub below : z ≤ℤ pos 0 → n ≤ℤ pos 0

pub fall_fits : (z n : ℤ) → fall_of z ≡ falls n → FallFits z n
fall_fits z n e = go (int_eq z (pos 0)) refl (int_eq z (pos 1)) refl (int_eq z (negsuc 0)) refl (int_lt (pos 0) z) refl e
  where
    go : (o : Bool) → int_eq z (pos 0) ≡ o → (p : Bool) → int_eq z (pos 1) ≡ p → (q : Bool) → int_eq z (negsuc 0) ≡ q → (r : Bool) → int_lt (pos 0) z ≡ r
        → cond o stays (cond p ends (cond q leaves (cond r (falls (z -ℤ pos 1)) (falls (z +ℤ pos 1))))) ≡ falls n → FallFits z n
    go true a p b q c r d e = cc
    go false a true b q c r d e = cc
    go false a false b true c r d e = cc
    go false a false b false c true d e =
        let f : z -ℤ pos 1 ≡ n = cc in
        record { some = λ x. grind (arith, ints, Decides-int_eq); above = λ x. grind (arith, ints, Decides-int_eq); below = λ x. grind (arith, ints, Decides-int_eq) }
    go false a false b false c false d e =
        let f : z +ℤ pos 1 ≡ n = cc in
        record { some = λ x. grind (arith, ints, Decides-int_eq); above = λ x. grind (arith, ints, Decides-int_eq); below = λ x. grind (arith, ints, Decides-int_eq) }

pub fallen_fits : (st : State) (z n : ℤ) → FallFits z n → CountFits st z → CountFits st n
fallen_fits Caught z n x f = x.above f
fallen_fits Flying z n x f = x.below f
fallen_fits Landed z n x f = x.below f
fallen_fits Fresh z n x f = absurd (x.some f)
fallen_fits Ended z n x f = absurd (x.some f)

pub ends_at_one : (z : ℤ) → fall_of z ≡ ends → z ≡ pos 1
ends_at_one z e = go (int_eq z (pos 0)) (int_eq z (pos 1)) refl (int_eq z (negsuc 0)) (int_lt (pos 0) z) e
  where
    go : (o p : Bool) → int_eq z (pos 1) ≡ p → (q r : Bool)
        → cond o stays (cond p ends (cond q leaves (cond r (falls (z -ℤ pos 1)) (falls (z +ℤ pos 1))))) ≡ ends → z ≡ pos 1
    go true p b q r e = cc
    go false true b q r e = grind (arith, ints, Decides-int_eq)
    go false false b true r e = cc
    go false false b false true e = cc
    go false false b false false e = cc

pub leaves_at_minus_one : (z : ℤ) → fall_of z ≡ leaves → z ≡ negsuc 0
leaves_at_minus_one z e = go (int_eq z (pos 0)) (int_eq z (pos 1)) (int_eq z (negsuc 0)) refl (int_lt (pos 0) z) e
  where
    go : (o p q : Bool) → int_eq z (negsuc 0) ≡ q → (r : Bool)
        → cond o stays (cond p ends (cond q leaves (cond r (falls (z -ℤ pos 1)) (falls (z +ℤ pos 1))))) ≡ leaves → z ≡ negsuc 0
    go true p q b r e = cc
    go false true q b r e = cc
    go false false true b r e = grind (arith, ints, Decides-int_eq)
    go false false false b true e = cc
    go false false false b false e = cc

-- a count of 1 is a caught exception's
pub one_is_caught : (st : State) (z : ℤ) → z ≡ pos 1 → CountFits st z → st ≡ Caught
one_is_caught Caught z e f = refl
one_is_caught Flying z e f = absurd (let y : pos 1 ≤ℤ pos 0 = rw e at f in omega (arith, ints))
one_is_caught Landed z e f = absurd (let y : pos 1 ≤ℤ pos 0 = rw e at f in omega (arith, ints))
one_is_caught Fresh z e f = absurd (let y : pos 1 ≡ pos 0 = rw e at f in omega (arith, ints))
one_is_caught Ended z e f = absurd (let y : pos 1 ≡ pos 0 = rw e at f in omega (arith, ints))

pub left_fits : (st : State) (z : ℤ) → z ≡ negsuc 0 → CountFits st z → CountFits st (pos 0)
left_fits Caught z e f = absurd (let y : pos 0 <ℤ negsuc 0 = rw e at f in omega (arith, ints))
left_fits Flying z e f = omega (arith, ints)
left_fits Landed z e f = omega (arith, ints)
left_fits Fresh z e f = refl
left_fits Ended z e f = refl

-- ---- each call

sound_allocate : (l : Lists) (size : ℕ) → Sound l → Sound (allocate_list l size).lists
sound_allocate l size x = by_size (nat_lt OBJECT_BYTES size)
  where
    by_slot : (o : Option ℕ) → first_slot (λ s. is_free (entry l s)) ≡ o → Sound (allocate_in l size o).lists
    by_slot None q = x
    by_slot (Some s) q =
        let f = first_passes (λ s. is_free (entry l s)) s q in
        let h : s < length l.entries = omega (arith, x.sized, f.0) in
        let is : entry l s ≡ Free = is_free_entry (entry l s) f.1 in
        as_many l (allocate_in l size (Some s)).lists s (Live (fresh_record size)) refl refl h refl (rw is refl) x

    by_size : (b : Bool) → Sound (cond b (record { answer = Err TooBig; lists = l }) (allocate_in l size (first_slot (λ s. is_free (entry l s))))).lists
    by_size true = x
    by_size false = by_slot _ refl

-- what may be given back doesn't fly
pub rests : (st : State) → may_be_freed (Some st) ≡ true → is_in_flight (Some st) ≡ false
rests Fresh e = refl
rests Ended e = refl
rests Flying e = cc
rests Landed e = cc
rests Caught e = cc

sound_free : (l : Lists) (o : Option ℕ) → Sound l → Sound (free_list l o).lists
sound_free l None x = x
sound_free l (Some s) x = by (entry l s) refl
  where
    back : (r : Record) → entry l s ≡ Live r → (b : Bool) → may_be_freed (Some r.state) ≡ b → Sound (free_by_list b l s).lists
    back r is false q = x
    back r is true q = as_many l (free_by_list true l s).lists s Free refl refl (live_inside l.entries s r is) tt (rw is (sym (rests r.state q))) x

    by : (e : Entry) → entry l s ≡ e → Sound (free_by_list (may_be_freed (state_in e)) l s).lists
    by Free is = x
    by OutOfUse is = x
    by (Live r) is = back r is (may_be_freed (Some r.state)) refl

sound_throw : (l : Lists) (o : Option ℕ) (t : Throw) → Sound l → Sound (throw_list l o t).lists
sound_throw l None t x = x
sound_throw l (Some s) t x = by (entry l s) refl
  where
    thrown : (r : Record) → entry l s ≡ Live r → (b : Bool) → is_fresh (Some r.state) ≡ b → Sound (throw_by_list b l s r t).lists
    thrown r is false q = x
    thrown r is true q =
        let f = x.fits s in let f' = rw is at f in
        let st = fresh_is r.state q in
        one_flies l (throw_by_list true l s r t).lists s (Live (record_of_throw t r)) refl refl (live_inside l.entries s r is)
        (zero_fits r.state r.count st f') (rw is (rw st refl)) refl x

    by : (e : Entry) → entry l s ≡ e → Sound (throw_entry l s e t).lists
    by Free is = x
    by OutOfUse is = x
    by (Live r) is = thrown r is (is_fresh (Some r.state)) refl

sound_land : (l : Lists) (s : ℕ) → Sound l → Sound (land_list l s)
sound_land l s x = by (entry l s) refl
  where
    landed : (r : Record) → entry l s ≡ Live r → (b : Bool) → is_flying (Some r.state) ≡ b → Sound (land_record b l s r)
    landed r is false q = x
    landed r is true q =
        let f = x.fits s in let f' = rw is at f in
        let st = flying_is r.state q in
        as_many l (land_record true l s r) s (Live (become Landed r.count r)) refl refl (live_inside l.entries s r is)
        (flying_fits r.state r.count st f') (rw is (rw st refl)) x

    by : (e : Entry) → entry l s ≡ e → Sound (land_entry l s e)
    by Free is = x
    by OutOfUse is = x
    by (Live r) is = landed r is (is_flying (Some r.state)) refl

sound_catch : (given : ℕ → ℕ) (l : Lists) (o : Option ℕ) → Sound l → Sound (catch_list given l o).lists
sound_catch given l None x = x
sound_catch given l (Some s) x = by (entry l s) refl
  where
    caught : (r : Record) → entry l s ≡ Live r → (f : Option CxaFault) → catch_fault (Some r.state) (int_eq r.count (pos 0)) (is_top l.caught s) ≡ f → Sound (catch_by_list (given s) l s r f).lists
    caught r is (Some e) q = x
    caught r is None q =
        let st = no_fault r.state _ _ q in
        one_lands l (catch_by_list (given s) l s r None).lists s (Live (become Caught (one_more_handler r.count) r)) refl refl (live_inside l.entries s r is)
        (caught_above r.count) (rw is (rw st refl)) refl x

    by : (e : Entry) → entry l s ≡ e → Sound (catch_entry (given s) l s e).lists
    by Free is = x
    by OutOfUse is = x
    by (Live r) is = caught r is _ refl

sound_end : (l : Lists) → Sound l → Sound (end_list l).lists
sound_end l x = start l.caught
  where
    ended : (s : ℕ) (more : List ℕ) (r : Record) → entry l s ≡ Live r → (f : Fall ℤ) → fall_of r.count ≡ f → Sound (end_by_list l s more r f).lists
    ended s more r is stays q = x
    ended s more r is (falls n) q =
        let f = x.fits s in let f' = rw is at f in
        as_many l (end_by_list l s more r (falls n)).lists s (Live (become r.state n r)) refl refl (live_inside l.entries s r is)
        (fallen_fits r.state r.count n (fall_fits r.count n q) f') (rw is refl) x
    ended s more r is ends q =
        let f = x.fits s in let f' = rw is at f in
        let st = one_is_caught r.state r.count (ends_at_one r.count q) f' in
        as_many l (end_by_list l s more r ends).lists s (Live (become Ended (pos 0) r)) refl refl (live_inside l.entries s r is) refl (rw is (rw st refl)) x
    ended s more r is leaves q =
        let f = x.fits s in let f' = rw is at f in
        as_many l (end_by_list l s more r leaves).lists s (Live (become r.state (pos 0) r)) refl refl (live_inside l.entries s r is)
        (left_fits r.state r.count (leaves_at_minus_one r.count q) f') (rw is refl) x

    by : (s : ℕ) (more : List ℕ) (e : Entry) → entry l s ≡ e → Sound (end_entry l s more e).lists
    by s more Free is = x
    by s more OutOfUse is = x
    by s more (Live r) is = ended s more r is _ refl

    start : (xs : List ℕ) → Sound (end_from l xs).lists
    start [] = x
    start (s ∷ more) = by s more (entry l s) refl

sound_rethrow : (l : Lists) → Sound l → Sound (rethrow_list l).lists
sound_rethrow l x = start l.caught
  where
    thrown : (s : ℕ) (r : Record) → entry l s ≡ Live r → (b : Bool) → is_caught (Some r.state) ≡ b → Sound (rethrow_by_list b l s r).lists
    thrown s r is false q = x
    thrown s r is true q =
        let f = x.fits s in let f' = rw is at f in
        let st = caught_is r.state q in
        one_flies l (rethrow_by_list true l s r).lists s (Live (become Flying (neg_ℤ r.count) r)) refl refl (live_inside l.entries s r is)
        (rethrown_fits r.state r.count st f') (rw is (rw st refl)) refl x

    by : (s : ℕ) (e : Entry) → entry l s ≡ e → Sound (rethrow_entry l s e).lists
    by s Free is = x
    by s OutOfUse is = x
    by s (Live r) is = thrown s r is _ refl

    start : (xs : List ℕ) → Sound (rethrow_from l xs).lists
    start [] = x
    start (s ∷ more) = by s (entry l s) refl

sound_end_cleanup : (l : Lists) (sp : ℕ) → Sound l → Sound (end_cleanup_list l sp).lists
sound_end_cleanup l sp x = start l.cleanups
  where
    by : (b : Bool) (c : Rattle.eh_cxa.specs.Lists.Cleanup) (more : List Rattle.eh_cxa.specs.Lists.Cleanup) → Sound (end_cleanup_by_list b l c more).lists
    by false c more = x
    by true c more = record { sized = x.sized; fits = x.fits; tallied = x.tallied }

    start : (xs : List Rattle.eh_cxa.specs.Lists.Cleanup) → Sound (end_cleanup_from l sp xs).lists
    start [] = x
    start (c ∷ more) = by (c.sp == sp) c more

pub sound_after : (c : Call) (l : Lists) → Sound l → Sound (lists_after c l)
sound_after (Allocate size) l x = sound_allocate l size x
sound_after (GiveBack s) l x = sound_free l s x
sound_after (StartThrow s t) l x = sound_throw l s t x
sound_after (Land s) l x = sound_land l s x
sound_after (BeginCatch given s) l x = sound_catch given l s x
sound_after EndCatch l x = sound_end l x
sound_after Rethrow l x = sound_rethrow l x
sound_after (BeginCleanup s c) l x = record { sized = x.sized; fits = x.fits; tallied = x.tallied }
sound_after (EndCleanup sp) l x = sound_end_cleanup l sp x

none_fly : (n : ℕ) → count_by flies (replicate n Free) ≡ 0
none_fly n = let e = sum_by-replicate one n Free in omega (arith, e)

pub sound_nothing : Sound empty_lists
sound_nothing = record { sized = refl; fits = λ s. blank Fits 64 s tt tt; tallied = sym (none_fly 64) }

sound_run : (calls : List Call) (l : Lists) → Sound l → Sound (run calls l)
sound_run [] l x = x
sound_run (c ∷ more) l x = sound_run more (lists_after c l) (sound_after c l x)

pub uncaught_fly : UncaughtFly
uncaught_fly calls = (sound_run calls empty_lists sound_nothing).tallied
