-- The number of uncaught exceptions stays a word: of each call on the lists.
use Rattle.std.proofs.Common.{ℕ, ◌+◌, ◌%◌, ◌^◌, ◌<◌, arith, ◌-◌, nat_lt, Bool, true, false, cond, List, [], ◌∷◌, Option, Some, None, Err, ℤ}
use Rattle.eh_cxa.specs.declared.globals.CxaFault.{CxaFault}
use Rattle.eh_cxa.specs.declared.globals.CxaFault.TheVariants.{TooBig}
use Rattle.eh_cxa.specs.declared.layout.TheConstants.{OBJECT_BYTES}
use Rattle.eh_cxa.specs.Allocate.{first_slot}
use Rattle.eh_cxa.specs.Catch.{Fall, stays, falls, ends, leaves}
use Rattle.eh_cxa.specs.ListCalls.{is_free, allocate_in, allocate_list, free_by_list, free_list, throw_by_list, throw_entry, throw_list, land_record, land_entry, land_list, catch_by_list, catch_entry, catch_list, end_by_list, end_entry, end_from, end_list, fall_of, rethrow_by_list, rethrow_entry, rethrow_from, rethrow_list}
use Rattle.eh_cxa.specs.Lists.{Record, Entry, Free, OutOfUse, Live, Lists, entry, state_in}
use Rattle.eh_cxa.specs.States.{may_be_freed, is_fresh, is_flying, is_caught}
use Rattle.eh_cxa.specs.Throw.{Throw}
use Rattle.sim_relation.specs.Stands.{IsCounted}

-- ---- the calls on lists

pub more_small : (n : ℕ) → (n + 1) % 2 ^ 32 < 2 ^ 32
more_small n = omega arith

less_small : (n : ℕ) → (n + (2 ^ 32 - 1)) % 2 ^ 32 < 2 ^ 32
less_small n = omega arith

module _ (l : Lists) (h : IsCounted l) where
  pub allocate_counts : (size : ℕ) → IsCounted (allocate_list l size).lists
  allocate_counts size = by_size (nat_lt OBJECT_BYTES size)
    where
      by_slot : (o : Option ℕ) → IsCounted (allocate_in l size o).lists
      by_slot None = h
      by_slot (Some t) = h

      by_size : (b : Bool) → IsCounted (cond b (record { answer = Err TooBig; lists = l }) (allocate_in l size (first_slot (λ t. is_free (entry l t))))).lists
      by_size true = h
      by_size false = by_slot (first_slot (λ t. is_free (entry l t)))

  pub free_counts : (o : Option ℕ) → IsCounted (free_list l o).lists
  free_counts None = h
  free_counts (Some t) = by (may_be_freed (state_in (entry l t)))
    where
      by : (b : Bool) → IsCounted (free_by_list b l t).lists
      by true = h
      by false = h

  pub throw_counts : (o : Option ℕ) (w : Throw) → IsCounted (throw_list l o w).lists
  throw_counts None w = h
  throw_counts (Some t) w = by_entry (entry l t)
    where
      by : (r : Record) (b : Bool) → IsCounted (throw_by_list b l t r w).lists
      by r true = more_small l.uncaught
      by r false = h

      by_entry : (e : Entry) → IsCounted (throw_entry l t e w).lists
      by_entry Free = h
      by_entry OutOfUse = h
      by_entry (Live r) = by r (is_fresh (Some r.state))

  pub land_counts : (t : ℕ) → IsCounted (land_list l t)
  land_counts t = by_entry (entry l t)
    where
      by : (r : Record) (b : Bool) → IsCounted (land_record b l t r)
      by r true = h
      by r false = h

      by_entry : (e : Entry) → IsCounted (land_entry l t e)
      by_entry Free = h
      by_entry OutOfUse = h
      by_entry (Live r) = by r (is_flying (Some r.state))

  pub catch_counts : (given : ℕ → ℕ) (o : Option ℕ) → IsCounted (catch_list given l o).lists
  catch_counts given None = h
  catch_counts given (Some t) = by_entry (entry l t)
    where
      by_fault : (r : Record) (f : Option CxaFault) → IsCounted (catch_by_list (given t) l t r f).lists
      by_fault r (Some why) = h
      by_fault r None = less_small l.uncaught

      by_entry : (e : Entry) → IsCounted (catch_entry (given t) l t e).lists
      by_entry Free = h
      by_entry OutOfUse = h
      by_entry (Live r) = by_fault r _

  pub end_counts : IsCounted (end_list l).lists
  end_counts = by_list l.caught
    where
      by_fall : (t : ℕ) (more : List ℕ) (r : Record) (f : Fall ℤ) → IsCounted (end_by_list l t more r f).lists
      by_fall t more r stays = h
      by_fall t more r (falls n) = h
      by_fall t more r ends = h
      by_fall t more r leaves = h

      by_entry : (t : ℕ) (more : List ℕ) (e : Entry) → IsCounted (end_entry l t more e).lists
      by_entry t more Free = h
      by_entry t more OutOfUse = h
      by_entry t more (Live r) = by_fall t more r (fall_of r.count)

      by_list : (xs : List ℕ) → IsCounted (end_from l xs).lists
      by_list [] = h
      by_list (t ∷ more) = by_entry t more (entry l t)

  pub rethrow_counts : IsCounted (rethrow_list l).lists
  rethrow_counts = by_list l.caught
    where
      by : (t : ℕ) (r : Record) (b : Bool) → IsCounted (rethrow_by_list b l t r).lists
      by t r true = more_small l.uncaught
      by t r false = h

      by_entry : (t : ℕ) (e : Entry) → IsCounted (rethrow_entry l t e).lists
      by_entry t Free = h
      by_entry t OutOfUse = h
      by_entry t (Live r) = by t r (is_caught (Some r.state))

      by_list : (xs : List ℕ) → IsCounted (rethrow_from l xs).lists
      by_list [] = h
      by_list (t ∷ more) = by_entry t (entry l t)
