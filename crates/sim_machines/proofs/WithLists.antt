-- With other lists: they are the lists then, where their cleanups are those in progress; and which calls on lists leave the cleanups.
use Rattle.std.proofs.Common.{◌≡◌, ℕ, nat_lt, Bool, true, false, cond, List, [], ◌∷◌, Option, Some, None, Err, ℤ, refl, sym, ap}
use Rattle.eh_cxa.specs.Allocate.{first_slot}
use Rattle.eh_cxa.specs.Catch.{Fall, stays, falls, ends, leaves}
use Rattle.eh_cxa.specs.ListCalls.{is_free, allocate_in, allocate_list, free_by_list, free_list, catch_by_list, catch_entry, catch_list, end_by_list, end_entry, end_from, end_list, fall_of, land_list, land_entry, land_record}
use Rattle.eh_cxa.specs.Lists.{Cleanup, Record, Entry, Free, OutOfUse, Live, Lists, entry, state_in}
use Rattle.eh_cxa.specs.States.{may_be_freed, is_flying}
use Rattle.eh_cxa.specs.Words.{Write}
use Rattle.eh_cxa.specs.declared.globals.CxaFault.{CxaFault}
use Rattle.eh_cxa.specs.declared.globals.CxaFault.TheVariants.{TooBig}
use Rattle.eh_cxa.specs.declared.layout.TheConstants.{OBJECT_BYTES}
use Rattle.sim_machines.specs.Activations.{Recorded, heads, lists_of, cleanups_in, with_lists}

pub lists_are : (l : Lists) (ws : List Write) (s : Recorded) → l.cleanups ≡ cleanups_in s.cleanups → lists_of (with_lists l ws s) ≡ l
lists_are l ws s e = ap (λ (cs : List Cleanup). record { entries = l.entries; caught = l.caught; cleanups = cs; uncaught = l.uncaught }) (sym e)

pub heads_same : (l : Lists) (ws : List Write) (s : Recorded) → l.cleanups ≡ cleanups_in s.cleanups → heads (lists_of (with_lists l ws s)) ≡ heads l
heads_same l ws s e = ap heads (lists_are l ws s e)

-- ---- which calls leave the cleanups

pub allocate_keeps : (l : Lists) (size : ℕ) → (allocate_list l size).lists.cleanups ≡ l.cleanups
allocate_keeps l size = by_size (nat_lt OBJECT_BYTES size)
  where
    by_slot : (o : Option ℕ) → (allocate_in l size o).lists.cleanups ≡ l.cleanups
    by_slot None = refl
    by_slot (Some s) = refl

    by_size : (b : Bool) → (cond b (record { answer = Err TooBig; lists = l }) (allocate_in l size (first_slot (λ s. is_free (entry l s))))).lists.cleanups ≡ l.cleanups
    by_size true = refl
    by_size false = by_slot (first_slot (λ s. is_free (entry l s)))

pub free_keeps : (l : Lists) (o : Option ℕ) → (free_list l o).lists.cleanups ≡ l.cleanups
free_keeps l None = refl
free_keeps l (Some s) = by (may_be_freed (state_in (entry l s)))
  where
    by : (b : Bool) → (free_by_list b l s).lists.cleanups ≡ l.cleanups
    by true = refl
    by false = refl

pub catch_keeps : (given : ℕ → ℕ) (l : Lists) (o : Option ℕ) → (catch_list given l o).lists.cleanups ≡ l.cleanups
catch_keeps given l None = refl
catch_keeps given l (Some s) = by_entry (entry l s)
  where
    by_fault : (r : Record) (f : Option CxaFault) → (catch_by_list (given s) l s r f).lists.cleanups ≡ l.cleanups
    by_fault r (Some why) = refl
    by_fault r None = refl

    by_entry : (e : Entry) → (catch_entry (given s) l s e).lists.cleanups ≡ l.cleanups
    by_entry Free = refl
    by_entry OutOfUse = refl
    by_entry (Live r) = by_fault r _

pub end_keeps : (l : Lists) → (end_list l).lists.cleanups ≡ l.cleanups
end_keeps l = by_list l.caught
  where
    by_fall : (s : ℕ) (more : List ℕ) (r : Record) (f : Fall ℤ) → (end_by_list l s more r f).lists.cleanups ≡ l.cleanups
    by_fall s more r stays = refl
    by_fall s more r (falls n) = refl
    by_fall s more r ends = refl
    by_fall s more r leaves = refl

    by_entry : (s : ℕ) (more : List ℕ) (e : Entry) → (end_entry l s more e).lists.cleanups ≡ l.cleanups
    by_entry s more Free = refl
    by_entry s more OutOfUse = refl
    by_entry s more (Live r) = by_fall s more r (fall_of r.count)

    by_list : (xs : List ℕ) → (end_from l xs).lists.cleanups ≡ l.cleanups
    by_list [] = refl
    by_list (s ∷ more) = by_entry s more (entry l s)

pub land_keeps : (l : Lists) (s : ℕ) → (land_list l s).cleanups ≡ l.cleanups
land_keeps l s = by_entry (entry l s)
  where
    by_state : (b : Bool) (r : Record) → (land_record b l s r).cleanups ≡ l.cleanups
    by_state true r = refl
    by_state false r = refl

    by_entry : (e : Entry) → (land_entry l s e).cleanups ≡ l.cleanups
    by_entry Free = refl
    by_entry OutOfUse = refl
    by_entry (Live r) = by_state (is_flying (Some r.state)) r
