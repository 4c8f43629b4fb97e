-- The calls as functions on lists: a result and the new lists.
use Rattle.std.specs.Prelude.{ℕ, ◌==◌, nat_lt, Bool, true, false, List, [], ◌∷◌, Option, Some, None, Result, Ok, Err, if◌then◌else◌, set, ℤ, pos, negsuc, neg_ℤ, ◌+ℤ◌, ◌-ℤ◌, ◌^◌, ◌-◌, int_lt}
use Rattle.std.specs.Ordering.{int_eq}
use Rattle.eh_cxa.specs.declared.globals.CleanupWords.{CleanupWords}
use Rattle.eh_cxa.specs.declared.globals.CxaFault.{CxaFault}
use Rattle.eh_cxa.specs.declared.globals.CxaFault.TheVariants.{PoolFull, TooBig, BadObject, BadUcb, NoCaught, CaughtOrder, NoCleanup, CleanupElsewhere}
use Rattle.eh_cxa.specs.declared.layout.TheConstants.{OBJECT_BYTES}
use Rattle.eh_cxa.specs.declared.state.State.{State}
use Rattle.eh_cxa.specs.declared.state.State.TheVariants.{Fresh, Flying, Landed, Caught, Ended}
use Rattle.eh_cxa.specs.States.{is_fresh, is_flying, is_caught, may_be_freed}
use Rattle.eh_cxa.specs.Words.{block, object, one_more, one_less}
use Rattle.eh_cxa.specs.Allocate.{first_slot}
use Rattle.eh_cxa.specs.Throw.{Throw}
use Rattle.eh_cxa.specs.Catch.{catch_fault, Fall, stays, falls, ends, leaves}
use Rattle.eh_cxa.specs.Lists.{Record, Entry, Free, OutOfUse, Live, Cleanup, Lists, entry, state_in, Outcome, unchanged_lists}

-- the lists after the slot gets another entry
abbrev pub with_entry : Lists → ℕ → Entry → Lists
with_entry l s e = record { entries = set l.entries s e; caught = l.caught; cleanups = l.cleanups; uncaught = l.uncaught }

-- the record after its state and count change
abbrev pub become : State → ℤ → Record → Record
become state count r = record { state = state; size = r.size; ty = r.ty; destructor = r.destructor; count = count }

-- ---- allocate

abbrev pub is_free : Entry → Bool
is_free Free = true
is_free OutOfUse = false
is_free (Live r) = false

abbrev pub fresh_record : ℕ → Record
fresh_record size = record { state = Fresh; size = size; ty = 0; destructor = 0; count = pos 0 }

abbrev pub allocate_in : Lists → ℕ → Option ℕ → Outcome (Result ℕ CxaFault)
allocate_in l size None = unchanged_lists (Err PoolFull) l
allocate_in l size (Some s) = unchanged_lists (Ok (object s)) (with_entry l s (Live (fresh_record size)))

abbrev pub allocate_list : Lists → ℕ → Outcome (Result ℕ CxaFault)
allocate_list l size =
    if nat_lt OBJECT_BYTES size then unchanged_lists (Err TooBig) l else allocate_in l size (first_slot (λ s. is_free (entry l s)))

-- ---- free, of the slot whose object is named, if there is one

abbrev pub free_by_list : Bool → Lists → ℕ → Outcome (Result (Unit {0}) CxaFault)
free_by_list false l s = unchanged_lists (Err BadObject) l
free_by_list true l s = unchanged_lists (Ok tt) (with_entry l s Free)

abbrev pub free_list : Lists → Option ℕ → Outcome (Result (Unit {0}) CxaFault)
free_list l None = unchanged_lists (Err BadObject) l
free_list l (Some s) = free_by_list (may_be_freed (state_in (entry l s))) l s

-- the size as it was given to allocate
abbrev pub size_in : Entry → ℕ
size_in Free = 0
size_in OutOfUse = 0
size_in (Live r) = r.size

-- ---- start_throw

abbrev pub record_of_throw : Throw → Record → Record
record_of_throw t r = record { state = Flying; size = r.size; ty = t.ty; destructor = t.destructor; count = r.count }

abbrev pub throw_by_list : Bool → Lists → ℕ → Record → Throw → Outcome (Result ℕ CxaFault)
throw_by_list false l s r t = unchanged_lists (Err BadObject) l
throw_by_list true l s r t =
    unchanged_lists (Ok (block s)) (record {
      entries = set l.entries s (Live (record_of_throw t r));
      caught = l.caught;
      cleanups = l.cleanups;
      uncaught = one_more l.uncaught;
    })

abbrev pub throw_entry : Lists → ℕ → Entry → Throw → Outcome (Result ℕ CxaFault)
throw_entry l s Free t = unchanged_lists (Err BadObject) l
throw_entry l s OutOfUse t = unchanged_lists (Err BadObject) l
throw_entry l s (Live r) t = throw_by_list (is_fresh (Some r.state)) l s r t

abbrev pub throw_list : Lists → Option ℕ → Throw → Outcome (Result ℕ CxaFault)
throw_list l None t = unchanged_lists (Err BadObject) l
throw_list l (Some s) t = throw_entry l s (entry l s) t

-- ---- land

abbrev pub land_record : Bool → Lists → ℕ → Record → Lists
land_record false l s r = l
land_record true l s r = with_entry l s (Live (become Landed r.count r))

abbrev pub land_entry : Lists → ℕ → Entry → Lists
land_entry l s Free = l
land_entry l s OutOfUse = l
land_entry l s (Live r) = land_record (is_flying (Some r.state)) l s r

abbrev pub land_list : Lists → ℕ → Lists
land_list l s = land_entry l s (entry l s)

-- ---- begin_catch

-- the handler count after one more handler
abbrev pub one_more_handler : ℤ → ℤ
one_more_handler z =
    let n = if int_lt z (pos 0) then pos 1 -ℤ z else z +ℤ pos 1 in
    if int_lt (pos (2 ^ 31 - 1)) n then pos (2 ^ 31 - 1) else n

abbrev pub is_top : List ℕ → ℕ → Bool
is_top [] s = false
is_top (t ∷ more) s = t == s

abbrev pub push_if : Bool → ℕ → List ℕ → List ℕ
push_if true s xs = s ∷ xs
push_if false s xs = xs

abbrev pub catch_by_list : ℕ → Lists → ℕ → Record → Option CxaFault → Outcome (Result ℕ CxaFault)
catch_by_list object l s r (Some e) = unchanged_lists (Err e) l
catch_by_list object l s r None =
    unchanged_lists (Ok object) (record {
      entries = set l.entries s (Live (become Caught (one_more_handler r.count) r));
      caught = push_if (int_eq r.count (pos 0)) s l.caught;
      cleanups = l.cleanups;
      uncaught = one_less l.uncaught;
    })

abbrev pub catch_entry : ℕ → Lists → ℕ → Entry → Outcome (Result ℕ CxaFault)
catch_entry object l s Free = unchanged_lists (Err BadUcb) l
catch_entry object l s OutOfUse = unchanged_lists (Err BadUcb) l
catch_entry object l s (Live r) =
    catch_by_list object l s r (catch_fault (Some r.state) (int_eq r.count (pos 0)) (is_top l.caught s))

-- the address that the handler is given isn't in the lists: each slot has its own
abbrev pub catch_list : (ℕ → ℕ) → Lists → Option ℕ → Outcome (Result ℕ CxaFault)
catch_list object l None = unchanged_lists (Err BadUcb) l
catch_list object l (Some s) = catch_entry (object s) l s (entry l s)

-- ---- end_catch

abbrev pub fall_of : ℤ → Fall ℤ
fall_of z =
    if int_eq z (pos 0) then stays else (if int_eq z (pos 1) then ends else (if int_eq z (negsuc 0) then leaves
    else (if int_lt (pos 0) z then falls (z -ℤ pos 1) else falls (z +ℤ pos 1))))

abbrev pub end_by_list : Lists → ℕ → List ℕ → Record → Fall ℤ → Outcome (Result (ℕ × ℕ) CxaFault)
end_by_list l s more r stays = unchanged_lists (Ok (0, 0)) l
end_by_list l s more r (falls n) = unchanged_lists (Ok (0, 0)) (with_entry l s (Live (become r.state n r)))
end_by_list l s more r ends =
    unchanged_lists (Ok (object s, r.destructor)) (record {
      entries = set l.entries s (Live (become Ended (pos 0) r));
      caught = more;
      cleanups = l.cleanups;
      uncaught = l.uncaught;
    })
end_by_list l s more r leaves =
    unchanged_lists (Ok (0, 0)) (record {
      entries = set l.entries s (Live (become r.state (pos 0) r));
      caught = more;
      cleanups = l.cleanups;
      uncaught = l.uncaught;
    })

abbrev pub end_entry : Lists → ℕ → List ℕ → Entry → Outcome (Result (ℕ × ℕ) CxaFault)
end_entry l s more Free = unchanged_lists (Ok (0, 0)) l
end_entry l s more OutOfUse = unchanged_lists (Ok (0, 0)) l
end_entry l s more (Live r) = end_by_list l s more r (fall_of r.count)

abbrev pub end_from : Lists → List ℕ → Outcome (Result (ℕ × ℕ) CxaFault)
end_from l [] = unchanged_lists (Err NoCaught) l
end_from l (s ∷ more) = end_entry l s more (entry l s)

abbrev pub end_list : Lists → Outcome (Result (ℕ × ℕ) CxaFault)
end_list l = end_from l l.caught

-- ---- rethrow

abbrev pub rethrow_by_list : Bool → Lists → ℕ → Record → Outcome (Result ℕ CxaFault)
rethrow_by_list false l s r = unchanged_lists (Err CaughtOrder) l
rethrow_by_list true l s r =
    unchanged_lists (Ok (block s)) (record {
      entries = set l.entries s (Live (become Flying (neg_ℤ r.count) r));
      caught = l.caught;
      cleanups = l.cleanups;
      uncaught = one_more l.uncaught;
    })

abbrev pub rethrow_entry : Lists → ℕ → Entry → Outcome (Result ℕ CxaFault)
rethrow_entry l s Free = unchanged_lists (Err CaughtOrder) l
rethrow_entry l s OutOfUse = unchanged_lists (Err CaughtOrder) l
rethrow_entry l s (Live r) = rethrow_by_list (is_caught (Some r.state)) l s r

abbrev pub rethrow_from : Lists → List ℕ → Outcome (Result ℕ CxaFault)
rethrow_from l [] = unchanged_lists (Err NoCaught) l
rethrow_from l (s ∷ more) = rethrow_entry l s (entry l s)

abbrev pub rethrow_list : Lists → Outcome (Result ℕ CxaFault)
rethrow_list l = rethrow_from l l.caught

-- ---- cleanups

abbrev pub begin_cleanup_list : Lists → ℕ → CleanupWords → Lists
begin_cleanup_list l s c = record {
  entries = l.entries;
  caught = l.caught;
  cleanups = record { slot = s; next = c.next; sp = c.sp; site = c.site } ∷ l.cleanups;
  uncaught = l.uncaught;
}

abbrev pub end_cleanup_by_list : Bool → Lists → Cleanup → List Cleanup → Outcome (Result (ℕ × CleanupWords) CxaFault)
end_cleanup_by_list false l c more = unchanged_lists (Err CleanupElsewhere) l
end_cleanup_by_list true l c more =
    unchanged_lists (Ok (block c.slot, record { next = c.next; sp = c.sp; site = c.site }))
    (record { entries = l.entries; caught = l.caught; cleanups = more; uncaught = l.uncaught })

abbrev pub end_cleanup_from : Lists → ℕ → List Cleanup → Outcome (Result (ℕ × CleanupWords) CxaFault)
end_cleanup_from l sp [] = unchanged_lists (Err NoCleanup) l
end_cleanup_from l sp (c ∷ more) = end_cleanup_by_list (c.sp == sp) l c more

abbrev pub end_cleanup_list : Lists → ℕ → Outcome (Result (ℕ × CleanupWords) CxaFault)
end_cleanup_list l sp = end_cleanup_from l sp l.cleanups

abbrev pub innermost_in : List Cleanup → Option ℕ
innermost_in [] = None
innermost_in (c ∷ more) = Some c.sp
