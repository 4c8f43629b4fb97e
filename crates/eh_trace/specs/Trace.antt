-- The events of a run: those that are kept, and how many came of each kind.
use Rattle.std.specs.Prelude.{◌≡◌, ℕ, ◌+◌, ◌-◌, ◌^◌, min, nat_lt, Bool, true, false, List, [], ◌∷◌, ◌++◌, length, take, if◌then◌else◌}
use Rattle.std.specs.List.{count_by}
use Rattle.eh_trace.specs.declared.event.EventKind.{EventKind}
use Rattle.eh_trace.specs.declared.event.EventKind.TheVariants.{Throw, Rethrow, Cleanup, Catch, Unexpected}
use Rattle.eh_trace.specs.declared.event.Event.{Event}
use Rattle.eh_trace.specs.declared.events.TheConstants.{MAX_KEPT}

pub record Trace : Type 0 where
  pub kept : List Event
  pub throws : ℕ
  pub rethrows : ℕ
  pub cleanups : ℕ
  pub catches : ℕ
  pub unexpected : ℕ

abbrev pub no_events : Trace
no_events = record { kept = []; throws = 0; rethrows = 0; cleanups = 0; catches = 0; unexpected = 0 }

abbrev pub total_of : EventKind → Trace → ℕ
total_of Throw t = t.throws
total_of Rethrow t = t.rethrows
total_of Cleanup t = t.cleanups
total_of Catch t = t.catches
total_of Unexpected t = t.unexpected

-- a total stops at the greatest number of 64 bits
abbrev pub one_event : ℕ → ℕ
one_event n = min (n + 1) (2 ^ 64 - 1)

abbrev pub counting : EventKind → Trace → Trace
counting Throw t = record t { throws = one_event t.throws }
counting Rethrow t = record t { rethrows = one_event t.rethrows }
counting Cleanup t = record t { cleanups = one_event t.cleanups }
counting Catch t = record t { catches = one_event t.catches }
counting Unexpected t = record t { unexpected = one_event t.unexpected }

abbrev pub keep_event : Event → List Event → List Event
keep_event e kept = if nat_lt (length kept) MAX_KEPT then kept ++ e ∷ [] else kept

abbrev pub push_event : Trace → Event → Trace
push_event t e = record (counting e.kind t) { kept = keep_event e t.kept }

-- ---- what a trace says of all events of a run

abbrev pub is_kind : EventKind → EventKind → Bool
is_kind Throw Throw = true
is_kind Rethrow Rethrow = true
is_kind Cleanup Cleanup = true
is_kind Catch Catch = true
is_kind Unexpected Unexpected = true
is_kind a b = false

-- the first 10,000 are kept, and all are counted
pub record Holds (t : Trace) (all : List Event) : Type 0 where
  pub kept : t.kept ≡ take MAX_KEPT all
  pub total : (k : EventKind) → total_of k t ≡ min (count_by (λ e. is_kind k e.kind) all) (2 ^ 64 - 1)
