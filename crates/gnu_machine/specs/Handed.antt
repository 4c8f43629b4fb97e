-- What GNU C++ code is given at a landing pad, besides what every pad is given (docs/rules/gnu-tables.md). In the Itanium C++ ABI, "Exception
-- Handling", the personality routine gives its landing pad two values in registers: the exception, and a switch value that says which
-- handler was chosen. A handler gets the adjusted pointer (`__cxa_get_exception_ptr`, `__cxa_begin_catch`). If a pointer was thrown, that
-- is the pointer itself, and not its address. IHI 0038 has the barrier cache of the control block, where a routine keeps it.
use Rattle.std.specs.Prelude.{ℕ, nat_lt, List, [], Option, Some, None, Result, Ok, Err, if◌then◌else◌}
use Rattle.eh_bus.specs.Memory.{load_number}
use Rattle.eh_bus.specs.Segment.{Segment}
use Rattle.eh_bus.specs.declared.fault.BusFault.{BusFault}
use Rattle.eh_cxa.specs.Throw.{barrier_of, set_barrier_of}
use Rattle.eh_cxa.specs.Words.{Pool, Write, block_slot}
use Rattle.eh_cxa.specs.declared.globals.BarrierWords.{BarrierWords}
use Rattle.eh_gates.specs.CallGates.{with_r1}
use Rattle.eh_trace.specs.Trace.{Trace}
use Rattle.eh_types.specs.Graph.{Row, kind_of}
use Rattle.eh_types.specs.declared.kind.TypeKind.{TypeKind}
use Rattle.eh_types.specs.declared.kind.TypeKind.TheVariants.{Pointer}
use Rattle.gnu_descriptors.specs.Filters.{filter_in}
use Rattle.run_gates.specs.Gates.{r0, with_r0}
use Rattle.thumb_core.specs.declared.regs.Regs.{Regs}
use Rattle.gnu_machine.specs.declared.handing.PadKind.{PadKind}
use Rattle.gnu_machine.specs.declared.handing.PadKind.TheVariants as landing
use Rattle.gnu_machine.specs.declared.handing.Totals.{Totals}

-- ---- which kind of pad an event entered

abbrev pub totals_of : Trace → Totals
totals_of events = record { catches = events.catches; cleanups = events.cleanups }

-- By the totals before and after: a catch if more catches were entered, a cleanup if more cleanups were. The pad of an exception
-- specification is neither, and other events enter no pad.
abbrev pub landing_after : Totals → Totals → Option PadKind
landing_after before after =
    if nat_lt before.catches after.catches then Some landing.Catch
    else (if nat_lt before.cleanups after.cleanups then Some landing.Cleanup else None)

-- ---- what a pad finds, in either machine

-- the registers; the segments of the memory and the words of the pool; the type of each slot's exception; and the control block of the
-- innermost cleanup in progress, 0 for none
pub record PadView : Type 0 where
  pub regs : Regs
  pub segments : List Segment
  pub words : Pool
  pub type_of : ℕ → ℕ
  pub cleanup : ℕ

-- what the pad is given: registers, and words of the pool
pub record PadArguments : Type 0 where
  pub regs : Regs
  pub writes : List Write

abbrev pub no_arguments : PadView → PadArguments
no_arguments v = record { regs = v.regs; writes = [] }

-- ---- at a catch

abbrev pub or_address : ℕ → Result ℕ BusFault → ℕ
or_address a (Ok word) = word
or_address a (Err fault) = a

-- What a handler is given in place of the address of the object. A pointer is caught by value, so if the thrown type is a pointer it is the
-- word at the address. If that word can't be loaded it stays the address. No barrier of a run has such an address, since an object and
-- barrier word 2 can both be loaded.
abbrev pub by_value : List Segment → Option TypeKind → ℕ → ℕ
by_value segments (Some (Pointer flags pointee)) a = or_address a (load_number 4 segments a)
by_value segments other a = a

-- r1 is the filter of the catch; barrier words 0 and 2 are what the handler is given; the barrier's sp and descriptor stay
abbrev pub catch_arguments : PadView → ℕ → BarrierWords → ℕ → ℕ → PadArguments
catch_arguments v slot b filter given = record {
  regs = with_r1 filter v.regs;
  writes = set_barrier_of (Some slot) (record { sp = b.sp; object = given; desc = b.desc; pointer = given });
}

-- if the barrier's descriptor has a filter; a descriptor that was there before the tables were rewritten has none
abbrev pub by_filter : List Row → PadView → ℕ → BarrierWords → Option ℕ → PadArguments
by_filter types v slot b None = no_arguments v
by_filter types v slot b (Some filter) = catch_arguments v slot b filter (by_value v.segments (kind_of types (v.type_of slot)) b.object)

abbrev pub barrier_in : PadView → ℕ → BarrierWords
barrier_in v slot = barrier_of v.words (Some slot)

-- for the exception whose control block is in r0
abbrev pub at_catch : List Row → List (ℕ × ℕ) → PadView → Option ℕ → PadArguments
at_catch types filters v None = no_arguments v
at_catch types filters v (Some slot) = by_filter types v slot (barrier_in v slot) (filter_in filters (barrier_in v slot).desc)

-- ---- in a cleanup

-- r0 is the control block of the exception whose cleanup this is
abbrev pub at_cleanup : PadView → PadArguments
at_cleanup v = record { regs = with_r0 v.cleanup v.regs; writes = [] }

-- ---- at any pad

abbrev pub pad_arguments : List Row → List (ℕ × ℕ) → PadView → Option PadKind → PadArguments
pad_arguments types filters v None = no_arguments v
pad_arguments types filters v (Some landing.Catch) = at_catch types filters v (block_slot (r0 v.regs))
pad_arguments types filters v (Some landing.Cleanup) = at_cleanup v
