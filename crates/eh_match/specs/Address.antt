-- The address that a path leads to, over a memory (docs/rules/types-and-matching.md).
use Rattle.std.specs.Prelude.{ℕ, ℤ, ◌+◌, ◌%◌, ◌^◌, List, Result, Ok, Err, if◌then◌else◌}
use Rattle.std.specs.List.{fold}
use Rattle.eh_bus.specs.Segment.{Segment}
use Rattle.eh_bus.specs.Memory.{load_number}
use Rattle.eh_bus.specs.declared.fault.BusFault.{BusFault}
use Rattle.eh_types.specs.declared.kind.Base.{Base}
use Rattle.eh_match.specs.Paths.{at_offset}

abbrev pub or_address : ℕ → Result ℕ BusFault → Result ℕ ℕ
or_address a (Ok word) = Ok word
or_address a (Err fault) = Err a

-- the word at an address; Err with the address if it can't be loaded
abbrev pub load_or_address : List Segment → ℕ → Result ℕ ℕ
load_or_address segments a = or_address a (load_number 4 segments a)

abbrev pub plus_distance : ℕ → Result ℕ ℕ → Result ℕ ℕ
plus_distance a (Ok distance) = Ok ((a + distance) % 2 ^ 32)
plus_distance a (Err refused) = Err refused

-- the word at an offset of the vtable is the distance of the virtual base, in bytes from the address
abbrev pub by_vtable : List Segment → ℕ → ℤ → Result ℕ ℕ → Result ℕ ℕ
by_vtable segments a offset (Ok vtable) = plus_distance a (load_or_address segments (at_offset vtable offset))
by_vtable segments a offset (Err refused) = Err refused

-- a step adds the base's offset; a step to a virtual base reads the vtable whose address is the word at the address so far
abbrev pub address_after_step : List Segment → Result ℕ ℕ → Base → Result ℕ ℕ
address_after_step segments (Ok a) b = if b.is_virtual then by_vtable segments a b.offset (load_or_address segments a) else Ok (at_offset a b.offset)
address_after_step segments (Err refused) b = Err refused

-- the address that a path leads to; Err with the first address whose word can't be loaded
abbrev pub address : List Segment → Result ℕ ℕ → List Base → Result ℕ ℕ
address segments at steps = fold (address_after_step segments) at steps
