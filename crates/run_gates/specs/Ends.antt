-- The ends of a run by a trap of the core, and which ends are faults of the source or sink (docs/rules/memory.md).
use Rattle.std.specs.Prelude.{ℕ, Bool, true, false}
use Rattle.eh_bus.specs.declared.fault.BusFault.{BusFault}
use Rattle.eh_bus.specs.declared.fault.BusFault.TheVariants as bus
use Rattle.thumb_core.specs.declared.regs.CoreTrap.{CoreTrap}
use Rattle.thumb_core.specs.declared.regs.CoreTrap.TheVariants as core
use Rattle.thumb_core.specs.declared.ends.TrapKind.TheVariants as kind
use Rattle.thumb_core.specs.declared.ends.End.{End}
use Rattle.thumb_core.specs.declared.ends.End.TheVariants as the_end

-- ---- by a trap, with its kind, its value and the pc of its instruction

abbrev pub bus_end : BusFault → ℕ → End
bus_end (bus.Unmapped a) pc = the_end.Trap kind.Unmapped a pc
bus_end (bus.Unaligned a) pc = the_end.Trap kind.Unaligned a pc
bus_end (bus.ReadOnly a) pc = the_end.Trap kind.ReadOnly a pc
bus_end (bus.SavedSlot a) pc = the_end.Trap kind.SavedSlot a pc
bus_end (bus.Protected a) pc = the_end.Trap kind.Protected a pc
bus_end (bus.NotExecutable a) pc = the_end.Trap kind.NotExecutable a pc

abbrev pub trap_end : CoreTrap → ℕ → End
trap_end (core.Undefined first) pc = the_end.Trap kind.Undefined first pc
trap_end (core.Unpredictable first) pc = the_end.Trap kind.Unpredictable first pc
trap_end (core.NotInProfile first) pc = the_end.Trap kind.NotInProfile first pc
trap_end (core.EvenTarget target) pc = the_end.Trap kind.EvenTarget target pc
trap_end (core.Memory fault) pc = bus_end fault pc

-- ---- by a fault of the source or of the sink

abbrev pub is_fault : End → Bool
is_fault (the_end.Exit number) = false
is_fault (the_end.Terminate cause) = false
is_fault (the_end.Trap kind value pc) = false
is_fault the_end.Budget = false
is_fault the_end.ReadFault = true
is_fault the_end.WriteFault = true
