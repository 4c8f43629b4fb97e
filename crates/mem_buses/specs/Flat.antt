-- The memory of a flat bus.
use Rattle.eh_bus.specs.Memory.{Memory}
use Rattle.mem_buses.specs.declared.flat.FlatBus.{FlatBus}
use Rattle.eh_bus.specs.declared.map.TheConstants.{STACK_END, STACK_START}

abbrev pub memory_of : FlatBus → Memory
memory_of bus = record { segments = bus.segments; guards = bus.guards; home = (STACK_START, STACK_END) }
