-- The memory of a paged bus.
use Rattle.eh_bus.specs.Memory.{Memory}
use Rattle.mem_buses.specs.Pages.{byte_of, segments_at}
use Rattle.mem_buses.specs.declared.paged.PagedBus.{PagedBus}
use Rattle.eh_bus.specs.declared.map.TheConstants.{STACK_END, STACK_START}

abbrev pub memory_of : PagedBus → Memory
memory_of bus = record { segments = segments_at (byte_of bus.pages) bus.parts.items; guards = bus.guards; home = (STACK_START, STACK_END) }
