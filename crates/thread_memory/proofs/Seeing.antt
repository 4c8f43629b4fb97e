-- The memory that a thread sees is one that a bus may have.
use Rattle.std.proofs.Common.{ℕ, ◌<◌, List, arith}
use Rattle.eh_bus.specs.Guards.{AreGuards}
use Rattle.eh_bus.specs.Map.{IsHome, IsMap}
use Rattle.eh_bus.specs.Memory.{Memory}
use Rattle.thread_memory.specs.Homes.{home_of}
use Rattle.thread_memory.specs.Seen.{thread_view}
use Rattle.thread_memory.specs.declared.homes.TheConstants.{THREADS}

pub home_is : (thread : ℕ) → thread < THREADS → IsHome (home_of thread)
home_is thread h = record { low = omega arith; rises = omega arith; high = omega arith; low_aligned = omega arith; high_aligned = omega arith }

pub seen_map : (m : Memory) (guards : List ℕ) (thread : ℕ) → IsMap m → AreGuards guards → thread < THREADS → IsMap (thread_view m guards thread)
seen_map m guards thread x r h = record { segments = x.segments; guards = r; home = home_is thread h }
