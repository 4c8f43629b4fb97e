-- The memory that a thread sees (docs/guide/walks-and-threads.md).
use Rattle.std.specs.Prelude.{◌≡◌, ◌⊎◌, ℕ, ◌%◌, ◌<◌, ◌≤◌, ◌==◌, false, List, Option, None, if◌then◌else◌}
use Rattle.eh_bus.specs.Memory.{Memory, guard_hit}
use Rattle.eh_bus.specs.declared.map.TheConstants.{STACK_END, STACK_START}
use Rattle.thread_memory.specs.Homes.{home_of}

-- a memory with the guarded words of all stacks, as the thread sees it that runs on this home
abbrev pub thread_view : Memory → List ℕ → ℕ → Memory
thread_view m guards thread = record { segments = m.segments; guards = guards; home = home_of thread }

-- the guarded word that an aligned store of n bytes would overwrite
abbrev pub aligned_hit : List ℕ → ℕ → ℕ → Option ℕ
aligned_hit guards n a = if a % n == 0 then guard_hit guards a n else None

-- no word of the stack begins there
abbrev pub IsOutside : ℕ → Type 0
IsOutside a = ((a % 4 == 0) ≡ false) ⊎ ((a < STACK_START) ⊎ (STACK_END ≤ a))
