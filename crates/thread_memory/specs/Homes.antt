-- The stacks of threads: homes of one size, thread 0's at the end of the stack and each further one below it (docs/guide/walks-and-threads.md).
use Rattle.std.specs.Prelude.{ℕ, ◌+◌, ◌-◌, ◌*◌, ◌<◌, ◌≤◌}
use Rattle.mem_guards.specs.declared.guards.TheConstants.{HOME_SIZE}
use Rattle.eh_bus.specs.declared.map.TheConstants.{STACK_END}

abbrev pub home_of : ℕ → ℕ × ℕ
home_of thread = (STACK_END - HOME_SIZE * (thread + 1), STACK_END - HOME_SIZE * thread)

-- a word of a thread's stack
pub record IsAtHome (thread a : ℕ) : Type 0 where
  pub low : (home_of thread).0 ≤ a
  pub high : a < (home_of thread).1
