-- The effect of shifts by a constant on a fact.
use Rattle.std.specs.Prelude.{ℕ, ◌==◌, ◌&&◌, if◌then◌else◌}
use Rattle.frame_facts.specs.declared.facts.Fact.{Fact}
use Rattle.frame_facts.specs.Facts.{source, with_source, forget_register}

-- LSL by 0 is MOVS of a register
abbrev pub shift_imm : ℕ → ℕ → ℕ → ℕ → Fact → Fact
shift_imm op d m n f = if (op == 0) && (n == 0) then with_source f d (source f m) else forget_register d f
