-- The effect of loads and stores of one register on a fact; stores leave it unchanged.
use Rattle.std.specs.Prelude.{ℕ, ◌==◌, ◌||◌, Bool, nat_lt, if◌then◌else◌, ℤ}
use Rattle.frame_facts.specs.declared.facts.Fact.{Fact}
use Rattle.frame_facts.specs.declared.saves.Prologue.{Prologue}
use Rattle.frame_facts.specs.Facts.{with_source, forget_register}
use Rattle.frame_facts.specs.Saves.{stack_word}

-- STR, STRH and STRB store; the others load
abbrev pub mem_reg : ℕ → ℕ → Fact → Fact
mem_reg op t f = if nat_lt op 3 then f else forget_register t f

-- LDR, LDRB and LDRH load; the others store
abbrev pub mem_imm : ℕ → ℕ → Fact → Fact
mem_imm op t f = if (op == 1) || (op == 3) || (op == 5) then forget_register t f else f

-- a load from the stack gives what the word holds
abbrev pub mem_sp : Prologue → Bool → ℕ → ℤ → Fact → Fact
mem_sp p load t off f = if load then with_source f t (stack_word p f off) else f
