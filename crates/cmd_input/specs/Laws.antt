-- Laws of the written texts.
use Rattle.std.specs.Prelude.{ℕ, ◌≡◌, ◌<◌, Some}
use Rattle.asm_read.specs.Operands.{register_of}
use Rattle.cmd_lines.specs.CheckText.{register_name}

-- the source language reads the name of a register in a line as that register
abbrev pub RegistersReadBack : Type 0
RegistersReadBack = (number : ℕ) → number < 16 → register_of (register_name number) ≡ Some number
