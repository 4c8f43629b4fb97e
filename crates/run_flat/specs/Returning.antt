-- Which instructions may return, and so may end the run.
use Rattle.std.specs.Prelude.{Bool, true, false}
use Rattle.thumb_isa.specs.declared.instr.Instr.{Instr}
use Rattle.thumb_isa.specs.declared.instr.Instr.TheVariants.{Bx, Pop}

abbrev pub may_return : Instr → Bool
may_return (Bx m) = true
may_return (Pop list) = true
may_return i = false
