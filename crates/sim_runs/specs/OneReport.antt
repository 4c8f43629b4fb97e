-- The report of an accepted image is unique (docs/rules/acceptance.md): it has one graph of types and one answer at each address, and so it is one
-- program.
use Rattle.std.specs.Prelude.{◌≡◌, ℕ}
use Rattle.sim_machines.specs.frame_check.Accepts.{Accepted, IsSound}
use Rattle.sim_machines.specs.frame_check.Roles.{look}
use Rattle.sim_machines.specs.Checked.{program_of}

-- two reports of one image have the same types, and say the same of every address
pub record IsOne (x y : Accepted) : Type 0 where
  pub types : x.types ≡ y.types
  pub roles : (a : ℕ) → look x.roles a ≡ look y.roles a

abbrev pub AnswersAreOne : Type 0
AnswersAreOne = (x y : Accepted) → IsSound x → IsSound y → x.image ≡ y.image → IsOne x y

-- so all runs see the same program, however the checker has stored what it found
abbrev pub ProgramsAreOne : Type 0
ProgramsAreOne = (x y : Accepted) → IsSound x → IsSound y → x.image ≡ y.image → program_of x ≡ program_of y
