-- Where a landing is: in which activation, and at which place of its function.
use Rattle.std.specs.Prelude.{◌≡◌, ℕ, ◌≤◌, List, Some}
use Rattle.thumb_core.specs.Registers.{all_of}
use Rattle.eh_phase.specs.Firsts.{first_some}
use Rattle.eh_phase.specs.Phases.{Frame, enter_at_place, places}
use Rattle.eh_phase.specs.declared.phase2.Entered.{Entered}
use Rattle.eh_phase.specs.declared.phase2.Goal.{Goal}
use Rattle.eh_gates.specs.Landing.{landing_registers}
use Rattle.frame_check.specs.Accepts.{Accepted}
use Rattle.sim_relation.specs.sim_machines.Activations.{Activation, Recorded}
use Rattle.sim_relation.specs.Chain.{StandsAt}
use Rattle.sim_relation.specs.Stands.{Keeps, IsProgram}
use Rattle.sim_frames.specs.Frames.{IsSiteOf}
use Rattle.sim_frames.specs.Landings.{Fit, Rise, LandsIn, Offers, IsLocated}

-- If frames fit the activations, what phase 2 enters is in one of these. Those inside it are cut, and their slots lie below its sp.
abbrev pub LandingsAreFound : Type 0
LandingsAreFound = (g : Goal) (from top low : ℕ) (fs : List Frame) (acts : List Activation) (e : Entered) → low ≤ top → Fit low fs acts → Rise top low acts
    → first_some (enter_at_place g) (places from fs) ≡ Some e → LandsIn g from top low fs acts e

-- The activation that is entered stands at the pad, with the registers that a landing there has.
abbrev pub PadsAreStoodAt : Type 0
PadsAreStoodAt = (x : Accepted) (s : Recorded) (site : ℕ) → IsProgram x → Keeps x s → IsSiteOf x s site → (f : Frame) (a : Activation) (pad answer : ℕ)
    → IsLocated x s.segments site (all_of s.regs) s.first f a → Offers f pad → StandsAt x a s.segments (landing_registers s.regs f.r pad answer) (landing_registers s.regs f.r pad answer).pc
