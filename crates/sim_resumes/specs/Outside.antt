-- The activation of the innermost cleanup in progress, outside the one that ends it.
use Rattle.std.specs.Prelude.{◌≡◌, ℕ, List, ◌∷◌, length}
use Rattle.eh_bus.specs.Segment.{Segment}
use Rattle.eh_cxa.specs.Lists.{Cleanup}
use Rattle.eh_phase.specs.declared.phase2.Goal.{Goal}
use Rattle.frame_check.specs.Accepts.{Accepted}
use Rattle.sim_machines.specs.Activations.{Activation}
use Rattle.sim_steps.specs.sim_relation.Cleanups.{IsEntered}

-- the cleanup's activation, with those outside it
pub record IsOutside (x : Accepted) (segments : List Segment) (g : Goal) (n : ℕ) (c : Cleanup) (outer : List Activation) : Type 0 where
  pub first : Activation
  pub more : List Activation
  pub is : outer ≡ first ∷ more
  pub place : length more ≡ n
  pub entered : IsEntered x segments g c first more
