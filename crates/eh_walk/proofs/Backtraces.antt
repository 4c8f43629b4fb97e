-- A walk of a state, from the site of the state.
use Rattle.std.proofs.Common.{◌≡◌, ℕ, Option, Some, None, Result, Ok, Err, sym, subst}
use Rattle.std.specs.Prelude.{IfOk, option_map}
use Rattle.eh_bus.specs.Memory.{Memory}
use Rattle.elf_image.specs.Image.{Image, IsSound as IsImage}
use Rattle.thumb_core.specs.Registers.{all_of}
use Rattle.eh_phase.specs.Calls.{stack_of}
use Rattle.eh_phase.specs.Frames.{frames_of}
use Rattle.eh_gates.specs.declared.state.Core.{Core}
use Rattle.frame_check.specs.Accepts.{Accepted, IsSound}
use Rattle.sim_machines.specs.Checked.{program_of}
use Rattle.sim_machines.specs.Program.{Program}
use Rattle.eh_walk.specs.declared.walk.Backtrace.{Backtrace}
use Rattle.eh_walk.specs.declared.walk.WalkMemory.{WalkMemory}
use Rattle.eh_walk.specs.Laws.{WalksActivations}
use Rattle.eh_walk.specs.Sites.{site_state}
use Rattle.eh_walk.specs.Walks.{IsWalk, walk_of}
use Rattle.eh_walk.proofs.Activations.{walks_activations}

module _ (p : Program) (core : Core) (m : Memory) (most : ℕ) where
  from_site : (t : Backtrace) (site : ℕ) (image : Image) → site_state p core.regs m ≡ Some site → image ≡ p.image
      → IsWalk most (Some (frames_of image (stack_of m) None site (all_of core.regs))) t → IsWalk most (walk_of p core.regs m) t
  from_site t site image e same w =
      subst (λ (o : Option ℕ). IsWalk most (option_map (λ at. frames_of p.image (stack_of m) None at (all_of core.regs)) o) t) (sym e)
      (subst (λ (i : Image). IsWalk most (Some (frames_of i (stack_of m) None site (all_of core.regs))) t) same w)

  pub walked_from : (r : Result Backtrace WalkMemory) (site : ℕ) (image : Image) → site_state p core.regs m ≡ Some site → image ≡ p.image
      → IfOk r (λ t. IsWalk most (Some (frames_of image (stack_of m) None site (all_of core.regs))) t) → IfOk r (λ t. IsWalk most (walk_of p core.regs m) t)
  walked_from (Ok t) site image e same w = from_site t site image e same w
  walked_from (Err why) site image e same w = tt

pub activations : (x : Accepted) (core : Core) (m : Memory) (most : ℕ) (r : Result Backtrace WalkMemory) → IsImage x.image → IsSound x
    → IfOk r (λ t. IsWalk most (walk_of (program_of x) core.regs m) t) → IfOk r (λ t. WalksActivations x core m most t)
activations x core m most (Ok t) image sound w = walks_activations x core m most t image sound w
activations x core m most (Err why) image sound w = tt
