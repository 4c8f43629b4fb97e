-- A walk over bytes is the walk over the activations that they stand for.
use Rattle.std.proofs.Common.{◌≡◌, ℕ, List, [], ◌∷◌, length, map, take, refl, sym, ap, subst, ◌∙◌, Option, Some, None}
use Rattle.std.specs.Prelude.{option_map}
use Rattle.std.proofs.lemmas.List.{length-map}
use Rattle.eh_bus.specs.Memory.{Memory}
use Rattle.thumb_core.specs.Registers.{all_of}
use Rattle.eh_phase.specs.Calls.{stack_of}
use Rattle.eh_phase.specs.Laws.{frame_through}
use Rattle.eh_phase.specs.Phases.{Frame, Frames}
use Rattle.eh_phase.specs.Frames.{frames_of}
use Rattle.eh_gates.specs.declared.state.Core.{Core}
use Rattle.eh_gates.specs.State.{State, state_of}
use Rattle.elf_image.specs.Image.{IsSound as IsImage}
use Rattle.frame_check.specs.Accepts.{Accepted, IsSound}
use Rattle.sim_machines.specs.Activations.{Recorded, memory_of, frames_at}
use Rattle.sim_machines.specs.Agreeing.{preserved_registers, Agree}
use Rattle.sim_machines.specs.Checked.{program_of}
use Rattle.sim_relation.specs.Stands.{Keeps, IsProgram}
use Rattle.eh_machine.proofs.Following.{accepted_is}
use Rattle.eh_machine.proofs.sim_frames.FramesSame.{frames_are_same}
use Rattle.eh_walk.specs.declared.walk.Backtrace.{Backtrace}
use Rattle.eh_walk.specs.Laws.{WalksActivations, SameWalks, WalksSame}
use Rattle.eh_walk.specs.Sites.{site_state}
use Rattle.eh_walk.specs.Walks.{walk_frame, IsWalk, walk_of, recorded_walk}
use Rattle.eh_walk.proofs.Places.{all_shown}
use Rattle.eh_walk.proofs.SiteStates.{throws_there}

-- ---- frames that agree show the same

shown_seen : (fs : List Frame) → map walk_frame (map (frame_through preserved_registers) fs) ≡ map walk_frame fs
shown_seen [] = refl
shown_seen (f ∷ more) = ap (λ rest. walk_frame f ∷ rest) (shown_seen more)

shown_same : (fs gs : Frames) → Agree fs gs → all_shown fs ≡ all_shown gs
shown_same fs gs e = sym (shown_seen fs.frames) ∙ ap all_shown e ∙ shown_seen gs.frames

last_same : (fs gs : Frames) → Agree fs gs → fs.last ≡ gs.last
last_same fs gs e = ap (λ (v : Frames). v.last) e

count_same : (fs gs : Frames) → Agree fs gs → length fs.frames ≡ length gs.frames
count_same fs gs e = sym (length-map fs.frames walk_frame) ∙ ap length (shown_same fs gs e) ∙ length-map gs.frames walk_frame

same_walks : (fs gs : Frames) → Agree fs gs → SameWalks (Some fs) (Some gs)
same_walks fs gs e = record {
  frames = λ most. ap (take most) (shown_same fs gs e);
  end = λ most. rw (count_same fs gs e, last_same fs gs e) refl;
}

-- ---- a walk

module _ (x : Accepted) (is : IsProgram x) (s : Recorded) (k : Keeps x s) where
  by_site : (o : Option ℕ) → site_state (program_of x) s.regs (memory_of s) ≡ o
      → SameWalks (option_map (λ site. frames_of x.image (stack_of (memory_of s)) None site (all_of s.regs)) o) (option_map (λ site. frames_at x.image None site (all_of s.regs) s.first s.outer) o)
  by_site None e = record { frames = λ most. refl; end = λ most. refl }
  by_site (Some site) e = same_walks _ _ (frames_are_same x s site is k (throws_there x s site is k e)).all

  recorded : SameWalks (walk_of (program_of x) s.regs (memory_of s)) (recorded_walk (program_of x) s)
  recorded = by_site (site_state (program_of x) s.regs (memory_of s)) refl

pub walks_are_same : WalksSame
walks_are_same x b s is r = subst (λ (c : State). SameWalks (walk_of (program_of x) c.regs c.memory) (recorded_walk (program_of x) s)) (sym r.same) (recorded x is s r.keeps)

pub walks_activations : (x : Accepted) (core : Core) (m : Memory) (most : ℕ) (t : Backtrace) → IsImage x.image → IsSound x → IsWalk most (walk_of (program_of x) core.regs m) t
    → WalksActivations x core m most t
walks_activations x core m most t image sound w events s r =
    let same = walks_are_same x (state_of core m events) s (accepted_is x image sound) r in
    record { frames = w.frames ∙ same.frames most; end = w.end ∙ same.end most }
