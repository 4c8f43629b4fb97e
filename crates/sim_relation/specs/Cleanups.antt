-- Cleanups in progress: each was entered in a live activation, at a site of its function, and its exception can still reach its barrier.
use Rattle.std.specs.Prelude.{ℕ, Some, List, [], ◌∷◌, ◌≡◌, ◌+◌, ◌<◌, ◌≤◌, true, false, ◌++◌, None, Ok, ◌⊎◌, length}
use Rattle.eh_cxa.specs.Throw.{barrier_of}
use Rattle.eh_cxa.specs.Words.{word}
use Rattle.sim_machines.specs.eh_phase.declared.phase2.Goal.{Goal}
use Rattle.sim_machines.specs.eh_gates.Resuming.{goal_in}
use Rattle.sim_machines.specs.Activations.{Recorded, memory_of, registers_of, Activation, frames_at, InProgress, cleanups_in}
use Rattle.elf_image.specs.Functions.{Function}
use Rattle.eh_bus.specs.Segment.{Segment}
use Rattle.eh_cxa.specs.Lists.{Cleanup}
use Rattle.sim_machines.specs.eh_desc.declared.descriptor.Desc.{Desc}
use Rattle.sim_machines.specs.eh_phase.Cleanups.{is_reached}
use Rattle.frame_facts.specs.declared.facts.Fact.{Fact}
use Rattle.sim_machines.specs.frame_entries.Scopes.{Item, is_cleanup_at}
use Rattle.sim_machines.specs.frame_graph.Sites.{site_at, items_at}
use Rattle.sim_machines.specs.frame_reach.Marks.{Marks}
use Rattle.sim_machines.specs.frame_flow.Flows.{IsStateOf}
use Rattle.sim_machines.specs.frame_check.Accepts.{Accepted}
use Rattle.sim_machines.specs.frame_check.Roots.{flow_graph_of}
use Rattle.sim_relation.specs.Holds.{AreKept}
use Rattle.sim_relation.specs.Chain.{IsOf, code}

-- the barrier to which the exception of a slot flies, from the words of its control block
abbrev pub goal_at : Recorded → ℕ → Goal
goal_at s slot = goal_in (barrier_of (word (memory_of s)) (Some slot))

-- the registers of a frame given by sp alone: the phases read no others
abbrev pub by_sp : ℕ → List ℕ
by_sp sp = registers_of (record { back = 0; sp = sp; saved = 0 ∷ 0 ∷ 0 ∷ 0 ∷ 0 ∷ 0 ∷ 0 ∷ 0 ∷ [] })

-- A cleanup was entered in this activation, with these activations outside it.
pub record IsEntered (x : Accepted) (segments : List Segment) (g : Goal) (c : Cleanup) (a : Activation) (more : List Activation) : Type 0 where
  pub function : Function
  pub marks : Marks
  pub of : IsOf x a.function function marks
  pub place : ℕ
  pub fact : Fact
  pub state : IsStateOf (code x function marks) place fact
  -- the kept site is one of the function, and a state of facts holds there
  pub site : site_at (flow_graph_of x.image function) place ≡ Some c.site
  -- the landing sp lies at least as deep as that state says, and below the sp recorded
  pub lower : c.sp + fact.depth ≤ a.caller.sp
  pub at_depth : fact.below ≡ false → c.sp + fact.depth ≡ a.caller.sp
  pub below : c.sp < a.caller.sp
  -- the words that the state says are kept hold what was recorded
  pub saves : AreKept segments a (code x function marks).prologue fact
  pub before : List Item
  pub cleanup : Desc
  pub after : List Item
  -- the kept next descriptor is the one after a cleanup in scope of the site
  pub items : items_at (flow_graph_of x.image function) c.site ≡ before ++ Ok cleanup ∷ after
  pub cleans : is_cleanup_at c.site cleanup ≡ true
  pub next : c.next ≡ cleanup.next
  -- Phase 2 from there reaches the barrier, over this activation and those outside it. No descriptor before the barrier is unreadable, and
  -- each activation up to the barrier's can be unwound.
  pub reach : is_reached g c.next (frames_at x.image None c.site (by_sp c.sp) a more).frames ≡ true

-- The cleanup's activation is the one with so many outside it, and those inside it recorded no sp above the landing sp.
abbrev pub IsHeld : Accepted → List Segment → Goal → ℕ → Cleanup → List Activation → Type 0
IsHeld x segments g outside c [] = ⊥
IsHeld x segments g outside c (a ∷ more) =
    ((length more ≡ outside) × IsEntered x segments g c a more) ⊎ ((a.caller.sp ≤ c.sp) × IsHeld x segments g outside c more)

-- a barrier at or below the landing sp of the innermost of these cleanups
abbrev pub IsWithin : ℕ → List Cleanup → Type 0
IsWithin sp [] = Unit {0}
IsWithin sp (c ∷ more) = sp ≤ c.sp

-- Cleanups in progress, from the innermost outwards. The current sp is at most the first landing sp, and landing sps rise. Each cleanup is
-- in the activation at its place, and the barrier of its exception lies at or below the next landing sp.
abbrev pub AreInProgress : Accepted → Recorded → ℕ → List InProgress → Type 0
AreInProgress x s low [] = Unit {0}
AreInProgress x s low (c ∷ more) =
    (low ≤ c.cleanup.sp) × IsHeld x s.segments (goal_at s c.cleanup.slot) c.place c.cleanup (s.first ∷ s.outer)
    × IsWithin (goal_at s c.cleanup.slot).sp (cleanups_in more) × AreInProgress x s c.cleanup.sp more
