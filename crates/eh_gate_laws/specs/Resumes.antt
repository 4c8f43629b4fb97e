-- The end of a cleanup (docs/rules/machine.md, "The end of a cleanup"): how it is refused, and from where phase 2 goes on.
use Rattle.std.specs.Prelude.{◌≡◌, ◌≢◌, ℕ, Option, Some, None, slice_index}
use Rattle.eh_bytecode.specs.declared.frame.Vrs.{Vrs}
use Rattle.eh_cxa.specs.Words.{word, block_slot}
use Rattle.eh_phase.specs.declared.phase2.Entered.{Entered}
use Rattle.eh_phase.specs.declared.phase2.Goal.{Goal}
use Rattle.eh_phase.specs.Phases.{phase2}
use Rattle.eh_phase.specs.Frames.{frames_of, caller_at}
use Rattle.eh_phase.specs.Calls.{stack_of}
use Rattle.thumb_core.specs.Registers.{all_of}
use Rattle.thumb_core.specs.declared.ends.TrapKind.TheVariants as kind
use Rattle.thumb_core.specs.declared.ends.End.TheVariants.{Trap}
use Rattle.eh_gates.specs.declared.state.Turned.TheVariants.{Ended}
use Rattle.eh_gates.specs.State.{State, Tables, Outcome}
use Rattle.eh_gates.specs.Landing.{enter_landing}
use Rattle.eh_gates.specs.Gates.{gate_of}

-- the frame of the function that asks for it, as its caller was left
abbrev pub caller_of : Tables → State → Option Vrs
caller_of g s = caller_at g.image s.memory.segments s.regs.pc (all_of s.regs)

-- words 18, 19 and 20 of a slot are the barrier's sp, the object of its handler and its descriptor; words 24, 25 and 26 are the cleanup's
-- next descriptor, landing sp and site
abbrev pub kept_word : State → ℕ → ℕ → ℕ
kept_word s slot k = word s.memory slot k

abbrev pub kept_goal : State → ℕ → Goal
kept_goal s slot = record { sp = kept_word s slot 18; desc = kept_word s slot 20 }

-- what phase 2 enters from the recorded site on, with the caller's registers; in that frame, from the recorded next descriptor on
abbrev pub resume_landing : Tables → State → ℕ → Vrs → Entered
resume_landing g s slot vrs = phase2 (kept_goal s slot) (kept_word s slot 24) (frames_of g.image (stack_of s.memory) None (kept_word s slot 26) vrs.r)

-- the state in which it is entered: as before, except that another cleanup is the innermost in progress
pub record Resumes (g : Tables) (s : State) (slot : ℕ) (vrs : Vrs) (o : Outcome) : Type 0 where
  pub block : ℕ
  pub is_block : block_slot block ≡ Some slot
  pub outer : ℕ
  pub is : o ≡ enter_landing (record s { globals = record s.globals { cleanup = outer } }) block (kept_word s slot 19) (resume_landing g s slot vrs)

pub record EndsCleanups (g : Tables) (next : ℕ) (s : State) : Type 0 where
  -- none is in progress
  pub none : block_slot s.globals.cleanup ≡ None → gate_of g 22 next s ≡ (Ended (Trap kind.NoCleanup 0 s.regs.pc), s)
  -- the function that asks for it can't be unwound
  pub lost : (slot : ℕ) → block_slot s.globals.cleanup ≡ Some slot → caller_of g s ≡ None → gate_of g 22 next s ≡ (Ended (Trap kind.CleanupElsewhere 0 s.regs.pc), s)
  -- its caller's sp isn't the landing sp
  pub elsewhere :
      (slot : ℕ) (vrs : Vrs) → block_slot s.globals.cleanup ≡ Some slot → caller_of g s ≡ Some vrs → kept_word s slot 25 ≢ slice_index vrs.r 13
      → gate_of g 22 next s ≡ (Ended (Trap kind.CleanupElsewhere (slice_index vrs.r 13) s.regs.pc), s)
  -- it is
  pub resumes :
      (slot : ℕ) (vrs : Vrs) → block_slot s.globals.cleanup ≡ Some slot → caller_of g s ≡ Some vrs → kept_word s slot 25 ≡ slice_index vrs.r 13
      → Resumes g s slot vrs (gate_of g 22 next s)

abbrev pub CleanupsGoOnFromTheKept : Type 0
CleanupsGoOnFromTheKept = (g : Tables) (next : ℕ) (s : State) → EndsCleanups g next s
