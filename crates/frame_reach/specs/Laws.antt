-- What holds of every function: laws above the definitions.
use Rattle.std.specs.Prelude.{ℕ, ◌≡◌, ◌↔◌, ◌+◌, ◌*◌, ◌/◌, ◌^◌, ◌<◌, ◌⊎◌, true, false, List, length, Some}
use Rattle.thumb_isa.specs.declared.instr.Instr.{Instr}
use Rattle.frame_facts.specs.declared.straight.Straight.{Straight}
use Rattle.frame_facts.specs.Prologues.{empty_run, with_instruction}
use Rattle.frame_code.specs.declared.standing.Standing.TheVariants.{Instruction}
use Rattle.frame_graph.specs.FlowGraph.{FlowGraph}
use Rattle.frame_graph.specs.Places.{standing_at}
use Rattle.frame_code.specs.Branches.{reaches_next}
use Rattle.frame_graph.specs.Lowering.{is_lowering}
use Rattle.frame_graph.specs.Reach.{IsReached}
use Rattle.frame_reach.specs.declared.marks.TheConstants.{MOST_REACHED}
use Rattle.frame_reach.specs.Marks.{Marks, AreMarks, AreThePlaces, IsTarget, IsTooLong}
use Rattle.frame_reach.specs.Prologue.{is_led_to, prologue}

-- ---- marks

-- every function has marks
abbrev pub MarksExist : Type 0
MarksExist = (s : FlowGraph) → (m : Marks) × AreMarks s m

-- and no others
abbrev pub MarksAgree : Type 0
MarksAgree = (s : FlowGraph) (m n : Marks) → AreMarks s m → AreMarks s n → m ≡ n

-- how many places are reached tells whether they are too many
abbrev pub PlacesAreCounted : Type 0
PlacesAreCounted = (s : FlowGraph) (m : Marks) (ps : List ℕ) → AreMarks s m → AreThePlaces m ps → IsTooLong s ↔ (MOST_REACHED < length ps)

-- ---- targets

-- every target is reached itself
abbrev pub TargetsAreReached : Type 0
TargetsAreReached = (s : FlowGraph) (q : ℕ) → IsTarget s q → IsReached s q

-- the place follows a reached instruction that can go on to it
abbrev pub IsAfter : FlowGraph → ℕ → Type 0
IsAfter s q = (p : ℕ) × (i : Instr) × (size : ℕ) × IsReached s p × (standing_at s p ≡ Instruction i size) × (reaches_next i ≡ true) × (q ≡ p + size / 2)

-- any other reached place is the entry, or follows an instruction
abbrev pub OthersAreAfter : Type 0
OthersAreAfter = (s : FlowGraph) (q : ℕ) → IsReached s q → (q ≡ 0) ⊎ (IsTarget s q ⊎ IsAfter s q)

-- ---- the prologue

-- The run has come to a place. At the entry it has no instruction; then it takes one after the other, none of whose halfwords is a
-- target.
pub data IsRun (s : FlowGraph) (m : Marks) : ℕ → Straight → Type 0 where
  begins : IsRun s m 0 (empty_run s.start)
  takes : {p : ℕ} {run next : Straight} {i : Instr} {size : ℕ} → IsRun s m p run → standing_at s p ≡ Instruction i size → is_led_to m.target p size ≡ false
      → with_instruction run i size ≡ Some next → IsRun s m (p + size / 2) next

-- it takes the instruction at this place too
abbrev pub Continues : FlowGraph → Marks → ℕ → Straight → Type 0
Continues s m p run =
    (i : Instr) × (size : ℕ) × (next : Straight) × (standing_at s p ≡ Instruction i size) × (is_led_to m.target p size ≡ false) × (with_instruction run i size ≡ Some next)

-- the prologue is a run that takes no instruction more
abbrev pub PrologueIsTheLongestRun : Type 0
PrologueIsTheLongestRun =
    (s : FlowGraph) (m : Marks) → (p : ℕ) × (run : Straight) × IsRun s m p run × (Continues s m p run → ⊥) × (prologue s m ≡ run.prologue)

-- each instruction that a run takes is reached
abbrev pub RunsAreReached : Type 0
RunsAreReached = (s : FlowGraph) (m : Marks) (p : ℕ) (run : Straight) → IsRun s m p run → Continues s m p run → IsReached s p

-- no target lies in the prologue
abbrev pub NoTargetInThePrologue : Type 0
NoTargetInThePrologue =
    (s : FlowGraph) (m : Marks) → s.end < 2 ^ 32 → AreMarks s m → (q : ℕ) → IsTarget s q → s.start + 2 * q < (prologue s m).end → ⊥

-- no instruction of the prologue is a lowering place
abbrev pub NoLoweringInThePrologue : Type 0
NoLoweringInThePrologue = (s : FlowGraph) (m : Marks) (p : ℕ) (run : Straight) → IsRun s m p run → Continues s m p run → is_lowering s m.reached p ≡ false
