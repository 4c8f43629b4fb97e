-- Which of the words that the PUSHes of a prologue store are saves.
use Rattle.std.specs.Prelude.{ℕ, zero, suc, ◌+◌, ◌-◌, ◌*◌, ◌^◌, ◌==◌, Bool, if◌then◌else◌, List, [], ◌∷◌, ◌++◌, length, map, fold}
use Rattle.std.specs.List.{list_any}
use Rattle.std.specs.Option.{option_map_or}
use Rattle.run_images.specs.thumb_core.Words.{registers_of_list}
use Rattle.thumb_isa.specs.declared.instr.Instr.{Instr}
use Rattle.thumb_isa.specs.declared.instr.Instr.TheVariants.{Push}
use Rattle.frame_facts.specs.declared.saves.Save.{Save}
use Rattle.frame_facts.specs.declared.saves.Prologue.{Prologue}
use Rattle.frame_facts.specs.declared.straight.Straight.{Straight}
use Rattle.frame_facts.specs.Saves.{saves_of}
use Rattle.frame_facts.specs.Prologues.{with_instruction, empty_run}
use Rattle.frame_reach.specs.Marks.{Marks}
use Rattle.frame_reach.specs.Prologue.{places, lines}
use Rattle.frame_graph.specs.FlowGraph.{FlowGraph}
use Rattle.frame_check.specs.declared.pushes.OpenPush.{OpenPush}
use Rattle.frame_check.specs.declared.pushes.ProloguePush.{ProloguePush}

-- a PUSH of the run: its address, how many words it stores, and how many bytes the lowest of them lies below the CFA
pub record Pushing : Type 0 where
  pub at : ℕ
  pub lowest : ℕ
  pub words : ℕ

abbrev pub pushing : Straight → Instr → List Pushing
pushing s (Push list) = record { at = s.prologue.end; lowest = s.fact.depth + 4 * length (registers_of_list list); words = length (registers_of_list list) } ∷ []
pushing s i = []

-- the PUSHes of a run that is extended by these instructions, as far as they are allowed
unfoldable pub pushings : Straight → List (Instr × ℕ) → List Pushing
pushings s [] = []
pushings s (line ∷ more) = option_map_or (λ t. pushing s line.0 ++ pushings t more) (with_instruction s line.0 line.1) []

-- the PUSHes of a function's prologue
abbrev pub pushings_of : FlowGraph → Marks → List Pushing
pushings_of s m = pushings (empty_run s.start) (lines s m.target (places s) 0)

-- ---- the same by their lists, while the prologue isn't known whole

abbrev pub pushing_of : OpenPush → Pushing
pushing_of x = record { at = x.at; lowest = x.lowest; words = length (registers_of_list x.list) }

abbrev pub push_at : Straight → Instr → List OpenPush
push_at s (Push list) = record { at = s.prologue.end; lowest = s.fact.depth + 4 * length (registers_of_list list); list = list } ∷ []
push_at s i = []

-- ---- their saves

-- a save lies so many bytes below the CFA
abbrev pub is_saved : Prologue → ℕ → Bool
is_saved p offset = list_any (λ (s : Save). s.offset == offset) (saves_of p)

abbrev pub word_bit : Prologue → ℕ → ℕ → ℕ
word_bit p lowest k = if is_saved p (lowest - 4 * k) then 2 ^ k else 0

-- which of the first words of a PUSH, from the lowest on, are saves: bit k means word k, which lies 4 * k bytes above the lowest
unfoldable pub word_bits : Prologue → ℕ → ℕ → ℕ
word_bits p lowest zero = 0
word_bits p lowest (suc k) = word_bits p lowest k + word_bit p lowest k

abbrev pub mark_push : Prologue → Pushing → ProloguePush
mark_push p x = record { at = x.at; saves = word_bits p x.lowest x.words }

abbrev pub push_saves : Prologue → OpenPush → ProloguePush
push_saves p x = mark_push p (pushing_of x)

-- the PUSHes of a function, from the instructions from its start on, each with its words that are saves of the prologue
unfoldable pub pushes_of : Prologue → ℕ → List (Instr × ℕ) → List ProloguePush
pushes_of p start lines = map (mark_push p) (pushings (empty_run start) lines)

-- the saves of the PUSH at an address; 0 if no PUSH of the prologue is there
abbrev pub saves_in : List ProloguePush → ℕ → ℕ
saves_in pushes a = fold (λ found (x : ProloguePush). if x.at == a then x.saves else found) 0 pushes
