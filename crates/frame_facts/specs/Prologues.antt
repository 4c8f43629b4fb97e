-- A function's prologue: the straight run from its entry, and the words in which its PUSHes save registers.
use Rattle.std.specs.Prelude.{ℕ, ◌+◌, ◌*◌, ◌%◌, ◌^◌, ◌==◌, ◌&&◌, ◌||◌, not, Bool, true, false, nat_lt, nat_le, if◌then◌else◌, List, [], ◌∷◌, length, slice_set, replicate, Option, Some, None, option_map, option_and_then}
use Rattle.std.specs.List.{list_any}
use Rattle.std.specs.Option.{option_map_or}
use Rattle.thumb_core.specs.Words.{registers_of_list}
use Rattle.thumb_isa.specs.declared.instr.Instr.{Instr}
use Rattle.thumb_isa.specs.Nature.{Derivation, Shifts, AddsThree, AddsEight, Combines, AddsToSp, Transfer, NearPc, AtSum, AtOffset, AtSp, Nature, Works, Idles, Derives, AddsHigh, MovesHigh, Transfers, StoresList, LoadsList, RaisesSp, LowersSp, PushesList, PopsList, Goes, nature}
use Rattle.frame_facts.specs.declared.facts.Source.{Source}
use Rattle.frame_facts.specs.declared.facts.Source.TheVariants.{Entry, SpAt, Other}
use Rattle.frame_facts.specs.declared.facts.Fact.{Fact}
use Rattle.frame_facts.specs.declared.facts.TheConstants.{DEEPEST}
use Rattle.frame_facts.specs.declared.saves.Save.{Save}
use Rattle.frame_facts.specs.declared.saves.Prologue.{Prologue}
use Rattle.frame_facts.specs.declared.saves.TheConstants.{MOST_SAVES}
use Rattle.frame_facts.specs.declared.straight.Straight.{Straight}
use Rattle.frame_facts.specs.Facts.{source, entry_fact}
use Rattle.frame_facts.specs.After.{effect}

-- r4 to r11 and lr are the caller's
abbrev pub is_callers : ℕ → Bool
is_callers reg = (nat_le 4 reg && nat_lt reg 12) || (reg == 14)

-- a register that the run may write: none that the caller needs, and neither sp nor pc
abbrev pub is_free : ℕ → Bool
is_free reg = not (is_callers reg) && not (reg == 13) && not (reg == 15)

-- what may be derived in the run, and loaded or stored
abbrev pub may_derive : Derivation → Bool
may_derive (Shifts op d m n) = is_free d
may_derive (AddsThree sub d n imm) = is_free d
may_derive (AddsEight op d imm) = (op == 1) || is_free d
may_derive (Combines op d m) = (op == 8) || (op == 10) || (op == 11) || is_free d
may_derive (AddsToSp d off) = true

abbrev pub may_transfer : Transfer → Bool
may_transfer (NearPc t off) = is_free t
may_transfer (AtSum op t n m) = nat_lt op 3 || is_free t
may_transfer (AtOffset op t n off) = not ((op == 1) || (op == 3) || (op == 5)) || is_free t
may_transfer (AtSp load t off) = not load || is_free t

-- An instruction that is allowed in the run. It is no branch, call, gate or return; only PUSH and SUB write sp; only MOV and ADD from
-- sp write a register that the caller needs.
abbrev pub nature_may_stand : Nature → Bool
nature_may_stand (Works d) = is_free d
nature_may_stand Idles = true
nature_may_stand (Derives v) = may_derive v
nature_may_stand (AddsHigh d m) = is_free d
nature_may_stand (MovesHigh d m) = not (d == 13) && not (d == 15)
nature_may_stand (Transfers t) = may_transfer t
nature_may_stand (StoresList n list) = is_free n
nature_may_stand (LoadsList n list) = is_free n && not (list_any (λ reg. not (is_free reg)) (registers_of_list list))
nature_may_stand (RaisesSp off) = false
nature_may_stand (LowersSp off) = true
nature_may_stand (PushesList list) = true
nature_may_stand (PopsList list) = false
nature_may_stand (Goes b) = false

abbrev pub may_stand : Instr → Bool
may_stand i = nature_may_stand (nature i)

-- the save that a word at an offset makes: its value is the entry value of a register that the caller needs
abbrev pub save_of_word : ℕ → Source → Option Save
save_of_word offset (Entry k) = if is_callers k then Some (record { reg = k; offset = offset }) else None
save_of_word offset (SpAt at) = None
save_of_word offset Other = None

-- a save more, where it isn't one too many
abbrev pub with_save : Option Save → Prologue → Option Prologue
with_save None p = Some p
with_save (Some s) p = if nat_lt p.count MOST_SAVES then Some (record p { count = p.count + 1; saves = slice_set p.saves p.count s }) else None

-- adds the saves of a PUSH in ascending order of offset: the word of the lowest register is the deepest
abbrev pub with_push_saves : Prologue → Fact → List ℕ → Option Prologue
with_push_saves p f [] = Some p
with_push_saves p f (reg ∷ more) = option_and_then (with_save (save_of_word (f.depth + 4 * length (reg ∷ more)) (source f reg))) (with_push_saves p f more)

abbrev pub nature_pushed_by : Straight → Nature → Option Prologue
nature_pushed_by s (PushesList list) = with_push_saves s.prologue s.fact (registers_of_list list)
nature_pushed_by s (Works d) = Some s.prologue
nature_pushed_by s Idles = Some s.prologue
nature_pushed_by s (Derives v) = Some s.prologue
nature_pushed_by s (AddsHigh d m) = Some s.prologue
nature_pushed_by s (MovesHigh d m) = Some s.prologue
nature_pushed_by s (Transfers t) = Some s.prologue
nature_pushed_by s (StoresList n list) = Some s.prologue
nature_pushed_by s (LoadsList n list) = Some s.prologue
nature_pushed_by s (RaisesSp off) = Some s.prologue
nature_pushed_by s (LowersSp off) = Some s.prologue
nature_pushed_by s (PopsList list) = Some s.prologue
nature_pushed_by s (Goes b) = Some s.prologue

abbrev pub prologue_after : Straight → Instr → Option Prologue
prologue_after s i = nature_pushed_by s (nature i)

-- the run with its end after an instruction of so many bytes
abbrev pub run_with_end : Straight → Instr → ℕ → Prologue → Option Straight
run_with_end s i size p =
    let q : Prologue = record p { end = (s.prologue.end + size) % 2 ^ 32 } in
    option_map (λ f. record { fact = f; prologue = q }) (effect q false s.prologue.end i s.fact)

-- the run with one more instruction, if that is allowed there
abbrev pub with_instruction : Straight → Instr → ℕ → Option Straight
with_instruction s i size = if nat_le s.fact.depth DEEPEST && may_stand i then option_and_then (run_with_end s i size) (prologue_after s i) else None

-- at the entry it has none
abbrev pub empty_run : ℕ → Straight
empty_run start = record { fact = entry_fact; prologue = record { end = start; count = 0; saves = replicate 16 (record { reg = 0; offset = 0 }) } }

-- The prologue of a function whose entry is at an address. The instructions from there on end before the first target of a branch or
-- landing pad; the prologue has as many of them as are allowed.
abbrev pub run_on : Straight → List (Instr × ℕ) → Straight
run_on s [] = s
run_on s (line ∷ more) = option_map_or (λ t. run_on t more) (with_instruction s line.0 line.1) s

abbrev pub prologue_of : ℕ → List (Instr × ℕ) → Prologue
prologue_of start lines = (run_on (empty_run start) lines).prologue
