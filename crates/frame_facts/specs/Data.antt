-- The effect of moves, additions and other register instructions on a fact.
use Rattle.std.specs.Prelude.{ℕ, ◌%◌, ◌==◌, ◌&&◌, ◌||◌, not, Bool, true, false, nat_le, if◌then◌else◌, Option, Some, None, pos}
use Rattle.frame_facts.specs.declared.facts.Source.{Source}
use Rattle.frame_facts.specs.declared.facts.Source.TheVariants.{Entry, SpAt, Other}
use Rattle.frame_facts.specs.declared.facts.Fact.{Fact}
use Rattle.frame_facts.specs.declared.saves.Prologue.{Prologue}
use Rattle.frame_facts.specs.Facts.{source, with_source, forget_register, offset_source, sp_plus}
use Rattle.frame_facts.specs.Saves.{fact_at_depth}

-- ADD, SUB of three bits: with 0 a copy
abbrev pub add_sub_imm3 : Bool → ℕ → ℕ → ℕ → Fact → Fact
add_sub_imm3 sub d n imm f = with_source f d (if imm == 0 then source f n else offset_source sub imm (source f n))

-- MOV, CMP, ADD, SUB of eight bits
abbrev pub imm8 : ℕ → ℕ → ℕ → Fact → Fact
imm8 op d imm f =
    if op == 0 then forget_register d f
    else (if op == 1 then f
    else with_source f d (offset_source (not (op == 2)) imm (source f d)))

-- TST, CMP and CMN write no register
abbrev pub alu : ℕ → ℕ → Fact → Fact
alu op d f = if (op == 8) || (op == 10) || (op == 11) then f else forget_register d f

-- a copy of any register; of pc nothing is known
abbrev pub copy_source : ℕ → Fact → Source
copy_source m f = if m == 13 then sp_plus f (pos 0) else source f m

-- sp is set from a place of the frame at or above it
abbrev pub set_sp : Prologue → Source → Fact → Option Fact
set_sp p (SpAt k) f = if (k % 4 == 0) && nat_le k f.depth then Some (record (fact_at_depth p k f) { below = false }) else None
set_sp p (Entry n) f = None
set_sp p Other f = None

-- MOV between any two registers: into sp, it lowers sp at a lowering place, and sets it elsewhere
abbrev pub mov_high : Prologue → Bool → ℕ → ℕ → Fact → Option Fact
mov_high p lowers d m f =
    if d == 13 then (if lowers then Some (record f { below = true }) else set_sp p (copy_source m f) f)
    else Some (with_source f d (copy_source m f))

-- ADD of any two registers: never into sp
abbrev pub add_high : ℕ → Fact → Option Fact
add_high d f = if d == 13 then None else Some (forget_register d f)
