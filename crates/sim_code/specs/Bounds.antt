-- The ranges of a decoded instruction's operands, whatever its halfwords: the part of thumb_isa's InRange that the operands alone tell.
use Rattle.std.specs.Prelude.{◌%◌, ◌<◌, ◌≤◌, ◌^◌, ◌≡◌, ℕ, Bool, true, false, Contains}
use Rattle.thumb_isa.specs.Range.{IsForward, InRange}
use Rattle.thumb_isa.specs.declared.instr.Instr.{Instr}
use Rattle.thumb_isa.specs.Laws.{is_late}
use Rattle.thumb_isa.specs.Nature.{Derivation, Shifts, AddsThree, AddsEight, Combines, AddsToSp, Transfer, NearPc, AtSum, AtOffset, AtSp, Nature, Works, Idles, Derives, AddsHigh, MovesHigh, Transfers, StoresList, LoadsList, RaisesSp, LowersSp, PushesList, PopsList, Goes, nature}
use Rattle.elf_image.specs.Functions.{Function}
use Rattle.frame_code.specs.declared.standing.Standing.TheVariants.{Instruction}
use Rattle.frame_check.specs.frame_graph.Places.{standing_at}
use Rattle.frame_check.specs.Accepts.{Accepted}
use Rattle.frame_check.specs.Roots.{flow_graph_of}

abbrev pub DerivedBounds : Derivation → Type 0
DerivedBounds (Shifts op d m n) = d < 8
DerivedBounds (AddsThree sub d n imm) = d < 8
DerivedBounds (AddsEight op d imm) = d < 8
DerivedBounds (Combines op d m) = d < 8
DerivedBounds (AddsToSp d off) = (d < 8) × IsForward 4 1024 off

abbrev pub TransferBounds : Transfer → Type 0
TransferBounds (NearPc t off) = (t < 8) × IsForward 4 1024 off
TransferBounds (AtSum op t n m) = (op < 8) × (t < 8)
TransferBounds (AtOffset op t n off) = (op < 6) × (t < 8)
TransferBounds (AtSp load t off) = (t < 8) × IsForward 4 1024 off

abbrev pub NatureBounds : Nature → Type 0
NatureBounds (Works d) = d < 8
NatureBounds Idles = Unit {0}
NatureBounds (Derives v) = DerivedBounds v
NatureBounds (AddsHigh d m) = d < 16
NatureBounds (MovesHigh d m) = (d < 16) × (m < 16)
NatureBounds (Transfers t) = TransferBounds t
NatureBounds (StoresList n list) = (n < 8) × (0 ≤ list) × (list < 2 ^ 8)
NatureBounds (LoadsList n list) = (n < 8) × (0 ≤ list) × (list < 2 ^ 8)
NatureBounds (RaisesSp off) = IsForward 4 512 off
NatureBounds (LowersSp off) = IsForward 4 512 off
NatureBounds (PushesList list) = (0 ≤ list) × (list < 2 ^ 15) × (list % 2 ^ 14 < 2 ^ 8)
NatureBounds (PopsList list) = (0 ≤ list) × (list < 2 ^ 16) × (list % 2 ^ 15 < 2 ^ 8)
NatureBounds (Goes b) = Unit {0}

-- for an instruction that only the second profile has, InRange says it all
abbrev pub BoundsWhere : (late : Bool) → Instr → Type 0
BoundsWhere true i = InRange i
BoundsWhere false i = NatureBounds (nature i)

abbrev pub Bounds : Instr → Type 0
Bounds i = BoundsWhere (is_late i) i

-- every instruction that the checker decoded has its operands in range
abbrev pub AreInRange : Accepted → Type 0
AreInRange x = (f : Function) (p : ℕ) (i : Instr) (size : ℕ) → Contains x.image.functions f → standing_at (flow_graph_of x.image f) p ≡ Instruction i size → Bounds i
