-- Where an instruction leads, from its address and encoding alone (DDI 0419).
use Rattle.std.specs.Prelude.{ℕ, ◌+◌, ◌^◌, ◌==◌, not, nat_lt, Bool, true, false, Option, Some, None, option_map, option_and_then}
use Rattle.thumb_isa.specs.declared.instr.Instr.{Instr}
use Rattle.thumb_isa.specs.Nature.{Branch, BranchesTo, BranchesIf, BranchesOn, Calls, ReturnsBy, Gates, Nature, Works, Idles, Derives, AddsHigh, MovesHigh, Transfers, StoresList, LoadsList, RaisesSp, LowersSp, PushesList, PopsList, Goes, nature, branch_of}
use Rattle.thumb_core.specs.Data.{forward}

-- The next instruction can be executed after it. That holds for all but an unconditional branch and a write of a register or a word to
-- pc; a call and a gate come back.
abbrev pub comes_back : Branch → Bool
comes_back (BranchesTo off) = false
comes_back (BranchesIf cond off) = true
comes_back (BranchesOn nonzero n off) = true
comes_back (Calls off) = true
comes_back (ReturnsBy m) = false
comes_back (Gates number) = true

abbrev pub nature_reaches_next : Nature → Bool
nature_reaches_next (Works d) = true
nature_reaches_next Idles = true
nature_reaches_next (Derives v) = true
nature_reaches_next (AddsHigh d m) = not (d == 15)
nature_reaches_next (MovesHigh d m) = not (d == 15)
nature_reaches_next (Transfers t) = true
nature_reaches_next (StoresList n list) = true
nature_reaches_next (LoadsList n list) = true
nature_reaches_next (RaisesSp off) = true
nature_reaches_next (LowersSp off) = true
nature_reaches_next (PushesList list) = true
nature_reaches_next (PopsList list) = nat_lt list (2 ^ 15)
nature_reaches_next (Goes b) = comes_back b

abbrev pub reaches_next : Instr → Bool
reaches_next i = nature_reaches_next (nature i)

-- the target of a branch: its offset counts from the address plus 4
abbrev pub offset_target : ℕ → Branch → Option ℕ
offset_target a (BranchesTo off) = Some (forward (a + 4) off)
offset_target a (BranchesIf cond off) = Some (forward (a + 4) off)
offset_target a (BranchesOn nonzero n off) = Some (forward (a + 4) off)
offset_target a (Calls off) = None
offset_target a (ReturnsBy m) = None
offset_target a (Gates number) = None

abbrev pub branch_target : ℕ → Instr → Option ℕ
branch_target a i = option_and_then (offset_target a) (branch_of (nature i))

-- where BL at an address leads
abbrev pub called_target : ℕ → Branch → Option ℕ
called_target a (Calls off) = option_map (λ n. forward (a + 4) n) off
called_target a (BranchesTo off) = None
called_target a (BranchesIf cond off) = None
called_target a (BranchesOn nonzero n off) = None
called_target a (ReturnsBy m) = None
called_target a (Gates number) = None

abbrev pub call_target : ℕ → Instr → Option ℕ
call_target a i = option_and_then (called_target a) (branch_of (nature i))
