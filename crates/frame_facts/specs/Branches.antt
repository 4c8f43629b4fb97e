-- Calls, gates, returns, and branches to the address in a register.
use Rattle.std.specs.Prelude.{ℕ, ◌==◌, ◌&&◌, not, Bool, false, List, [], ◌∷◌, Option, Some, None}
use Rattle.std.specs.List.{list_all}
use Rattle.thumb_isa.specs.declared.instr.Instr.{Instr}
use Rattle.thumb_isa.specs.Nature.{Branch, BranchesTo, BranchesIf, BranchesOn, Calls, ReturnsBy, Gates, Nature, Works, Idles, Derives, AddsHigh, MovesHigh, Transfers, StoresList, LoadsList, RaisesSp, LowersSp, PushesList, PopsList, Goes, nature}
use Rattle.frame_facts.specs.declared.facts.Source.{Source}
use Rattle.frame_facts.specs.declared.facts.Fact.{Fact}
use Rattle.frame_facts.specs.declared.saves.Prologue.{Prologue}
use Rattle.thumb_core.specs.declared.calls.TheConstants.{CALL_CHANGES, GATE_CHANGES}
use Rattle.thumb_core.specs.Words.{registers_of_list}
use Rattle.frame_facts.specs.Facts.{source, is_entry}
use Rattle.frame_facts.specs.Lists.{popped_pc}

-- what a call may change
abbrev pub call_changes : List ℕ
call_changes = registers_of_list CALL_CHANGES

-- what a gate may change
abbrev pub gate_changes : List ℕ
gate_changes = registers_of_list GATE_CHANGES

-- what a call keeps for its caller
abbrev pub preserved_by_calls : List ℕ
preserved_by_calls = 4 ∷ 5 ∷ 6 ∷ 7 ∷ 8 ∷ 9 ∷ 10 ∷ 11 ∷ []

-- a branch to the address in a register that is neither a call nor a return
abbrev pub is_elsewhere : Branch → Fact → Bool
is_elsewhere (BranchesTo off) f = false
is_elsewhere (BranchesIf cond off) f = false
is_elsewhere (BranchesOn nonzero n off) f = false
is_elsewhere (Calls off) f = false
is_elsewhere (ReturnsBy m) f = not (is_entry 14 (source f m))
is_elsewhere (Gates number) f = false

abbrev pub nature_is_indirect : Nature → Fact → Bool
nature_is_indirect (Works d) f = false
nature_is_indirect Idles f = false
nature_is_indirect (Derives v) f = false
nature_is_indirect (AddsHigh d m) f = d == 15
nature_is_indirect (MovesHigh d m) f = d == 15
nature_is_indirect (Transfers t) f = false
nature_is_indirect (StoresList n list) f = false
nature_is_indirect (LoadsList n list) f = false
nature_is_indirect (RaisesSp off) f = false
nature_is_indirect (LowersSp off) f = false
nature_is_indirect (PushesList list) f = false
nature_is_indirect (PopsList list) f = false
nature_is_indirect (Goes b) f = is_elsewhere b f

abbrev pub is_indirect : Instr → Fact → Bool
is_indirect i f = nature_is_indirect (nature i) f

-- where a return goes to; other instructions are none
abbrev pub return_source : Branch → Fact → Option Source
return_source (BranchesTo off) f = None
return_source (BranchesIf cond off) f = None
return_source (BranchesOn nonzero n off) f = None
return_source (Calls off) f = None
return_source (ReturnsBy m) f = Some (source f m)
return_source (Gates number) f = None

abbrev pub nature_returns_to : Prologue → Nature → Fact → Option Source
nature_returns_to p (Works d) f = None
nature_returns_to p Idles f = None
nature_returns_to p (Derives v) f = None
nature_returns_to p (AddsHigh d m) f = None
nature_returns_to p (MovesHigh d m) f = None
nature_returns_to p (Transfers t) f = None
nature_returns_to p (StoresList n list) f = None
nature_returns_to p (LoadsList n list) f = None
nature_returns_to p (RaisesSp off) f = None
nature_returns_to p (LowersSp off) f = None
nature_returns_to p (PushesList list) f = None
nature_returns_to p (PopsList list) f = popped_pc p list f
nature_returns_to p (Goes b) f = return_source b f

abbrev pub return_to : Prologue → Instr → Fact → Option Source
return_to p i f = nature_returns_to p (nature i) f

-- a register that calls keep holds its own value
abbrev pub holds_own : Fact → ℕ → Bool
holds_own f reg = is_entry reg (source f reg)

-- the stack is as at the entry, the registers that calls preserve are unchanged, and the return goes to the entry's lr
abbrev pub returns_well : Fact → Source → Bool
returns_well f pc = (f.depth == 0) && not f.below && list_all (holds_own f) preserved_by_calls && is_entry 14 pc
