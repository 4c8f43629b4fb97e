-- The effect of an instruction on a fact, and the causes that it can give; if several hold, the lowest is given.
use Rattle.std.specs.Prelude.{ℕ, Bool, false, if◌then◌else◌, Option, Some, None, Result, Ok, Err, pos, ◌+ℤ◌, ◌-ℤ◌, is_none, not}
use Rattle.std.specs.Option.{option_map_or}
use Rattle.thumb_isa.specs.declared.instr.Instr.{Instr}
use Rattle.thumb_isa.specs.Nature.{Derivation, Shifts, AddsThree, AddsEight, Combines, AddsToSp, Transfer, NearPc, AtSum, AtOffset, AtSp, Branch, BranchesTo, BranchesIf, BranchesOn, Calls, ReturnsBy, Gates, Nature, Works, Idles, Derives, AddsHigh, MovesHigh, Transfers, StoresList, LoadsList, RaisesSp, LowersSp, PushesList, PopsList, Goes, nature}
use Rattle.frame_facts.specs.declared.cause.FrameCause.{FrameCause}
use Rattle.frame_facts.specs.declared.cause.FrameCause.TheVariants.{IndirectBranch, SpWrite, ReturnState}
use Rattle.frame_facts.specs.declared.facts.Source.{Source}
use Rattle.frame_facts.specs.declared.facts.Fact.{Fact}
use Rattle.frame_facts.specs.declared.saves.Prologue.{Prologue}
use Rattle.frame_facts.specs.Facts.{with_source, forget_register, forget_registers, sp_plus}
use Rattle.frame_facts.specs.Saves.{to_depth}
use Rattle.frame_facts.specs.Shifts.{shift_imm}
use Rattle.frame_facts.specs.Data.{add_sub_imm3, imm8, alu, mov_high, add_high}
use Rattle.frame_facts.specs.Access.{mem_reg, mem_imm, mem_sp}
use Rattle.frame_facts.specs.Lists.{push, pop, ldm}
use Rattle.frame_facts.specs.Branches.{call_changes, gate_changes, is_indirect, return_to, returns_well}

-- the fact after a value was derived
abbrev pub derive_effect : Derivation → Fact → Fact
derive_effect (Shifts op d m n) f = shift_imm op d m n f
derive_effect (AddsThree sub d n imm) f = add_sub_imm3 sub d n imm f
derive_effect (AddsEight op d imm) f = imm8 op d imm f
derive_effect (Combines op d m) f = alu op d f
derive_effect (AddsToSp d off) f = with_source f d (sp_plus f off)

-- after a load or a store of one register
abbrev pub transfer_effect : Prologue → Transfer → Fact → Fact
transfer_effect p (NearPc t off) f = forget_register t f
transfer_effect p (AtSum op t n m) f = mem_reg op t f
transfer_effect p (AtOffset op t n off) f = mem_imm op t f
transfer_effect p (AtSp load t off) f = mem_sp p load t off f

-- the fact after a branch; for a call or a gate, after it has come back
abbrev pub branch_effect : Branch → Fact → Fact
branch_effect (BranchesTo off) f = f
branch_effect (BranchesIf cond off) f = f
branch_effect (BranchesOn nonzero n off) f = f
branch_effect (Calls off) f = forget_registers call_changes f
branch_effect (ReturnsBy m) f = f
branch_effect (Gates number) f = forget_registers gate_changes f

-- the fact after an instruction at an address; None if sp is written in a way that isn't allowed
abbrev pub nature_effect : Prologue → Bool → ℕ → Nature → Fact → Option Fact
nature_effect p lowers at (Works d) f = Some (forget_register d f)
nature_effect p lowers at Idles f = Some f
nature_effect p lowers at (Derives v) f = Some (derive_effect v f)
nature_effect p lowers at (AddsHigh d m) f = add_high d f
nature_effect p lowers at (MovesHigh d m) f = mov_high p lowers d m f
nature_effect p lowers at (Transfers t) f = Some (transfer_effect p t f)
nature_effect p lowers at (StoresList n list) f = Some (forget_register n f)
nature_effect p lowers at (LoadsList n list) f = Some (ldm n list f)
nature_effect p lowers at (RaisesSp off) f = to_depth p (pos f.depth -ℤ off) f
nature_effect p lowers at (LowersSp off) f = to_depth p (pos f.depth +ℤ off) f
nature_effect p lowers at (PushesList list) f = push p at list f
nature_effect p lowers at (PopsList list) f = pop p list f
nature_effect p lowers at (Goes b) f = Some (branch_effect b f)

abbrev pub effect : Prologue → Bool → ℕ → Instr → Fact → Option Fact
effect p lowers at i f = nature_effect p lowers at (nature i) f

-- ---- the causes, each by itself

-- sp is changed in another way than by a known amount, or the depth leaves its range
abbrev pub writes_sp : Prologue → Bool → ℕ → Instr → Fact → Bool
writes_sp p lowers at i f = is_none (effect p lowers at i f)

-- a return while words are on the stack, with a changed register, or not to the entry's lr
abbrev pub returns_wrongly : Prologue → Bool → ℕ → Instr → Fact → Bool
returns_wrongly p lowers at i f =
    option_map_or (λ pc. not (option_map_or (λ g. returns_well g pc) (effect p lowers at i f) false)) (return_to p i f) false

-- ---- the answer

abbrev pub check_return : Option Source → Fact → Result Fact FrameCause
check_return None g = Ok g
check_return (Some pc) g = if returns_well g pc then Ok g else Err ReturnState

abbrev pub effect_result : Option Source → Option Fact → Result Fact FrameCause
effect_result pc None = Err SpWrite
effect_result pc (Some g) = check_return pc g

-- the fact after an instruction, or the lowest cause that it gives
abbrev pub after_of : Prologue → Bool → ℕ → Instr → Fact → Result Fact FrameCause
after_of p lowers at i f = if is_indirect i f then Err IndirectBranch else effect_result (return_to p i f) (effect p lowers at i f)

-- the same result, with the fact written to an output
abbrev pub fact_if_ok : Result (Unit {0}) FrameCause → Fact → Result Fact FrameCause
fact_if_ok (Ok u) g = Ok g
fact_if_ok (Err c) g = Err c
