-- Branches, calls, returns, and the instructions that may write pc.
use Rattle.std.specs.Prelude.{ℕ, ℤ, ◌+◌, ◌%◌, ◌^◌, Bool, true, false, not, ◌&&◌, ◌||◌, ◌==◌, if◌then◌else◌}
use Rattle.thumb_isa.specs.declared.instr.Instr.{Instr}
use Rattle.thumb_isa.specs.declared.instr.Instr.TheVariants.{AddHigh, MovHigh, Bx, Blx, BCond, Svc, B, Bl, Cbz, BWide}
use Rattle.thumb_core.specs.declared.branch.TheConstants.{EQ, NE, CS, CC, MI, PL, VS, VC, HI, LS, GE, LT, GT}
use Rattle.thumb_core.specs.declared.regs.TheConstants.{LR, PC}
use Rattle.thumb_core.specs.declared.regs.Regs.{Regs}
use Rattle.thumb_core.specs.declared.regs.CoreTrap.TheVariants.{EvenTarget}
use Rattle.thumb_core.specs.declared.regs.Stepped.{Stepped}
use Rattle.thumb_core.specs.declared.regs.Stepped.TheVariants.{Call, Gate, Return, Trap}
use Rattle.thumb_core.specs.Registers.{reg, even, operand, pc_operand, with_reg, with_pc, with_next}
use Rattle.thumb_core.specs.Outcome.{done_with}
use Rattle.thumb_core.specs.Data.{forward, data_effect}

-- the two flags are equal
abbrev pub same_flag : Bool → Bool → Bool
same_flag true b = b
same_flag false b = not b

-- whether a condition holds (DDI 0419, the table of condition codes)
abbrev pub passes_condition : ℕ → Regs → Bool
passes_condition cond regs =
    if cond == EQ then regs.z else (if cond == NE then not regs.z else (
    if cond == CS then regs.c else (if cond == CC then not regs.c else (
    if cond == MI then regs.n else (if cond == PL then not regs.n else (
    if cond == VS then regs.v else (if cond == VC then not regs.v else (
    if cond == HI then regs.c && not regs.z else (if cond == LS then not regs.c || regs.z else (
    if cond == GE then same_flag regs.n regs.v else (if cond == LT then not (same_flag regs.n regs.v) else (
    if cond == GT then not regs.z && same_flag regs.n regs.v else (regs.z || not (same_flag regs.n regs.v))))))))))))))

-- where a branch goes
abbrev pub target_of : ℤ → Regs → ℕ
target_of off regs = forward (pc_operand regs) off

-- B
abbrev pub branch : ℤ → Regs → Regs
branch off regs = with_pc regs (target_of off regs)

-- a branch under a condition
abbrev pub branch_if : ℕ → ℤ → ℕ → Regs → Regs
branch_if cond off size regs = if passes_condition cond regs then branch off regs else with_next size regs

-- whether CBNZ takes its branch (the register isn't 0), or CBZ (it is 0)
abbrev pub takes_branch : Bool → ℕ → Bool
takes_branch nonzero value = if nonzero then not (value == 0) else value == 0

-- CBZ and CBNZ; flags are neither read nor changed
abbrev pub compare_branch : Bool → ℕ → ℤ → ℕ → Regs → Regs
compare_branch nonzero n off size regs = if takes_branch nonzero (reg regs n) then branch off regs else with_next size regs

-- writes a register, low or high; a write to pc branches
abbrev pub write_high : ℕ → ℕ → ℕ → Regs → Regs
write_high d x size regs = if d == PC then with_pc regs x else with_next size (with_reg regs d x)

-- ADD of two registers, low or high
abbrev pub add_high : ℕ → ℕ → ℕ → Regs → Regs
add_high d k size regs = write_high d (operand regs d + operand regs k) size regs

-- MOV of two registers, low or high
abbrev pub mov_high : ℕ → ℕ → ℕ → Regs → Regs
mov_high d k size regs = write_high d (operand regs k) size regs

-- the next instruction's address with bit 0 set, which a call leaves in lr
abbrev pub link_of : ℕ → Regs → ℕ
link_of size regs = even ((regs.pc + size) % 2 ^ 32) + 1

-- a call: pc goes to the target
abbrev pub call_to : ℕ → ℕ → Regs → Stepped × Regs
call_to target size regs =
    (Call (even (target % 2 ^ 32)) (link_of size regs), with_pc (with_reg regs LR (link_of size regs)) target)

-- the result if bit 0 of a target is set; else a trap that changes nothing
abbrev pub if_odd : ℕ → Regs → Stepped × Regs → Stepped × Regs
if_odd target regs plain_outcome = if target % 2 == 0 then (Trap (EvenTarget target), regs) else plain_outcome

-- BL
abbrev pub bl : ℤ → ℕ → Regs → Stepped × Regs
bl off size regs = call_to (target_of off regs) size regs

-- BLX
abbrev pub blx : ℕ → ℕ → Regs → Stepped × Regs
blx k size regs = if_odd (operand regs k) regs (call_to (operand regs k) size regs)

-- a return to a target, with these registers except pc
abbrev pub return_to : ℕ → Regs → Stepped × Regs
return_to target after = (Return (target % 2 ^ 32), with_pc after target)

-- BX
abbrev pub bx : ℕ → Regs → Stepped × Regs
bx k regs = if_odd (operand regs k) regs (return_to (operand regs k) regs)

-- SVC
abbrev pub svc : ℕ → ℕ → Regs → Stepped × Regs
svc number size regs = (Gate number, with_next size regs)

-- the effect of an instruction of `size` bytes that leaves the memory unchanged: of this group, or else of the data
-- instructions
abbrev pub register_effect : Instr → ℕ → Regs → Stepped × Regs
register_effect (AddHigh d k) size regs = done_with (add_high d k size regs)
register_effect (MovHigh d k) size regs = done_with (mov_high d k size regs)
register_effect (BCond cond off) size regs = done_with (branch_if cond off size regs)
register_effect (B off) size regs = done_with (branch off regs)
register_effect (Bl off) size regs = bl off size regs
register_effect (Blx k) size regs = blx k size regs
register_effect (Bx k) size regs = bx k regs
register_effect (Svc imm) size regs = svc imm size regs
register_effect (Cbz nonzero n off) size regs = done_with (compare_branch nonzero n off size regs)
register_effect (BWide off) size regs = done_with (branch off regs)
register_effect i size regs = done_with (with_next size (data_effect i regs))
