-- The site of a state's innermost frame (docs/guide/walks-and-threads.md, "Sites").
use Rattle.std.specs.Prelude.{ℕ, ◌+◌, ◌%◌, ◌^◌, if◌then◌else◌, Option, Some, None}
use Rattle.eh_bus.specs.Memory.{Memory}
use Rattle.thumb_isa.specs.declared.instr.Instr.{Instr}
use Rattle.thumb_isa.specs.declared.instr.Instr.TheVariants.{Bl, Blx, Svc}
use Rattle.thumb_core.specs.Step.{instr_for}
use Rattle.thumb_core.specs.declared.regs.Regs.{Regs}
use Rattle.sim_machines.specs.Program.{Program, profile_in}

-- the site of an SVC or BLX is its own address, that of BL the address of its second halfword: two bytes below the return address
abbrev pub site_by : ℕ → Instr → Option ℕ
site_by pc (Bl off) = Some ((pc + 2) % 2 ^ 32)
site_by pc (Blx m) = Some pc
site_by pc (Svc imm) = Some pc
site_by pc i = None

abbrev pub site_at : ℕ → Option (Instr × ℕ) → Option ℕ
site_at pc None = None
site_at pc (Some (i, size)) = site_by pc i

-- the site of a state: the checker reached an instruction at pc, and the one in memory there, by the rows of the program's profile, is an
-- SVC or a call
unfoldable pub site_state : Program → Regs → Memory → Option ℕ
site_state p regs m = if (p.look regs.pc).is_instr then site_at regs.pc (instr_for (profile_in p) m regs.pc) else None
