-- Where a branch, an `adr` or a `ldr rt, name` leads if its label is in its own source's text
-- (docs/rules/sources.md, "Names"), by the decoder and the core. pc reads as the instruction's address plus 4; `adr` and
-- `ldr` round it down to a multiple of 4 (Armv6-M Architecture Reference Manual, DDI 0419; Armv8-M, DDI 0553).
use Rattle.std.specs.Prelude.{◌≡◌, ℕ, ◌+◌, ◌%◌, ◌^◌, ◌<◌, ℤ, Bool, List, ◌∷◌, ◌++◌, length, Some, Ok}
use Rattle.thumb_isa.specs.declared.instr.Instr.{Instr}
use Rattle.thumb_isa.specs.declared.instr.Instr.TheVariants as instr
use Rattle.thumb_core.specs.declared.regs.Regs.{Regs}
use Rattle.thumb_core.specs.Registers.{base}
use Rattle.thumb_core.specs.Data.{forward}
use Rattle.thumb_core.specs.Branch.{target_of}
use Rattle.asm_statements.specs.declared.statement.Stmt.{Stmt}
use Rattle.asm_statements.specs.declared.statement.StmtKind.{StmtKind}
use Rattle.asm_statements.specs.declared.statement.StmtKind.TheVariants as statement
use Rattle.asm_relocatable.specs.declared.place.Section.TheVariants.{Text}
use Rattle.asm_relocatable.specs.declared.object.Object.{Object}
use Rattle.asm_object.specs.Objects.{object_of}
use Rattle.asm_object.specs.ObjectLaw.{symbol_place}
use Rattle.asm_object.specs.Pieces.{place_at}
use Rattle.asm_laws.specs.MarkLaw.{text_after}
use Rattle.eh_link.specs.EquationLaw.{Decodes}

-- a branch at one place of a text leads to another, at whatever address the text is
abbrev pub GoesTo : ℕ → ℕ → ℤ → Type 0
GoesTo place to offset = (regs : Regs) (text : ℕ) → text + to < 2 ^ 32 → regs.pc ≡ text + place → target_of offset regs ≡ text + to

-- an offset from the base of one place of a text leads to another, at whatever multiple of 4 the text is
abbrev pub ReachesFromItsBase : ℕ → ℕ → ℤ → Type 0
ReachesFromItsBase place to offset =
    (regs : Regs) (text : ℕ) → text % 4 ≡ 0 → text + to < 2 ^ 32 → regs.pc ≡ text + place → forward (base regs) offset ≡ text + to

-- the halfwords at a place of a text decode to an instruction whose offset leads to another place
pub record Leads (Comes : ℕ → ℕ → ℤ → Type 0) (instruction : ℤ → Instr) (text : List ℕ) (place to : ℕ) : Type 0 where
  pub offset : ℤ
  pub reads : Decodes (instruction offset) text place
  pub comes : Comes place to offset

-- a statement that names a label of its own text leads to it
abbrev pub NamesLead : (List ℕ → StmtKind) → (ℤ → Instr) → (ℕ → ℕ → ℤ → Type 0) → Type 0
NamesLead kind instruction Comes =
    (before more : List Stmt) (line : ℕ) (name : List ℕ) (object : Object) (to : ℕ)
    → let stmts = before ++ record { line = line; kind = kind name } ∷ more in
    length stmts < 2 ^ 64 → object_of stmts ≡ Ok object → symbol_place name object.symbols ≡ Some (place_at Text to)
    → Leads Comes instruction object.text (text_after stmts before) to

abbrev pub BranchesLead : Type 0
BranchesLead = NamesLead statement.B instr.B GoesTo

abbrev pub CondBranchesLead : Type 0
CondBranchesLead = (cond : ℕ) → NamesLead (statement.BCond cond) (instr.BCond cond) GoesTo

abbrev pub CallsLead : Type 0
CallsLead = NamesLead statement.Bl instr.Bl GoesTo

-- `b.w`, `cbz` and `cbnz`, which lead only to labels of their own text
abbrev pub WideBranchesLead : Type 0
WideBranchesLead = NamesLead statement.BWide instr.BWide GoesTo

abbrev pub ZeroBranchesLead : Type 0
ZeroBranchesLead = (nonzero : Bool) (n : ℕ) → NamesLead (statement.Cbz nonzero n) (instr.Cbz nonzero n) GoesTo

abbrev pub AddressesLead : Type 0
AddressesLead = (d : ℕ) → NamesLead (statement.Adr d) (instr.Adr d) ReachesFromItsBase

abbrev pub LoadsLead : Type 0
LoadsLead = (t : ℕ) → NamesLead (statement.LdrLabel t) (instr.LdrLit t) ReachesFromItsBase
