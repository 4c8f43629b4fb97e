-- The sort of each statement (docs/rules/sources.md; Armv6-M Architecture Reference Manual, DDI 0419, and Armv8-M,
-- DDI 0553).
-- Every form of a statement has its own line in `sort_of`. Bytes, names and code are then defined per sort.
use Rattle.std.specs.Prelude.{ℕ, ℤ, Bool, true, false, List, Option, Some, None}
use Rattle.asm_statements.specs.declared.statement.Expr.{Expr}
use Rattle.asm_statements.specs.declared.statement.StmtKind.{StmtKind}
use Rattle.asm_statements.specs.declared.statement.StmtKind.TheVariants as stmt
use Rattle.thumb_isa.specs.declared.instr.Instr.{Instr}
use Rattle.thumb_isa.specs.declared.instr.Instr.TheVariants.{Alu, Bx, Blx, MemReg, MemImm, MemSp, AddRdSp, AddSp, SubSp, Push, Pop, Hint, Stm, Ldm, Svc, Barrier}
use Rattle.asm_statements.specs.declared.computation.SizedInstr.{SizedInstr}
use Rattle.asm_layout.specs.declared.given.Width.TheVariants.{Byte, Half, Word}
use Rattle.asm_layout.specs.Given.{StmtData, FieldsOf, TextOf, ZerosOf}
use Rattle.asm_statements.specs.Computations.{unsigned_field, offset, of_two_registers, of_three_registers, of_register_number, of_two_registers_number}

-- an instruction of a source
pub data Operation : Type 0 where
  -- one that names nothing
  Nameless : Instr → Operation
  -- `udf #imm`, which the encoder does not have
  Undefined : ℤ → Operation
  -- `adr rd, name`
  AdrOf : (d : ℕ) (name : List ℕ) → Operation
  -- `ldr rt, name`
  LdrOf : (t : ℕ) (name : List ℕ) → Operation
  -- `ldr rt, =value`
  LdrValue : (t : ℕ) (value : Expr) → Operation
  -- `b name`
  BTo : (name : List ℕ) → Operation
  -- `beq name` and the other conditions
  BCondTo : (cond : ℕ) (name : List ℕ) → Operation
  -- `bl name`
  BlTo : (name : List ℕ) → Operation
  -- `b.w name`
  BWideTo : (name : List ℕ) → Operation
  -- `cbz rn, name`, and `cbnz rn, name` where it isn't to be 0
  CbzTo : (nonzero : Bool) (n : ℕ) (name : List ℕ) → Operation

pub data Sort : Type 0 where
  -- an instruction of so many bytes
  CodeOf : (bytes : ℕ) (operation : Operation) → Sort
  DataOf : StmtData → Sort
  -- `.align n`
  Filling : ℤ → Sort
  -- a directive that says something of a name
  AboutName : List ℕ → Sort
  -- a statement that gives no bytes and uses no name
  Bare : Sort

-- an instruction of one halfword that names nothing
abbrev pub half : Instr → Sort
half i = CodeOf 2 (Nameless i)

-- .. and of two
abbrev pub wide : Instr → Sort
wide i = CodeOf 4 (Nameless i)

-- an instruction of the computations
abbrev pub computation_sort : SizedInstr → Sort
computation_sort c = CodeOf c.bytes (Nameless c.instr)

abbrev pub sort_of : StmtKind → Sort
sort_of (stmt.Label _) = Bare
sort_of (stmt.TwoRegisters what d m) = computation_sort (of_two_registers what d m)
sort_of (stmt.ThreeRegisters what d n m) = computation_sort (of_three_registers what d n m)
sort_of (stmt.RegisterNumber what d imm) = computation_sort (of_register_number what d imm)
sort_of (stmt.TwoRegistersNumber what d n imm) = computation_sort (of_two_registers_number what d n imm)
sort_of (stmt.AddRdSp d off) = half (AddRdSp d (offset off))
sort_of (stmt.AddSp off) = half (AddSp (offset off))
sort_of (stmt.SubSp off) = half (SubSp (offset off))
sort_of (stmt.Rsbs d m) = half (Alu 9 d m)
sort_of (stmt.Adr d name) = CodeOf 2 (AdrOf d name)
sort_of (stmt.LdrLabel t name) = CodeOf 2 (LdrOf t name)
sort_of (stmt.LdrPool t value) = CodeOf 2 (LdrValue t value)
sort_of (stmt.MemImm op t n off) = half (MemImm op t n (offset off))
sort_of (stmt.MemReg op t n m) = half (MemReg op t n m)
sort_of (stmt.MemSp load t off) = half (MemSp load t (offset off))
sort_of (stmt.Push list) = half (Push list)
sort_of (stmt.Pop list) = half (Pop list)
sort_of (stmt.Stm n list) = half (Stm n list)
sort_of (stmt.LdmBack n list) = half (Ldm n list)
sort_of (stmt.Ldm n list) = half (Ldm n list)
sort_of (stmt.B name) = CodeOf 2 (BTo name)
sort_of (stmt.BCond cond name) = CodeOf 2 (BCondTo cond name)
sort_of (stmt.Bl name) = CodeOf 4 (BlTo name)
sort_of (stmt.Cbz nonzero n name) = CodeOf 2 (CbzTo nonzero n name)
sort_of (stmt.BWide name) = CodeOf 4 (BWideTo name)
sort_of (stmt.Bx m) = half (Bx m)
sort_of (stmt.Blx m) = half (Blx m)
sort_of (stmt.Svc imm) = half (Svc (unsigned_field imm))
sort_of (stmt.Udf imm) = CodeOf 2 (Undefined imm)
sort_of (stmt.Hint n) = half (Hint n)
sort_of (stmt.Barrier op) = wide (Barrier op 15)
sort_of stmt.Text = Bare
sort_of stmt.Data = Bare
sort_of stmt.Bss = Bare
sort_of stmt.Rodata = Bare
sort_of (stmt.Global name) = AboutName name
sort_of (stmt.TypeFunction name) = AboutName name
sort_of (stmt.TypeObject name) = AboutName name
sort_of (stmt.Size name) = AboutName name
sort_of (stmt.Words words) = DataOf (FieldsOf Word words)
sort_of (stmt.Halves halves) = DataOf (FieldsOf Half halves)
sort_of (stmt.Bytes bytes) = DataOf (FieldsOf Byte bytes)
sort_of (stmt.Ascii text) = DataOf (TextOf text false)
sort_of (stmt.Asciz text) = DataOf (TextOf text true)
sort_of (stmt.Space n) = DataOf (ZerosOf n)
sort_of (stmt.Align n) = Filling n
sort_of stmt.Pool = Bare
sort_of stmt.FnStart = Bare
sort_of stmt.FnEnd = Bare
sort_of (stmt.Save _) = Bare
sort_of (stmt.Pad _) = Bare
sort_of (stmt.SetFp _ _) = Bare
sort_of stmt.CantUnwind = Bare
sort_of (stmt.PersonalityIndex _) = Bare
sort_of stmt.HandlerData = Bare

abbrev pub operation_in : Sort → Option Operation
operation_in (CodeOf _ operation) = Some operation
operation_in (DataOf _) = None
operation_in (Filling _) = None
operation_in (AboutName _) = None
operation_in Bare = None

-- the instruction that a statement is
abbrev pub operation : StmtKind → Option Operation
operation kind = operation_in (sort_of kind)

abbrev pub sort_data : Sort → Option StmtData
sort_data (CodeOf _ _) = None
sort_data (DataOf stmt_data) = Some stmt_data
sort_data (Filling _) = None
sort_data (AboutName _) = None
sort_data Bare = None

-- the data that a statement is
abbrev pub stmt_data : StmtKind → Option StmtData
stmt_data kind = sort_data (sort_of kind)
