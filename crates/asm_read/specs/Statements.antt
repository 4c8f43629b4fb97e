-- The statement that a form makes of its operands (docs/rules/sources.md, "Statements" and "Directives").
use Rattle.std.specs.Prelude.{ℕ, ◌-◌, false, true, List, length, slice_range}
use Rattle.asm_read.specs.declared.line.Span.{Span}
use Rattle.asm_read.specs.declared.form.Operands.{Operands}
use Rattle.asm_read.specs.declared.makes.Makes.{Makes}
use Rattle.asm_read.specs.declared.makes.Makes.TheVariants as makes
use Rattle.asm_read.specs.declared.makes.Computation.{Computation}
use Rattle.asm_read.specs.declared.makes.Computation.TheVariants as computation
use Rattle.asm_read.specs.declared.makes.Transfer.{Transfer}
use Rattle.asm_read.specs.declared.makes.Transfer.TheVariants as transfer
use Rattle.asm_read.specs.declared.makes.Control.{Control}
use Rattle.asm_read.specs.declared.makes.Control.TheVariants as control
use Rattle.asm_read.specs.declared.makes.Directive.{Directive}
use Rattle.asm_read.specs.declared.makes.Directive.TheVariants as directive
use Rattle.asm_read.specs.declared.makes.Named.{Named}
use Rattle.asm_read.specs.declared.makes.Named.TheVariants as named
use Rattle.asm_read.specs.declared.choice.Statement.{Statement}
use Rattle.asm_statements.specs.declared.statement.StmtKind.{StmtKind}
use Rattle.asm_statements.specs.declared.statement.StmtKind.TheVariants.{TwoRegisters, ThreeRegisters, RegisterNumber, TwoRegistersNumber, AddRdSp, AddSp, SubSp, Rsbs, Adr, LdrLabel, LdrPool, MemImm, MemReg, MemSp, Push, Pop, Stm, LdmBack, Ldm, B, BCond, Bl, Cbz, BWide, Bx, Blx, Svc, Udf, Hint, Barrier, Text, Data, Bss, Rodata, Global, TypeFunction, TypeObject, Size, Words, Halves, Bytes, Ascii, Asciz, Space, Align, Pool, FnStart, FnEnd, Save, Pad, SetFp, CantUnwind, PersonalityIndex, HandlerData}
use Rattle.asm_read.specs.Tokens.{unescape}
use Rattle.asm_read.specs.Operands.{bytes_of}
use Rattle.asm_read.specs.Expressions.{expr_from, expressions_at, exprs_of}

-- the bytes between the first and the last
abbrev pub inside : List ℕ → List ℕ
inside quoted = slice_range quoted 1 (length quoted - 1)

-- the bytes of a quoted text, given the text with its quotes
abbrev pub text_of : List ℕ → Span → List ℕ
text_of line s = unescape false (inside (bytes_of line s))

-- computations with a fixed operand
abbrev pub computation_of : Computation → Operands → StmtKind
computation_of computation.AddRdSp o = AddRdSp o.first o.number
computation_of computation.AddSp o = AddSp o.number
computation_of computation.SubSp o = SubSp o.number
computation_of computation.Rsbs o = Rsbs o.first o.second

-- loads, stores and register lists
abbrev pub transfer_of : Transfer → Operands → StmtKind
transfer_of (transfer.MemSp load) o = MemSp load o.first o.number
transfer_of (transfer.MemImm op) o = MemImm op o.first o.second o.number
transfer_of (transfer.MemReg op) o = MemReg op o.first o.second o.third
transfer_of transfer.Push o = Push o.list
transfer_of transfer.Pop o = Pop o.list
transfer_of transfer.Stm o = Stm o.first o.list
transfer_of transfer.LdmBack o = LdmBack o.first o.list
transfer_of transfer.Ldm o = Ldm o.first o.list

-- returns, calls of registers, gates, hints and barriers
abbrev pub control_of : Control → Operands → StmtKind
control_of control.Bx o = Bx o.first
control_of control.Blx o = Blx o.first
control_of control.Svc o = Svc o.number
control_of control.Udf o = Udf o.number
control_of (control.Hint n) o = Hint n
control_of (control.Barrier op) o = Barrier op

-- directives without names, texts and expressions
abbrev pub directive_of : Directive → Operands → StmtKind
directive_of directive.Text o = Text
directive_of directive.Data o = Data
directive_of directive.Bss o = Bss
directive_of directive.Rodata o = Rodata
directive_of directive.Space o = Space o.number
directive_of directive.Align o = Align o.number
directive_of directive.Pool o = Pool
directive_of directive.FnStart o = FnStart
directive_of directive.FnEnd o = FnEnd
directive_of directive.Save o = Save o.list
directive_of directive.Pad o = Pad o.number
directive_of directive.SetFp o = SetFp o.first o.number
directive_of directive.CantUnwind o = CantUnwind
directive_of directive.PersonalityIndex o = PersonalityIndex o.number
directive_of directive.HandlerData o = HandlerData

-- forms with names, texts and expressions
abbrev pub stmt_of_named : List ℕ → Named → Operands → StmtKind
stmt_of_named line named.Adr o = Adr o.first (bytes_of line o.name)
stmt_of_named line named.LdrLabel o = LdrLabel o.first (bytes_of line o.name)
stmt_of_named line named.LdrPool o = LdrPool o.first (expr_from line o.from)
stmt_of_named line named.B o = B (bytes_of line o.name)
stmt_of_named line (named.BCond cond) o = BCond cond (bytes_of line o.name)
stmt_of_named line named.Bl o = Bl (bytes_of line o.name)
stmt_of_named line (named.Cbz nonzero) o = Cbz nonzero o.first (bytes_of line o.name)
stmt_of_named line named.BWide o = BWide (bytes_of line o.name)
stmt_of_named line named.Global o = Global (bytes_of line o.name)
stmt_of_named line named.TypeFunction o = TypeFunction (bytes_of line o.name)
stmt_of_named line named.TypeObject o = TypeObject (bytes_of line o.name)
stmt_of_named line named.Size o = Size (bytes_of line o.name)
stmt_of_named line named.Words o = Words (exprs_of line (expressions_at (length line) true line o.from))
stmt_of_named line named.Halves o = Halves (exprs_of line (expressions_at (length line) false line o.from))
stmt_of_named line named.Bytes o = Bytes (exprs_of line (expressions_at (length line) false line o.from))
stmt_of_named line named.Ascii o = Ascii (text_of line o.name)
stmt_of_named line named.Asciz o = Asciz (text_of line o.name)

abbrev pub stmt_of_makes : List ℕ → Makes → Operands → StmtKind
stmt_of_makes line (makes.OfTwoRegisters what) o = TwoRegisters what o.first o.second
stmt_of_makes line (makes.OfThreeRegisters what) o = ThreeRegisters what o.first o.second o.third
stmt_of_makes line (makes.OfRegisterNumber what) o = RegisterNumber what o.first o.number
stmt_of_makes line (makes.OfTwoRegistersNumber what) o = TwoRegistersNumber what o.first o.second o.number
stmt_of_makes line (makes.Computes c) o = computation_of c o
stmt_of_makes line (makes.Transfers t) o = transfer_of t o
stmt_of_makes line (makes.Controls c) o = control_of c o
stmt_of_makes line (makes.Directs d) o = directive_of d o
stmt_of_makes line (makes.Names n) o = stmt_of_named line n o

-- the statement that a form makes
unfoldable pub kind_of : List ℕ → Statement → StmtKind
kind_of line s = stmt_of_makes line s.makes s.operands
