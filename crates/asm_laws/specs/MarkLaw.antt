-- What the marks of an object say of its text ("ELF for the Arm Architecture", "Mapping symbols"): the last mark at or below a byte says
-- whether code or data stands there (docs/rules/sources.md, "Marks").
use Rattle.std.specs.Prelude.{◌≡◌, ℕ, ◌^◌, ◌<◌, ◌≤◌, Bool, true, false, nat_lt, List, [], ◌∷◌, ◌++◌, length, All, Option, Some, None, Ok}
use Rattle.eh_word.specs.Bytes.{next_multiple}
use Rattle.asm_statements.specs.declared.statement.Stmt.{Stmt}
use Rattle.asm_statements.specs.declared.statement.StmtKind.{StmtKind}
use Rattle.asm_statements.specs.declared.statement.StmtKind.TheVariants as statement
use Rattle.asm_relocatable.specs.declared.object.Mark.{Mark}
use Rattle.asm_relocatable.specs.declared.object.Object.{Object}
use Rattle.asm_object.specs.Objects.{object_of}
use Rattle.asm_laws.specs.RowLaw.{walk_over}

-- Whether a statement's own bytes are code: instructions are, and so is the filling of a text; data isn't. None for
-- directives that emit no bytes, and for `.pool`, which emits both.
abbrev pub is_code : StmtKind → Option Bool
is_code (statement.TwoRegisters _ _ _) = Some true
is_code (statement.ThreeRegisters _ _ _ _) = Some true
is_code (statement.RegisterNumber _ _ _) = Some true
is_code (statement.TwoRegistersNumber _ _ _ _) = Some true
is_code (statement.AddRdSp _ _) = Some true
is_code (statement.AddSp _) = Some true
is_code (statement.SubSp _) = Some true
is_code (statement.Rsbs _ _) = Some true
is_code (statement.Adr _ _) = Some true
is_code (statement.LdrLabel _ _) = Some true
is_code (statement.LdrPool _ _) = Some true
is_code (statement.MemImm _ _ _ _) = Some true
is_code (statement.MemReg _ _ _ _) = Some true
is_code (statement.MemSp _ _ _) = Some true
is_code (statement.Push _) = Some true
is_code (statement.Pop _) = Some true
is_code (statement.Stm _ _) = Some true
is_code (statement.LdmBack _ _) = Some true
is_code (statement.Ldm _ _) = Some true
is_code (statement.B _) = Some true
is_code (statement.BCond _ _) = Some true
is_code (statement.Bl _) = Some true
is_code (statement.Cbz _ _ _) = Some true
is_code (statement.BWide _) = Some true
is_code (statement.Bx _) = Some true
is_code (statement.Blx _) = Some true
is_code (statement.Svc _) = Some true
is_code (statement.Udf _) = Some true
is_code (statement.Hint _) = Some true
is_code (statement.Barrier _) = Some true
is_code (statement.Align _) = Some true
is_code (statement.Words _) = Some false
is_code (statement.Halves _) = Some false
is_code (statement.Bytes _) = Some false
is_code (statement.Ascii _) = Some false
is_code (statement.Asciz _) = Some false
is_code (statement.Space _) = Some false
is_code (statement.Label _) = None
is_code statement.Text = None
is_code statement.Data = None
is_code statement.Bss = None
is_code statement.Rodata = None
is_code (statement.Global _) = None
is_code (statement.TypeFunction _) = None
is_code (statement.TypeObject _) = None
is_code (statement.Size _) = None
is_code statement.Pool = None
is_code statement.FnStart = None
is_code statement.FnEnd = None
is_code (statement.Save _) = None
is_code (statement.Pad _) = None
is_code (statement.SetFp _ _) = None
is_code statement.CantUnwind = None
is_code (statement.PersonalityIndex _) = None
is_code statement.HandlerData = None

abbrev pub pool_at : ℕ → Stmt
pool_at line = record { line = line; kind = statement.Pool }

-- where the text ends after some statements of a source
abbrev pub text_after : List Stmt → List Stmt → ℕ
text_after stmts before = (walk_over stmts before).at.sizes.text

-- of the marks at or below an offset one stands highest, those before it lower and those after it above the offset, and it says
-- whether code stands there
pub record LastMarkSays (marks : List Mark) (offset : ℕ) (code : Bool) : Type 0 where
  pub before : List Mark
  pub mark : Mark
  pub after : List Mark
  pub split : marks ≡ before ++ mark ∷ after
  pub at_or_below : mark.offset ≤ offset
  pub lower : All (λ m. m.offset < mark.offset) before
  pub above : All (λ m. offset < m.offset) after
  pub says : mark.code ≡ code

-- the marks say of each byte that a statement adds to the text what the statement's own bytes are
abbrev pub MarksTellCode : Type 0
MarksTellCode =
    (before more : List Stmt) (stmt : Stmt) (code : Bool) (object : Object) (offset : ℕ)
    → let stmts = before ++ stmt ∷ more in
    length stmts < 2 ^ 64 → object_of stmts ≡ Ok object → is_code stmt.kind ≡ Some code
    → text_after stmts before ≤ offset → offset < text_after stmts (before ++ stmt ∷ []) → LastMarkSays object.marks offset code

-- of a literal pool, the filling up to a multiple of 4 is code, and the rest are its words
abbrev pub PoolsAreMarked : Type 0
PoolsAreMarked =
    (before more : List Stmt) (line : ℕ) (object : Object) (offset : ℕ)
    → let stmts = before ++ pool_at line ∷ more in
    length stmts < 2 ^ 64 → object_of stmts ≡ Ok object
    → text_after stmts before ≤ offset → offset < text_after stmts (before ++ pool_at line ∷ [])
    → LastMarkSays object.marks offset (nat_lt offset (next_multiple (text_after stmts before) 4))

-- the same for the pool at the end of the text
abbrev pub LastPoolsAreMarked : Type 0
LastPoolsAreMarked =
    (stmts : List Stmt) (object : Object) (offset : ℕ)
    → length stmts < 2 ^ 64 → object_of stmts ≡ Ok object
    → text_after stmts stmts ≤ offset → offset < length object.text
    → LastMarkSays object.marks offset (nat_lt offset (next_multiple (text_after stmts stmts) 4))
