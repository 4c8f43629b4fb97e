-- The lines of a statement, operand by operand, as docs/rules/sources.md gives them, and when one of them is in a
-- line of a source: with any blanks, numbers in any notation, lists in any order.
use Rattle.std.specs.Prelude.{◌≡◌, ◌⊎◌, ℕ, zero, suc, ◌==◌, Bool, true, false, if◌then◌else◌, List, [], ◌∷◌, ◌++◌, length, map, Ok, ℤ, pos, negsuc, codes}
use Rattle.std.specs.Fmt.{signed_decimal}
use Rattle.asm_read.specs.declared.token.TokenKind.TheVariants.{End}
use Rattle.asm_read.specs.declared.expression.Shape.{Shape}
use Rattle.asm_statements.specs.declared.statement.Expr.{Expr}
use Rattle.asm_statements.specs.declared.statement.StmtKind.{StmtKind}
use Rattle.asm_statements.specs.declared.statement.StmtKind.TheVariants.{Label, TwoRegisters, ThreeRegisters, RegisterNumber, TwoRegistersNumber, AddRdSp, AddSp, SubSp, Rsbs, Adr, LdrLabel, LdrPool, MemImm, MemReg, MemSp, Push, Pop, Stm, LdmBack, Ldm, B, BCond, Bl, Cbz, BWide, Bx, Blx, Svc, Udf, Hint, Barrier, Text, Data, Bss, Rodata, Global, TypeFunction, TypeObject, Size, Words, Halves, Bytes, Ascii, Asciz, Space, Align, Pool, FnStart, FnEnd, Save, Pad, SetFp, CantUnwind, PersonalityIndex, HandlerData}
use Rattle.asm_statements.specs.Computations.{word_of, two_word, three_word, number_word, two_number_word}
use Rattle.asm_read.specs.Tokens.{token_at}
use Rattle.asm_read.specs.Operands.{span, bytes_of, register_at, mark_at, word_at, name_at, text_at, number_at, limited_number_at, has_register, list_at}
use Rattle.asm_read.specs.Expressions.{parsed_expr, expression_at, expr_series, expressions_at, expr_of}
use Rattle.asm_read.specs.Statements.{text_of}
use Rattle.asm_line_laws.specs.Written.{register as register_text, access_words, hint_words, barrier_words, offset_words, branch_words, zero_word, line as line_text, list_in_braces, quoted_text, expression, expressions, statement_line, other_lines}

-- what stands after the word of a line
pub data Operand : Type 0 where
  mark : ℕ → Operand
  register : ℕ → Operand
  -- a word, and no other
  this : List ℕ → Operand
  name : List ℕ → Operand
  number : ℤ → Operand
  -- a number from 0 to 3
  power : ℤ → Operand
  registers : ℕ → Operand
  -- registers among which this one is
  registers_with : ℕ → ℕ → Operand
  text : List ℕ → Operand
  value : Expr → Operand
  -- comma-separated expressions; the flag allows name(prel31) and the other operators of words
  values : Bool → List Expr → Operand

-- a line: its word and its operands
pub record Line : Type 0 where
  pub word : List ℕ
  pub operands : List Operand

abbrev pub line : List ℕ → List Operand → Line
line word operands = record { word = word; operands = operands }

-- ,
abbrev pub comma : Operand
comma = mark 44

-- #
abbrev pub hash : Operand
hash = mark 35

abbrev pub sp : Operand
sp = this (codes "sp")

-- rd, rm
abbrev pub two : ℕ → ℕ → List Operand
two d m = register d ∷ comma ∷ register m ∷ []

-- rd, rn, rm
abbrev pub three : ℕ → ℕ → ℕ → List Operand
three d n m = register d ∷ comma ∷ register n ∷ comma ∷ register m ∷ []

-- #n
abbrev pub hash_operands : ℤ → List Operand
hash_operands n = hash ∷ number n ∷ []

-- rd, #n
abbrev pub register_number : ℕ → ℤ → List Operand
register_number d n = register d ∷ comma ∷ hash ∷ number n ∷ []

-- rd, rm, #n
abbrev pub two_number : ℕ → ℕ → ℤ → List Operand
two_number d m n = register d ∷ comma ∷ register m ∷ comma ∷ hash ∷ number n ∷ []

-- rd, sp, #n
abbrev pub sp_count : ℕ → ℤ → List Operand
sp_count d n = register d ∷ comma ∷ sp ∷ comma ∷ hash ∷ number n ∷ []

-- rd, sp, n
abbrev pub sp_count_plain : ℕ → ℤ → List Operand
sp_count_plain d n = register d ∷ comma ∷ sp ∷ comma ∷ number n ∷ []

-- sp, #n
abbrev pub sp_number : ℤ → List Operand
sp_number n = sp ∷ comma ∷ hash ∷ number n ∷ []

-- rd, name
abbrev pub register_name : ℕ → List ℕ → List Operand
register_name d n = register d ∷ comma ∷ name n ∷ []

-- rt, [rn, #n]
abbrev pub offset : ℕ → ℕ → ℤ → List Operand
offset t n off = register t ∷ comma ∷ mark 91 ∷ register n ∷ comma ∷ hash ∷ number off ∷ mark 93 ∷ []

-- rt, [rn]
abbrev pub address : ℕ → ℕ → List Operand
address t n = register t ∷ comma ∷ mark 91 ∷ register n ∷ mark 93 ∷ []

-- rt, [rn, rm]
abbrev pub indexed_operands : ℕ → ℕ → ℕ → List Operand
indexed_operands t n m = register t ∷ comma ∷ mark 91 ∷ register n ∷ comma ∷ register m ∷ mark 93 ∷ []

-- rt, [sp, #n]
abbrev pub sp_offset : ℕ → ℤ → List Operand
sp_offset t off = register t ∷ comma ∷ mark 91 ∷ sp ∷ comma ∷ hash ∷ number off ∷ mark 93 ∷ []

-- rt, [sp]
abbrev pub sp_address : ℕ → List Operand
sp_address t = register t ∷ comma ∷ mark 91 ∷ sp ∷ mark 93 ∷ []

-- rn!, {list}
abbrev pub back_list : ℕ → ℕ → List Operand
back_list n list = register n ∷ mark 33 ∷ comma ∷ registers list ∷ []

abbrev pub load_word : Bool → List ℕ
load_word load = if load then codes "ldr" else codes "str"

-- a line for the number 0 alone
abbrev pub if_zero : ℤ → Line → List Line
if_zero (pos zero) l = l ∷ []
if_zero (pos (suc n)) l = []
if_zero (negsuc n) l = []

-- the lines of a statement: the canonical one, then those with another spelling of its word, a number with or without a
-- #, or no offset of 0. A label has none
abbrev pub lines : StmtKind → List Line
lines (Label n) = []
lines (TwoRegisters what d m) = line (two_word what) (two d m) ∷ []
lines (ThreeRegisters what d n m) = line (three_word what) (three d n m) ∷ []
lines (RegisterNumber what d imm) = line (number_word what) (register_number d imm) ∷ []
lines (TwoRegistersNumber what d n imm) = line (two_number_word what) (two_number d n imm) ∷ []
lines (AddRdSp d off) = line (codes "add") (sp_count d off) ∷ []
lines (AddSp off) = line (codes "add") (sp_number off) ∷ []
lines (SubSp off) = line (codes "sub") (sp_number off) ∷ []
lines (Rsbs d m) = line (codes "rsbs") (two_number d m (pos 0)) ∷ []
lines (Adr d n) = line (codes "adr") (register_name d n) ∷ []
lines (LdrLabel t n) = line (codes "ldr") (register_name t n) ∷ []
lines (LdrPool t v) = line (codes "ldr") (register t ∷ comma ∷ mark 61 ∷ value v ∷ []) ∷ []
lines (MemImm op t n off) = line (word_of offset_words op) (offset t n off) ∷ if_zero off (line (word_of offset_words op) (address t n))
lines (MemReg op t n m) = line (word_of access_words op) (indexed_operands t n m) ∷ []
lines (MemSp load t off) = line (load_word load) (sp_offset t off) ∷ if_zero off (line (load_word load) (sp_address t))
lines (Push list) = line (codes "push") (registers list ∷ []) ∷ []
lines (Pop list) = line (codes "pop") (registers list ∷ []) ∷ []
lines (Stm n list) = line (codes "stm") (back_list n list) ∷ []
lines (LdmBack n list) = line (codes "ldm") (back_list n list) ∷ []
lines (Ldm n list) = line (codes "ldm") (register n ∷ comma ∷ registers_with n list ∷ []) ∷ []
lines (B n) = line (codes "b") (name n ∷ []) ∷ []
lines (BCond (suc (suc zero)) n) = line (codes "bcs") (name n ∷ []) ∷ line (codes "bhs") (name n ∷ []) ∷ []
lines (BCond (suc (suc (suc zero))) n) = line (codes "bcc") (name n ∷ []) ∷ line (codes "blo") (name n ∷ []) ∷ []
lines (BCond cond n) = line (word_of branch_words cond) (name n ∷ []) ∷ []
lines (Bl n) = line (codes "bl") (name n ∷ []) ∷ []
lines (Cbz nonzero r n) = line (zero_word nonzero) (register_name r n) ∷ []
lines (BWide n) = line (codes "b.w") (name n ∷ []) ∷ []
lines (Bx m) = line (codes "bx") (register m ∷ []) ∷ []
lines (Blx m) = line (codes "blx") (register m ∷ []) ∷ []
lines (Svc imm) = line (codes "svc") (hash_operands imm) ∷ []
lines (Udf imm) = line (codes "udf") (hash_operands imm) ∷ []
lines (Hint n) = line (word_of hint_words n) [] ∷ []
lines (Barrier op) = line (word_of barrier_words op) [] ∷ []
lines Text = line (codes ".text") [] ∷ []
lines Data = line (codes ".data") [] ∷ []
lines Bss = line (codes ".bss") [] ∷ []
lines Rodata = line (codes ".section") (this (codes ".rodata") ∷ []) ∷ []
lines (Global n) = line (codes ".global") (name n ∷ []) ∷ line (codes ".globl") (name n ∷ []) ∷ []
lines (TypeFunction n) = line (codes ".type") (name n ∷ comma ∷ mark 37 ∷ this (codes "function") ∷ []) ∷ []
lines (TypeObject n) = line (codes ".type") (name n ∷ comma ∷ mark 37 ∷ this (codes "object") ∷ []) ∷ []
lines (Size n) = line (codes ".size") (name n ∷ comma ∷ this (codes ".") ∷ mark 45 ∷ this n ∷ []) ∷ []
lines (Words es) = line (codes ".word") (values true es ∷ []) ∷ line (codes ".long") (values true es ∷ []) ∷ line (codes ".4byte") (values true es ∷ []) ∷ []
lines (Halves es) = line (codes ".half") (values false es ∷ []) ∷ line (codes ".short") (values false es ∷ []) ∷ line (codes ".2byte") (values false es ∷ []) ∷ []
lines (Bytes es) = line (codes ".byte") (values false es ∷ []) ∷ []
lines (Ascii bytes) = line (codes ".ascii") (text bytes ∷ []) ∷ []
lines (Asciz bytes) = line (codes ".asciz") (text bytes ∷ []) ∷ []
lines (Space n) = line (codes ".space") (number n ∷ []) ∷ line (codes ".space") (hash_operands n) ∷ line (codes ".zero") (number n ∷ []) ∷ line (codes ".zero") (hash_operands n) ∷ []
lines (Align n) = line (codes ".align") (power n ∷ []) ∷ line (codes ".align") (hash ∷ power n ∷ []) ∷ line (codes ".p2align") (power n ∷ []) ∷ line (codes ".p2align") (hash ∷ power n ∷ []) ∷ []
lines Pool = line (codes ".pool") [] ∷ line (codes ".ltorg") [] ∷ []
lines FnStart = line (codes ".fnstart") [] ∷ []
lines FnEnd = line (codes ".fnend") [] ∷ []
lines (Save list) = line (codes ".save") (registers list ∷ []) ∷ []
lines (Pad n) = line (codes ".pad") (hash_operands n) ∷ line (codes ".pad") (number n ∷ []) ∷ []
lines (SetFp r off) = line (codes ".setfp") (sp_count r off) ∷ line (codes ".setfp") (sp_count_plain r off) ∷ []
lines CantUnwind = line (codes ".cantunwind") [] ∷ []
lines (PersonalityIndex n) = line (codes ".personalityindex") (number n ∷ []) ∷ line (codes ".personalityindex") (hash_operands n) ∷ []
lines HandlerData = line (codes ".handlerdata") [] ∷ []

-- ---- their texts

abbrev pub operand_text : Operand → List ℕ
operand_text (mark b) = b ∷ []
operand_text (register r) = register_text r
operand_text (this word) = word
operand_text (name n) = n
operand_text (number n) = signed_decimal n
operand_text (power n) = signed_decimal n
operand_text (registers list) = list_in_braces list
operand_text (registers_with r list) = list_in_braces list
operand_text (text bytes) = quoted_text bytes
operand_text (value e) = expression e
operand_text (values word es) = expressions es

-- a blank stands after a comma
abbrev pub blank_after : Operand → List ℕ → List ℕ
blank_after (mark b) rest = if b == 44 then 32 ∷ rest else rest
blank_after o rest = rest

abbrev pub operands_text : List Operand → List ℕ
operands_text [] = []
operands_text (o ∷ []) = operand_text o
operands_text (o ∷ p ∷ os) = operand_text o ++ blank_after o (operands_text (p ∷ os))

-- a word, and a blank before operands
abbrev pub word_and : List ℕ → List Operand → List ℕ
word_and word [] = word
word_and word (o ∷ os) = line_text word (operands_text (o ∷ os))

abbrev pub text_of_line : Line → List ℕ
text_of_line l = word_and l.word l.operands

-- every statement except a label begins with a word of its own
abbrev pub BeginsWithWord : StmtKind → Type 0
BeginsWithWord (Label n) = ⊥
BeginsWithWord kind = Unit {0}

-- the texts of these lines are the written ones
abbrev pub LinesAreWritten : Type 0
LinesAreWritten = (kind : StmtKind) → BeginsWithWord kind → map text_of_line (lines kind) ≡ statement_line kind ∷ other_lines kind

-- ---- where they stand

-- an operand is at a place of a line and ends at another
abbrev pub StandsAt : List ℕ → ℕ → Operand → ℕ → Type 0
StandsAt source from (mark b) end = mark_at b source from ≡ Ok end
StandsAt source from (register r) end = (start : ℕ) × (register_at source from ≡ Ok (record { number = r; start = start; end = end }))
StandsAt source from (this word) end = word_at word source from ≡ Ok end
StandsAt source from (name n) end = (start : ℕ) × (name_at source from ≡ Ok (span start end)) × (bytes_of source (span start end) ≡ n)
StandsAt source from (number n) end = number_at source from ≡ Ok (record { value = n; end = end })
StandsAt source from (power n) end = limited_number_at (pos 3) source from ≡ Ok (record { value = n; end = end })
StandsAt source from (registers list) end = (close : ℕ) × (list_at source from ≡ Ok (record { list = list; close = close; end = end }))
StandsAt source from (registers_with r list) end = (close : ℕ) × (list_at source from ≡ Ok (record { list = list; close = close; end = end })) × (has_register list r ≡ true)
StandsAt source from (text bytes) end = (start : ℕ) × (text_at source from ≡ Ok (span start end)) × (text_of source (span start end) ≡ bytes)
StandsAt source from (value e) end = (shape : Shape) × (expression_at false source from ≡ Ok (parsed_expr shape end)) × (expr_of source shape ≡ e)
StandsAt source from (values word es) end = (shapes : List Shape) × (expressions_at (length source) word source from ≡ Ok (expr_series shapes end)) × (map (expr_of source) shapes ≡ es)

-- consecutive operands from a place on, and then the line's end
abbrev pub Stand : List ℕ → ℕ → List Operand → Type 0
Stand source from [] = (token_at source from).kind ≡ End
Stand source from (o ∷ os) = (end : ℕ) × StandsAt source from o end × Stand source end os

-- one of these lines is in a line: a word, followed from a place on by the operands
abbrev pub OneStands : List ℕ → List ℕ → ℕ → List Line → Type 0
OneStands source word from [] = ⊥
OneStands source word from (l ∷ ls) = ((l.word ≡ word) × Stand source from l.operands) ⊎ OneStands source word from ls
