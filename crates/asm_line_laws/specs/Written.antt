-- The canonical line of a statement: its mnemonic, a blank, and its operands as the manual writes them (Armv6-M
-- Architecture Reference Manual, DDI 0419), or as the assembler does those of a directive.
use Rattle.std.specs.Prelude.{◌≡◌, ◌≢◌, ℕ, zero, suc, ◌+◌, ◌-◌, ◌^◌, ◌<◌, ◌≤◌, ◌==◌, ◌&&◌, ◌||◌, not, nat_lt, Bool, true, false, if◌then◌else◌, List, [], ◌∷◌, ◌++◌, length, Ok, ℤ, pos, negsuc, codes}
use Rattle.std.specs.List.{list_all}
use Rattle.std.specs.Fmt.{signed_decimal}
use Rattle.asm_read.specs.declared.token.TheConstants.{GREATEST, FARTHEST_BELOW}
use Rattle.asm_read.specs.declared.line.TheConstants.{SP, LR, PC}
use Rattle.asm_statements.specs.declared.statement.StmtKind.{StmtKind}
use Rattle.asm_statements.specs.declared.statement.StmtKind.TheVariants.{Label, TwoRegisters, ThreeRegisters, RegisterNumber, TwoRegistersNumber, AddRdSp, AddSp, SubSp, Rsbs, Adr, LdrLabel, LdrPool, MemImm, MemReg, MemSp, Push, Pop, Stm, LdmBack, Ldm, B, BCond, Bl, Cbz, BWide, Bx, Blx, Svc, Udf, Hint, Barrier, Text, Data, Bss, Rodata, Global, TypeFunction, TypeObject, Size, Words, Halves, Bytes, Ascii, Asciz, Space, Align, Pool, FnStart, FnEnd, Save, Pad, SetFp, CantUnwind, PersonalityIndex, HandlerData}
use Rattle.asm_statements.specs.declared.statement.Expr.{Expr}
use Rattle.asm_statements.specs.declared.statement.Expr.TheVariants.{Num, Of, Diff, Prel31, Prel31Ref, Target2, Rel}
use Rattle.asm_statements.specs.Computations.{word_of, two_word, three_word, number_word, two_number_word}
use Rattle.asm_read.specs.Tokens.{is_between, is_digit, is_name_byte}
use Rattle.asm_read.specs.Operands.{has_register}
use Rattle.asm_read.specs.Reading.{stmt, source_stmts}

-- r0 to r12, sp, lr and pc
unfoldable pub register : ℕ → List ℕ
register r =
    if r == SP then codes "sp" else if r == LR then codes "lr" else if r == PC then codes "pc"
    else if nat_lt r 10 then 114 ∷ (48 + r) ∷ []
    else 114 ∷ 49 ∷ (48 + (r - 10)) ∷ []

-- by the field of loads and stores with a register
abbrev pub access_words : List (List ℕ)
access_words = codes "str" ∷ codes "strh" ∷ codes "strb" ∷ codes "ldrsb" ∷ codes "ldr" ∷ codes "ldrh" ∷ codes "ldrb" ∷ codes "ldrsh" ∷ []

abbrev pub hint_words : List (List ℕ)
hint_words = codes "nop" ∷ codes "yield" ∷ codes "wfe" ∷ codes "wfi" ∷ codes "sev" ∷ []

abbrev pub barrier_words : List (List ℕ)
barrier_words = codes "dsb" ∷ codes "dmb" ∷ codes "isb" ∷ []

-- by the field of loads and stores with a number
abbrev pub offset_words : List (List ℕ)
offset_words = codes "str" ∷ codes "ldr" ∷ codes "strb" ∷ codes "ldrb" ∷ codes "strh" ∷ codes "ldrh" ∷ []

-- by the condition
abbrev pub branch_words : List (List ℕ)
branch_words = codes "beq" ∷ codes "bne" ∷ codes "bcs" ∷ codes "bcc" ∷ codes "bmi" ∷ codes "bpl" ∷ codes "bvs" ∷ codes "bvc" ∷ codes "bhi" ∷ codes "bls" ∷ codes "bge" ∷ codes "blt" ∷ codes "bgt" ∷ codes "ble" ∷ []

-- CBNZ where the register isn't to be 0
abbrev pub zero_word : Bool → List ℕ
zero_word nonzero = if nonzero then codes "cbnz" else codes "cbz"

-- a word and operands
abbrev pub line : List ℕ → List ℕ → List ℕ
line word operands = word ++ (32 ∷ operands)

-- rd, rm
abbrev pub two : ℕ → ℕ → List ℕ
two a b = register a ++ (codes ", " ++ register b)

-- rd, rn, rm
abbrev pub three : ℕ → ℕ → ℕ → List ℕ
three a b c = register a ++ (codes ", " ++ two b c)

-- rt, [rn, rm]
abbrev pub indexed_text : ℕ → ℕ → ℕ → List ℕ
indexed_text t n m = register t ++ (codes ", [" ++ (register n ++ (codes ", " ++ (register m ++ codes "]"))))

-- #n
abbrev pub hash : ℤ → List ℕ
hash z = codes "#" ++ signed_decimal z

-- rd, #n
abbrev pub register_number : ℕ → ℤ → List ℕ
register_number a z = register a ++ (codes ", #" ++ signed_decimal z)

-- rd, rn, #n
abbrev pub two_number : ℕ → ℕ → ℤ → List ℕ
two_number a b z = register a ++ (codes ", " ++ register_number b z)

-- rd, sp, #n
abbrev pub sp_count : ℕ → ℤ → List ℕ
sp_count a z = register a ++ (codes ", sp, #" ++ signed_decimal z)

-- sp, #n
abbrev pub sp_number : ℤ → List ℕ
sp_number z = codes "sp, #" ++ signed_decimal z

-- rt, [rn, #n]
abbrev pub offset : ℕ → ℕ → ℤ → List ℕ
offset t n z = register t ++ (codes ", [" ++ (register n ++ (codes ", #" ++ (signed_decimal z ++ codes "]"))))

-- rt, [sp, #n]
abbrev pub sp_offset : ℕ → ℤ → List ℕ
sp_offset t z = register t ++ (codes ", [sp, #" ++ (signed_decimal z ++ codes "]"))

-- rd, name
abbrev pub register_name : ℕ → List ℕ → List ℕ
register_name a name = register a ++ (codes ", " ++ name)

-- the last n registers of a list, ascending
unfoldable pub registers_from : ℕ → ℕ → List ℕ
registers_from list zero = []
registers_from list (suc n) =
    if has_register list (15 - n) then (15 - n) ∷ registers_from list n else registers_from list n

-- after an opening brace: comma-separated registers and the closing brace
abbrev pub list_rest_text : List ℕ → List ℕ
list_rest_text [] = codes "}"
list_rest_text (r ∷ []) = register r ++ codes "}"
list_rest_text (r ∷ s ∷ rs) = register r ++ (codes ", " ++ list_rest_text (s ∷ rs))

-- {list}
unfoldable pub list_in_braces : ℕ → List ℕ
list_in_braces list = 123 ∷ list_rest_text (registers_from list 16)

-- the addend of a name; nothing if it is 0
abbrev pub plus : ℤ → List ℕ
plus (pos zero) = []
plus (pos (suc n)) = 43 ∷ signed_decimal (pos (suc n))
plus (negsuc n) = 43 ∷ signed_decimal (negsuc n)

abbrev pub expression : Expr → List ℕ
expression (Num n) = signed_decimal n
expression (Of a n) = a ++ plus n
expression (Diff a b n) = a ++ (codes "-" ++ (b ++ plus n))
expression (Prel31 a) = a ++ codes "(prel31)"
expression (Prel31Ref a) = a ++ codes "(prel31ref)"
expression (Target2 a) = a ++ codes "(target2)"
expression (Rel a) = a ++ codes "(rel)"

-- expressions with commas between them
abbrev pub expressions : List Expr → List ℕ
expressions [] = []
expressions (e ∷ []) = expression e
expressions (e ∷ f ∷ es) = expression e ++ (codes ", " ++ expressions (f ∷ es))

-- a byte of a text, after a backslash if it can't be written as it is
abbrev pub escaped_byte : ℕ → List ℕ
escaped_byte b =
    if b == 10 then 92 ∷ 110 ∷ [] else if b == 9 then 92 ∷ 116 ∷ [] else if b == 13 then 92 ∷ 114 ∷ [] else if b == 0 then 92 ∷ 48 ∷ []
    else if b == 92 then 92 ∷ 92 ∷ [] else if b == 34 then 92 ∷ 34 ∷ [] else b ∷ []

abbrev pub escaped_text : List ℕ → List ℕ
escaped_text [] = []
escaped_text (b ∷ bs) = escaped_byte b ++ escaped_text bs

-- "text"
abbrev pub quoted_text : List ℕ → List ℕ
quoted_text bytes = 34 ∷ (escaped_text bytes ++ (34 ∷ []))

-- the line of a statement
unfoldable pub statement_line : StmtKind → List ℕ
statement_line (Label name) = name ++ codes ":"
statement_line (TwoRegisters what d m) = line (two_word what) (two d m)
statement_line (ThreeRegisters what d n m) = line (three_word what) (three d n m)
statement_line (RegisterNumber what d imm) = line (number_word what) (register_number d imm)
statement_line (TwoRegistersNumber what d n imm) = line (two_number_word what) (two_number d n imm)
statement_line (AddRdSp d off) = line (codes "add") (sp_count d off)
statement_line (AddSp off) = line (codes "add") (sp_number off)
statement_line (SubSp off) = line (codes "sub") (sp_number off)
statement_line (Rsbs d m) = line (codes "rsbs") (register d ++ (codes ", " ++ (register m ++ codes ", #0")))
statement_line (Adr d name) = line (codes "adr") (register_name d name)
statement_line (LdrLabel t name) = line (codes "ldr") (register_name t name)
statement_line (LdrPool t value) = line (codes "ldr") (register t ++ (codes ", =" ++ expression value))
statement_line (MemImm op t n off) = line (word_of offset_words op) (offset t n off)
statement_line (MemReg op t n m) = line (word_of access_words op) (indexed_text t n m)
statement_line (MemSp load t off) = line (if load then codes "ldr" else codes "str") (sp_offset t off)
statement_line (Push list) = line (codes "push") (list_in_braces list)
statement_line (Pop list) = line (codes "pop") (list_in_braces list)
statement_line (Stm n list) = line (codes "stm") (register n ++ (codes "!, " ++ list_in_braces list))
statement_line (LdmBack n list) = line (codes "ldm") (register n ++ (codes "!, " ++ list_in_braces list))
statement_line (Ldm n list) = line (codes "ldm") (register n ++ (codes ", " ++ list_in_braces list))
statement_line (B name) = line (codes "b") name
statement_line (BCond cond name) = line (word_of branch_words cond) name
statement_line (Bl name) = line (codes "bl") name
statement_line (Cbz nonzero r name) = line (zero_word nonzero) (register_name r name)
statement_line (BWide name) = line (codes "b.w") name
statement_line (Bx m) = line (codes "bx") (register m)
statement_line (Blx m) = line (codes "blx") (register m)
statement_line (Svc imm) = line (codes "svc") (hash imm)
statement_line (Udf imm) = line (codes "udf") (hash imm)
statement_line (Hint n) = word_of hint_words n
statement_line (Barrier op) = word_of barrier_words op
statement_line Text = codes ".text"
statement_line Data = codes ".data"
statement_line Bss = codes ".bss"
statement_line Rodata = line (codes ".section") (codes ".rodata")
statement_line (Global name) = line (codes ".global") name
statement_line (TypeFunction name) = line (codes ".type") (name ++ codes ", %function")
statement_line (TypeObject name) = line (codes ".type") (name ++ codes ", %object")
statement_line (Size name) = line (codes ".size") (name ++ (codes ", .-" ++ name))
statement_line (Words es) = line (codes ".word") (expressions es)
statement_line (Halves es) = line (codes ".half") (expressions es)
statement_line (Bytes es) = line (codes ".byte") (expressions es)
statement_line (Ascii bytes) = line (codes ".ascii") (quoted_text bytes)
statement_line (Asciz bytes) = line (codes ".asciz") (quoted_text bytes)
statement_line (Space n) = line (codes ".space") (signed_decimal n)
statement_line (Align n) = line (codes ".align") (signed_decimal n)
statement_line Pool = codes ".pool"
statement_line FnStart = codes ".fnstart"
statement_line FnEnd = codes ".fnend"
statement_line (Save list) = line (codes ".save") (list_in_braces list)
statement_line (Pad n) = line (codes ".pad") (hash n)
statement_line (SetFp r off) = line (codes ".setfp") (sp_count r off)
statement_line CantUnwind = codes ".cantunwind"
statement_line (PersonalityIndex n) = line (codes ".personalityindex") (signed_decimal n)
statement_line HandlerData = codes ".handlerdata"

-- rd, sp, n
abbrev pub sp_count_plain : ℕ → ℤ → List ℕ
sp_count_plain a z = register a ++ (codes ", sp, " ++ signed_decimal z)

-- rt, [rn]
abbrev pub address : ℕ → ℕ → List ℕ
address t n = register t ++ (codes ", [" ++ (register n ++ codes "]"))

-- rt, [sp]
abbrev pub sp_address : ℕ → List ℕ
sp_address t = register t ++ codes ", [sp]"

-- other lines of a statement: with another spelling of its word, a number without its # or with one, no offset of 0
unfoldable pub other_lines : StmtKind → List (List ℕ)
other_lines (MemImm op t n (pos zero)) = line (word_of offset_words op) (address t n) ∷ []
other_lines (MemSp load t (pos zero)) = line (if load then codes "ldr" else codes "str") (sp_address t) ∷ []
other_lines (BCond (suc (suc zero)) name) = line (codes "bhs") name ∷ []
other_lines (BCond (suc (suc (suc zero))) name) = line (codes "blo") name ∷ []
other_lines (Global name) = line (codes ".globl") name ∷ []
other_lines (Words es) = line (codes ".long") (expressions es) ∷ line (codes ".4byte") (expressions es) ∷ []
other_lines (Halves es) = line (codes ".short") (expressions es) ∷ line (codes ".2byte") (expressions es) ∷ []
other_lines (Space n) = line (codes ".space") (hash n) ∷ line (codes ".zero") (signed_decimal n) ∷ line (codes ".zero") (hash n) ∷ []
other_lines (Align n) = line (codes ".align") (hash n) ∷ line (codes ".p2align") (signed_decimal n) ∷ line (codes ".p2align") (hash n) ∷ []
other_lines Pool = codes ".ltorg" ∷ []
other_lines (Pad n) = line (codes ".pad") (signed_decimal n) ∷ []
other_lines (SetFp r off) = line (codes ".setfp") (sp_count_plain r off) ∷ []
other_lines (PersonalityIndex n) = line (codes ".personalityindex") (hash n) ∷ []
other_lines kind = []

-- the numbers of a source, from -2,147,483,648 to 4,294,967,295
abbrev pub InRange : ℤ → Type 0
InRange (pos n) = n ≤ GREATEST
InRange (negsuc n) = n < FARTHEST_BELOW

abbrev pub is_name : List ℕ → Bool
is_name [] = false
is_name (b ∷ bs) = not (is_digit b) && list_all is_name_byte (b ∷ bs)

-- a name that is short enough to be twice in a line of at most 256 bytes
abbrev pub longest_name : ℕ
longest_name = 100

abbrev pub IsNameText : List ℕ → Type 0
IsNameText name = (is_name name ≡ true) × (length name ≤ longest_name)

abbrev pub IsPower : ℤ → Type 0
IsPower (pos n) = n < 4
IsPower (negsuc n) = ⊥

-- an expression of 32-bit numbers and names; name(prel31) and the other operators are in words only
abbrev pub IsExpression : Bool → Expr → Type 0
IsExpression word (Num n) = InRange n
IsExpression word (Of a n) = IsNameText a × InRange n
IsExpression word (Diff a b n) = IsNameText a × IsNameText b × InRange n
IsExpression word (Prel31 a) = (word ≡ true) × IsNameText a
IsExpression word (Prel31Ref a) = (word ≡ true) × IsNameText a
IsExpression word (Target2 a) = (word ≡ true) × IsNameText a
IsExpression word (Rel a) = (word ≡ true) × IsNameText a

abbrev pub AreExpressions : Bool → List Expr → Type 0
AreExpressions word [] = Unit {0}
AreExpressions word (e ∷ es) = IsExpression word e × AreExpressions word es

-- the bytes of expressions that fit a line after its word
abbrev pub longest_values : ℕ
longest_values = 240

-- at least one expression, and no more than fit a line
abbrev pub IsList : Bool → List Expr → Type 0
IsList word [] = ⊥
IsList word (e ∷ es) = AreExpressions word (e ∷ es) × (length (expressions (e ∷ es)) ≤ longest_values)

-- the bytes of a text, escapes included, that fit a line after its word
abbrev pub longest_text : ℕ
longest_text = 230

-- a text whose bytes can be written, and that fits a line
abbrev pub can_stand : ℕ → Bool
can_stand b = b == 10 || b == 9 || b == 13 || b == 0 || is_between 32 126 b

abbrev pub IsText : List ℕ → Type 0
IsText bytes = (list_all can_stand bytes ≡ true) × (length (escaped_text bytes) ≤ longest_text)

-- a statement whose fields can be written: registers, 32-bit numbers, names, and encoding fields with a mnemonic. A
-- load or store of a word at sp is a statement of its own
abbrev pub IsWritable : StmtKind → Type 0
IsWritable (Label name) = IsNameText name
IsWritable (TwoRegisters what d m) = (two_word what ≢ []) × (d < 16) × (m < 16)
IsWritable (ThreeRegisters what d n m) = (three_word what ≢ []) × (d < 16) × (n < 16) × (m < 16)
IsWritable (RegisterNumber what d imm) = (number_word what ≢ []) × (d < 16) × InRange imm
IsWritable (TwoRegistersNumber what d n imm) = (two_number_word what ≢ []) × (d < 16) × (n < 16) × InRange imm
IsWritable (AddRdSp d off) = (d < 16) × InRange off
IsWritable (AddSp off) = InRange off
IsWritable (SubSp off) = InRange off
IsWritable (Rsbs d m) = (d < 16) × (m < 16)
IsWritable (Adr d name) = (d < 16) × IsNameText name
IsWritable (LdrLabel t name) = (t < 16) × IsNameText name
IsWritable (LdrPool t value) = (t < 16) × IsExpression false value × (length (expression value) ≤ longest_values)
IsWritable (MemImm op t n off) = (op < 6) × (t < 16) × (n < 16) × (op < 2 → n ≢ SP) × InRange off
IsWritable (MemReg op t n m) = (op < 8) × (t < 16) × (n < 16) × (m < 16)
IsWritable (MemSp load t off) = (t < 16) × InRange off
IsWritable (Push list) = list < 2 ^ 16
IsWritable (Pop list) = list < 2 ^ 16
IsWritable (Stm n list) = (n < 16) × (list < 2 ^ 16)
IsWritable (LdmBack n list) = (n < 16) × (list < 2 ^ 16)
IsWritable (Ldm n list) = (n < 16) × (list < 2 ^ 16) × (has_register list n ≡ true)
IsWritable (B name) = IsNameText name
IsWritable (BCond cond name) = (cond < 14) × IsNameText name
IsWritable (Bl name) = IsNameText name
IsWritable (Cbz nonzero r name) = (r < 16) × IsNameText name
IsWritable (BWide name) = IsNameText name
IsWritable (Bx m) = m < 16
IsWritable (Blx m) = m < 16
IsWritable (Svc imm) = InRange imm
IsWritable (Udf imm) = InRange imm
IsWritable (Hint n) = n < 5
IsWritable (Barrier op) = op < 3
IsWritable Text = Unit {0}
IsWritable Data = Unit {0}
IsWritable Bss = Unit {0}
IsWritable Rodata = Unit {0}
IsWritable (Global name) = IsNameText name
IsWritable (TypeFunction name) = IsNameText name
IsWritable (TypeObject name) = IsNameText name
IsWritable (Size name) = IsNameText name
IsWritable (Words es) = IsList true es
IsWritable (Halves es) = IsList false es
IsWritable (Bytes es) = IsList false es
IsWritable (Ascii bytes) = IsText bytes
IsWritable (Asciz bytes) = IsText bytes
IsWritable (Space n) = InRange n
IsWritable (Align n) = IsPower n
IsWritable Pool = Unit {0}
IsWritable FnStart = Unit {0}
IsWritable FnEnd = Unit {0}
IsWritable (Save list) = list < 2 ^ 16
IsWritable (Pad n) = InRange n
IsWritable (SetFp r off) = (r < 16) × InRange off
IsWritable CantUnwind = Unit {0}
IsWritable (PersonalityIndex n) = InRange n
IsWritable HandlerData = Unit {0}

-- each of these one-line texts reads as the statement at line 1
abbrev pub AllRead : List (List ℕ) → StmtKind → Type 0
AllRead [] kind = Unit {0}
AllRead (text ∷ texts) kind = (source_stmts text ≡ Ok (stmt 1 kind ∷ [])) × AllRead texts kind

abbrev pub ReadsBack : Type 0
ReadsBack = (kind : StmtKind) → IsWritable kind → AllRead (statement_line kind ∷ other_lines kind) kind
