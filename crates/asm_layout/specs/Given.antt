-- Data of a source, whichever directive gives it: fields of one width, a text, or zeros (docs/rules/sources.md, "Sections and places").
use Rattle.std.specs.Prelude.{ℕ, ℤ, Bool, true, false, List, Option, Some, None}
use Rattle.asm_statements.specs.declared.statement.Expr.{Expr}
use Rattle.asm_layout.specs.declared.given.TheConstants.{BYTE_LIMIT, HALF_LIMIT}
use Rattle.asm_layout.specs.declared.given.Width.{Width}
use Rattle.asm_layout.specs.declared.given.Width.TheVariants.{Byte, Half, Word}
use Rattle.asm_layout.specs.declared.given.Data.{Data}
use Rattle.asm_layout.specs.declared.given.Data.TheVariants.{Fields, Text, Zeros}

-- how many bytes a field has
abbrev pub bytes_of : Width → ℕ
bytes_of Byte = 1
bytes_of Half = 2
bytes_of Word = 4

-- a field takes the numbers from minus the limit to twice the limit, less 1; without a limit every number, modulo 2^32
abbrev pub field_limit : Width → Option ℕ
field_limit Byte = Some BYTE_LIMIT
field_limit Half = Some HALF_LIMIT
field_limit Word = None

-- whether a field may be an address, which the linker fills
abbrev pub takes_addresses : Width → Bool
takes_addresses Byte = false
takes_addresses Half = false
takes_addresses Word = true

pub data StmtData : Type 0 where
  -- fields of one width
  FieldsOf : (width : Width) (fields : List Expr) → StmtData
  -- a text, and whether a zero byte closes it
  TextOf : (text : List ℕ) (closed : Bool) → StmtData
  -- so many zeros
  ZerosOf : ℤ → StmtData

-- what is lent, as a value
abbrev pub data_value : Data → StmtData
data_value (Fields width fields) = FieldsOf width fields.now
data_value (Text text closed) = TextOf text.now closed
data_value (Zeros n) = ZerosOf n
