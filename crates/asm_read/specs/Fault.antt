-- The refusals of a source (docs/rules/sources.md, "Refusals of text").
use Rattle.std.specs.Prelude.{ℕ, List, codes}
use Rattle.asm_read.specs.declared.fault.SourceFault.{SourceFault}
use Rattle.asm_read.specs.declared.fault.SourceWhat.{SourceWhat}
use Rattle.asm_read.specs.declared.fault.SourceWhat.TheVariants.{NotAscii, LineTooLong, TooManyLines, BadToken, UnknownMnemonic, UnknownDirective, BadOperand, NumberRange, OutOfMemory}

abbrev pub fault_at : ℕ → ℕ → SourceWhat → SourceFault
fault_at line column what = record { line = line; column = column; what = what }

-- want of memory stands at no place
abbrev pub out_of_memory : SourceFault
out_of_memory = fault_at 0 0 OutOfMemory

-- the name of a refusal in a report
abbrev pub what_name : SourceWhat → List ℕ
what_name NotAscii = codes "NotAscii"
what_name LineTooLong = codes "LineTooLong"
what_name TooManyLines = codes "TooManyLines"
what_name BadToken = codes "BadToken"
what_name UnknownMnemonic = codes "UnknownMnemonic"
what_name UnknownDirective = codes "UnknownDirective"
what_name BadOperand = codes "BadOperand"
what_name NumberRange = codes "NumberRange"
what_name OutOfMemory = codes "OutOfMemory"
