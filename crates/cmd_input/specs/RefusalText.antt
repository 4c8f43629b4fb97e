-- The lines of refused sources (docs/guide/command-line.md). Each ends in a line feed.
use Rattle.std.specs.Prelude.{ℕ, List, [], ◌++◌, codes, decimal}
use Rattle.asm_layout.specs.FaultNames.{what_name as asm_name}
use Rattle.asm_layout.specs.declared.fault.AsmFault.{AsmFault}
use Rattle.asm_read.specs.Fault.{what_name}
use Rattle.asm_read.specs.declared.fault.SourceFault.{SourceFault}
use Rattle.eh_link.specs.FaultNames.{fault_name as link_name}
use Rattle.eh_link.specs.declared.fault.LinkFault.{LinkFault}
use Rattle.eh_link.specs.declared.fault.LinkFault.TheVariants as link
use Rattle.eh_word.specs.Address.{address_text}
use Rattle.cmd_lines.specs.Text.{refusal_line, after_blank}

-- ---- a text that isn't read as a source

-- after the file's name: line, column and reason
abbrev pub source_place : SourceFault → List ℕ
source_place fault = codes ":" ++ decimal fault.line ++ codes ":" ++ decimal fault.column ++ codes ": " ++ what_name fault.what ++ codes "\n"

abbrev pub source_line : List ℕ → SourceFault → List ℕ
source_line name fault = name ++ source_place fault

-- ---- statements that can't be assembled

-- after the file's name: line and reason
abbrev pub asm_place : AsmFault → List ℕ
asm_place fault = codes ":" ++ decimal fault.line ++ codes ": " ++ asm_name fault.what ++ codes "\n"

abbrev pub asm_line : List ℕ → AsmFault → List ℕ
asm_line name fault = name ++ asm_place fault

-- ---- a text that is no schedule

-- after the file's name: the offset of the first byte that a schedule may not have, or of the text's end if it has no digit
abbrev pub schedule_place : ℕ → List ℕ
schedule_place at = codes ": BadSchedule " ++ decimal at ++ codes "\n"

abbrev pub schedule_line : List ℕ → ℕ → List ℕ
schedule_line name at = name ++ schedule_place at

-- ---- objects that can't be linked

-- the name that is defined twice or not at all; the address of a relocation
abbrev pub link_detail : LinkFault → List ℕ
link_detail (link.Duplicate name) = after_blank name
link_detail (link.Undefined name) = after_blank name
link_detail link.NoEntry = []
link_detail link.TooLarge = []
link_detail (link.RelocationRange place) = after_blank (address_text place)
link_detail link.OutOfMemory = []

abbrev pub link_line : LinkFault → List ℕ
link_line fault = refusal_line (codes "link") (link_name fault) (link_detail fault)
