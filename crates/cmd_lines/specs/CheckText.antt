-- The lines that give the checker's verdict (docs/guide/command-line.md). Each ends in a line feed.
use Rattle.std.specs.Prelude.{ℕ, ◌==◌, List, [], ◌++◌, codes, decimal, if◌then◌else◌}
use Rattle.eh_word.specs.Address.{address_text}
use Rattle.eh_index.specs.FaultNames.{fault_name as index_name}
use Rattle.eh_index.specs.declared.fault.IndexFault.{IndexFault}
use Rattle.eh_index.specs.declared.fault.IndexFault.TheVariants.{Length, OutsideImage, Unsorted}
use Rattle.eh_trace.specs.Text.{named_place}
use Rattle.eh_types.specs.FaultNames.{fault_name as type_name}
use Rattle.eh_types.specs.declared.fault.TypeFault.{TypeFault}
use Rattle.eh_types.specs.declared.fault.TypeFault.TheVariants.{Unreadable, Writable, NameTooLong, Cyclic, TooManyPaths, OutOfMemory}
use Rattle.frame_facts.specs.CauseNames.{cause_name}
use Rattle.frame_facts.specs.declared.cause.FrameCause.{FrameCause}
use Rattle.frame_facts.specs.declared.cause.FrameCause.TheVariants.{CallState, FramePointerLost}
use Rattle.cmd_lines.specs.Text.{refusal_line, after_blank}

abbrev pub accepted_line : ℕ → List ℕ
accepted_line count = codes "accepted " ++ decimal count ++ codes " functions\n"

-- ---- an index that can't be read

-- the row, if one is at fault
abbrev pub index_detail : IndexFault → List ℕ
index_detail Length = []
index_detail (OutsideImage row) = after_blank (decimal row)
index_detail (Unsorted row) = after_blank (decimal row)

abbrev pub index_line : IndexFault → List ℕ
index_line fault = refusal_line (codes "index") (index_name fault) (index_detail fault)

-- ---- a refused function

-- the name of a register
abbrev pub register_name : ℕ → List ℕ
register_name number =
    if number == 13 then codes "sp" else (if number == 14 then codes "lr" else (if number == 15 then codes "pc" else codes "r" ++ decimal number))

-- the register, if the cause names one
abbrev pub cause_detail : FrameCause → List ℕ
cause_detail (CallState reg) = after_blank (register_name reg)
cause_detail (FramePointerLost reg) = after_blank (register_name reg)
cause_detail cause = []

-- the place, by the function's name and an offset in it, and the cause
abbrev pub cause_text : List ℕ → ℕ → FrameCause → List ℕ
cause_text name offset cause = named_place name offset ++ codes ": " ++ cause_name cause ++ cause_detail cause

abbrev pub cause_line : List ℕ → ℕ → FrameCause → List ℕ
cause_line name offset cause = refusal_line (named_place name offset) (cause_name cause) (cause_detail cause)

-- ---- types that can't be read

-- the type
abbrev pub type_detail : TypeFault → List ℕ
type_detail (Unreadable type) = after_blank (address_text type)
type_detail (Writable type) = after_blank (address_text type)
type_detail (NameTooLong type) = after_blank (address_text type)
type_detail (Cyclic type) = after_blank (address_text type)
type_detail (TooManyPaths type) = after_blank (address_text type)
type_detail OutOfMemory = []

abbrev pub type_line : TypeFault → List ℕ
type_line fault = refusal_line (codes "types") (type_name fault) (type_detail fault)
