-- The lines that say why GNU unwind tables aren't rewritten (docs/guide/command-line.md). Each ends in a line feed.
use Rattle.std.specs.Prelude.{ℕ, List, [], codes}
use Rattle.eh_word.specs.Address.{address_text}
use Rattle.gnu_index.specs.declared.refusal.GnuFault.{GnuFault}
use Rattle.gnu_index.specs.declared.refusal.GnuFault.TheVariants.{Entry, TooLarge, OutOfMemory}
use Rattle.gnu_lsda.specs.declared.fault.EntryFault.{EntryFault}
use Rattle.gnu_lsda.specs.declared.fault.EntryFault.TheVariants.{Personality, Short, Format, Order, Filter, Chain, TooLong}
use Rattle.cmd_lines.specs.Text.{refusal_line, after_blank}

-- the names of faults
abbrev pub entry_name : EntryFault → List ℕ
entry_name Personality = codes "Personality"
entry_name Short = codes "Short"
entry_name Format = codes "Format"
entry_name Order = codes "Order"
entry_name Filter = codes "Filter"
entry_name Chain = codes "Chain"
entry_name TooLong = codes "TooLong"

abbrev pub tables_name : GnuFault → List ℕ
tables_name (Entry e) = entry_name e.fault
tables_name TooLarge = codes "TooLarge"
tables_name OutOfMemory = codes "OutOfMemory"

-- for an entry, the address of its function's start
abbrev pub tables_detail : GnuFault → List ℕ
tables_detail (Entry e) = after_blank (address_text e.start)
tables_detail TooLarge = []
tables_detail OutOfMemory = []

-- why tables can't be rewritten
abbrev pub tables_line : GnuFault → List ℕ
tables_line fault = refusal_line (codes "lsda") (tables_name fault) (tables_detail fault)
