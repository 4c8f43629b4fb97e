-- The names of the linker's refusals in a report (docs/rules/linking.md).
use Rattle.std.specs.Prelude.{ℕ, List, codes}
use Rattle.eh_link.specs.declared.fault.LinkFault.{LinkFault}
use Rattle.eh_link.specs.declared.fault.LinkFault.TheVariants.{Duplicate, Undefined, NoEntry, TooLarge, RelocationRange, OutOfMemory}

abbrev pub fault_name : LinkFault → List ℕ
fault_name (Duplicate _) = codes "Duplicate"
fault_name (Undefined _) = codes "Undefined"
fault_name NoEntry = codes "NoEntry"
fault_name TooLarge = codes "TooLarge"
fault_name (RelocationRange _) = codes "RelocationRange"
fault_name OutOfMemory = codes "OutOfMemory"
