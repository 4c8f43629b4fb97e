-- The names of index faults, as they are written in reports (docs/rules/unwind-tables.md).
use Rattle.std.specs.Prelude.{ℕ, List, codes}
use Rattle.eh_index.specs.declared.fault.IndexFault.{IndexFault}
use Rattle.eh_index.specs.declared.fault.IndexFault.TheVariants.{Length, OutsideImage, Unsorted}

abbrev pub fault_name : IndexFault → List ℕ
fault_name Length = codes "Length"
fault_name (OutsideImage row) = codes "OutsideImage"
fault_name (Unsorted row) = codes "Unsorted"
