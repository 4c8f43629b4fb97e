-- The names of type faults, as they are written in reports (docs/rules/types-and-matching.md).
use Rattle.std.specs.Prelude.{ℕ, List, codes}
use Rattle.eh_types.specs.declared.fault.TypeFault.{TypeFault}
use Rattle.eh_types.specs.declared.fault.TypeFault.TheVariants.{Unreadable, Writable, NameTooLong, Cyclic, TooManyPaths, OutOfMemory}

abbrev pub fault_name : TypeFault → List ℕ
fault_name (Unreadable type) = codes "Unreadable"
fault_name (Writable type) = codes "Writable"
fault_name (NameTooLong type) = codes "NameTooLong"
fault_name (Cyclic type) = codes "Cyclic"
fault_name (TooManyPaths type) = codes "TooManyPaths"
fault_name OutOfMemory = codes "OutOfMemory"
