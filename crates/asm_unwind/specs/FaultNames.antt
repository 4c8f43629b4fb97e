-- The names of refusals of unwind directives in a report (docs/rules/sources.md, "Unwind directives").
use Rattle.std.specs.Prelude.{ℕ, List, codes}
use Rattle.asm_unwind.specs.declared.directive.UnwindFault.{UnwindFault}
use Rattle.asm_unwind.specs.declared.directive.UnwindFault.TheVariants.{OutsideFunction, NestedFunction, SaveRange, PadRange, TwoPersonalities, AfterCantunwind, TooLong, OutOfMemory}

abbrev pub fault_name : UnwindFault → List ℕ
fault_name OutsideFunction = codes "OutsideFunction"
fault_name NestedFunction = codes "NestedFunction"
fault_name SaveRange = codes "SaveRange"
fault_name PadRange = codes "PadRange"
fault_name TwoPersonalities = codes "TwoPersonalities"
fault_name AfterCantunwind = codes "AfterCantunwind"
fault_name TooLong = codes "TooLong"
fault_name OutOfMemory = codes "OutOfMemory"
