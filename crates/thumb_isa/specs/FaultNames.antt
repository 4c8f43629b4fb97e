-- The names of the encoder's refusals in a report (docs/rules/instructions.md).
use Rattle.std.specs.Prelude.{ℕ, List, codes}
use Rattle.thumb_isa.specs.declared.encode_fault.EncodeFault.{EncodeFault}
use Rattle.thumb_isa.specs.declared.encode_fault.EncodeFault.TheVariants.{RegisterRange, ListEmpty, ImmediateRange, ImmediateAlign, TargetRange}

abbrev pub fault_name : EncodeFault → List ℕ
fault_name RegisterRange = codes "RegisterRange"
fault_name ListEmpty = codes "ListEmpty"
fault_name ImmediateRange = codes "ImmediateRange"
fault_name ImmediateAlign = codes "ImmediateAlign"
fault_name TargetRange = codes "TargetRange"
