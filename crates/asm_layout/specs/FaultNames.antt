-- The names of refusals in a report (docs/rules/sources.md, "Refusals of statements").
use Rattle.std.specs.Prelude.{ℕ, List, codes}
use Rattle.thumb_isa.specs.FaultNames.{fault_name as encode_name}
use Rattle.asm_unwind.specs.FaultNames.{fault_name as unwind_name}
use Rattle.asm_layout.specs.declared.fault.AsmWhat.{AsmWhat}
use Rattle.asm_layout.specs.declared.fault.AsmWhat.TheVariants as what

-- of a refusal of the encoder or of unwind directives, that refusal's name
abbrev pub what_name : AsmWhat → List ℕ
what_name what.DuplicateLabel = codes "DuplicateLabel"
what_name what.UndefinedLocal = codes "UndefinedLocal"
what_name (what.Encode fault) = encode_name fault
what_name what.PoolTooFar = codes "PoolTooFar"
what_name what.SectionTooLarge = codes "SectionTooLarge"
what_name (what.Unwind fault) = unwind_name fault
what_name what.Placement = codes "Placement"
what_name what.OutOfMemory = codes "OutOfMemory"
