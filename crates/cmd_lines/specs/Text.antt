-- The texts of lines: how a run ended, why a file is no image, and how many there are of something. Each line ends in a line feed
-- (docs/guide/command-line.md).
use Rattle.std.specs.Prelude.{ℕ, List, [], ◌++◌, codes, decimal}
use Rattle.eh_word.specs.Address.{address_text}
use Rattle.elf_image.specs.Fault.{fault_name as image_name}
use Rattle.elf_image.specs.declared.fault.ImageFault.{ImageFault}
use Rattle.elf_image.specs.declared.fault.ImageFault.TheVariants.{Truncated}
use Rattle.thumb_core.specs.EndNames.{kind_name, cause_name}
use Rattle.thumb_core.specs.declared.ends.End.{End}
use Rattle.thumb_core.specs.declared.ends.End.TheVariants.{Exit, Terminate, Trap, Budget, ReadFault, WriteFault}

-- ---- the last line of a run

-- a fault of the source or the sink has no line
abbrev pub end_line : End → List ℕ
end_line (Exit number) = codes "-- exit " ++ decimal number ++ codes "\n"
end_line (Terminate cause) = codes "-- terminate " ++ cause_name cause ++ codes "\n"
end_line (Trap kind value pc) = codes "-- trap " ++ kind_name kind ++ codes " " ++ address_text value ++ codes " at " ++ address_text pc ++ codes "\n"
end_line Budget = codes "-- budget\n"
end_line ReadFault = []
end_line WriteFault = []

-- ---- refusals

-- where something is refused, what is refused, and the detail
abbrev pub refusal_line : List ℕ → List ℕ → List ℕ → List ℕ
refusal_line place what said = place ++ codes ": " ++ what ++ said ++ codes "\n"

abbrev pub after_blank : List ℕ → List ℕ
after_blank text = codes " " ++ text

-- for a file that is too short: the number of bytes that it would need
abbrev pub image_detail : ImageFault → List ℕ
image_detail (Truncated need) = after_blank (decimal need)
image_detail fault = []

-- why a file is no image
abbrev pub image_fault_line : ImageFault → List ℕ
image_fault_line fault = refusal_line (codes "image") (image_name fault) (image_detail fault)

-- ---- counts

abbrev pub count_line : List ℕ → ℕ → List ℕ
count_line what count = what ++ codes " " ++ decimal count ++ codes "\n"
