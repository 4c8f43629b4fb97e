-- The bytes of an entry are cut into the codes of its directives.
use Rattle.std.proofs.Common.{◌+◌, ◌++◌, map, ap, ◌∙◌, length, replicate}
use Rattle.std.specs.Prelude.{flat_map}
use Rattle.eh_codes.specs.declared.code.TheConstants.{FINISH}
use Rattle.eh_codes.specs.Bytes.{code_bytes}
use Rattle.eh_codes.specs.Cut.{Is, split_codes}
use Rattle.eh_codes.proofs.CutLaws.{law_of_codes, finish_cut}
use Rattle.asm_unwind.specs.Codes.{codes_of, bytecode_of}
use Rattle.asm_unwind.specs.EntryLaw.{FunctionsAreRead}
use Rattle.asm_unwind.proofs.ByteLaws.{codes_are, codes_fit, law_of_function_entries}

pub law_of_function_codes : FunctionsAreRead
unfolding bytecode_of
law_of_function_codes directives entry writable low unwinds is =
    let holds = law_of_function_entries directives entry writable low unwinds is in
    record {
      fill = holds.fill;
      fill_is_short = holds.fill_is_short;
      items = ap split_codes holds.code
          ∙ law_of_codes (codes_of directives) 0 (replicate holds.fill FINISH) (codes_are directives writable) (codes_fit directives writable)
          ∙ ap (λ l. map Is (codes_of directives) ++ l) (finish_cut holds.fill (0 + length (flat_map code_bytes (codes_of directives))));
    }
