use Rattle.eh_codes.proofs.CutLaws.{law_of_codes, law_of_numbers}
use Rattle.eh_codes.proofs.codes_are_cut_as_written.Goals as goal

pub returns : goal.returns
returns c = record { codes = law_of_codes; numbers = law_of_numbers }
