use Rattle.asm_laws.proofs.Sizes.{law_of_sizes, law_of_no_size}
use Rattle.asm_laws.proofs.sizes_count_bytes.Goals as goal

pub returns : goal.returns
returns c = record { sizes = law_of_sizes; others = law_of_no_size }
